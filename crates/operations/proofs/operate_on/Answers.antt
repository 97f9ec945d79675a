use mathlib.Core.Path.{refl}
use Rattle.operations.proofs.Turns.{operated_as, after_writes, after_reads, after_fails}
use Rattle.operations.proofs.operate_on.Goals as goal

pub returns-then-may_write : goal.returns-then-may_write
returns-then-may_write c = let a = c.args in
    let n = c.number_at-old in
    let d = c.apply-did in
    let w = c.may_write in
    record { value = operated_as a.o a.cells.now n.result d.result n.ensures d.ensures _ c.in-Ok.is; cells_after = after_writes a.o a.cells.now n.result d.result n.ensures d.ensures c.in-Ok.y c.in-Ok.is w.result w.ensures c.if-may_write.true _ c.put_at.ensures }

pub returns-else-may_write : goal.returns-else-may_write
returns-else-may_write c = let a = c.args in
    let n = c.number_at-old in
    let d = c.apply-did in
    let w = c.may_write in
    record { value = operated_as a.o a.cells.now n.result d.result n.ensures d.ensures _ c.in-Ok.is; cells_after = after_reads a.o a.cells.now n.result d.result n.ensures d.ensures c.in-Ok.y c.in-Ok.is w.result w.ensures c.if-may_write.false }

pub returns-in_default : goal.returns-in_default
returns-in_default c = let a = c.args in
    let n = c.number_at-old in
    let d = c.apply-did in
    record { value = operated_as a.o a.cells.now n.result d.result n.ensures d.ensures d.result refl; cells_after = after_fails a.o a.cells.now n.result d.result n.ensures d.ensures c.in_default.field-0 c.in_default.is }
