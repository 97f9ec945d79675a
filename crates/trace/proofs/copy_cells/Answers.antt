use Rattle.trace.proofs.Lines.{copy_start, copy_turn, copy_end}
use Rattle.trace.proofs.copy_cells.Goals as goal

pub loop-i-init : goal.loop-i-init
loop-i-init c = let a = c.args in copy_start a.cells.now a.bytes.now a.count

pub loop-i-preserved : goal.loop-i-preserved
loop-i-preserved c = let l = c.loop-i in
    let a = c.args in
    copy_turn l.cells c.put_at.new.s a.bytes.now _ a.count l.i _ c.loop-i-test.true c.word_at.ensures c.put_at.ensures l.invariant

pub returns : goal.returns
returns c = let l = c.loop-i in
    let a = c.args in
    copy_end l.cells a.bytes.now _ a.count l.i c.loop-i-test.false l.invariant
