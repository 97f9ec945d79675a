use Rattle.model.specs.Steps as Steps
use Rattle.operations.specs.Laid.{laid}
use Prim.Native.Nat.{◌+◌}
use native.Mathlib.Omega.{arith}
use mathlib.Core.Path.{refl, ◌∙◌, ap}
use Rattle.operations.proofs.Turns.{going_start, going_turn, going_fails, going_done, going_laid, failed_laid, own_length}
use Rattle.operations.proofs.run.Goals as goal

pub loop-i-init : goal.loop-i-init
loop-i-init g c = going_start (g.L.Listed.operations c.args.list) c.args.cells.now

pub note-entries-requires-clause-row_len : goal.note-entries-requires-clause-row_len
note-entries-requires-clause-row_len g c = let l = c.loop-i in own_length _ _ _ _ _ _ _ l.invariant (omega arith)

pub note-entries-requires-clause-k_bound : goal.note-entries-requires-clause-k_bound
note-entries-requires-clause-k_bound g c = omega (arith, c.loop-i.invariant.few)

pub overflow_cast-entries : goal.overflow_cast-entries
overflow_cast-entries g c = omega (arith, c.loop-i.invariant.few)

pub returns-in-Err : goal.returns-in-Err
returns-in-Err g c = let a = c.args in
    let l = c.loop-i in
    let s = c.operate_on-s in
    let e : _ = going_fails (g.L.Listed.operations a.list) a.cells.now l.cells l.numbers l.own l.entries l.i l.invariant c.operation-o.result
    c.operation-o.ensures s.result s.new.cells s.ensures.value s.ensures.cells_after c.in-Err.x c.in-Err.is c.undo.new.cells c.undo.ensures in
    record { value = failed_laid c.undo.new.cells (l.i + 1) c.in-Err.x ∙ ap laid e; cells_after = ap (λ (r : Steps.Ran). r.cells) e }

pub loop-i-preserved : goal.loop-i-preserved
loop-i-preserved g c = let a = c.args in
    let l = c.loop-i in
    let s = c.operate_on-s in
    going_turn (g.L.Listed.operations a.list) a.cells.now l.cells l.numbers l.own l.entries l.i l.invariant c.operation-o.result
    c.operation-o.ensures s.result s.new.cells s.ensures.value s.ensures.cells_after
    c.in-Ok.y c.in-Ok.is (omega arith) _ _ _ refl c.note-entries.ensures.value c.note-entries.ensures.row_after

pub overflow_cast-result-3 : goal.overflow_cast-result-3
overflow_cast-result-3 g c = omega (arith, c.loop-i.invariant.few)

pub returns : goal.returns
returns g c = let a = c.args in
    let l = c.loop-i in
    let w : _ = going_done (g.L.Listed.operations a.list) a.cells.now l.cells l.numbers l.own l.entries l.i l.invariant (omega arith) in
    record { value = going_laid _ _ _ _ _ _ _ l.invariant c.count-n.result (omega arith) ∙ ap laid w; cells_after = ap (λ (r : Steps.Ran). r.cells) w }
