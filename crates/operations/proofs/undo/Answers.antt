use Prim.Native.Nat.{ℕ}
use native.Mathlib.Omega.{arith}
use mathlib.Core.Path.{◌≡◌, sym, ap, ◌∙◌}
use Rattle.model.specs.Steps.{undone}
use Rattle.operations.specs.Laid.{entries_of}
use Rattle.operations.proofs.Turns.{undo_turn}
use Rattle.operations.proofs.undo.Goals as goal

pub loop-left-preserved : goal.loop-left-preserved
loop-left-preserved c = let a = c.args in
    let l = c.loop-left in
    let n = c.min-n.result in
    let few = c.few_entries-few in
    (omega arith, undo_turn a.entries.now l.left n few.result l.cells c.undo_entries.new.cells _ (omega (arith, c.min-n.ensures)) few.ensures c.undo_entries.ensures l.invariant.1)

pub returns : goal.returns
unfolding undone entries_of
returns c = let z : c.loop-left.left ≡ 0 = omega arith in
    ap (λ (n : ℕ). undone (entries_of c.args.entries.now 0 n) c.loop-left.cells) (sym z) ∙ c.loop-left.invariant.1
