-- A turn undoes the newest entry that is left; one whose cell is not there changes nothing.
use Prim.Native.Nat.{ℕ, suc, ◌-◌}
use native.Mathlib.Omega.{arith}
use native.Mathlib.Numerals.{add-one}
use mathlib.Core.Path.{◌≡◌, sym, ◌∙◌, ap}
use mathlib.Core.List.{List}
use lib.ListN.{take, length}
use lib.Seq.{take_all}
use Rattle.model.specs.Steps.{undone}
use Rattle.model.specs.declared.Undo.{Undo}
use Rattle.operations.proofs.Turns.{undo_newest}
use Rattle.operations.proofs.undo_entries.Goals as goal

-- what a read past the end of the entries would give
abbrev none : Undo
none = record { cell = 0; old = 0 }

pub loop-i-init : goal.loop-i-init
loop-i-init c = ap (λ (x : List Undo). undone x c.args.cells.now) (take_all (length c.args.entries.now) c.args.entries.now (omega arith))

pub loop-i-preserved : goal.loop-i-preserved
loop-i-preserved c = let l = c.loop-i in
    let us = c.args.entries.now in
    let k : suc (l.i - 1) ≡ l.i = omega (arith, add-one (l.i - 1)) in
    undo_newest us (l.i - 1) none l.cells _ _ (omega (arith, add-one (l.i - 1))) c.put_at.ensures (ap (λ (x : ℕ). undone (take x us) l.cells) k ∙ l.invariant)

pub returns : goal.returns
unfolding undone
returns c =
    let z : c.loop-i.i ≡ 0 = omega arith in
    ap (λ (k : ℕ). undone (take k c.args.entries.now) c.loop-i.cells) (sym z) ∙ c.loop-i.invariant
