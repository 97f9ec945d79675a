-- An event of another length than 29 words is refused.
use Prim.Native.Nat.{ℕ}
use mathlib.Core.Bool.{Bool, true, false, not, ◌&&◌, ◌||◌, true≢false}
use mathlib.Core.Path.{◌≡◌, sym, subst}
use mathlib.Core.List.{List}
use lib.Dec.{leb, eqb}
use lib.ListN.{length, get_or}
use Rattle.model.specs.Limits.{event_words}
use Rattle.model.specs.Operations.{Cells}
use Rattle.model.specs.Refusals.{formed, blank}
use Rattle.model.specs.declared.Scheme.{Scheme}
use Rattle.model.proofs.Passing.{passed, took}
use Rattle.refusals.specs.Rest.{call_of}
use Rattle.record.specs.declared.Record.{Record}
use Rattle.record.specs.View.{view, fragment_at}
use Rattle.record.specs.Events.{event_of}
use Rattle.record.proofs.Events.{kind_by}
use Rattle.engine.specs.Called.{called, stepped}

-- an event of kind 0 is not well formed
nothing_asked : (b : Bool) → not (b && false) ≡ false → ⊥
nothing_asked true h = true≢false h
nothing_asked false h = true≢false h

-- "not well formed": an event of another length than 29 words is never accepted
pub other_length : (σ : Scheme) (r : Record) (l : List ℕ) (cells : Cells) (room : List ℕ) → eqb (length l) event_words ≡ false → (called σ r (event_of l) cells room).number ≡ 0 → ⊥
unfolding called stepped event_of
other_length σ r l cells room t h =
    let p = passed (view r) (call_of σ (event_of l) cells room) (took (view r) (call_of σ (event_of l) cells room) h) in
    nothing_asked (leb 1 (get_or l 1 0))
    (subst (λ (k : ℕ). not (leb 1 (get_or l 1 0) && (eqb k 1 && formed (fragment_at l 1) || (eqb k 2 || eqb k 3) && blank (fragment_at l 1))) ≡ false) (sym (kind_by false l t)) p.four)
