-- A start that was refused leaves a record on which no call is accepted, and which stays as it is.
use Prim.Native.Nat.{ℕ, zero, suc, ◌≤◌}
use native.Mathlib.Omega.{arith}
use mathlib.Core.Path.{◌≡◌, refl, sym, ap, ◌∙◌, subst}
use mathlib.Core.Bool.{Bool, true, false, ◌||◌}
use mathlib.Core.List.{List, [], ◌∷◌}
use lib.Dec.{ltb, eqb}
use lib.ListN.{length}
use Rattle.model.specs.Limits.{most_cells, least_room}
use Rattle.model.specs.Operations.{pick}
use Rattle.model.specs.Transactions.{Engine}
use Rattle.model.specs.Refusals.{Call, step, Started, start, empty}
use Rattle.model.proofs.Kept.{never_taken, not-started}
use Rattle.record.specs.declared.Record.{Record}
use Rattle.record.specs.Words.{pack}
use Rattle.record.specs.View.{view}
use Rattle.record.specs.Start.{fresh_of}
use Rattle.engine.specs.Called.{stepped, called}
use Rattle.carried.specs.Carried.{returned, RecordRun, onward_r, runs_r, started_r, NotStarted}
use Rattle.carried.proofs.Carrying.{fresh_view}

refused_empty : (n : ℕ) → (start n).number ≡ 3 → (start n).engine ≡ empty 0
unfolding start
refused_empty n = go (eqb n 0 || ltb most_cells n)
  where
    at : Bool → Started
    at b = pick {A = Started} b (record { number = 3; engine = empty 0 }) (record { number = 0; engine = empty n })

    go : (b : Bool) → (at b).number ≡ 3 → (at b).engine ≡ empty 0
    go true e = refl
    go false e = absurd (omega arith)

module _ (n : ℕ) (refused : (fresh_of n).number ≡ 3) where
  is_empty : (start n).engine ≡ empty 0
  unfolding fresh_of
  is_empty = refused_empty n refused

  -- what holds of every step on a record of 0 cells
  at_none : (P : Engine → Type 0) → P (empty 0) → P (view (fresh_of n).next)
  at_none P p = subst P (sym (fresh_view n ∙ is_empty)) p

  same_next : (c : Call) → (returned (fresh_of n).next c).next ≡ (fresh_of n).next
  unfolding called stepped
  same_next c = go _ (step (view (fresh_of n).next) c).number (at_none (λ (e : Engine). (step e c).number ≡ 0 → ⊥) (never_taken c))
    where
      go : (x : Record) (k : ℕ) → (k ≡ 0 → ⊥) → ◌≡◌ {A = Record} (elim k [ zero ↦ x | suc j ↦ (fresh_of n).next ]) (fresh_of n).next
      go x zero h = absurd (h refl)
      go x (suc k) h = refl

  same_after : (r : RecordRun) (calls : List Call) → r.kept ≡ (fresh_of n).next → (runs_r r calls).kept ≡ (fresh_of n).next
  same_after r [] e = e
  same_after r (c ∷ calls) e = same_after (onward_r r c) calls (ap (λ (x : Record). (returned x c).next) e ∙ same_next c)

  three : (c : Call) → least_room ≤ length c.room → (returned (fresh_of n).next c).number ≡ 3
  unfolding called stepped
  three c k = at_none (λ (e : Engine). (step e c).number ≡ 3) (not-started c k)

  no_cells : (fresh_of n).next.counts.cells ≡ 0
  unfolding fresh_of pack
  no_cells = ap (λ (e : Engine). (pack e).counts.cells) is_empty

pub not_started_record : (n : ℕ) → (fresh_of n).number ≡ 3 → NotStarted n
not_started_record n h = record {
  none = no_cells n h;
  stays = λ cs calls. same_after n h (started_r n cs) calls refl;
  refuses = λ cs calls c k. ap (λ (x : Record). (returned x c).number) (same_after n h (started_r n cs) calls refl) ∙ three n h c k;
}
