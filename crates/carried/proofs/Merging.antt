-- Request L10 carried from the list engine to records, by the road of demand 3 (Carrying) and of request L5 (Agreeing).
use Prim.Native.Nat.{ℕ, ◌<◌}
use mathlib.Core.Path.{◌≡◌, refl, sym, ap, ◌∙◌, subst}
use mathlib.Core.List.{List, [], ◌∷◌, ◌++◌}
use Rattle.model.specs.Operations.{Cells}
use Rattle.model.specs.Refusals.{Request, Arrive, request, Call, step}
use Rattle.model.specs.Demand.{Run, runs, fresh, settled_of, sent_in}
use Rattle.model.specs.Schemes.{Idle, of_singles, replies}
use Rattle.model.specs.Merged.{taken_by, taken_in, fragments_of, decision_of, Merged}
use Rattle.model.specs.declared.Fragment.{Fragment}
use Rattle.model.proofs.Merging.{order_makes_no_odds}
use Rattle.record.specs.View.{view}
use Rattle.record.proofs.Viewed.{view_count, view_waits}
use Rattle.engine.specs.Called.{stepped, called}
use Rattle.carried.specs.Carried.{AllWords, returned, RecordRun, onward_r, runs_r, fresh_r, AllLendR, sent_in_r}
use Rattle.carried.specs.Agreed.{IdleR}
use Rattle.carried.specs.Merged.{taken_in_r, MergedR, RecordOrderMakesNoOdds}
use Rattle.carried.proofs.Carrying.{meant, onward_same, sent_same, fresh_same, reached, lent}
use Rattle.carried.proofs.Agreeing.{none_live}

taken_same : (r : RecordRun) (calls : List Call) → AllWords calls → taken_in_r r calls ≡ taken_in (meant r) calls
unfolding called stepped
taken_same r [] w = refl
taken_same r (c ∷ calls) w = ap (λ (qs : List Request). taken_by (step (view r.kept) c).number (request c.event) ++ qs)
    (taken_same (onward_r r c) calls w.1 ∙ ap (λ (x : Run). taken_in x calls) (onward_same r c w.0))

-- after calls from a fresh start: what was taken, what was sent, and whether nothing is live
module _ (cs : Cells) (calls : List Call) (w : AllWords calls) where
  abbrev here : RecordRun
  here = runs_r (fresh_r cs) calls

  taken_fresh : taken_in_r (fresh_r cs) calls ≡ taken_in (fresh cs) calls
  taken_fresh = taken_same (fresh_r cs) calls w ∙ ap (λ (r : Run). taken_in r calls) (fresh_same cs)

  sent_fresh : sent_in_r (fresh_r cs) calls ≡ sent_in (fresh cs) calls
  sent_fresh = sent_same (fresh_r cs) calls w ∙ ap (λ (r : Run). sent_in r calls) (fresh_same cs)

  idle_fresh : IdleR here → Idle (runs (fresh cs) calls)
  idle_fresh h = subst Idle (reached cs calls w)
      (none_live (view here.kept).uncommitted (view here.kept).waiting here.kept.counts.uncommitted here.kept.counts.waiting (view_count here.kept) (view_waits here.kept) h)

  -- answers of singles, by the log at the end
  singles_fresh : of_singles here.log (sent_in_r (fresh_r cs) calls) ≡ of_singles (runs (fresh cs) calls).log (sent_in (fresh cs) calls)
  singles_fresh = λ i. of_singles (reached cs calls w i).log (sent_fresh i)

merged : (cs : Cells) (calls calls' : List Call) → AllWords calls → AllWords calls' → MergedR cs calls calls' → Merged cs calls calls'
merged cs calls calls' w w' m = record {
  lend = lent cs calls w m.lend;
  lend' = lent cs calls' w' m.lend';
  idle = idle_fresh cs calls w m.idle;
  idle' = idle_fresh cs calls' w' m.idle';
  fragments = λ n. ap (fragments_of n) (sym (taken_fresh cs calls w)) ∙ m.fragments n ∙ ap (fragments_of n) (taken_fresh cs calls' w');
  decisions = λ n. ap (decision_of n) (sym (taken_fresh cs calls w)) ∙ m.decisions n ∙ ap (decision_of n) (taken_fresh cs calls' w');
}

merged_late : (cs : Cells) (calls : List Call) → AllWords calls → AllLendR (fresh_r cs) calls → (c : Call) (n m : ℕ) (f : Fragment) → request c.event ≡ Arrive n f
    → fragments_of n (taken_in_r (fresh_r cs) calls) ≡ [] → (fragments_of m (taken_in_r (fresh_r cs) calls) ≡ [] → ⊥) → n < m
    → (returned (runs_r (fresh_r cs) calls).kept c).number ≡ 0 → ⊥
unfolding called stepped
merged_late cs calls w l c n m f q none some k z =
    (order_makes_no_odds cs).late calls (lent cs calls w l) c n m f q (ap (fragments_of n) (sym (taken_fresh cs calls w)) ∙ none)
    (λ e. some (ap (fragments_of m) (taken_fresh cs calls w) ∙ e)) k (subst (λ (r : Run). (step r.engine c).number ≡ 0) (reached cs calls w) z)

pub order_on_records : (cs : Cells) → RecordOrderMakesNoOdds cs
order_on_records cs = record {
  cells = λ calls calls' w w' m.
      ap (λ (r : Run). r.cells) (reached cs calls w) ∙ (order_makes_no_odds cs).cells calls calls' (merged cs calls calls' w w' m)
      ∙ sym (ap (λ (r : Run). r.cells) (reached cs calls' w'));
  singles = λ calls calls' w w' m.
      singles_fresh cs calls w ∙ (order_makes_no_odds cs).singles calls calls' (merged cs calls calls' w w' m)
      ∙ sym (singles_fresh cs calls' w');
  answered = λ calls w l.
      singles_fresh cs calls w ∙ (order_makes_no_odds cs).answered calls (lent cs calls w l)
      ∙ sym (ap (λ (r : Run). replies (settled_of r.log) cs) (reached cs calls w));
  settling = λ calls calls' w w' m.
      ap (λ (r : Run). settled_of r.log) (reached cs calls w) ∙ (order_makes_no_odds cs).settling calls calls' (merged cs calls calls' w w' m)
      ∙ sym (ap (λ (r : Run). settled_of r.log) (reached cs calls' w'));
  late = merged_late cs;
}
