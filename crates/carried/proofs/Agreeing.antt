-- Carried from the list engine to records by the same road as demand 3 (Carrying): request L5, and what is known of the answers of one call.
use Prim.Native.Nat.{ℕ, ◌+◌, ◌≤◌, ◌<◌}
use native.Mathlib.Omega.{arith}
use mathlib.Core.Path.{◌≡◌, refl, sym, ap, ◌∙◌, subst, subst₂}
use mathlib.Core.List.{List, [], ◌∷◌}
use lib.ListN.{length}
use Rattle.model.specs.Operations.{Cells}
use Rattle.model.specs.Transactions.{Uncommitted, Waiting, Engine, Rising, numbers}
use Rattle.model.specs.Refusals.{Call, step}
use Rattle.model.specs.Demand.{Run, onward, runs, fresh, Lends, settled_of, settled_in}
use Rattle.model.specs.Schemes.{Alike, Twins, Idle, of_singles}
use Rattle.model.specs.declared.Scheme.TheVariants.{Blocking}
use Rattle.model.proofs.Chain.{all_mem}
use Rattle.model.proofs.Agreeing.{schemes_agree}
use Rattle.model.proofs.Leaving.{settled_in_lem}
use Rattle.model.proofs.Blocking.{Independent, blocking_alone, blocking_independent, AllBlocking, fresh_alone}
use Rattle.model.proofs.Rising.{step_rising}
use Rattle.record.specs.declared.Record.{Record}
use Rattle.record.specs.View.{view}
use Rattle.engine.specs.Called.{stepped, called}
use Rattle.carried.specs.Carried.{Words, AllWords, returned, answer_of, answers_of, RecordRun, onward_r, runs_r, fresh_r, LendsR, AllLendR, settled_in_r}
use Rattle.carried.specs.Agreed.{TwinsR, IdleR, RecordSchemesAgree}
use Rattle.carried.proofs.Carrying.{meant, next_view, answers_are, answer_sent, reached, lent, from}
use Rattle.record.proofs.Viewed.{view_count, view_waits}

pub none_live : (us : List Uncommitted) (ws : List Waiting) (n m : ℕ) → length us ≡ n → length ws ≡ m → n + m ≡ 0 → numbers us ws ≡ []
none_live [] [] n m u w h = refl
none_live [] (x ∷ ws) n m u w h = absurd (omega arith)
none_live (x ∷ us) ws n m u w h = absurd (omega arith)

module _ (cs : Cells) (calls calls' : List Call) (t : TwinsR cs calls calls') where
  abbrev here : RecordRun
  here = runs_r (fresh_r cs) calls

  abbrev there : RecordRun
  there = runs_r (fresh_r cs) calls'

  twins : Twins cs calls calls'
  twins = record { alike = t.alike; lend = lent cs calls t.words t.lend; lend' = lent cs calls' t.words' t.lend' }

  -- what the model has of both runs
  over : (P : Run → Run → Type 0) → P (runs (fresh cs) calls) (runs (fresh cs) calls') → P (meant here) (meant there)
  over P p = subst₂ P (sym (reached cs calls t.words)) (sym (reached cs calls' t.words')) p

  agreed_numbers : (c c' : Call) → Alike c c' → (returned here.kept c).number ≡ (returned there.kept c').number
  unfolding called stepped
  agreed_numbers c c' a = over (λ (x y : Run). (step x.engine c).number ≡ (step y.engine c').number) ((schemes_agree cs).numbers calls calls' twins c c' a)

  agreed_cells : IdleR here → here.cells ≡ there.cells
  agreed_cells h = over (λ (x y : Run). Idle x → x.cells ≡ y.cells) ((schemes_agree cs).cells calls calls' twins)
      (none_live (view here.kept).uncommitted (view here.kept).waiting here.kept.counts.uncommitted here.kept.counts.waiting (view_count here.kept) (view_waits here.kept) h)

  agreed_singles : (c c' : Call) → Alike c c' → Words c.event → Words c'.event → LendsR here c → LendsR there c'
      → of_singles (onward_r here c).log (answers_of here.kept c) ≡ of_singles (onward_r there c').log (answers_of there.kept c')
  unfolding called stepped
  agreed_singles c c' a w w' d d' =
      ap (of_singles (onward_r here c).log) (answers_are here.kept c w)
      ∙ over (λ (x y : Run). Lends x c → Lends y c' → of_singles (onward x c).log (step x.engine c).answers ≡ of_singles (onward y c').log (step y.engine c').answers)
      ((schemes_agree cs).singles calls calls' twins c c' a) d d'
      ∙ ap (of_singles (onward_r there c').log) (sym (answers_are there.kept c' w'))

pub agreed : (cs : Cells) → RecordSchemesAgree cs
agreed cs = record {
  numbers = agreed_numbers cs;
  settling = λ calls calls' t. over cs calls calls' t (λ (x y : Run). settled_of x.log ≡ settled_of y.log) ((schemes_agree cs).settling calls calls' (twins cs calls calls' t));
  recorded = λ calls calls' t. over cs calls calls' t (λ (x y : Run). settled_in x ≡ settled_in y) ((schemes_agree cs).recorded calls calls' (twins cs calls calls' t));
  cells = agreed_cells cs;
  singles = agreed_singles cs;
}

-- What is settled by the log is settled by the record
pub settled_in_record : (cs : Cells) (calls : List Call) → AllWords calls → AllLendR (fresh_r cs) calls → settled_in_r (runs_r (fresh_r cs) calls) ≡ settled_of (runs_r (fresh_r cs) calls).log
settled_in_record cs calls w l = from cs calls w l (λ (r : Run). settled_in r ≡ settled_of r.log) (settled_in_lem cs calls (lent cs calls w l))

-- By blocking no answer in the room depends on anything, from records with at most one uncommitted, which the next record then has too
pub blocking_plain : (r : Record) (c : Call) → c.scheme ≡ Blocking → Words c.event → r.counts.uncommitted ≤ 1 → (i : ℕ) → i < (returned r c).answers → (answer_of r c i).dependence ≡ 0
blocking_plain r c b w h i lt =
    let k : length (view r).uncommitted ≤ 1 = omega (arith, view_count r, h) in
    all_mem Independent (step (view r) c).answers (blocking_independent (view r) c b k) (answer_of r c i) (answer_sent r c i w lt)

pub blocking_one : (r : Record) (c : Call) → c.scheme ≡ Blocking → Words c.event → r.counts.uncommitted ≤ 1 → (returned r c).next.counts.uncommitted ≤ 1
blocking_one r c b w h =
    let k : length (view r).uncommitted ≤ 1 = omega (arith, view_count r, h) in
    let x : length (view (returned r c).next).uncommitted ≤ 1 = subst (λ (e : Engine). length e.uncommitted ≤ 1) (sym (next_view r c w)) (blocking_alone (view r) c b k).one in
    omega (arith, view_count (returned r c).next, x)

-- and from a fresh start by blocking alone, whatever the calls are lent
pub fresh_plain : (cs : Cells) (calls : List Call) → AllWords calls → AllBlocking calls → (c : Call) → c.scheme ≡ Blocking → Words c.event
    → (i : ℕ) → i < (returned (runs_r (fresh_r cs) calls).kept c).answers → (answer_of (runs_r (fresh_r cs) calls).kept c i).dependence ≡ 0
fresh_plain cs calls ws bs c b w i lt =
    let r : Record = (runs_r (fresh_r cs) calls).kept in
    let k : length (view r).uncommitted ≤ 1 = subst (λ (x : Run). length x.engine.uncommitted ≤ 1) (sym (reached cs calls ws)) (fresh_alone cs calls bs) in
    all_mem Independent (step (view r) c).answers (blocking_independent (view r) c b k) (answer_of r c i) (answer_sent r c i w lt)

-- The answers in the room stand in rising number, from any record
pub answers_rising : (r : Record) (c : Call) → Words c.event → Rising 0 (answers_of r c)
answers_rising r c w = subst (Rising 0) (sym (answers_are r c w)) (step_rising (view r) c)
