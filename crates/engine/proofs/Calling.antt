-- A call put together: what a refusal and an accepted call leave is what the contract says.
use Prim.Native.Nat.{ℕ, zero, suc, ◌+◌, ◌*◌, ◌≤◌}
use native.Mathlib.Omega.{arith}
use borrow.Author.Tests.{ltb-false, not-false}
use mathlib.Core.Path.{◌≡◌, refl, sym, ap, ◌∙◌, subst}
use mathlib.Core.Bool.{Bool, true, false, ◌&&◌}
use Rattle.std.specs.Prelude.{Err}
use mathlib.Core.List.{List, [], ◌∷◌, ◌++◌, map}
use lib.Dec.{eqb, ltb}
use lib.ListN.{length, length-append, length-map, length-replicate}
use Rattle.model.proofs.Chain.{all_left}
use Rattle.model.specs.Limits.{least_room}
use Rattle.model.specs.Operations.{Cells, pick}
use Rattle.model.specs.Transactions.{Uncommitted, Waiting, Engine, undo_list, all_words, filled}
use Rattle.model.specs.Steps.{Queues}
use Rattle.model.specs.Refusals.{Stepped, Request, refusal, request, sound, new, taken, largest_after, respond, step}
use Rattle.model.specs.declared.Event.{Event}
use Rattle.model.specs.declared.Scheme.{Scheme}
use Rattle.model.proofs.Branches.{request_cases}
use Rattle.model.proofs.Passing.{passed}
use Rattle.refusals.specs.Rest.{call_of}
use Rattle.refusals.specs.declared.Refusal.{Refusal}
use Rattle.refusals.proofs.Numbers.{number_not_0}
use Rattle.record.specs.declared.Counts.{Counts}
use Rattle.record.specs.declared.Record.{Record}
use Rattle.record.specs.Ends.{largest_at, largest_by}
use Rattle.record.specs.Words.{all_rows, all_runs, row_of, live_rows, over, cleared, pack_over}
use Rattle.record.specs.View.{shifted, zeros, uncommitted_of, waiting_of, entries_from, view_of, view}
use Rattle.record.proofs.Rows.{over_twice, shift_over, cleared_zero, length-cleared}
use Rattle.record.proofs.Back.{length-rows, rows_append}
use Rattle.operations.specs.Laid.{flat}
use Rattle.tidy.specs.Runs.{tidy_runs, few_runs}
use Rattle.tidy.specs.Tidied.{Canonical}
use Rattle.tidy.proofs.Members.{few_uncommitted, few_entries, few_runs_lem, canonical}
use Rattle.engine.specs.Work.{Ground, total, Left}
use Rattle.engine.specs.declared.course.Course.{Course}
use Rattle.engine.specs.Called.{Called, stepped, reached, next_of, called, Leaves, record_by, told_by}
use Rattle.engine.specs.Ready.{Ready}
use Rattle.record.proofs.Viewed.{First, view_count, view_waits, view_first, view_waiting}
use Rattle.model.specs.Parts.{All, Passed}
use Rattle.record.specs.Fitting.{Eight}
use Rattle.record.specs.Widths.{live_width, run_width, entry_width, live_length, runs_length, undo_length}

-- what a call leaves, of the step that the refusal's number k gives
abbrev pub LeavesOf : Record → Event → Stepped → Called → Cells → List ℕ → Type 0
LeavesOf r v s d cells' room' = (d ≡ record { number = s.number; answers = length s.answers; next = next_of r v s }) × (cells' ≡ s.cells) × (room' ≡ s.room)

pub leaves_by : (σ : Scheme) (r : Record) (v : Event) (cells room : List ℕ) (d : Called) (cells' room' : List ℕ) (k : ℕ) → refusal (view r) (call_of σ v cells room) ≡ k
    → LeavesOf r v (respond k (view r) (call_of σ v cells room)) d cells' room' → Leaves σ r v cells room d cells' room'
unfolding called stepped step
leaves_by σ r v cells room d cells' room' k e m = subst (λ (x : ℕ). LeavesOf r v (respond x (view r) (call_of σ v cells room)) d cells' room') (sym e) m

pub refused_call : (σ : Scheme) (r : Record) (v : Event) (cells room : List ℕ) (k : ℕ) → k ≡ refusal (view r) (call_of σ v cells room) → (k ≡ 0 → ⊥)
    → Leaves σ r v cells room (record { number = k; answers = 0; next = r }) cells room
refused_call σ r v cells room zero e ne = absurd (ne refl)
refused_call σ r v cells room (suc k) e ne = leaves_by σ r v cells room (record { number = suc k; answers = 0; next = r }) cells room (suc k) (sym e) (refl, refl, refl)

-- the record that a refusal leaves is the one that came
pub refused_stays : (σ : Scheme) (r : Record) (v : Event) (cells room : List ℕ) → ((called σ r v cells room).number ≡ 0 → ⊥) → (called σ r v cells room).next ≡ r
unfolding called
refused_stays σ r v cells room = go _ (stepped σ r v cells room).number
  where
    go : (x : Record) (k : ℕ) → (k ≡ 0 → ⊥) → ◌≡◌ {A = Record} (elim k [ zero ↦ x | suc j ↦ r ]) r
    go x zero h = absurd (h refl)
    go x (suc k) h = refl

pub refused_record : (σ : Scheme) (r r' : Record) (v : Event) (cells room : List ℕ) (e : Refusal) → told_by (Err e) r' ≡ called σ r v cells room → r' ≡ r
refused_record σ r r' v cells room e t =
    ap (λ (d : Called). d.next) t ∙ refused_stays σ r v cells room (λ z. number_not_0 e (ap (λ (d : Called). d.number) t ∙ z))

-- no answers fill nothing
pub filled_none : (room : List ℕ) → room ≡ filled [] room
unfolding all_words
filled_none room = refl

-- the rows of any record's live ones have eight places
rows_of_lem : (us : List Uncommitted) (ws : List Waiting) → All First us → All Eight ws → All Eight (live_rows us ws)
rows_of_lem [] ws k e = e
rows_of_lem (u ∷ us) ws k e = (k.0, rows_of_lem us ws k.1 e)

-- what came with a call, of a record with nothing beyond the limits
abbrev pub ground_of : (r : Record) (room : List ℕ) (n : ℕ) → length r.live ≡ live_length → length r.runs ≡ runs_length → length r.undo ≡ undo_length → least_room ≤ length room → r.counts.uncommitted ≤ 16 → n ≤ 184 → Ground
ground_of r room n hl hr hu en few fewer = record {
  live = r.live;
  runs = r.runs;
  undo = r.undo;
  room = room;
  uncommitted = r.counts.uncommitted;
  entries = n;
  long_live = hl;
  long_runs = hr;
  long_undo = hu;
  enough = en;
  few = few;
  few_entries = fewer;
}

-- what the checks and the tidying leave is ready for the steps
module _ (σ : Scheme) (r : Record) (v : Event) (cells room : List ℕ) (n : ℕ) (runs : List ℕ) (hl : length r.live ≡ live_length) (hr : length r.runs ≡ runs_length) (hu : length r.undo ≡ undo_length)
    (z : refusal (view r) (call_of σ v cells room) ≡ 0) (en : n ≡ pick (few_runs r.runs r.counts.uncommitted) (entries_from r.runs 0 r.counts.uncommitted) 0) (er : runs ≡ pick (few_runs r.runs r.counts.uncommitted) (tidy_runs r.runs 0 r.counts.uncommitted) r.runs) where
  pub p : Passed (view r) (call_of σ v cells room)
  p = passed (view r) (call_of σ v cells room) z

  one : sound (view r) ≡ true
  one = not-false (sound (view r)) p.one

  tidied : Canonical (uncommitted_of r.live 0 r.runs 0 r.undo 0 r.counts.uncommitted) (waiting_of r.live (live_width * r.counts.uncommitted) r.counts.waiting) r.live r.runs r.undo n runs
  tidied = canonical r.counts.cells r.counts.largest r.counts.uncommitted r.counts.waiting r.live r.runs r.undo one hl hr hu n runs en er

  pub few : r.counts.uncommitted ≤ 16
  few = few_uncommitted r.counts.cells r.counts.largest r.counts.uncommitted r.counts.waiting r.live r.runs r.undo one

  pub entries_are : n ≡ entries_from r.runs 0 r.counts.uncommitted
  entries_are = en ∙ ap (λ (b : Bool). pick b (entries_from r.runs 0 r.counts.uncommitted) 0) (few_runs_lem r.counts.cells r.counts.largest r.counts.uncommitted r.counts.waiting r.live r.runs r.undo one)

  pub fewer : n ≤ 184
  fewer = omega (arith, entries_are, few_entries r.counts.cells r.counts.largest r.counts.uncommitted r.counts.waiting r.live r.runs r.undo one)

  abbrev pub came : Ground
  came = ground_of r room n hl hr hu (ltb-false (length room) least_room p.two) few fewer

  pub ready : (top : ℕ) (k : Counts) → length v.fragment.row ≡ 8 → k ≡ largest_at r.counts top → Ready σ r.live runs r.undo room cells (record { counts = k; first = 0; entries = n; answers = 0 }) v (view r) came
  unfolding view_of
  ready top k h ek =
      let ku : k.uncommitted ≡ r.counts.uncommitted = ap (λ (x : Counts). x.uncommitted) ek in
      record {
        work = record {
          at_live = tidied.at_live;
          at_runs = tidied.at_runs ∙ ap (λ (x : ℕ). over (cleared (run_width * x) r.runs) (all_runs (uncommitted_of r.live 0 r.runs 0 r.undo 0 r.counts.uncommitted))) (view_count r);
          at_undo = tidied.at_undo;
          at_room = filled_none room;
          first = refl;
          uncommitted = view_count r ∙ sym ku;
          waiting = view_waits r ∙ sym (ap (λ (x : Counts). x.waiting) ek);
          entries = tidied.entries;
          answers = refl;
          eights = rows_of_lem (view r).uncommitted (view r).waiting (view_first r) (view_waiting r);
        };
        within = (omega (arith, ku), omega arith);
        passed = p;
        words = h;
      }

-- the transactions that are there when a call begins
pub begins : (k c : Counts) (top p : ℕ) → k ≡ largest_at c top → 0 + k.uncommitted + k.waiting + p ≡ c.uncommitted + c.waiting + p
begins k c top p e = omega (arith, ap (λ (x : Counts). x.uncommitted) e, ap (λ (x : Counts). x.waiting) e)

-- the largest number, of the request and of the event's words
pub largest_by_lem : (v : Event) (e : Engine) → largest_by v.kind v.number e.largest ≡ largest_after (request v) e
largest_by_lem v e = request_cases (λ (q : Request). largest_by v.kind v.number e.largest ≡ largest_after q e) v
    (λ a. ap (λ (b : Bool). pick b (pick (ltb e.largest v.number) v.number e.largest) e.largest) a ∙ either (ltb e.largest v.number))
    (λ a. ap (λ (b : Bool). pick b (pick (ltb e.largest v.number) v.number e.largest) e.largest) a)
    (λ a. ap (λ (b : Bool). pick b (pick (ltb e.largest v.number) v.number e.largest) e.largest) a)
  where
    either : (n : Bool) → pick n v.number e.largest ≡ elim n [ true ↦ v.number | false ↦ e.largest ]
    either true = refl
    either false = refl

-- the row of live ones moved to its start: the places of those that have gone are cleared
closed : (row live live' : List ℕ) (gone ws : List Waiting) (k m : ℕ) → length row ≡ live_length → live ≡ over row (all_rows (gone ++ ws)) → All Eight gone → All Eight (gone ++ ws) → length gone ≡ k → length (gone ++ ws) ≡ m → m ≤ 64
    → live' ≡ shifted live (live_width * k) (live_width * m) → live' ≡ over (cleared (live_width * m) row) (all_rows ws)
closed row live live' gone ws k m hr el eg ea ek em h e =
    let lz : length (zeros (live_width * m)) ≡ live_width * m = length-replicate (live_width * m) 0 in
    let lg : length (all_rows gone) ≡ live_width * k = length-rows gone eg ∙ ap (λ (x : ℕ). live_width * x) ek in
    let la : length (all_rows gone ++ all_rows ws) ≡ live_width * m = ap length (sym (rows_append gone ws)) ∙ length-rows (gone ++ ws) ea ∙ ap (λ (x : ℕ). live_width * x) em in
    let at : live ≡ over (cleared (live_width * m) row) (all_rows gone ++ all_rows ws) =
    el ∙ ap (over row) (rows_append gone ws) ∙ sym (over_twice row (zeros (live_width * m)) (all_rows gone ++ all_rows ws) (omega (arith, la, lz)) (omega (arith, la, hr, h))) in
    e ∙ ap (λ (x : List ℕ). shifted x (live_width * k) (live_width * m)) at
    ∙ shift_over (cleared (live_width * m) row) (all_rows gone) (all_rows ws) (live_width * k) (live_width * m) lg la (omega (arith, length-cleared (live_width * m) row (omega (arith, hr, h)), hr, h)) (λ x hx. cleared_zero (live_width * m) row x hx)

pub accepted_call : (σ : Scheme) (r : Record) (v : Event) (cells room : List ℕ) (live live' runs undo room' : List ℕ) (cells' : Cells) (k : Counts) (c : Course) (came : Ground) → refusal (view r) (call_of σ v cells room) ≡ 0
    → came.live ≡ r.live → came.runs ≡ r.runs → came.undo ≡ r.undo → came.room ≡ room → came.uncommitted ≡ r.counts.uncommitted → came.entries ≡ entries_from r.runs 0 r.counts.uncommitted
    → Left live runs undo room' c cells' [] came (taken σ (request v) (view r) cells) → total c ≤ 64 → total c ≡ r.counts.uncommitted + r.counts.waiting + pick (eqb v.kind 1 && new v.number (view r)) 1 0
    → live' ≡ shifted live (live_width * c.first) (live_width * total c) → k ≡ largest_at r.counts (largest_by v.kind v.number r.counts.largest) → c.counts.cells ≡ k.cells → c.counts.largest ≡ k.largest
    → Leaves σ r v cells room (record { number = 0; answers = c.answers; next = record_by c.counts live' runs undo }) cells' room'
unfolding pack_over view_of
accepted_call σ r v cells room live live' runs undo room' cells' k c came z cl cr cu cm cn ce l h reach el ek same top =
    leaves_by σ r v cells room _ cells' room' 0 z (
      (λ j. record {
        number = 0;
        answers = sym l.work.answers j;
        next = record {
          counts = record {
            cells = (same ∙ ap (λ (x : Counts). x.cells) ek) j;
            largest = (top ∙ ap (λ (x : Counts). x.largest) ek ∙ largest_by_lem v (view r)) j;
            uncommitted = sym l.work.uncommitted j;
            waiting = sym l.work.waiting j;
          };
          live = rows j;
          runs = (l.work.at_runs ∙ (λ i. over (cleared (run_width * cn i) (cr i)) (all_runs q.uncommitted))) j;
          undo = (l.work.at_undo ∙ (λ i. over (cleared (entry_width * ce i) (cu i)) (flat (undo_list q.uncommitted)))) j;
        };
      }),
      l.stands,
      l.work.at_room ∙ ap (filled q.answers) cm,
    )
  where
    q : Queues
    q = taken σ (request v) (view r) cells

    long : length (l.gone ++ live_rows q.uncommitted q.waiting) ≡ total c
    long = omega (arith, length-append l.gone (live_rows q.uncommitted q.waiting), length-append (map row_of q.uncommitted) q.waiting, length-map q.uncommitted row_of, l.work.first, l.work.uncommitted, l.work.waiting)

    rows : live' ≡ over (cleared (live_width * reached r v) r.live) (all_rows (live_rows q.uncommitted q.waiting))
    rows = closed came.live live live' l.gone (live_rows q.uncommitted q.waiting) c.first (total c) came.long_live l.work.at_live (all_left Eight l.gone _ l.work.eights) l.work.eights l.work.first long h el
        ∙ (λ i. over (cleared (live_width * reach i) (cl i)) (all_rows (live_rows q.uncommitted q.waiting)))
