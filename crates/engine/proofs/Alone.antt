-- A single that meets nothing live: the steps take it, run it and settle it at once, and no row keeps anything of it.
use Prim.Native.Nat.{ℕ, ◌+◌, ◌*◌, ◌%◌, ◌≤◌}
use native.Mathlib.Omega.{arith}
use borrow.Author.Tests.{eqb-true, ltb-false}
use mathlib.Core.Path.{◌≡◌, refl, sym, ap, ◌∙◌, subst}
use mathlib.Core.Bool.{Bool, true, false, ◌&&◌, true≢false}
use mathlib.Core.List.{List, [], ◌∷◌}
use lib.Dec.{eqb}
use lib.ListN.{length, get_or, length-take}
use lib.Seq.{sets}
use Rattle.model.specs.Limits.{least_room}
use Rattle.model.specs.Operations.{Cells, pick, multi, operations}
use Rattle.model.specs.Transactions.{Uncommitted, Waiting, Engine, Answer, answer, undo_list, filled, front}
use Rattle.model.specs.Steps.{run, arrival, arrived, joined, Place, placed, Queues, sending}
use Rattle.model.specs.Steps as Steps
use Rattle.model.specs.Refusals.{Request, refusal, request, live, new, is_front, taken, largest_after}
use Rattle.model.specs.Parts.{Passed}
use Rattle.model.specs.declared.Event.{Event}
use Rattle.model.specs.declared.Fragment.{Fragment}
use Rattle.model.specs.declared.Scheme.{Scheme}
use Rattle.model.proofs.Passing.{passed, front_or_new, decides_front}
use Rattle.model.proofs.Tests.{both, and_left, and_right}
use Rattle.model.proofs.Running.{run_numbers}
use Rattle.operations.specs.Laid.{flat, told}
use Rattle.operations.specs.declared.Told.{Told}
use Rattle.refusals.specs.Rest.{call_of}
use Rattle.record.specs.declared.Counts.{Counts}
use Rattle.record.specs.declared.Record.{Record}
use Rattle.record.specs.Ends.{largest_at, largest_by}
use Rattle.record.specs.Events.{event_of}
use Rattle.record.specs.View.{fragment_at, shifted, entries_from, view_of, view}
use Rattle.record.specs.Widths.{live_width, run_width, entry_width, live_length}
use Rattle.record.specs.Words.{all_rows, all_runs, live_rows, over, cleared, pack_over}
use Rattle.record.proofs.Rows.{over_none, shift_all}
use Rattle.record.proofs.Viewed.{view_count, view_waits}
use Rattle.rows.specs.declared.Trial.{Trial}
use Rattle.rows.specs.Rows.{first_trial, no_trial, told_row}
use Rattle.rows.proofs.Rooms.{told_room}
use Rattle.engine.specs.Called.{Called, reached, Leaves, record_by, settled_alone}
use Rattle.engine.proofs.Accepting.{request_arrive}
use Rattle.engine.proofs.Calling.{leaves_by, filled_none, largest_by_lem}
use Rattle.engine.proofs.Draining.{drain_takes}

-- "Nothing uncommitted, single: it settles at once and is answered, dependence 0."
abbrev at_once : ℕ → Fragment → Cells → Queues
at_once n f cells = record { cells = (run f cells []).cells; uncommitted = []; waiting = []; answers = answer n 0 1 0 (run f cells []).outcome ∷ []; settles = n ∷ [] }

alone : (σ : Scheme) (n : ℕ) (f : Fragment) (cells : Cells) → multi f ≡ false → joined σ n f cells [] [] ≡ at_once n f cells
unfolding Steps.drain placed
alone σ n f cells e =
    drain_takes σ cells [] (arrival n f) [] refl
    ∙ (λ i. sending (single i).answers (single i).settles (Steps.drain σ (run f cells []).cells (single i).uncommitted []))
  where
    single : placed [] (arrival n f) (run f cells []) ≡ record { uncommitted = []; answers = answer n 0 1 0 (run f cells []).outcome ∷ []; settles = n ∷ [] }
    single = ap {B = Place} (λ (b : Bool). elim b [
      | false ↦ record { uncommitted = []; answers = answer n 0 1 0 (run f cells []).outcome ∷ []; settles = n ∷ [] }
      | true ↦ record { uncommitted = Steps.begun (arrival n f) (run f cells []) Rattle.model.specs.Transactions.Sent ∷ []; answers = answer n 0 1 0 (run f cells []).outcome ∷ []; settles = [] }
    ]) e

none : {A : Type 0} (l : List A) (n : ℕ) → length l ≡ n → n ≡ 0 → l ≡ []
none [] n e z = refl
none (a ∷ l) n e z = absurd (omega arith)

module _ (σ : Scheme) (r : Record) (v : Event) (cells room : List ℕ) (z : refusal (view r) (call_of σ v cells room) ≡ 0) (zu : r.counts.uncommitted ≡ 0) (zw : r.counts.waiting ≡ 0) (sg : multi v.fragment ≡ false) where
  p : Passed (view r) (call_of σ v cells room)
  p = passed (view r) (call_of σ v cells room) z

  no_us : (view r).uncommitted ≡ []
  no_us = none (view r).uncommitted r.counts.uncommitted (view_count r) zu

  no_ws : (view r).waiting ≡ []
  no_ws = none (view r).waiting r.counts.waiting (view_waits r) zw

  no_front : is_front v.number (view r) ≡ false
  no_front = ap (front (λ (u : Uncommitted). eqb u.number v.number)) no_us

  -- it is a fragment, of a new transaction
  arrives : eqb v.kind 1 ≡ true
  arrives = go (eqb v.kind 1) refl
    where
      go : (b : Bool) → eqb v.kind 1 ≡ b → b ≡ true
      go true e = refl
      go false e = absurd (true≢false (sym (decides_front (view r) (call_of σ v cells room) e p) ∙ no_front))

  fresh : new v.number (view r) ≡ true
  fresh = front_or_new (live v.number (view r)) (new v.number (view r)) (is_front v.number (view r)) p.six p.seven no_front

  takes : taken σ (request v) (view r) cells ≡ at_once v.number v.fragment cells
  takes =
      ap (λ (q : Request). taken σ q (view r) cells) (request_arrive v arrives)
      ∙ (λ i. arrived σ v.number v.fragment cells (no_us i) (no_ws i))
      ∙ alone σ v.number v.fragment cells sg

  one_comes : reached r v ≡ 1
  unfolding view_of
  one_comes = (λ i. zu i + zw i + pick (both (eqb v.kind 1) (new v.number (view r)) arrives fresh i) 1 0)

  pub idle_call : (live' cells' room' : List ℕ) (k : Counts) (t : Told) → length v.fragment.row ≡ 8 → length r.live ≡ live_length → live' ≡ shifted r.live live_width live_width
      → t ≡ told (run v.fragment cells []) → cells' ≡ (run v.fragment cells []).cells
      → room' ≡ sets room 0 (told_row (record { number = v.number; attempt = 1 }) no_trial t) → k ≡ largest_at r.counts (largest_by 1 v.number r.counts.largest)
      → Leaves σ r v cells room (record { number = 0; answers = 1; next = record_by k live' r.runs r.undo }) cells' room'
  unfolding pack_over view_of all_rows all_runs entries_from told operations
  idle_call live' cells' room' k t eight hl el et ec er ek =
      leaves_by σ r v cells room _ cells' room' 0 z (
        (λ j. record {
          number = 0;
          answers = length (back j).answers;
          next = record {
            counts = record {
              cells = ap (λ (x : Counts). x.cells) ek j;
              largest = top j;
              uncommitted = (ap (λ (x : Counts). x.uncommitted) ek ∙ zu ∙ (λ i. length (back i).uncommitted)) j;
              waiting = (ap (λ (x : Counts). x.waiting) ek ∙ zw ∙ (λ i. length (back i).waiting)) j;
            };
            live = (el ∙ shift_all r.live live_width (omega (arith, hl)) ∙ sym (over_none (cleared live_width r.live)) ∙ (λ i. over (cleared (live_width * sym one_comes i) r.live) (all_rows (live_rows (back i).uncommitted (back i).waiting)))) j;
            runs = (sym (over_none r.runs) ∙ sym (over_none (over r.runs [])) ∙ (λ i. over (cleared (run_width * sym zu i) r.runs) (all_runs (back i).uncommitted))) j;
            undo = (sym (over_none r.undo) ∙ sym (over_none (over r.undo [])) ∙ (λ i. over (cleared (entry_width * entries_from r.runs 0 (sym zu i)) r.undo) (flat (undo_list (back i).uncommitted)))) j;
          };
        }),
        ec ∙ ap (λ (q : Queues). q.cells) back,
        answered ∙ ap (λ (q : Queues). filled q.answers room) back,
      )
    where
      back : at_once v.number v.fragment cells ≡ taken σ (request v) (view r) cells
      back = sym takes

      top : k.largest ≡ largest_after (request v) (view r)
      top = ap (λ (x : Counts). x.largest) ek ∙ ap (λ (x : ℕ). largest_by x v.number r.counts.largest) (sym (eqb-true v.kind 1 arrives)) ∙ largest_by_lem v (view r)

      few : length (run v.fragment cells []).outcome.numbers ≤ 8
      few = omega (arith, run_numbers v.fragment cells, length-take v.fragment.count v.fragment.row)

      own : Trial
      own = record { number = v.number; attempt = 1 }

      answered : room' ≡ filled (answer v.number 0 1 0 (run v.fragment cells []).outcome ∷ []) room
      answered = er ∙ told_room [] own no_trial (run v.fragment cells []) t room room 0 et few (filled_none room) refl (omega (arith, ltb-false (length room) least_room p.two))

-- the same of an event's words
pub idle_words : (σ : Scheme) (r : Record) (l cells room cells' room' : List ℕ) (d : Called) → refusal (view r) (call_of σ (event_of l) cells room) ≡ 0
    → (eqb r.counts.uncommitted 0 && (eqb r.counts.waiting 0 && eqb (get_or l 2 0) 2)) ≡ true → length r.live ≡ live_length
    → d ≡ settled_alone r (get_or l 1 0) → cells' ≡ (run (fragment_at l 1) cells []).cells
    → room' ≡ sets room 0 (told_row (first_trial l 1) no_trial (told (run (fragment_at l 1) cells []))) → Leaves σ r (event_of l) cells room d cells' room'
unfolding event_of fragment_at multi
idle_words σ r l cells room cells' room' d z h hl ed ec er =
    let t : (eqb r.counts.waiting 0 && eqb (get_or l 2 0) 2) ≡ true = and_right (eqb r.counts.uncommitted 0) _ h in
    let flags : get_or l 2 0 ≡ 2 = eqb-true (get_or l 2 0) 2 (and_right (eqb r.counts.waiting 0) _ t) in
    subst (λ (x : Called). Leaves σ r (event_of l) cells room x cells' room') (sym ed)
    (idle_call σ r (event_of l) cells room z (eqb-true r.counts.uncommitted 0 (and_left (eqb r.counts.uncommitted 0) _ h)) (eqb-true r.counts.waiting 0 (and_left (eqb r.counts.waiting 0) _ t)) (ap (λ (x : ℕ). eqb (x % 2) 1) flags)
    _ cells' room' _ (told (run (fragment_at l 1) cells [])) refl hl refl refl ec er refl)
