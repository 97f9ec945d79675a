-- From a fresh start every unused place is zero, after any calls: none has reached what it does not clear.
use Prim.Native.Nat.{ℕ, zero, suc, ◌+◌, ◌*◌, ◌≤◌}
use native.Mathlib.Omega.{arith}
use borrow.Author.Tests.{leb-false}
use mathlib.Core.Path.{◌≡◌, refl, sym, ap, ◌∙◌}
use mathlib.Core.Bool.{Bool, true, false, ◌&&◌}
use mathlib.Core.List.{List, [], ◌∷◌, map}
use lib.Dec.{eqb, ltb, leb}
use lib.ListN.{length, length-append, length-map}
use Rattle.model.specs.Limits.{most_live}
use Rattle.model.specs.Operations.{Cells, pick}
use Rattle.model.specs.Transactions.{Uncommitted, Waiting, undo_list}
use Rattle.model.specs.Refusals.{Call, sound, refusal, respond, step}
use Rattle.model.specs.Parts.{All}
use Rattle.model.proofs.Chain.{all_map}
use Rattle.model.proofs.Passing.{passed}
use Rattle.model.proofs.Sound.{sound_parts}
use Rattle.operations.specs.Laid.{padded, flat}
use Rattle.record.specs.declared.Record.{Record}
use Rattle.record.specs.Fitting.{Eight, Fit, Known}
use Rattle.record.specs.Start.{fresh_of}
use Rattle.record.specs.View.{zeros, entries_from, view_of, view}
use Rattle.record.specs.Widths.{live_width, run_width, entry_width, live_length, runs_length, undo_length}
use Rattle.record.specs.Words.{all_rows, all_runs, row_of, live_rows, cleared, pack_over, pack}
use Rattle.record.proofs.Rows.{cleared_padded}
use Rattle.record.proofs.Back.{known_of, length-rows, length_runs, length-flat, pack_over_lem}
use Rattle.record.proofs.Queues.{rows_all, entries_all, length_entries}
use Rattle.record.proofs.Viewed.{view_count, view_waits, view_first, view_waiting}
use Rattle.tidy.proofs.Members.{few_uncommitted, few_entries}
use Rattle.engine.specs.Called.{stepped, reached, next_of, called}
use Rattle.carried.specs.Carried.{Words, AllWords, returned, RecordRun, onward_r, runs_r, started_r, Plain}
use Rattle.carried.proofs.Carrying.{accepted_sound, next_view, fresh_view}

-- the rows of a record with zeros in its unused places
module _ (r : Record) (plain : Plain r) where
  abbrev us : List Uncommitted
  us = (view r).uncommitted

  abbrev ws : List Waiting
  ws = (view r).waiting

  at_live : r.live ≡ padded live_length (all_rows (live_rows (view r).uncommitted (view r).waiting))
  unfolding pack
  at_live = ap (λ (x : Record). x.live) plain

  at_runs : r.runs ≡ padded runs_length (all_runs (view r).uncommitted)
  unfolding pack
  at_runs = ap (λ (x : Record). x.runs) plain

  at_undo : r.undo ≡ padded undo_length (flat (undo_list (view r).uncommitted))
  unfolding pack
  at_undo = ap (λ (x : Record). x.undo) plain

  module _ (c : Call) (z : refusal (view r) c ≡ 0) where
    one : sound (view r) ≡ true
    one = accepted_sound (view r) c z

    few : r.counts.uncommitted ≤ 16
    few = few_uncommitted r.counts.cells r.counts.largest r.counts.uncommitted r.counts.waiting r.live r.runs r.undo one

    fewer : entries_from r.runs 0 r.counts.uncommitted ≤ 184
    fewer = few_entries r.counts.cells r.counts.largest r.counts.uncommitted r.counts.waiting r.live r.runs r.undo one

    -- "new number, 64 live" is refused
    most : (r.counts.uncommitted + r.counts.waiting ≤ reached r c.event) × (reached r c.event ≤ 64)
    unfolding view_of
    most = go (eqb c.event.kind 1 && ltb r.counts.largest c.event.number) (passed (view r) c z).ten
      where
        full : length (view r).uncommitted + length (view r).waiting ≤ 64
        full = (sound_parts (view r) one).sixty_four

        go : (b : Bool) → (b && leb most_live (length (view r).uncommitted + length (view r).waiting)) ≡ false
            → (r.counts.uncommitted + r.counts.waiting ≤ r.counts.uncommitted + r.counts.waiting + pick b 1 0) × (r.counts.uncommitted + r.counts.waiting + pick b 1 0 ≤ 64)
        go true h = let y = leb-false most_live (length (view r).uncommitted + length (view r).waiting) h in (omega arith, omega (arith, y, view_count r, view_waits r))
        go false h = (omega arith, omega (arith, full, view_count r, view_waits r))

    live_cleared : cleared (live_width * reached r c.event) r.live ≡ zeros live_length
    live_cleared =
        let eights : All Eight (live_rows us ws) = rows_all Eight us ws (view_first r) (view_waiting r) in
        let ln : length (live_rows us ws) ≡ length us + length ws = length-append (map row_of us) ws ∙ ap (λ (x : ℕ). x + length ws) (length-map us row_of) in
        ap (cleared (live_width * reached r c.event)) at_live
        ∙ cleared_padded live_length (live_width * reached r c.event) (all_rows (live_rows us ws)) (omega (arith, length-rows (live_rows us ws) eights, ln, view_count r, view_waits r, most.0)) (omega (arith, most.1))

    runs_cleared : cleared (run_width * r.counts.uncommitted) r.runs ≡ zeros runs_length
    runs_cleared =
        let fits : All Fit us = all_map Known Fit (λ u k. k.0) us (known_of (view r).count us (sound_parts (view r) one).each) in
        ap (cleared (run_width * r.counts.uncommitted)) at_runs ∙ cleared_padded runs_length (run_width * r.counts.uncommitted) (all_runs us) (omega (arith, length_runs us fits, view_count r)) (omega (arith, few))

    undo_cleared : cleared (entry_width * entries_from r.runs 0 r.counts.uncommitted) r.undo ≡ zeros undo_length
    unfolding view_of
    undo_cleared =
        let n : ℕ = entries_from r.runs 0 r.counts.uncommitted in
        let le : length (undo_list us) ≡ n = ap length (entries_all r.live r.runs r.undo 0 0 0 r.counts.uncommitted) ∙ length_entries r.undo 0 n in
        ap (cleared (entry_width * n)) at_undo ∙ cleared_padded undo_length (entry_width * n) (flat (undo_list us)) (omega (arith, length-flat (undo_list us), le)) (omega (arith, fewer))

  plain_next : (c : Call) → Words c.event → Plain (returned r c).next
  unfolding called stepped step
  plain_next c h = go (refusal (view r) c) refl ∙ ap pack (sym (next_view r c h))
    where
      go : (k : ℕ) → refusal (view r) c ≡ k → next_of r c.event (respond k (view r) c) ≡ pack (respond k (view r) c).engine
      go zero z = (λ i. pack_over (live_cleared c z i) (runs_cleared c z i) (undo_cleared c z i) (respond 0 (view r) c).engine) ∙ sym (pack_over_lem (respond 0 (view r) c).engine)
      go (suc k) z = plain

pub plain_start : (n : ℕ) → Plain (fresh_of n).next
unfolding fresh_of
plain_start n = ap pack (sym (fresh_view n))

plain_all : (r : RecordRun) (calls : List Call) → Plain r.kept → AllWords calls → Plain (runs_r r calls).kept
plain_all r [] p h = p
plain_all r (c ∷ calls) p h = plain_all (onward_r r c) calls (plain_next r.kept p c h.0) h.1

-- after any start, refused or not
pub plain_record : (n : ℕ) (cs : Cells) (calls : List Call) → AllWords calls → Plain (runs_r (started_r n cs) calls).kept
plain_record n cs calls h = plain_all (started_r n cs) calls (plain_start n) h
