-- Commit, abort and a further fragment of the front, in plain terms.
use Prim.Native.Nat.{ℕ, ◌+◌, ◌*◌, ◌-◌, min, ◌≤◌, ◌<◌}
use native.Mathlib.Omega.{arith}
use mathlib.Core.Path.{◌≡◌, refl, sym, ap, ◌∙◌, subst}
use mathlib.Core.Bool.{Bool, true, false}
use mathlib.Core.List.{List, [], ◌∷◌, ◌++◌, append_assoc, append-nil, map}
use lib.Dec.{eqb}
use lib.ListN.{length, get_or, replicate, length-append, length-map, length-take}
use lib.Seq.{sets}
use Rattle.model.specs.Operations.{Cells, Outcome, pick, last, operations}
use Rattle.model.specs.Transactions.{Uncommitted, Waiting, answer, undo_list, filled}
use Rattle.model.specs.Steps.{run, requeued, undone, again, state_after}
use Rattle.model.specs.Steps as Steps
use Rattle.model.specs.declared.Fragment.{Fragment}
use Rattle.model.specs.declared.Undo.{Undo}
use Rattle.model.proofs.Chain.{all_map, all_append, all_left, all_right}
use Rattle.model.proofs.Running.{joined_by, run_earlier, outcome_earlier, run_few, run_numbers}
use Rattle.operations.specs.Laid.{padded, flat, entries_of, laid, told}
use Rattle.operations.specs.declared.Ran.{Ran}
use Rattle.record.specs.Words.{all_rows, all_runs, run_words, state_word, row_of, live_rows, over}
use Rattle.record.specs.View.{numbers_from, shifted}
use Rattle.record.proofs.Rows.{lay_over, numbers_padded}
use Rattle.record.proofs.Back.{length_runs, length-flat, flat_append, entries_back}
use Rattle.engine.specs.declared.course.Course.{Course}
use Rattle.engine.specs.Work.{runs_ground, undo_ground, Fair, Aborted, Continued, left_by, requeued_all}
use Rattle.rows.specs.declared.Trial.{Trial}
use Rattle.rows.specs.Rows.{trial_at, no_trial, raised_rows, with_answer, run_row, state_word_after, again_row}
use Rattle.rows.proofs.Rooms.{answered_room, state_word_lem}
use Rattle.rows.proofs.Reading.{trial_of, trial_back}
use Rattle.rows.proofs.Raised.{raised_rows_lem}
use Rattle.engine.proofs.Settling.{run_word, run_over, long_undo, shift_runs, shift_undo}
use Rattle.model.specs.Parts.{All}
use Rattle.record.specs.Fitting.{Eight, Fit, Known}
use Rattle.record.specs.Widths.{live_width, run_width}

-- the entries of a row that holds them all
all_entries : (row undo : List ℕ) (us : List Undo) (n : ℕ) → undo ≡ over row (flat us) → length us ≡ n → entries_of undo 0 n ≡ us
all_entries row undo us n e en = (λ i. entries_of (e i) 0 (sym en i)) ∙ ap (λ (x : List Undo). entries_of (over row (flat x)) 0 (length us)) (sym (append-nil us)) ∙ entries_back row [] us [] 0 refl

-- those that return keep their fragments
eights_again : (us : List Uncommitted) (ws : List Waiting) → All Eight (live_rows us ws) → All Eight (map requeued us ++ ws)
eights_again [] ws h = h
eights_again (u ∷ us) ws h = (h.0, eights_again us ws h.1)

pub aborted : (live runs undo live' runs' undo' : List ℕ) (cells cells' : Cells) (c c' : Course) → Fair c → cells' ≡ undone (entries_of undo 0 c.entries) cells
    → runs' ≡ shifted runs (run_width * c.counts.uncommitted) (run_width * c.counts.uncommitted) → undo' ≡ shifted undo (2 * c.entries) (2 * c.entries)
    → live' ≡ raised_rows live (live_width * (c.first + 1)) (c.counts.uncommitted - 1) → c' ≡ requeued_all (left_by c 0) → Aborted live runs undo cells c live' runs' undo' cells' c'
unfolding all_runs
aborted live runs undo live' runs' undo' cells cells' c c' fair es er eu el ec room gone u us ws sent came w k within few =
    let fits : All Fit (u ∷ us) = all_map Known Fit (λ v h. h.0) (u ∷ us) k in
    let ahead : List Waiting = gone ++ (row_of u ∷ []) in
    let rows : gone ++ live_rows (u ∷ us) ws ≡ ahead ++ live_rows us ws = sym (append_assoc gone (row_of u ∷ []) (live_rows us ws)) in
    let eights : All Eight (ahead ++ live_rows us ws) = subst (All Eight) rows w.eights in
    let e-ahead : All Eight ahead = all_left Eight ahead (live_rows us ws) eights in
    let e-rest : All Eight (live_rows us ws) = all_right Eight ahead (live_rows us ws) eights in
    let at : live_width * length ahead ≡ live_width * (c.first + 1) = ap (λ (x : ℕ). live_width * x) (length-append gone (row_of u ∷ []) ∙ ap (λ (x : ℕ). x + 1) w.first) in
    let lr : length (all_runs (u ∷ us)) ≡ run_width * c.counts.uncommitted = length_runs (u ∷ us) fits ∙ ap (λ (x : ℕ). run_width * x) w.uncommitted in
    let lf : length (flat (undo_list (u ∷ us))) ≡ 2 * c.entries = length-flat (undo_list (u ∷ us)) ∙ ap (λ (x : ℕ). 2 * x) w.entries in
    let n-us : c.counts.uncommitted - 1 ≡ length us = omega (arith, w.uncommitted) in (
      record {
        at_live = el ∙ (λ i. raised_rows ((w.at_live ∙ ap (λ (x : List Waiting). over came.live (all_rows x)) rows) i) (live_width * (c.first + 1)) (n-us i))
            ∙ raised_rows_lem came.live ahead us ws (live_width * (c.first + 1)) e-ahead (all_left Eight (map row_of us) ws e-rest) few at;
        at_runs = er ∙ (λ i. shifted ((w.at_runs ∙ ap (over (runs_ground came)) (sym (append-nil (all_runs (u ∷ us))))) i) (run_width * c.counts.uncommitted) (run_width * c.counts.uncommitted))
            ∙ shift_runs came (all_runs (u ∷ us)) [] (run_width * c.counts.uncommitted) c.counts.uncommitted lr (ap length (append-nil (all_runs (u ∷ us))) ∙ lr) within.0;
        at_undo = eu ∙ (λ i. shifted ((w.at_undo ∙ ap (over (undo_ground came)) (sym (append-nil (flat (undo_list (u ∷ us)))))) i) (2 * c.entries) (2 * c.entries))
            ∙ shift_undo came (flat (undo_list (u ∷ us))) [] (2 * c.entries) c.entries lf (ap length (append-nil (flat (undo_list (u ∷ us)))) ∙ lf) within.1;
        at_room = w.at_room;
        first = length-append gone (row_of u ∷ []) ∙ ap (λ (x : ℕ). x + 1) w.first ∙ sym (ap (λ (x : Course). x.first) ec);
        uncommitted = sym (ap (λ (x : Course). x.counts.uncommitted) ec);
        waiting = length-append (map requeued us) ws ∙ omega (arith, length-map us requeued, w.uncommitted, w.waiting, ap (λ (x : Course). x.counts.waiting) ec);
        entries = sym (ap (λ (x : Course). x.entries) ec);
        answers = w.answers ∙ sym (ap (λ (x : Course). x.answers) ec);
        eights = all_append Eight ahead (map requeued us ++ ws) e-ahead (eights_again us ws e-rest);
      },
      es ∙ ap (λ (x : List Undo). undone x cells) (all_entries (undo_ground came) undo (undo_list (u ∷ us)) c.entries w.at_undo w.entries),
    )

-- One more fragment of the front

few_operations : (f : Fragment) → length f.row ≡ 8 → length (operations f) ≤ 8
unfolding operations
few_operations f h = omega (arith, length-take f.count f.row)

pub entries_of_lem : (f : Fragment) (cells : Cells) (r : Ran) → length f.row ≡ 8 → r ≡ laid (run f cells []) → r.entries ≤ 8
unfolding laid
entries_of_lem f cells r h e = omega (arith, ap (λ (x : Ran). x.entries) e, run_few f cells, few_operations f h)

again_words : (u : Uncommitted) (f : Fragment) (R : Steps.Ran) (n s e : ℕ) → n ≡ u.ran + 1 → s ≡ state_word (state_after f R.outcome) → e ≡ length R.undo → run_row n s 0 e 0 0 (replicate 8 0) ≡ run_words (again u f R)
unfolding run_words padded
again_words u f R n s e en es ee = λ i. run_row (en i) (es i) 0 (ee i) 0 0 (replicate 8 0)

first_is : (u : Uncommitted) → get_or (run_words u) 0 0 ≡ u.ran
unfolding run_words
first_is u = refl

module _ (live runs undo room runs' undo' room' : List ℕ) (cells cells' : Cells) (c c' : Course) (f : Fragment) (own : Trial) (entries : ℕ) (r : Ran) (fair : Fair c) (some : 0 < c.counts.uncommitted)
    (en : own ≡ trial_at live (live_width * c.first)) (er : r ≡ laid (run f cells [])) (ec : cells' ≡ (run f cells (entries_of undo 0 c.entries)).cells)
    (een : entries ≡ pick (eqb r.told.place 0) (c.entries + r.entries) 0)
    (eu : undo' ≡ pick (eqb r.told.place 0) (sets undo (2 * c.entries) (numbers_from r.undo 0 (2 * r.entries))) (shifted undo (2 * c.entries) (2 * c.entries)))
    (eruns : runs' ≡ sets runs 0 (again_row runs f r.told.place entries)) (eroom : room' ≡ with_answer c.answers own no_trial r room)
    (ecounts : c' ≡ record { counts = c.counts; first = c.first; entries = entries; answers = c.answers + 1 }) where
  pub continued : Continued live runs undo room cells c f runs' undo' room' cells' c'
  unfolding laid told
  continued gone u ws sent came k kn within few-ran eight few = (
    record {
      at_live = k.at_live;
      at_runs = run_over [] u [] runs 0 tt kn refl (runs_ground came) k.at_runs v (again_row runs f r.told.place entries) runs' (omega arith) run_is eruns;
      at_undo = undo_is;
      at_room = room_is;
      first = k.first ∙ sym (ap (λ (x : Course). x.first) ecounts);
      uncommitted = k.uncommitted ∙ sym (ap (λ (x : Course). x.counts.uncommitted) ecounts);
      waiting = k.waiting ∙ sym (ap (λ (x : Course). x.counts.waiting) ecounts);
      entries = ap length (append-nil (run f cells u.undo).undo) ∙ sym entries_is ∙ sym (ap (λ (x : Course). x.entries) ecounts);
      answers = length-append sent (answer u.number 0 u.attempt 0 (run f cells u.undo).outcome ∷ []) ∙ ap (λ (x : ℕ). x + 1) k.answers ∙ sym (ap (λ (x : Course). x.answers) ecounts);
      eights = k.eights;
    },
    cells_is,
  )
    where
      v : Uncommitted
      v = again u f (run f cells u.undo)

      whole : length (u.undo ++ []) ≡ length u.undo
      whole = ap length (append-nil u.undo)

      entries_own : entries_of undo 0 c.entries ≡ u.undo
      entries_own = all_entries (undo_ground came) undo (u.undo ++ []) c.entries k.at_undo k.entries ∙ append-nil u.undo

      cells_is : cells' ≡ (run f cells u.undo).cells
      cells_is = ec ∙ ap (λ (x : List Undo). (run f cells x).cells) entries_own

      place_is : r.told.place ≡ (run f cells []).outcome.place
      place_is = ap (λ (x : Ran). x.told.place) er

      tells : (run f cells u.undo).outcome ≡ (run f cells []).outcome
      tells = outcome_earlier f cells u.undo

      -- its entries then
      undo_by : (b : Bool) → eqb (run f cells []).outcome.place 0 ≡ b → (run f cells u.undo).undo ≡ (joined_by b u.undo (run f cells [])).undo
      undo_by b e = ap (λ (x : Steps.Ran). x.undo) (run_earlier f cells u.undo) ∙ ap (λ (x : Bool). (joined_by x u.undo (run f cells [])).undo) e

      own_few : length (run f cells []).undo ≤ 8
      own_few = omega (arith, run_few f cells, few_operations f eight)

      own_words : numbers_from r.undo 0 (2 * r.entries) ≡ flat (run f cells []).undo
      own_words = (λ i. numbers_from (er i).undo 0 (2 * (er i).entries)) ∙ numbers_padded 16 (flat (run f cells []).undo) (2 * length (run f cells []).undo) (length-flat (run f cells []).undo)

      entries_is : entries ≡ length (run f cells u.undo).undo
      entries_is = een ∙ ap (λ (x : ℕ). pick (eqb x 0) (c.entries + r.entries) 0) place_is ∙ go (eqb (run f cells []).outcome.place 0) refl
        where
          go : (b : Bool) → eqb (run f cells []).outcome.place 0 ≡ b → pick b (c.entries + r.entries) 0 ≡ length (run f cells u.undo).undo
          go true e = (λ i. (sym k.entries ∙ whole) i + (er i).entries) ∙ sym (length-append u.undo (run f cells []).undo) ∙ sym (ap length (undo_by true e))
          go false e = sym (ap length (undo_by false e))

      undo_is : undo' ≡ over (undo_ground came) (flat ((run f cells u.undo).undo ++ []))
      undo_is = eu ∙ ap (λ (x : ℕ). pick (eqb x 0) (sets undo (2 * c.entries) (numbers_from r.undo 0 (2 * r.entries))) (shifted undo (2 * c.entries) (2 * c.entries))) place_is
          ∙ go (eqb (run f cells []).outcome.place 0) refl ∙ ap (λ (x : List Undo). over (undo_ground came) (flat x)) (sym (append-nil (run f cells u.undo).undo))
        where
          size : length (flat (u.undo ++ [])) ≡ 2 * c.entries
          size = length-flat (u.undo ++ []) ∙ ap (λ (x : ℕ). 2 * x) k.entries

          go : (b : Bool) → eqb (run f cells []).outcome.place 0 ≡ b
              → pick b (sets undo (2 * c.entries) (numbers_from r.undo 0 (2 * r.entries))) (shifted undo (2 * c.entries) (2 * c.entries)) ≡ over (undo_ground came) (flat (run f cells u.undo).undo)
          go true e =
              (λ i. sets (k.at_undo i) (2 * c.entries) (own_words i))
              ∙ lay_over (undo_ground came) (flat (u.undo ++ [])) (flat (run f cells []).undo) (2 * c.entries) size (omega (arith, long_undo came, length-flat (run f cells []).undo, own_few, whole, k.entries, few, few-ran))
              ∙ ap (over (undo_ground came)) (ap (λ (x : List Undo). flat x ++ flat (run f cells []).undo) (append-nil u.undo) ∙ sym (flat_append u.undo (run f cells []).undo) ∙ ap flat (sym (undo_by true e)))
          go false e =
              (λ i. shifted ((k.at_undo ∙ ap (over (undo_ground came)) (sym (append-nil (flat (u.undo ++ []))))) i) (2 * c.entries) (2 * c.entries))
              ∙ shift_undo came (flat (u.undo ++ [])) [] (2 * c.entries) c.entries size (ap length (append-nil (flat (u.undo ++ []))) ∙ size) within.1
              ∙ ap (λ (x : List Undo). over (undo_ground came) (flat x)) (sym (undo_by false e))

      run_is : again_row runs f r.told.place entries ≡ run_words v
      run_is = again_words u f (run f cells u.undo) (min (get_or runs 0 0) 7 + 1) (state_word_after (last f) r.told.place) entries ran_is state_is entries_is
        where
          ran_is : min (get_or runs 0 0) 7 + 1 ≡ u.ran + 1
          ran_is =
              let h : get_or runs 0 0 ≡ u.ran = run_word [] u [] runs 0 tt kn refl (runs_ground came) k.at_runs 0 (omega arith) ∙ first_is u in
              omega (arith, h, few-ran)

          state_is : state_word_after (last f) r.told.place ≡ state_word (state_after f (run f cells u.undo).outcome)
          state_is = ap (state_word_after (last f)) place_is ∙ state_word_lem f (run f cells []).outcome (last f) refl ∙ ap (λ (o : Outcome). state_word (state_after f o)) (sym tells)

      own_is : own ≡ trial_of (row_of u)
      own_is =
          en ∙ ap (λ (l : List ℕ). trial_at l (live_width * c.first)) k.at_live
          ∙ trial_back came.live gone (row_of u) (live_rows [] ws) (live_width * c.first) (all_left Eight gone (live_rows (u ∷ []) ws) k.eights) (all_right Eight gone (live_rows (u ∷ []) ws) k.eights).0 (ap (λ (x : ℕ). live_width * x) k.first)

      room_is : room' ≡ filled (sent ++ (answer u.number 0 u.attempt 0 (run f cells u.undo).outcome ∷ [])) came.room
      room_is = eroom ∙ (λ i. with_answer c.answers (own_is i) no_trial r room)
          ∙ answered_room sent (trial_of (row_of u)) no_trial (run f cells []) r room came.room c.answers er (omega (arith, run_numbers f cells, few_operations f eight)) k.at_room k.answers (omega (arith, came.enough, fair.answers, some))
          ∙ ap (λ (o : Outcome). filled (sent ++ (answer u.number 0 u.attempt 0 o ∷ [])) came.room) (sym tells)

-- a run's own entries fit their row of sixteen
pub entries_by_row : (R : Steps.Ran) (r : Ran) → r ≡ laid R → length r.undo ≡ 16 → r.entries ≤ 8
unfolding laid padded
entries_by_row R r e h =
    let zeros : List ℕ = replicate (16 - length (flat R.undo)) 0 in
    omega (arith, ap (λ (x : Ran). x.entries) e, ap (λ (x : Ran). length x.undo) e, length-append (flat R.undo) zeros, length-flat R.undo)
