-- One turn of the drain, in plain terms: what the rows hold after the one that ran was answered, joined or settled.
use Prim.Native.Nat.{ℕ, suc, ◌+◌, ◌*◌, ◌≤◌, ◌<◌}
use native.Mathlib.Omega.{arith}
use borrow.Author.Tests.{ne_eqb, ltb-true}
use mathlib.Core.Path.{◌≡◌, refl, sym, ap, ◌∙◌, subst, subst₂}
use mathlib.Core.Bool.{Bool, true, false, not, ◌||◌, true≢false}
use mathlib.Core.List.{List, [], ◌∷◌, ◌++◌, append_assoc, append-nil, map}
use lib.ListN.{length, length-append, length-map}
use lib.Seq.{sets}
use Rattle.model.specs.Limits.{depth}
use Rattle.model.specs.Operations.{Cells, pick, multi, last}
use Rattle.model.specs.Transactions.{Held, Sent, Uncommitted, Waiting, Answer, answer, undo_list, filled}
use Rattle.model.specs.Steps.{run, begun, one_coordinator, nearest, nearest_attempt, may_take, Place, placed}
use Rattle.model.specs.declared.Fragment.{Fragment}
use Rattle.model.specs.declared.Scheme.{Scheme}
use Rattle.model.proofs.Taking.{may_less}
use Rattle.model.specs.declared.Undo.{Undo}
use Rattle.model.proofs.Chain.{all_map, all_left, all_right}
use Rattle.model.proofs.Keeping as Keeping
use Rattle.operations.specs.Laid.{flat, laid}
use Rattle.operations.specs.declared.Ran.{Ran}
use Rattle.record.specs.Words.{all_rows, run_words, all_runs, row_of, live_rows, held_outcome, over}
use Rattle.record.specs.View.{fragment_at, numbers_from}
use Rattle.record.proofs.Rows.{lay_over, numbers_padded}
use Rattle.record.proofs.Back.{known_of, fragment_back, length_run, length_runs, runs_append, undo_append, flat_append, length-flat}
use Rattle.engine.specs.declared.course.Course.{Course}
use Rattle.engine.specs.Work.{Ground, runs_ground, undo_ground, Work, Left, joined_by, settled_at_once, with_answers, Small, Took}
use Rattle.rows.specs.declared.Trial.{Trial}
use Rattle.std.specs.Prelude.{None}
use Rattle.rows.specs.declared.Placement.{Placement}
use Rattle.rows.specs.Rows.{trial_at, no_trial, trial_or_none, one_rows, near_rows, nearest_rows, answered_now, joins_queue, begun_row, placement_row, with_answer}
use Rattle.rows.proofs.Placed.{placed_by, one_back, nearest_trial, near_all}
use Rattle.rows.proofs.Reading.{trial_of, trial_back, near_rows_by}
use Rattle.rows.proofs.Rooms.{answered_room, begun_words}
use Rattle.model.specs.Parts.{All, Sound}
use Rattle.record.specs.Fitting.{Eight, Fit, Known}
use Rattle.record.specs.Widths.{live_width, run_width}
use Rattle.engine.proofs.Settling.{long_runs, long_undo}

-- One that ran

rows_joined : (us : List Uncommitted) (w : Waiting) (ws : List Waiting) (v : Uncommitted) → row_of v ≡ w → live_rows (us ++ (v ∷ [])) ws ≡ live_rows us (w ∷ ws)
rows_joined [] w ws v e = ap {B = List Waiting} (λ (x : Waiting). x ∷ ws) e
rows_joined (u ∷ us) w ws v e = ap {B = List Waiting} (λ (x : List Waiting). row_of u ∷ x) (rows_joined us w ws v e)

-- what turn's callees say: transaction and fragment of the first waiting one, its run, the tests, and what they left
pub record Facts (live runs undo room : List ℕ) (cells : Cells) (c : Course) (own : Trial) (f : Fragment) (r : Ran) (m la one ans joins : Bool) (near : Trial) (a' : ℕ) (runs' undo' room' : List ℕ) (cells' : Cells) (c' : Course) : Type 0 where
  pub tried : own ≡ trial_at live (live_width * (c.first + c.counts.uncommitted))
  pub fragment : f ≡ fragment_at live (live_width * (c.first + c.counts.uncommitted))
  pub ran : r ≡ laid (run f cells [])
  pub stands : cells' ≡ (run f cells []).cells
  pub multi : m ≡ multi f
  pub last : la ≡ last f
  pub is_one : one ≡ one_rows live (live_width * c.first) c.counts.uncommitted f.coordinator
  pub is_near : ans ≡ true → near ≡ near_rows no_trial live (live_width * c.first) c.counts.uncommitted
  pub is_ans : ans ≡ answered_now c.counts.uncommitted m one
  pub is_joins : joins ≡ joins_queue c.counts.uncommitted m
  pub count : a' ≡ pick ans (c.answers + 1) c.answers
  pub is_room : room' ≡ pick ans (with_answer c.answers own near r room) room
  pub is_runs : runs' ≡ pick joins (sets runs (run_width * c.counts.uncommitted) (begun_row (not ans) la r)) runs
  pub is_undo : undo' ≡ pick joins (sets undo (2 * c.entries) (numbers_from r.undo 0 (2 * r.entries))) undo
  pub counts : c' ≡ pick joins (joined_by (with_answers a' c) r) (settled_at_once (with_answers a' c))

module _ (live runs undo room : List ℕ) (cells : Cells) (c : Course) (own : Trial) (f : Fragment) (r : Ran) (m la one ans joins : Bool) (near : Trial) (a' : ℕ) (runs' undo' room' : List ℕ) (cells' : Cells) (c' : Course)
    (facts : Facts live runs undo room cells c own f r m la one ans joins near a' runs' undo' room' cells' c') (small : Small c)
    (gone : List Waiting) (us : List Uncommitted) (w : Waiting) (ws : List Waiting) (sent : List Answer) (came : Ground) (work : Work live runs undo room c gone us (w ∷ ws) sent came)
    (ct top : ℕ) (s : Sound ct top us (w ∷ ws)) (σ : Scheme) (take : may_take σ us ≡ true) where
  whole : gone ++ live_rows us (w ∷ ws) ≡ (gone ++ map row_of us) ++ w ∷ ws
  whole = sym (append_assoc gone (map row_of us) (w ∷ ws))

  eights : All Eight ((gone ++ map row_of us) ++ w ∷ ws)
  eights = subst (All Eight) whole work.eights

  e_a : All Eight (gone ++ map row_of us)
  e_a = all_left Eight (gone ++ map row_of us) (w ∷ ws) eights

  e_w : Eight w
  e_w = (all_right Eight (gone ++ map row_of us) (w ∷ ws) eights).0

  e_g : All Eight gone
  e_g = all_left Eight gone (live_rows us (w ∷ ws)) work.eights

  e_l : All Eight (live_rows us (w ∷ ws))
  e_l = all_right Eight gone (live_rows us (w ∷ ws)) work.eights

  at : live_width * length (gone ++ map row_of us) ≡ live_width * (c.first + c.counts.uncommitted)
  at = ap (λ (x : ℕ). live_width * x) (length-append gone (map row_of us) ∙ omega (arith, length-map us row_of, work.first, work.uncommitted))

  at_live : live ≡ over came.live (all_rows ((gone ++ map row_of us) ++ w ∷ ws))
  at_live = work.at_live ∙ ap (λ (x : List Waiting). over came.live (all_rows x)) whole

  is_fragment : f ≡ w.fragment
  is_fragment = facts.fragment ∙ ap (λ (l : List ℕ). fragment_at l (live_width * (c.first + c.counts.uncommitted))) at_live ∙ fragment_back came.live (gone ++ map row_of us) w ws (live_width * (c.first + c.counts.uncommitted)) e_a e_w at

  is_own : own ≡ trial_of w
  is_own = facts.tried ∙ ap (λ (l : List ℕ). trial_at l (live_width * (c.first + c.counts.uncommitted))) at_live ∙ trial_back came.live (gone ++ map row_of us) w ws (live_width * (c.first + c.counts.uncommitted)) e_a e_w at

  is_run : r ≡ laid (run w.fragment cells [])
  is_run = facts.ran ∙ ap (λ (x : Fragment). laid (run x cells [])) is_fragment

  first_at : live_width * length gone ≡ live_width * c.first
  first_at = ap (λ (x : ℕ). live_width * x) work.first

  is_one : one ≡ one_coordinator w.fragment.coordinator us
  is_one =
      facts.is_one ∙ (λ i. one_rows (work.at_live i) (live_width * c.first) (sym work.uncommitted i) (is_fragment i).coordinator) ∙ one_back came.live (w ∷ ws) gone us (live_width * c.first) e_g e_l first_at w.fragment.coordinator

  is_near : ans ≡ true → near ≡ nearest_trial no_trial us
  is_near h = facts.is_near h ∙ (λ i. near_rows no_trial (work.at_live i) (live_width * c.first) (sym work.uncommitted i)) ∙ near_all came.live (w ∷ ws) gone us (live_width * c.first) e_g e_l first_at no_trial

  is_multi : m ≡ multi w.fragment
  is_multi = facts.multi ∙ ap multi is_fragment

  is_ans : ans ≡ answered_now (length us) (multi w.fragment) (one_coordinator w.fragment.coordinator us)
  is_ans = facts.is_ans ∙ (λ i. answered_now (sym work.uncommitted i) (is_multi i) (is_one i))

  is_joins : joins ≡ joins_queue (length us) (multi w.fragment)
  is_joins = facts.is_joins ∙ (λ i. joins_queue (sym work.uncommitted i) (is_multi i))

  left : Keeping.Left ct (0 + 8) (run w.fragment cells [])
  left = Keeping.ran_left ct w.fragment cells [] s.waiting.0 refl

  room_is : room' ≡ filled (sent ++ pick ans (answer w.number (nearest 0 us) w.attempt (nearest_attempt 0 us) (run w.fragment cells []).outcome ∷ []) []) came.room
  room_is = facts.is_room ∙ go ans refl
    where
      go : (b : Bool) → ans ≡ b → pick b (with_answer c.answers own near r room) room ≡ filled (sent ++ pick b (answer w.number (nearest 0 us) w.attempt (nearest_attempt 0 us) (run w.fragment cells []).outcome ∷ []) []) came.room
      go true h =
          (λ i. with_answer c.answers (is_own i) (is_near h i) r room)
          ∙ answered_room sent (trial_of w) (nearest_trial no_trial us) (run w.fragment cells []) r room came.room c.answers is_run left.numbers work.at_room work.answers (omega (arith, came.enough, small.answers, work.waiting))
      go false h = work.at_room ∙ ap (λ (l : List Answer). filled l came.room) (sym (append-nil sent))

  count_is : length (sent ++ pick ans (answer w.number (nearest 0 us) w.attempt (nearest_attempt 0 us) (run w.fragment cells []).outcome ∷ []) []) ≡ a'
  count_is = go ans ∙ sym facts.count
    where
      go : (b : Bool) → length (sent ++ pick b (answer w.number (nearest 0 us) w.attempt (nearest_attempt 0 us) (run w.fragment cells []).outcome ∷ []) []) ≡ pick b (c.answers + 1) c.answers
      go true = length-append sent (answer w.number (nearest 0 us) w.attempt (nearest_attempt 0 us) (run w.fragment cells []).outcome ∷ []) ∙ ap (λ (n : ℕ). n + 1) work.answers
      go false = ap length (append-nil sent) ∙ work.answers

  -- it joins: one more uncommitted one, with the reply that the tests gave it
  abbrev v : Uncommitted
  v = begun w (run w.fragment cells []) (pick (not ans) (Held (run w.fragment cells []).outcome) Sent)

  few_us : length us < 16
  few_us = go us take
    where
      go : (l : List Uncommitted) → may_take σ l ≡ true → length l < 16
      go [] h = omega arith
      go (u ∷ l) h = ltb-true (length (u ∷ l)) depth (may_less σ u l h)

  runs_length_lem : length (all_runs us) ≡ run_width * c.counts.uncommitted
  runs_length_lem = length_runs us (all_map Known Fit (λ u k. k.0) us (known_of ct us s.each)) ∙ ap (λ (n : ℕ). run_width * n) work.uncommitted

  runs_is : joins ≡ true → runs' ≡ over (runs_ground came) (all_runs (us ++ (begun w (run w.fragment cells []) (pick (not ans) (Held (run w.fragment cells []).outcome) Sent) ∷ [])))
  unfolding all_runs
  runs_is j =
      facts.is_runs ∙ ap (λ (b : Bool). pick b (sets runs (run_width * c.counts.uncommitted) (begun_row (not ans) la r)) runs) j
      ∙ (λ i. sets (work.at_runs i) (run_width * c.counts.uncommitted) (begun_words w (run w.fragment cells []) r la (not ans) is_run (facts.last ∙ ap last is_fragment) i))
      ∙ lay_over (runs_ground came) (all_runs us) (run_words v) (run_width * c.counts.uncommitted) runs_length_lem (omega (arith, long_runs came, length_run v fit_v, few_us, work.uncommitted))
      ∙ ap (over (runs_ground came)) (ap (λ (l : List ℕ). all_runs us ++ l) (sym (append-nil (run_words v))) ∙ sym (runs_append us (v ∷ [])))
    where
      fit_v : Fit v
      fit_v = go (not ans)
        where
          go : (b : Bool) → length (held_outcome (pick b (Held (run w.fragment cells []).outcome) Sent)).numbers ≤ 8
          go true = left.numbers
          go false = omega arith

  own_entries : numbers_from r.undo 0 (2 * r.entries) ≡ flat (run w.fragment cells []).undo
  unfolding laid
  own_entries =
      (λ i. numbers_from (is_run i).undo 0 (2 * (is_run i).entries)) ∙ numbers_padded 16 (flat (run w.fragment cells []).undo) (2 * length (run w.fragment cells []).undo) (length-flat (run w.fragment cells []).undo)

  undo_joined : undo_list (us ++ (begun w (run w.fragment cells []) (pick (not ans) (Held (run w.fragment cells []).outcome) Sent) ∷ [])) ≡ undo_list us ++ (run w.fragment cells []).undo
  undo_joined = undo_append us (v ∷ []) ∙ ap (λ (l : List Undo). undo_list us ++ l) (append-nil (run w.fragment cells []).undo)

  undo_is : joins ≡ true → undo' ≡ over (undo_ground came) (flat (undo_list (us ++ (begun w (run w.fragment cells []) (pick (not ans) (Held (run w.fragment cells []).outcome) Sent) ∷ []))))
  undo_is j =
      facts.is_undo ∙ ap (λ (b : Bool). pick b (sets undo (2 * c.entries) (numbers_from r.undo 0 (2 * r.entries))) undo) j
      ∙ (λ i. sets (work.at_undo i) (2 * c.entries) (own_entries i))
      ∙ lay_over (undo_ground came) (flat (undo_list us)) (flat (run w.fragment cells []).undo) (2 * c.entries) (length-flat (undo_list us) ∙ ap (λ (n : ℕ). 2 * n) work.entries)
      (omega (arith, long_undo came, length-flat (run w.fragment cells []).undo, left.few, small.entries, few_us, work.uncommitted))
      ∙ ap (over (undo_ground came)) (sym (flat_append (undo_list us) (run w.fragment cells []).undo) ∙ ap flat (sym undo_joined))

  joins_work : joins ≡ true → Work live runs' undo' room' c' gone (us ++ (begun w (run w.fragment cells []) (pick (not ans) (Held (run w.fragment cells []).outcome) Sent) ∷ [])) ws
      (sent ++ pick ans (answer w.number (nearest 0 us) w.attempt (nearest_attempt 0 us) (run w.fragment cells []).outcome ∷ []) []) came
  unfolding laid
  joins_work j =
      let e : c' ≡ joined_by (with_answers a' c) r = facts.counts ∙ ap (λ (b : Bool). pick b (joined_by (with_answers a' c) r) (settled_at_once (with_answers a' c))) j in
      let rows : live_rows (us ++ (v ∷ [])) ws ≡ live_rows us (w ∷ ws) = rows_joined us w ws v refl in
      let n : r.entries ≡ length (run w.fragment cells []).undo = ap (λ (x : Ran). x.entries) is_run in
      record {
        at_live = work.at_live ∙ ap (λ (l : List Waiting). over came.live (all_rows (gone ++ l))) (sym rows);
        at_runs = runs_is j;
        at_undo = undo_is j;
        at_room = room_is;
        first = work.first ∙ sym (ap (λ (x : Course). x.first) e);
        uncommitted = length-append us (v ∷ []) ∙ ap (λ (x : ℕ). x + 1) work.uncommitted ∙ sym (ap (λ (x : Course). x.counts.uncommitted) e);
        waiting = omega (arith, work.waiting, ap (λ (x : Course). x.counts.waiting) e);
        entries = ap length undo_joined ∙ length-append (undo_list us) (run w.fragment cells []).undo ∙ (λ i. work.entries i + sym n i) ∙ sym (ap (λ (x : Course). x.entries) e);
        answers = count_is ∙ sym (ap (λ (x : Course). x.answers) e);
        eights = subst (λ (l : List Waiting). All Eight (gone ++ l)) (sym rows) work.eights;
      }

  -- it settles at once, with nothing uncommitted
  settles_work : us ≡ [] → joins ≡ false → Work live runs' undo' room' c' (gone ++ (w ∷ [])) us ws
      (sent ++ pick ans (answer w.number (nearest 0 us) w.attempt (nearest_attempt 0 us) (run w.fragment cells []).outcome ∷ []) []) came
  settles_work z j =
      let e : c' ≡ settled_at_once (with_answers a' c) = facts.counts ∙ ap (λ (b : Bool). pick b (joined_by (with_answers a' c) r) (settled_at_once (with_answers a' c))) j in
      let rows : gone ++ live_rows us (w ∷ ws) ≡ (gone ++ (w ∷ [])) ++ live_rows us ws =
      ap (λ (l : List Uncommitted). gone ++ live_rows l (w ∷ ws)) z ∙ sym (append_assoc gone (w ∷ []) ws) ∙ ap (λ (l : List Uncommitted). (gone ++ (w ∷ [])) ++ live_rows l ws) (sym z) in
      record {
        at_live = work.at_live ∙ ap (λ (l : List Waiting). over came.live (all_rows l)) rows;
        at_runs = facts.is_runs ∙ ap (λ (b : Bool). pick b (sets runs (run_width * c.counts.uncommitted) (begun_row (not ans) la r)) runs) j ∙ work.at_runs;
        at_undo = facts.is_undo ∙ ap (λ (b : Bool). pick b (sets undo (2 * c.entries) (numbers_from r.undo 0 (2 * r.entries))) undo) j ∙ work.at_undo;
        at_room = room_is;
        first = length-append gone (w ∷ []) ∙ ap (λ (x : ℕ). x + 1) work.first ∙ sym (ap (λ (x : Course). x.first) e);
        uncommitted = omega (arith, work.uncommitted, ap (λ (x : Course). x.counts.uncommitted) e);
        waiting = omega (arith, work.waiting, ap (λ (x : Course). x.counts.waiting) e);
        entries = omega (arith, work.entries, ap (λ (x : Course). x.entries) e);
        answers = count_is ∙ sym (ap (λ (x : Course). x.answers) e);
        eights = subst (All Eight) rows work.eights;
      }

  pub take_first_left : Left live runs' undo' room' c' cells' sent came
      (record { cells = (run w.fragment cells []).cells; uncommitted = (placed us w (run w.fragment cells [])).uncommitted; waiting = ws; answers = (placed us w (run w.fragment cells [])).answers; settles = (placed us w (run w.fragment cells [])).settles })
  take_first_left = go joins refl
    where
      p : placed us w (run w.fragment cells []) ≡ record {
        uncommitted = pick joins (us ++ (begun w (run w.fragment cells []) (pick (not ans) (Held (run w.fragment cells []).outcome) Sent) ∷ [])) us;
        answers = pick ans (answer w.number (nearest 0 us) w.attempt (nearest_attempt 0 us) (run w.fragment cells []).outcome ∷ []) [];
        settles = pick joins [] (w.number ∷ []);
      }
      p = placed_by us w (run w.fragment cells []) ans joins is_ans is_joins

      st : cells' ≡ (run w.fragment cells []).cells
      st = facts.stands ∙ ap (λ (x : Fragment). (run x cells []).cells) is_fragment

      none : (l : List Uncommitted) → joins_queue (length l) (multi w.fragment) ≡ false → l ≡ []
      none [] h = refl
      none (u ∷ l) h = absurd (true≢false (sym (ap (λ (b : Bool). not b || multi w.fragment) (ne_eqb (suc (length l)) 0 (λ e. omega arith))) ∙ h))

      work_at : (us' : List Uncommitted) (as' : List Answer) (gone' : List Waiting) → (placed us w (run w.fragment cells [])).uncommitted ≡ us' → (placed us w (run w.fragment cells [])).answers ≡ as'
          → Work live runs' undo' room' c' gone' us' ws (sent ++ as') came
          → Left live runs' undo' room' c' cells' sent came
          (record { cells = (run w.fragment cells []).cells; uncommitted = (placed us w (run w.fragment cells [])).uncommitted; waiting = ws; answers = (placed us w (run w.fragment cells [])).answers; settles = (placed us w (run w.fragment cells [])).settles })
      work_at us' as' gone' eu ea k = record {
        gone = gone';
        work = subst₂ (λ (x : List Uncommitted) (y : List Answer). Work live runs' undo' room' c' gone' x ws (sent ++ y) came) (sym eu) (sym ea) k;
        stands = st;
      }

      go : (b : Bool) → joins ≡ b → Left live runs' undo' room' c' cells' sent came
          (record { cells = (run w.fragment cells []).cells; uncommitted = (placed us w (run w.fragment cells [])).uncommitted; waiting = ws; answers = (placed us w (run w.fragment cells [])).answers; settles = (placed us w (run w.fragment cells [])).settles })
      go true j = work_at _ _ gone (ap (λ (x : Place). x.uncommitted) p ∙ ap (λ (b : Bool). pick b (us ++ (v ∷ [])) us) j) (ap (λ (x : Place). x.answers) p) (joins_work j)
      go false j = work_at _ _ (gone ++ (w ∷ [])) (ap (λ (x : Place). x.uncommitted) p ∙ ap (λ (b : Bool). pick b (us ++ (v ∷ [])) us) j) (ap (λ (x : Place). x.answers) p) (settles_work (none us (sym is_joins ∙ j)) j)

-- the same by where it was placed and what was done with its answer
pub took_by : (live runs undo room : List ℕ) (cells : Cells) (c : Course) (own : Trial) (f : Fragment) (r : Ran) (p : Placement) (sent : Bool) (runs' undo' room' : List ℕ) (cells' : Cells) (c' : Course)
    → own ≡ trial_at live (live_width * (c.first + c.counts.uncommitted)) → f ≡ fragment_at live (live_width * (c.first + c.counts.uncommitted)) → r ≡ laid (run f cells []) → cells' ≡ (run f cells []).cells
    → p ≡ placement_row live (live_width * c.first) c.counts.uncommitted f
    → (sent ≡ answered_now c.counts.uncommitted (multi f) (one_rows live (live_width * c.first) c.counts.uncommitted f.coordinator))
    × (room' ≡ pick sent (with_answer c.answers own (trial_or_none (nearest_rows None live (live_width * c.first) c.counts.uncommitted)) r room) room)
    → runs' ≡ pick p.joins (sets runs (run_width * c.counts.uncommitted) (begun_row (not sent) (last f) r)) runs
    → undo' ≡ pick p.joins (sets undo (2 * c.entries) (numbers_from r.undo 0 (2 * r.entries))) undo
    → c' ≡ pick p.joins (joined_by (with_answers (pick sent (c.answers + 1) c.answers) c) r) (settled_at_once (with_answers (pick sent (c.answers + 1) c.answers) c))
    → Small c → Took live runs undo room cells c runs' undo' room' cells' c'
took_by live runs undo room cells c own f r p sent runs' undo' room' cells' c' en ef er es ep told eruns eundo ec small =
    take_first_left live runs undo room cells c own f r (multi f) (last f) (one_rows live (live_width * c.first) c.counts.uncommitted f.coordinator) sent p.joins
    (trial_or_none (nearest_rows None live (live_width * c.first) c.counts.uncommitted)) (pick sent (c.answers + 1) c.answers) runs' undo' room' cells' c'
    (record {
      tried = en;
      fragment = ef;
      ran = er;
      stands = es;
      multi = refl;
      last = refl;
      is_one = refl;
      is_near = λ h. near_rows_by live (live_width * c.first) c.counts.uncommitted None;
      is_ans = told.0;
      is_joins = ap (λ (x : Placement). x.joins) ep;
      count = refl;
      is_room = told.1;
      is_runs = eruns;
      is_undo = eundo;
      counts = ec;
    }) small
