-- Settling, in plain terms: the front leaves, singles settle behind it until a multi is first, and then the rows of all of them go at once.
use Prim.Native.Nat.{ℕ, ◌+◌, ◌*◌, ◌-◌, ◌%◌, min, ◌≤◌, ◌<◌}
use native.Mathlib.Omega.{arith}
use mathlib.Core.Path.{◌≡◌, refl, sym, ap, ◌∙◌, subst, subst₂}
use mathlib.Core.Bool.{Bool, true, false, not, true≢false}
use mathlib.Core.Logic.{◌⊎◌, inl, inr}
use mathlib.Core.List.{List, [], ◌∷◌, ◌++◌, append_assoc, append-nil, map}
use lib.Dec.{eqb}
use lib.ListN.{length, get_or, replicate, length-append, length-map, get_or-append}
use lib.Seq.{sets, get_or-append-add}
use Rattle.model.specs.Limits.{answer_words}
use Rattle.model.specs.Operations.{Outcome, pick, multi}
use Rattle.model.specs.Transactions.{Reply, Held, Sent, NoReply, Uncommitted, Waiting, Answer, answer, undo_list, filled, front}
use Rattle.model.specs.Steps.{held_by, sent, Place, released, settled}
use Rattle.model.proofs.Chain.{all_map, all_left, all_right}
use Rattle.operations.specs.Laid.{padded, flat}
use Rattle.operations.proofs.Turns.{length-padded}
use Rattle.record.specs.Words.{row_words, all_rows, state_word, reply_word, held_outcome, outcome_words, run_words, all_runs, row_of, live_rows, over}
use Rattle.record.specs.View.{multi_at, numbers_from, shifted}
use Rattle.record.proofs.Rows.{relay_over, shift_over, cleared_zero, length-cleared, numbers_same, numbers_whole}
use Rattle.record.proofs.Back.{row_read, length_run, length_runs, runs_append, run_read, length-flat, flat_append, undo_append}
use Rattle.engine.specs.declared.course.Course.{Course}
use Rattle.engine.specs.Work.{held_under, Ground, runs_ground, undo_ground, Within, Work, Fair, stood, Standing, SettledOne, SettledTo, Singles, Fronted, Committed, left_by, with_answers}
use Rattle.rows.specs.declared.Trial.{Trial}
use Rattle.rows.specs.Rows.{trial_at, no_trial, holds_row, held_row, sent_row, run_row}
use Rattle.rows.proofs.Reading.{trial_of, trial_back}
use Rattle.rows.proofs.Rooms.{answer_row_lem, room_more}
use Rattle.model.specs.Parts.{All}
use Rattle.model.specs.Refusals.{is_reply}
use Rattle.record.specs.Fitting.{Eight, Fit, Known}
use Rattle.record.specs.Widths.{live_width, run_width, entry_width, runs_length, undo_length}

run_word_2 : (u : Uncommitted) → get_or (run_words u) 2 0 ≡ reply_word u.reply
unfolding run_words
run_word_2 u = refl

run_word_3 : (u : Uncommitted) → get_or (run_words u) 3 0 ≡ length u.undo
unfolding run_words
run_word_3 u = refl

sent_words : (u : Uncommitted) → run_row (get_or (run_words u) 0 0) (get_or (run_words u) 1 0) 0 (get_or (run_words u) 3 0) 0 0 (replicate 8 0) ≡ run_words (sent u)
unfolding run_words padded
sent_words u = refl

-- Rows that runs and entries are laid over

pub long_runs : (came : Ground) → length (runs_ground came) ≡ runs_length
long_runs came = length-cleared (run_width * came.uncommitted) came.runs (omega (arith, came.few, came.long_runs)) ∙ came.long_runs

pub long_undo : (came : Ground) → length (undo_ground came) ≡ undo_length
long_undo came = length-cleared (entry_width * came.entries) came.undo (omega (arith, came.few_entries, came.long_undo)) ∙ came.long_undo

-- the first runs shifted out, and the first entries
pub shift_runs : (came : Ground) (a b : List ℕ) (k n : ℕ) → length a ≡ k → length (a ++ b) ≡ run_width * n → n ≤ came.uncommitted → shifted (over (runs_ground came) (a ++ b)) k (run_width * n) ≡ over (runs_ground came) b
shift_runs came a b k n ea eb h =
    shift_over (runs_ground came) a b k (run_width * n) ea eb (omega (arith, long_runs came, came.few, h)) (λ x hx. cleared_zero (run_width * came.uncommitted) came.runs x (omega (arith, h)))

pub shift_undo : (came : Ground) (a b : List ℕ) (k n : ℕ) → length a ≡ k → length (a ++ b) ≡ 2 * n → n ≤ came.entries → shifted (over (undo_ground came) (a ++ b)) k (2 * n) ≡ over (undo_ground came) b
shift_undo came a b k n ea eb h =
    shift_over (undo_ground came) a b k (2 * n) ea eb (omega (arith, long_undo came, came.few_entries, h)) (λ x hx. cleared_zero (entry_width * came.entries) came.undo x (omega (arith, h)))

-- The one behind P in the rows

pub live_split : (P : List Uncommitted) (u : Uncommitted) (us : List Uncommitted) (ws : List Waiting) → live_rows (P ++ u ∷ us) ws ≡ map row_of P ++ (row_of u ∷ live_rows us ws)
live_split [] u us ws = refl
live_split (p ∷ P) u us ws = ap {B = List Waiting} (λ (l : List Waiting). row_of p ∷ l) (live_split P u us ws)

module _ (live runs undo room : List ℕ) (c : Course) (gone : List Waiting) (P : List Uncommitted) (u : Uncommitted) (us : List Uncommitted) (ws : List Waiting) (sent' : List Answer) (came : Ground)
    (w : Work live runs undo room c gone (P ++ u ∷ us) ws sent' came) (i : ℕ) (ei : length P ≡ i) where
  abbrev ahead : List Waiting
  ahead = gone ++ map row_of P

  rows : gone ++ live_rows (P ++ u ∷ us) ws ≡ ahead ++ (row_of u ∷ live_rows us ws)
  rows = ap (λ (l : List Waiting). gone ++ l) (live_split P u us ws) ∙ sym (append_assoc gone (map row_of P) (row_of u ∷ live_rows us ws))

  eights : All Eight (ahead ++ (row_of u ∷ live_rows us ws))
  eights = subst (All Eight) rows w.eights

  place : live_width * length ahead ≡ live_width * (c.first + i)
  place = ap (λ (x : ℕ). live_width * x) (omega (arith, length-append gone (map row_of P), length-map P row_of, w.first, ei))

  at_live : live ≡ over came.live (all_rows (ahead ++ (row_of u ∷ live_rows us ws)))
  at_live = w.at_live ∙ ap (λ (x : List Waiting). over came.live (all_rows x)) rows

  word : (j : ℕ) → j < live_width → get_or live (live_width * (c.first + i) + j) 0 ≡ get_or (row_words u.number u.attempt u.first) j 0
  word j h = ap (λ (l : List ℕ). get_or l (live_width * (c.first + i) + j) 0) at_live ∙ row_read came.live ahead (row_of u) (live_rows us ws) (live_width * (c.first + i)) (all_left Eight ahead _ eights) (all_right Eight ahead _ eights).0 place j h

  pub trial_there : trial_at live (live_width * (c.first + i)) ≡ trial_of (row_of u)
  trial_there = ap (λ (l : List ℕ). trial_at l (live_width * (c.first + i))) at_live ∙ trial_back came.live ahead (row_of u) (live_rows us ws) (live_width * (c.first + i)) (all_left Eight ahead _ eights) (all_right Eight ahead _ eights).0 place

  pub multi_at_lem : multi_at live (live_width * (c.first + i)) ≡ multi u.first
  unfolding row_words multi
  multi_at_lem = ap (λ (x : ℕ). eqb (x % 2) 1) (word 1 (omega arith))

  pub coordinator_at : get_or live (live_width * (c.first + i) + 2) 0 ≡ u.first.coordinator
  unfolding row_words
  coordinator_at = word 2 (omega arith)

-- What a run holds: that of the one behind P, whose words start at b

module _ (P : List Uncommitted) (u : Uncommitted) (us : List Uncommitted) (runs : List ℕ) (b : ℕ) (fp : All Fit P) (k : Known u) (eb : run_width * length P ≡ b) (row : List ℕ) (e : runs ≡ over row (all_runs (P ++ u ∷ us))) where
  pub run_word : (j : ℕ) → j < run_width → get_or runs (b + j) 0 ≡ get_or (run_words u) j 0
  run_word j h = ap (λ (l : List ℕ). get_or l (b + j) 0) e ∙ run_read row P u us b j fp k.0 eb h

  held_words : numbers_from runs (b + 4) 10 ≡ outcome_words (held_outcome u.reply)
  unfolding run_words
  held_words =
      let o : Outcome = held_outcome u.reply in
      let lo : length (outcome_words o) ≡ 10 = omega (arith, length-padded 8 o.numbers k.0) in
      numbers_same runs (outcome_words o) (b + 4) 0 10
      (λ j h. (let z : b + 4 + j ≡ b + (4 + j) = omega arith in ap (λ (x : ℕ). get_or runs x 0) z) ∙ run_word (4 + j) (omega arith)
      ∙ get_or-append-add (u.ran ∷ state_word u.state ∷ reply_word u.reply ∷ length u.undo ∷ []) (outcome_words o ++ (0 ∷ 0 ∷ [])) j 0
      ∙ get_or-append (outcome_words o) (0 ∷ 0 ∷ []) 0 j (omega arith) ∙ (let z : j ≡ 0 + j = omega arith in ap (λ (x : ℕ). get_or (outcome_words o) x 0) z))
      ∙ ap (numbers_from (outcome_words o) 0) (sym lo) ∙ numbers_whole (outcome_words o)

  pub holds_word : holds_row runs b ≡ eqb (reply_word u.reply) 1
  holds_word = ap (λ (x : ℕ). eqb x 1) (run_word 2 (omega arith) ∙ run_word_2 u)

  -- the room after what it holds was sent with a dependence
  pub held_room : (d : Trial) (sent : List Answer) (room room' room₀ : List ℕ) (a : ℕ) (t : Trial) → t ≡ trial_of (row_of u) → room ≡ filled sent room₀ → length sent ≡ a → answer_words * (a + 1) ≤ length room₀
      → room' ≡ pick (holds_row runs b) (sets room (answer_words * a) (held_row runs b t d)) room → room' ≡ filled (sent ++ held_under d u) room₀
  held_room d sent room room' room₀ a t en er el h h' = h' ∙ ap (λ (z : Bool). pick z (sets room (answer_words * a) (held_row runs b t d)) room) holds_word ∙ go u.reply refl
    where
      go : (r : Reply) → u.reply ≡ r → pick (eqb (reply_word r) 1) (sets room (answer_words * a) (held_row runs b t d)) room ≡ filled (sent ++ elim r as (λ _. List Answer) [ Held o ↦ answer u.number d.number u.attempt d.attempt o ∷ [] | Sent ↦ [] | NoReply ↦ [] ]) room₀
      go (Held o) q =
          (λ i. sets (er i) (answer_words * a) ((en i).number ∷ d.number ∷ (held_words ∙ ap (λ (r : Reply). outcome_words (held_outcome r)) q) i ++ ((en i).attempt ∷ d.attempt ∷ 0 ∷ 0 ∷ [])))
          ∙ ap (sets (filled sent room₀) (answer_words * a)) (answer_row_lem (trial_of (row_of u)) d o (subst (λ (r : Reply). length (held_outcome r).numbers ≤ 8) q k.0))
          ∙ room_more sent (answer u.number d.number u.attempt d.attempt o) room₀ a el h
      go Sent q = er ∙ ap (λ (l : List Answer). filled l room₀) (sym (append-nil sent))
      go NoReply q = er ∙ ap (λ (l : List Answer). filled l room₀) (sym (append-nil sent))

  pub held_count : (d : Trial) (sent : List Answer) (a a' : ℕ) → length sent ≡ a → a' ≡ pick (holds_row runs b) (a + 1) a → length (sent ++ held_under d u) ≡ a'
  held_count d sent a a' el ea = go u.reply ∙ sym (ea ∙ ap (λ (z : Bool). pick z (a + 1) a) holds_word)
    where
      go : (r : Reply) → length (sent ++ elim r as (λ _. List Answer) [ Held o ↦ answer u.number d.number u.attempt d.attempt o ∷ [] | Sent ↦ [] | NoReply ↦ [] ]) ≡ pick (eqb (reply_word r) 1) (a + 1) a
      go (Held o) = length-append sent (answer u.number d.number u.attempt d.attempt o ∷ []) ∙ ap (λ (x : ℕ). x + 1) el
      go Sent = ap length (append-nil sent) ∙ el
      go NoReply = ap length (append-nil sent) ∙ el

  -- one that holds nothing has sent it
  pub not_held : (d : Trial) → holds_row runs b ≡ false → (sent u ≡ u) × (held_under d u ≡ [])
  not_held d h = go u.reply refl k.2 (sym holds_word ∙ h)
    where
      go : (r : Reply) → u.reply ≡ r → is_reply r ≡ true → eqb (reply_word r) 1 ≡ false → (sent u ≡ u) × ◌≡◌ {A = List Answer} (elim r as (λ _. List Answer) [ Held o ↦ answer u.number d.number u.attempt d.attempt o ∷ [] | Sent ↦ [] | NoReply ↦ [] ]) []
      go (Held o) q r z = absurd (true≢false z)
      go Sent q r z = ((λ i. record { number = u.number; attempt = u.attempt; first = u.first; ran = u.ran; state = u.state; reply = sym q i; undo = u.undo }), refl)
      go NoReply q r z = absurd (true≢false (sym r))

  -- another run laid over its own
  pub run_over : (v : Uncommitted) (w runs' : List ℕ) → Fit v → w ≡ run_words v → runs' ≡ sets runs b w → runs' ≡ over row (all_runs (P ++ v ∷ us))
  unfolding all_runs
  run_over v w runs' fit ew h =
      h ∙ (λ i. sets ((e ∙ ap (over row) (runs_append P (u ∷ us))) i) b (ew i)) ∙ relay_over row (all_runs P) (run_words u) (all_runs us) (run_words v) b (length_runs P fp ∙ eb) (length_run u k.0 ∙ sym (length_run v fit))
      ∙ ap (over row) (sym (runs_append P (v ∷ us)))

  -- its run once its answer is sent
  pub sent_runs : (runs' : List ℕ) → runs' ≡ sets runs b (sent_row runs b) → runs' ≡ over row (all_runs (P ++ sent u ∷ us))
  sent_runs runs' h =
      let zero_word : get_or runs b 0 ≡ get_or (run_words u) 0 0 = (let z : b ≡ b + 0 = omega arith in ap (λ (x : ℕ). get_or runs x 0) z) ∙ run_word 0 (omega arith) in
      run_over (sent u) (sent_row runs b) runs' (omega arith)
      ((λ i. run_row (zero_word i) (run_word 1 (omega arith) i) 0 (run_word 3 (omega arith) i) 0 0 (replicate 8 0)) ∙ sent_words u) h

settled_single : (u : Uncommitted) (us : List Uncommitted) → multi u.first ≡ false → settled (u ∷ us) ≡ record { uncommitted = (settled us).uncommitted; answers = held_by u ++ (settled us).answers; settles = u.number ∷ (settled us).settles }
unfolding settled
settled_single u us e =
    ap {B = Place} (λ (b : Bool). elim b [
      | true ↦ record { uncommitted = sent u ∷ (released (u ∷ []) us).uncommitted; answers = held_by u ++ (released (u ∷ []) us).answers; settles = [] }
      | false ↦ record { uncommitted = (settled us).uncommitted; answers = held_by u ++ (settled us).answers; settles = u.number ∷ (settled us).settles }
    ]) e

-- One settles: it leaves the queue, and what it held is in the room

undo_one : (P : List Uncommitted) (u : Uncommitted) (us : List Uncommitted) → (P ++ (u ∷ [])) ++ us ≡ P ++ u ∷ us
undo_one P u us = append_assoc P (u ∷ []) us

-- a course with the same counts holds the same rows
moved : (live runs undo room : List ℕ) (c d : Course) (gone : List Waiting) (us vs : List Uncommitted) (ws : List Waiting) (sent : List Answer) (came : Ground) → Work live runs undo room (stood c us) gone us ws sent came → us ≡ vs
    → d.counts.waiting ≡ c.counts.waiting → d.answers ≡ c.answers → Work live runs undo room (stood d vs) gone vs ws sent came
moved live runs undo room c d gone us vs ws sent came w e ew ea =
    subst (λ (l : List Uncommitted). Work live runs undo room (stood d l) gone l ws sent came) e
    (record {
      at_live = w.at_live;
      at_runs = w.at_runs;
      at_undo = w.at_undo;
      at_room = w.at_room;
      first = w.first;
      uncommitted = refl;
      waiting = w.waiting ∙ sym ew;
      entries = refl;
      answers = w.answers ∙ sym ea;
      eights = w.eights;
    })

-- the first of us leaves, with its own entries
pub leaves_standing : (live runs undo room : List ℕ) (c d : Course) (P : List Uncommitted) (u : Uncommitted) (us : List Uncommitted) (ws : List Waiting) (sent : List Answer) (came : Ground) (e : ℕ) → Standing live runs undo room c P (u ∷ us) ws sent came
    → e ≡ min (get_or runs (run_width * c.first + 3) 0) c.entries → d ≡ left_by c e → Standing live runs undo room d (P ++ (u ∷ [])) us ws sent came
leaves_standing live runs undo room c d P u us ws sent came e s ee ed =
    let fits : All Fit (P ++ u ∷ us) = all_map Known Fit (λ v h. h.0) (P ++ u ∷ us) s.known in
    let own : get_or runs (run_width * c.first + 3) 0 ≡ length u.undo =
    run_word P u us runs (run_width * c.first) (all_left Fit P (u ∷ us) fits) (all_right Known P (u ∷ us) s.known).0 (ap (λ (x : ℕ). run_width * x) s.first) (runs_ground came) s.work.at_runs 3 (omega arith) ∙ run_word_3 u in
    let total : length (u.undo ++ undo_list us) ≡ length u.undo + length (undo_list us) = length-append u.undo (undo_list us) in
    let d1 : d.first ≡ c.first + 1 = ap (λ (x : Course). x.first) ed in
    let d2 : d.counts.uncommitted ≡ c.counts.uncommitted - 1 = ap (λ (x : Course). x.counts.uncommitted) ed in
    let d3 : d.entries ≡ c.entries - e = ap (λ (x : Course). x.entries) ed in
    record {
      work = moved live runs undo room c d [] (P ++ u ∷ us) ((P ++ (u ∷ [])) ++ us) ws sent came s.work (sym (undo_one P u us)) (ap (λ (x : Course). x.counts.waiting) ed) (ap (λ (x : Course). x.answers) ed);
      first = length-append P (u ∷ []) ∙ omega (arith, s.first, d1);
      uncommitted = omega (arith, s.uncommitted, d2);
      entries = omega (arith, s.entries, total, own, ee, d3);
      known = subst (All Known) (sym (undo_one P u us)) s.known;
    }

module _ (live runs room room' : List ℕ) (c d c' : Course) (own : Trial) (e a : ℕ) (fair : Fair c) (some : 0 < c.counts.uncommitted)
    (en : own ≡ trial_at live (live_width * c.first)) (ea : a ≡ pick (holds_row runs (run_width * c.first)) (c.answers + 1) c.answers)
    (er : room' ≡ pick (holds_row runs (run_width * c.first)) (sets room (answer_words * c.answers) (held_row runs (run_width * c.first) own no_trial)) room)
    (ee : e ≡ min (get_or runs (run_width * c.first + 3) 0) c.entries) (ed : d ≡ left_by c e) (ec : c' ≡ with_answers a d) where
  pub settled_one : SettledOne live runs room c room' c'
  settled_one undo P u us ws sent came s =
      let x = leaves_standing live runs undo room c d P u us ws sent came e s ee ed in
      let w = s.work in
      let fits : All Fit P = all_map Known Fit (λ v h. h.0) P (all_left Known P (u ∷ us) s.known) in
      let ku : Known u = (all_right Known P (u ∷ us) s.known).0 in
      let b : run_width * length P ≡ run_width * c.first = ap (λ (y : ℕ). run_width * y) s.first in
      let z : live_width * c.first ≡ live_width * (0 + c.first) = omega arith in
      let tr : own ≡ trial_of (row_of u) = en ∙ ap (trial_at live) z ∙ trial_there live runs undo room (stood c (P ++ u ∷ us)) [] P u us ws sent came w c.first s.first in
      record {
        work = record {
          at_live = x.work.at_live;
          at_runs = x.work.at_runs;
          at_undo = x.work.at_undo;
          at_room = held_room P u us runs (run_width * c.first) fits ku b (runs_ground came) w.at_runs no_trial sent room room' came.room c.answers own tr w.at_room w.answers (omega (arith, came.enough, fair.answers, some)) er;
          first = refl;
          uncommitted = refl;
          waiting = x.work.waiting ∙ sym (ap (λ (y : Course). y.counts.waiting) ec);
          entries = refl;
          answers = held_count P u us runs (run_width * c.first) fits ku b (runs_ground came) w.at_runs no_trial sent c.answers a w.answers ea ∙ sym (ap (λ (y : Course). y.answers) ec);
          eights = x.work.eights;
        };
        first = x.first ∙ sym (ap (λ (y : Course). y.first) ec);
        uncommitted = x.uncommitted ∙ sym (ap (λ (y : Course). y.counts.uncommitted) ec);
        entries = x.entries ∙ sym (ap (λ (y : Course). y.entries) ec);
        known = x.known;
      }

  pub settled_fair : Fair c' × ((c'.counts.uncommitted + 1 ≡ c.counts.uncommitted) × (c'.entries ≤ c.entries))
  settled_fair = go (holds_row runs (run_width * c.first)) ea
    where
      under : (b : Bool) → a ≡ pick b (c.answers + 1) c.answers → a ≤ c.answers + 1
      under true h = omega arith
      under false h = omega arith

      go : (b : Bool) → a ≡ pick b (c.answers + 1) c.answers → Fair c' × ((c'.counts.uncommitted + 1 ≡ c.counts.uncommitted) × (c'.entries ≤ c.entries))
      go b h =
          let less : a ≤ c.answers + 1 = under b h in
          let all : c' ≡ with_answers a (left_by c e) = ec ∙ ap (with_answers a) ed in
          let h1 : c'.first ≡ c.first + 1 = ap (λ (y : Course). y.first) all in
          let h2 : c'.counts.uncommitted ≡ c.counts.uncommitted - 1 = ap (λ (y : Course). y.counts.uncommitted) all in
          let h3 : c'.counts.waiting ≡ c.counts.waiting = ap (λ (y : Course). y.counts.waiting) all in
          let h4 : c'.entries ≡ c.entries - e = ap (λ (y : Course). y.entries) all in
          let h5 : c'.answers ≡ a = ap (λ (y : Course). y.answers) all in
          (record { live = omega (arith, fair.live); answers = omega (arith, fair.answers); depth = omega (arith, fair.depth); entries = omega (arith, fair.entries) }, (omega arith, omega arith))

pub left_fair : (c d : Course) (e : ℕ) → Fair c → 0 < c.counts.uncommitted → d ≡ left_by c e → Fair d
left_fair c d e fair some ed =
    let h1 : d.first ≡ c.first + 1 = ap (λ (y : Course). y.first) ed in
    let h2 : d.counts.uncommitted ≡ c.counts.uncommitted - 1 = ap (λ (y : Course). y.counts.uncommitted) ed in
    let h3 : d.counts.waiting ≡ c.counts.waiting = ap (λ (y : Course). y.counts.waiting) ed in
    let h4 : d.entries ≡ c.entries - e = ap (λ (y : Course). y.entries) ed in
    let h5 : d.answers ≡ c.answers = ap (λ (y : Course). y.answers) ed in
    record { live = omega (arith, fair.live); answers = omega (arith, fair.answers); depth = omega (arith, fair.depth); entries = omega (arith, fair.entries) }

-- Singles settle until a multi is first

-- is the row of the first that is left a multi's
front_row : (live runs undo room : List ℕ) (c : Course) (P : List Uncommitted) (u : Uncommitted) (us : List Uncommitted) (ws : List Waiting) (sent : List Answer) (came : Ground) → Standing live runs undo room c P (u ∷ us) ws sent came
    → multi_at live (live_width * c.first) ≡ multi u.first
front_row live runs undo room c P u us ws sent came s =
    let z : live_width * c.first ≡ live_width * (0 + c.first) = omega arith in
    ap (multi_at live) z ∙ multi_at_lem live runs undo room (stood c (P ++ u ∷ us)) [] P u us ws sent came s.work c.first s.first

-- what the loop keeps
abbrev pub Midway : List ℕ → List ℕ → List ℕ → Course → List ℕ → Course → Type 0
Midway live runs room c room' c' =
    (undo : List ℕ) (P us : List Uncommitted) (ws : List Waiting) (sent : List Answer) (came : Ground) → Standing live runs undo room c P us ws sent came → SettledTo live runs undo room' c' P us ws sent came

pub midway_start : (live runs room : List ℕ) (c : Course) → Midway live runs room c room c
midway_start live runs room c undo P us ws sent came s =
    record { settled_ones = []; left = us; more = []; names = []; split = refl; standing = subst₂ (λ (x : List Uncommitted) (y : List Answer). Standing live runs undo room c x us ws y came) (sym (append-nil P)) (sym (append-nil sent)) s; rest = refl }

module _ (live runs room₀ room : List ℕ) (c₀ c : Course) (mid : Midway live runs room₀ c₀ room c) where
  pub midway_turn : 0 < c.counts.uncommitted → multi_at live (live_width * c.first) ≡ false → (room' : List ℕ) (c' : Course) → SettledOne live runs room c room' c' → Midway live runs room₀ c₀ room' c'
  midway_turn some single room' c' one undo P us ws sent came s = let m = mid undo P us ws sent came s in go m.left m refl
    where
      go : (l : List Uncommitted) (m : SettledTo live runs undo room c P us ws sent came) → m.left ≡ l → SettledTo live runs undo room' c' P us ws sent came
      go [] m e = absurd (omega (arith, m.standing.uncommitted, ap length e))
      go (u ∷ l) m e =
          let st : Standing live runs undo room c (P ++ m.settled_ones) (u ∷ l) ws (sent ++ m.more) came = subst (λ (x : List Uncommitted). Standing live runs undo room c (P ++ m.settled_ones) x ws (sent ++ m.more) came) e m.standing in
          let sg : multi u.first ≡ false = sym (front_row live runs undo room c (P ++ m.settled_ones) u l ws (sent ++ m.more) came st) ∙ single in
          record {
            settled_ones = m.settled_ones ++ (u ∷ []);
            left = l;
            more = m.more ++ held_by u;
            names = m.names ++ (u.number ∷ []);
            split = m.split ∙ ap (λ (x : List Uncommitted). m.settled_ones ++ x) e ∙ sym (append_assoc m.settled_ones (u ∷ []) l);
            standing = subst₂ (λ (x : List Uncommitted) (y : List Answer). Standing live runs undo room' c' x l ws y came) (append_assoc P m.settled_ones (u ∷ [])) (append_assoc sent m.more (held_by u))
                (one undo (P ++ m.settled_ones) u l ws (sent ++ m.more) came st);
            rest = m.rest ∙ ap (λ (x : List Uncommitted). record { uncommitted = (settled x).uncommitted; answers = m.more ++ (settled x).answers; settles = m.names ++ (settled x).settles }) e
                ∙ ap {B = Place} (λ (p : Place). record { uncommitted = p.uncommitted; answers = m.more ++ p.answers; settles = m.names ++ p.settles }) (settled_single u l sg)
                ∙ (λ i. record { uncommitted = (settled l).uncommitted; answers = sym (append_assoc m.more (held_by u) (settled l).answers) i; settles = sym (append_assoc m.names (u.number ∷ []) (settled l).settles) i });
          }

  pub midway_end : (c.counts.uncommitted ≡ 0) ⊎ (multi_at live (live_width * c.first) ≡ true) → Singles live runs room₀ c₀ room c
  midway_end stop undo P us ws sent came s = let m = mid undo P us ws sent came s in (m, by m.settled_ones m.left m.standing stop)
    where
      by : (x l : List Uncommitted) {told : List Answer} → Standing live runs undo room c (P ++ x) l ws told came → (c.counts.uncommitted ≡ 0) ⊎ (multi_at live (live_width * c.first) ≡ true) → front (λ (u : Uncommitted). not (multi u.first)) l ≡ false
      by x [] s z = refl
      by x (u ∷ l) s (inl z) = absurd (omega (arith, s.uncommitted, z))
      by x (u ∷ l) {told = told} s (inr z) = ap not (sym (front_row live runs undo room c (P ++ x) u l ws told came s) ∙ z)

-- The rows of those that settled are shifted out at once

-- what stands of a row that holds them, shifted
pub standing_left : (live runs undo room runs' undo' : List ℕ) (c d : Course) (P us : List Uncommitted) (ws : List Waiting) (sent : List Answer) (came : Ground) → Standing live runs undo room d P us ws sent came → Within came c
    → length (P ++ us) ≡ c.counts.uncommitted → length (undo_list (P ++ us)) ≡ c.entries
    → runs' ≡ shifted runs (run_width * d.first) (run_width * c.counts.uncommitted) → undo' ≡ shifted undo (2 * (c.entries - d.entries)) (2 * c.entries) → Work live runs' undo' room d (map row_of P) us ws sent came
standing_left live runs undo room runs' undo' c d P us ws sent came s within eu ee er ed =
    let w = s.work in
    let fits : All Fit (P ++ us) = all_map Known Fit (λ v h. h.0) (P ++ us) s.known in
    let rows : live_rows (P ++ us) ws ≡ map row_of P ++ live_rows us ws = ap (λ (l : List Waiting). l ++ ws) (mathlib.Core.List.map-append row_of P us) ∙ append_assoc (map row_of P) (map row_of us) ws in
    let lp : length (all_runs P) ≡ run_width * d.first = length_runs P (all_left Fit P us fits) ∙ ap (λ (x : ℕ). run_width * x) s.first in
    let la : length (all_runs P ++ all_runs us) ≡ run_width * c.counts.uncommitted = ap length (sym (runs_append P us)) ∙ length_runs (P ++ us) fits ∙ ap (λ (x : ℕ). run_width * x) eu in
    let flat-is : flat (undo_list (P ++ us)) ≡ flat (undo_list P) ++ flat (undo_list us) = ap flat (undo_append P us) ∙ flat_append (undo_list P) (undo_list us) in
    let total : c.entries ≡ length (undo_list P) + length (undo_list us) = sym ee ∙ ap length (undo_append P us) ∙ length-append (undo_list P) (undo_list us) in
    let lf : length (flat (undo_list P)) ≡ 2 * (c.entries - d.entries) = length-flat (undo_list P) ∙ omega (arith, total, s.entries) in
    let lg : length (flat (undo_list P) ++ flat (undo_list us)) ≡ 2 * c.entries = ap length (sym flat-is) ∙ length-flat (undo_list (P ++ us)) ∙ ap (λ (x : ℕ). 2 * x) ee in
    record {
      at_live = w.at_live ∙ ap (λ (x : List Waiting). over came.live (all_rows x)) rows;
      at_runs = er ∙ ap (λ (x : List ℕ). shifted x (run_width * d.first) (run_width * c.counts.uncommitted)) (w.at_runs ∙ ap (over (runs_ground came)) (runs_append P us))
          ∙ shift_runs came (all_runs P) (all_runs us) (run_width * d.first) c.counts.uncommitted lp la within.0;
      at_undo = ed ∙ ap (λ (x : List ℕ). shifted x (2 * (c.entries - d.entries)) (2 * c.entries)) (w.at_undo ∙ ap (over (undo_ground came)) flat-is)
          ∙ shift_undo came (flat (undo_list P)) (flat (undo_list us)) (2 * (c.entries - d.entries)) c.entries lf lg within.1;
      at_room = w.at_room;
      first = length-map P row_of ∙ s.first;
      uncommitted = s.uncommitted;
      waiting = w.waiting;
      entries = s.entries;
      answers = w.answers;
      eights = subst (All Eight) rows w.eights;
    }

-- a commit put together: the front leaves, singles settle, their rows go, and the new front is answered
pub committed_all : (live runs undo room room₁ runs₂ undo₂ runs₃ room₃ : List ℕ) (c c₁ c₂ c₃ : Course) (e : ℕ) → c.first ≡ 0 → e ≡ min (get_or runs (run_width * 0 + 3) 0) c.entries → c₁ ≡ left_by c e → Singles live runs room c₁ room₁ c₂
    → runs₂ ≡ shifted runs (run_width * c₂.first) (run_width * c.counts.uncommitted) → undo₂ ≡ shifted undo (2 * (c.entries - c₂.entries)) (2 * c.entries) → Fronted live runs₂ room₁ c₂ runs₃ room₃ c₃ → Committed live runs undo room c runs₃ undo₂ room₃ c₃
committed_all live runs undo room room₁ runs₂ undo₂ runs₃ room₃ c c₁ c₂ c₃ e ez ee ec singles er ed fronted u us ws sent came w k within =
    let s₀ : Standing live runs undo room c [] (u ∷ us) ws sent came = record {
      work = record {
        at_live = w.at_live;
        at_runs = w.at_runs;
        at_undo = w.at_undo;
        at_room = w.at_room;
        first = refl;
        uncommitted = refl;
        waiting = w.waiting;
        entries = refl;
        answers = w.answers;
        eights = w.eights;
      };
      first = sym ez;
      uncommitted = w.uncommitted;
      entries = w.entries;
      known = k;
    } in
    let s₁ : Standing live runs undo room c₁ (u ∷ []) us ws sent came = leaves_standing live runs undo room c c₁ [] u us ws sent came e s₀ (ee ∙ ap (λ (x : ℕ). min (get_or runs (run_width * x + 3) 0) c.entries) (sym ez)) ec in
    let both = singles undo (u ∷ []) us ws sent came s₁ in
    let m = both.0 in
    let whole : (u ∷ []) ++ m.settled_ones ++ m.left ≡ u ∷ us = ap {B = List Uncommitted} (λ (x : List Uncommitted). u ∷ x) (sym m.split) in
    let left : Work live runs₂ undo₂ room₁ c₂ (map row_of ((u ∷ []) ++ m.settled_ones)) m.left ws (sent ++ m.more) came =
    standing_left live runs undo room₁ runs₂ undo₂ c c₂ ((u ∷ []) ++ m.settled_ones) m.left ws (sent ++ m.more) came m.standing within (ap length whole ∙ w.uncommitted) (ap (λ (x : List Uncommitted). length (undo_list x)) whole ∙ w.entries) er ed in
    let kn : All Known m.left = all_right Known ((u ∷ []) ++ m.settled_ones) m.left m.standing.known in (
      map row_of ((u ∷ []) ++ m.settled_ones),
      subst (λ (p : Place). Work live runs₃ undo₂ room₃ c₃ (map row_of ((u ∷ []) ++ m.settled_ones)) p.uncommitted ws (sent ++ p.answers) came) (sym m.rest)
          (subst (λ (x : List Answer). Work live runs₃ undo₂ room₃ c₃ (map row_of ((u ∷ []) ++ m.settled_ones)) (settled m.left).uncommitted ws x came) (append_assoc sent m.more (settled m.left).answers)
          (fronted undo₂ (map row_of ((u ∷ []) ++ m.settled_ones)) m.left ws (sent ++ m.more) came left kn both.1)),
    )
