-- The new front is answered and what may be is released behind it (02, L6): the loop over the rows, and the walk over the list.
use Prim.Native.Nat.{ℕ, ◌+◌, ◌*◌, ◌≤◌, ◌<◌}
use native.Mathlib.Omega.{arith}
use borrow.Author.Tests.{not-false, eq-eqb}
use mathlib.Core.Path.{◌≡◌, refl, sym, ap, ◌∙◌, subst}
use mathlib.Core.Bool.{Bool, true, false, true≢false}
use mathlib.Core.Logic.{◌⊎◌, inl, inr}
use mathlib.Core.List.{List, [], ◌∷◌, ◌++◌, append_assoc, append-nil}
use lib.Dec.{eqb}
use lib.ListN.{length, get_or, length-append}
use lib.Seq.{sets}
use Rattle.model.specs.Limits.{answer_words}
use Rattle.model.specs.Operations.{pick, multi}
use Rattle.model.specs.Transactions.{Uncommitted, Waiting, Answer, undo_list}
use Rattle.model.specs.Steps.{held_by, sent, Place, settled}
use Rattle.model.specs.Parts.{All, released_from}
use Rattle.model.proofs.Chain.{all_map, all_left, all_right}
use Rattle.model.proofs.Releasing.{settled_front, from_single, from_same, from_other}
use Rattle.operations.specs.Laid.{flat}
use Rattle.record.specs.Words.{all_rows, row_of, live_rows, over}
use Rattle.engine.specs.declared.course.Course.{Course}
use Rattle.engine.specs.Work.{Ground, runs_ground, undo_ground, Work, held_under, ReleasedOne, Fronted, with_answers}
use Rattle.engine.proofs.Settling.{live_split, trial_there, multi_at_lem, coordinator_at, held_room, held_count, not_held, sent_runs}
use Rattle.rows.specs.Rows.{trial_at, no_trial, holds_row, held_row, same_row, near_row, sent_row}
use Rattle.rows.specs.declared.Trial.{Trial}
use Rattle.rows.proofs.Reading.{trial_of}
use Rattle.record.specs.Fitting.{Eight, Fit, Known}
use Rattle.record.specs.View.{multi_at}
use Rattle.record.specs.Widths.{live_width, run_width}

sent_rows : (P : List Uncommitted) (u : Uncommitted) (us : List Uncommitted) (ws : List Waiting) → live_rows (P ++ sent u ∷ us) ws ≡ live_rows (P ++ u ∷ us) ws
sent_rows P u us ws = live_split P (sent u) us ws ∙ sym (live_split P u us ws)

sent_undo : (P : List Uncommitted) (u : Uncommitted) (us : List Uncommitted) → undo_list (P ++ sent u ∷ us) ≡ undo_list (P ++ u ∷ us)
sent_undo [] u us = refl
sent_undo (p ∷ P) u us = ap (λ (l : List Rattle.model.specs.declared.Undo.Undo). p.undo ++ l) (sent_undo P u us)

known_first : (P : List Uncommitted) (us : List Uncommitted) → All Known (P ++ us) → All Fit P
known_first P us h = all_map Known Fit (λ u k. k.0) P (all_left Known P us h)

known_sent : (P : List Uncommitted) (u : Uncommitted) (us : List Uncommitted) → All Known (P ++ u ∷ us) → All Known (P ++ sent u ∷ us)
known_sent [] u us h = ((omega arith, h.0.1, refl), h.1)
known_sent (p ∷ P) u us h = (h.0, known_sent P u us h.1)

module _ (live runs undo room : List ℕ) (c : Course) (gone : List Waiting) (P : List Uncommitted) (u : Uncommitted) (us : List Uncommitted) (ws : List Waiting) (sent' : List Answer) (came : Ground)
    (w : Work live runs undo room c gone (P ++ u ∷ us) ws sent' came) (i : ℕ) (ei : length P ≡ i) where
  -- it is sent what it holds
  module _ (k : All Known (P ++ u ∷ us)) (runs' room' : List ℕ) (c' : Course) (own near : Trial) (a : ℕ) (few : answer_words * (c.answers + 1) ≤ length came.room) (en : own ≡ trial_at live (live_width * (c.first + i)))
      (ea : a ≡ pick (holds_row runs (run_width * i)) (c.answers + 1) c.answers) (er : room' ≡ pick (holds_row runs (run_width * i)) (sets room (answer_words * c.answers) (held_row runs (run_width * i) own near)) room)
      (eu : runs' ≡ sets runs (run_width * i) (sent_row runs (run_width * i))) (ec : c' ≡ with_answers a c) where
    fp : All Fit P
    fp = known_first P (u ∷ us) k

    ku : Known u
    ku = (all_right Known P (u ∷ us) k).0

    pub sends : Work live runs' undo room' c' gone (P ++ sent u ∷ us) ws (sent' ++ held_under near u) came
    sends = record {
      at_live = w.at_live ∙ ap (λ (x : List Waiting). over came.live (all_rows (gone ++ x))) (sym (sent_rows P u us ws));
      at_runs = sent_runs P u us runs (run_width * i) fp ku (ap (λ (x : ℕ). run_width * x) ei) (runs_ground came) w.at_runs runs' eu;
      at_undo = w.at_undo ∙ ap (λ (x : List Rattle.model.specs.declared.Undo.Undo). over (undo_ground came) (flat x)) (sym (sent_undo P u us));
      at_room = held_room P u us runs (run_width * i) fp ku (ap (λ (x : ℕ). run_width * x) ei) (runs_ground came) w.at_runs near sent' room room' came.room c.answers own (en ∙ trial_there live runs undo room c gone P u us ws sent' came w i ei) w.at_room w.answers few er;
      first = w.first ∙ sym (ap (λ (y : Course). y.first) ec);
      uncommitted = length-append P (sent u ∷ us) ∙ sym (length-append P (u ∷ us)) ∙ w.uncommitted ∙ sym (ap (λ (y : Course). y.counts.uncommitted) ec);
      waiting = w.waiting ∙ sym (ap (λ (y : Course). y.counts.waiting) ec);
      entries = ap length (sent_undo P u us) ∙ w.entries ∙ sym (ap (λ (y : Course). y.entries) ec);
      answers = held_count P u us runs (run_width * i) fp ku (ap (λ (x : ℕ). run_width * x) ei) (runs_ground came) w.at_runs near sent' c.answers a w.answers ea ∙ sym (ap (λ (y : Course). y.answers) ec);
      eights = subst (λ (x : List Waiting). All Eight (gone ++ x)) (sym (sent_rows P u us ws)) w.eights;
    }

-- One of them

-- a single is passed over
pub one_single : (live runs room : List ℕ) (c : Course) (i : ℕ) (near : Trial) → multi_at live (live_width * (c.first + i)) ≡ false → ReleasedOne live runs room c i near runs room c
one_single live runs room c i near h undo gone P u us ws sent' came w k ei =
    let m : multi u.first ≡ false = sym (multi_at_lem live runs undo room c gone P u us ws sent' came w i ei) ∙ h in
    subst (λ (b : Bool). Work live runs undo room c gone (P ++ pick b (sent u) u ∷ us) ws (sent' ++ pick b (held_under near u) []) came) (sym m)
    (subst (λ (x : List Answer). Work live runs undo room c gone (P ++ u ∷ us) ws x came) (sym (append-nil sent')) w)

-- a multi that holds nothing stays as it is
pub one_empty : (live runs room room' : List ℕ) (c : Course) (i : ℕ) (own near : Trial) → multi_at live (live_width * (c.first + i)) ≡ true → holds_row runs (run_width * i) ≡ false
    → room' ≡ pick (holds_row runs (run_width * i)) (sets room (answer_words * c.answers) (held_row runs (run_width * i) own near)) room → ReleasedOne live runs room c i near runs room' c
one_empty live runs room room' c i own near h none er undo gone P u us ws sent' came w k ei =
    let m : multi u.first ≡ true = sym (multi_at_lem live runs undo room c gone P u us ws sent' came w i ei) ∙ h in
    let n = not_held P u us runs (run_width * i) (known_first P (u ∷ us) k) (all_right Known P (u ∷ us) k).0 (ap (λ (x : ℕ). run_width * x) ei) (runs_ground came) w.at_runs near none in
    let er' : room' ≡ room = er ∙ ap (λ (b : Bool). pick b (sets room (answer_words * c.answers) (held_row runs (run_width * i) own near)) room) none in
    subst (λ (b : Bool). Work live runs undo room' c gone (P ++ pick b (sent u) u ∷ us) ws (sent' ++ pick b (held_under near u) []) came) (sym m)
    (subst (λ (v : Uncommitted). Work live runs undo room' c gone (P ++ v ∷ us) ws (sent' ++ held_under near u) came) (sym n.0)
    (subst (λ (x : List Answer). Work live runs undo room' c gone (P ++ u ∷ us) ws (sent' ++ x) came) (sym n.1)
    (subst (λ (x : List Answer). Work live runs undo room' c gone (P ++ u ∷ us) ws x came) (sym (append-nil sent'))
    (subst (λ (x : List ℕ). Work live runs undo x c gone (P ++ u ∷ us) ws sent' came) (sym er') w))))

pub one_held : (live runs room runs' room' : List ℕ) (c c' : Course) (i : ℕ) (own near : Trial) (a : ℕ) → c.answers < 64 → multi_at live (live_width * (c.first + i)) ≡ true → own ≡ trial_at live (live_width * (c.first + i))
    → a ≡ pick (holds_row runs (run_width * i)) (c.answers + 1) c.answers
    → room' ≡ pick (holds_row runs (run_width * i)) (sets room (answer_words * c.answers) (held_row runs (run_width * i) own near)) room → runs' ≡ sets runs (run_width * i) (sent_row runs (run_width * i)) → c' ≡ with_answers a c
    → ReleasedOne live runs room c i near runs' room' c'
one_held live runs room runs' room' c c' i own near a lt h en ea er eu ec undo gone P u us ws sent' came w k ei =
    let m : multi u.first ≡ true = sym (multi_at_lem live runs undo room c gone P u us ws sent' came w i ei) ∙ h in
    subst (λ (b : Bool). Work live runs' undo room' c' gone (P ++ pick b (sent u) u ∷ us) ws (sent' ++ pick b (held_under near u) []) came) (sym m)
    (sends live runs undo room c gone P u us ws sent' came w i ei k runs' room' c' own near a (omega (arith, came.enough)) en ea er eu ec)

-- All of them

-- what is released behind d
abbrev behind : ℕ → Trial → List Uncommitted → Place
behind k d us = released_from k d.number d.attempt us

-- one turn of the walk, where it is a single or has the one coordinator
walk_turn : (k : ℕ) (near : Trial) (u : Uncommitted) (us : List Uncommitted) → pick (multi u.first) (eqb u.first.coordinator k) true ≡ true
    → behind k near (u ∷ us) ≡ record {
      uncommitted = pick (multi u.first) (sent u) u ∷ (behind k (pick (multi u.first) (trial_of (row_of u)) near) us).uncommitted;
      answers = pick (multi u.first) (held_under near u) [] ++ (behind k (pick (multi u.first) (trial_of (row_of u)) near) us).answers;
      settles = [];
    }
walk_turn k near u us h = go (multi u.first) refl
  where
    to : Bool → Place
    to b = record {
      uncommitted = pick b (sent u) u ∷ (behind k (pick b (trial_of (row_of u)) near) us).uncommitted;
      answers = pick b (held_under near u) [] ++ (behind k (pick b (trial_of (row_of u)) near) us).answers;
      settles = [];
    }

    go : (b : Bool) → multi u.first ≡ b → behind k near (u ∷ us) ≡ to (multi u.first)
    go true e = from_same k near.number near.attempt u us e (sym (ap (λ (b : Bool). pick b (eqb u.first.coordinator k) true) e) ∙ h) ∙ ap to (sym e)
    go false e = from_single k near.number near.attempt u us e ∙ ap to (sym e)

-- in the midst of it: P is done, Q is left
pub record Part (live runs undo room : List ℕ) (c : Course) (gone : List Waiting) (ws : List Waiting) (sent' : List Answer) (came : Ground) (k : ℕ) (near : Trial) (i : ℕ) (whole : Place) : Type 0 where
  pub P : List Uncommitted
  pub Q : List Uncommitted
  pub more : List Answer
  pub count : length P ≡ i
  pub work : Work live runs undo room c gone (P ++ Q) ws (sent' ++ more) came
  pub known : All Known (P ++ Q)
  pub left : P ++ (behind k near Q).uncommitted ≡ whole.uncommitted
  pub told : more ++ (behind k near Q).answers ≡ whole.answers

abbrev pub Releasing : List ℕ → List ℕ → List ℕ → Course → ℕ → List ℕ → List ℕ → Course → Trial → ℕ → Type 0
Releasing live runs room c k runs' room' c' near i =
    (undo : List ℕ) (gone : List Waiting) (us : List Uncommitted) (ws : List Waiting) (sent' : List Answer) (came : Ground) → Work live runs undo room c gone us ws sent' came → All Known us
    → Part live runs' undo room' c' gone ws sent' came k near i (behind k no_trial us)

pub releasing_start : (live runs room : List ℕ) (c : Course) (k : ℕ) → Releasing live runs room c k runs room c no_trial 0
releasing_start live runs room c k undo gone us ws sent' came w kn =
    record { P = []; Q = us; more = []; count = refl; work = subst (λ (x : List Answer). Work live runs undo room c gone us ws x came) (sym (append-nil sent')) w; known = kn; left = refl; told = refl }

module _ (live runs₀ room₀ runs room : List ℕ) (c₀ c : Course) (k : ℕ) (near : Trial) (i : ℕ) (mid : Releasing live runs₀ room₀ c₀ k runs room c near i) where
  pub releasing_turn : i < c.counts.uncommitted → same_row live (live_width * (c.first + i)) k ≡ true → (runs' room' : List ℕ) (c' : Course) → ReleasedOne live runs room c i near runs' room' c'
      → (near' : Trial) → near' ≡ near_row live (live_width * (c.first + i)) near → Releasing live runs₀ room₀ c₀ k runs' room' c' near' (i + 1)
  releasing_turn some same runs' room' c' one near' en undo gone us ws sent' came w kn = let m = mid undo gone us ws sent' came w kn in go m.Q m refl
    where
      go : (l : List Uncommitted) (m : Part live runs undo room c gone ws sent' came k near i (behind k no_trial us)) → m.Q ≡ l → Part live runs' undo room' c' gone ws sent' came k near' (i + 1) (behind k no_trial us)
      go [] m e = absurd (omega (arith, m.work.uncommitted, length-append m.P m.Q, ap length e, m.count))
      go (u ∷ l) m e =
          let wk : Work live runs undo room c gone (m.P ++ u ∷ l) ws (sent' ++ m.more) came = subst (λ (x : List Uncommitted). Work live runs undo room c gone (m.P ++ x) ws (sent' ++ m.more) came) e m.work in
          let ks : All Known (m.P ++ u ∷ l) = subst (λ (x : List Uncommitted). All Known (m.P ++ x)) e m.known in
          let mu = multi_at_lem live runs undo room c gone m.P u l ws (sent' ++ m.more) came wk i m.count in
          let nu = trial_there live runs undo room c gone m.P u l ws (sent' ++ m.more) came wk i m.count in
          let co = coordinator_at live runs undo room c gone m.P u l ws (sent' ++ m.more) came wk i m.count in
          let goes : pick (multi u.first) (eqb u.first.coordinator k) true ≡ true = sym (λ j. pick (mu j) (eqb (co j) k) true) ∙ same in
          let nearer : near' ≡ pick (multi u.first) (trial_of (row_of u)) near = en ∙ (λ j. pick (mu j) (nu j) near) in
          let v : Uncommitted = pick (multi u.first) (sent u) u in
          let a : List Answer = pick (multi u.first) (held_under near u) [] in
          let turn = walk_turn k near u l goes in
          record {
            P = m.P ++ (v ∷ []);
            Q = l;
            more = m.more ++ a;
            count = length-append m.P (v ∷ []) ∙ ap (λ (x : ℕ). x + 1) m.count;
            work = subst (λ (x : List Uncommitted). Work live runs' undo room' c' gone x ws (sent' ++ (m.more ++ a)) came) (sym (append_assoc m.P (v ∷ []) l))
                (subst (λ (x : List Answer). Work live runs' undo room' c' gone (m.P ++ v ∷ l) ws x came) (append_assoc sent' m.more a) (one undo gone m.P u l ws (sent' ++ m.more) came wk ks m.count));
            known = subst (All Known) (sym (append_assoc m.P (v ∷ []) l)) (known_as (multi u.first) m.P u l ks);
            left = append_assoc m.P (v ∷ []) (behind k near' l).uncommitted ∙ ap (λ (x : Trial). m.P ++ v ∷ (behind k x l).uncommitted) nearer
                ∙ ap (λ (p : Place). m.P ++ p.uncommitted) (sym turn) ∙ ap (λ (x : List Uncommitted). m.P ++ (behind k near x).uncommitted) (sym e) ∙ m.left;
            told = append_assoc m.more a (behind k near' l).answers ∙ ap (λ (x : Trial). m.more ++ (a ++ (behind k x l).answers)) nearer
                ∙ ap (λ (p : Place). m.more ++ p.answers) (sym turn) ∙ ap (λ (x : List Uncommitted). m.more ++ (behind k near x).answers) (sym e) ∙ m.told;
          }
        where
          known_as : (b : Bool) (P : List Uncommitted) (u : Uncommitted) (us : List Uncommitted) → All Known (P ++ u ∷ us) → All Known (P ++ pick b (sent u) u ∷ us)
          known_as true P u us h = known_sent P u us h
          known_as false P u us h = h

  -- nothing is left, or a multi of another coordinator comes
  pub releasing_end : (c.counts.uncommitted ≤ i) ⊎ (same_row live (live_width * (c.first + i)) k ≡ false) → (undo : List ℕ) (gone : List Waiting) (us : List Uncommitted) (ws : List Waiting) (sent' : List Answer) (came : Ground)
      → Work live runs₀ undo room₀ c₀ gone us ws sent' came → All Known us → Work live runs undo room c gone (behind k no_trial us).uncommitted ws (sent' ++ (behind k no_trial us).answers) came
  unfolding released_from
  releasing_end stop undo gone us ws sent' came w kn = let m = mid undo gone us ws sent' came w kn in by m m.Q refl stop
    where
      by : (m : Part live runs undo room c gone ws sent' came k near i (behind k no_trial us)) (l : List Uncommitted) → m.Q ≡ l → (c.counts.uncommitted ≤ i) ⊎ (same_row live (live_width * (c.first + i)) k ≡ false)
          → Work live runs undo room c gone (behind k no_trial us).uncommitted ws (sent' ++ (behind k no_trial us).answers) came
      by m l e s =
          let same : behind k near m.Q ≡ record { uncommitted = m.Q; answers = []; settles = [] } = ap (behind k near) e ∙ stops l (subst (λ (x : List Uncommitted). Work live runs undo room c gone (m.P ++ x) ws (sent' ++ m.more) came) e m.work) s ∙ ap {B = Place} (λ (x : List Uncommitted). record { uncommitted = x; answers = []; settles = [] }) (sym e) in
          subst (λ (x : List Uncommitted). Work live runs undo room c gone x ws (sent' ++ (behind k no_trial us).answers) came) (sym (ap (λ (p : Place). m.P ++ p.uncommitted) same) ∙ m.left)
          (subst (λ (x : List Answer). Work live runs undo room c gone (m.P ++ m.Q) ws (sent' ++ x) came) (sym (append-nil m.more) ∙ sym (ap (λ (p : Place). m.more ++ p.answers) same) ∙ m.told) m.work)
        where
          stops : (l : List Uncommitted) → Work live runs undo room c gone (m.P ++ l) ws (sent' ++ m.more) came → (c.counts.uncommitted ≤ i) ⊎ (same_row live (live_width * (c.first + i)) k ≡ false)
              → behind k near l ≡ record { uncommitted = l; answers = []; settles = [] }
          stops [] wk s = refl
          stops (u ∷ l) wk (inl z) = absurd (omega (arith, wk.uncommitted, length-append m.P (u ∷ l), m.count))
          stops (u ∷ l) wk (inr z) =
              let mu = multi_at_lem live runs undo room c gone m.P u l ws (sent' ++ m.more) came wk i m.count in
              let co = coordinator_at live runs undo room c gone m.P u l ws (sent' ++ m.more) came wk i m.count in
              other (multi u.first) refl (sym (λ j. pick (mu j) (eqb (co j) k) true) ∙ z)
            where
              other : (b : Bool) → multi u.first ≡ b → pick (multi u.first) (eqb u.first.coordinator k) true ≡ false → behind k near (u ∷ l) ≡ record { uncommitted = u ∷ l; answers = []; settles = [] }
              other true e f = from_other k near.number near.attempt u l e (sym (ap (λ (b : Bool). pick b (eqb u.first.coordinator k) true) e) ∙ f)
              other false e f = absurd (true≢false (sym (ap (λ (b : Bool). pick b (eqb u.first.coordinator k) true) e) ∙ f))

-- with the front's coordinator it is the step's
pub released_front : (live runs room runs' room' : List ℕ) (c c' : Course) (k : ℕ) → k ≡ get_or live (live_width * c.first + 2) 0
    → ((undo : List ℕ) (gone : List Waiting) (us : List Uncommitted) (ws : List Waiting) (sent' : List Answer) (came : Ground) → Work live runs undo room c gone us ws sent' came → All Known us
    → Work live runs' undo room' c' gone (behind k no_trial us).uncommitted ws (sent' ++ (behind k no_trial us).answers) came)
    → Fronted live runs room c runs' room' c'
unfolding settled released_from
released_front live runs room runs' room' c c' k ek all undo gone [] ws sent' came w kn h = all undo gone [] ws sent' came w kn
released_front live runs room runs' room' c c' k ek all undo gone (u ∷ us) ws sent' came w kn h =
    let m : multi u.first ≡ true = not-false (multi u.first) h in
    let z : c.first ≡ c.first + 0 = omega arith in
    let ku : k ≡ u.first.coordinator = ek ∙ ap (λ (x : ℕ). get_or live (live_width * x + 2) 0) z ∙ coordinator_at live runs undo room c gone [] u us ws sent' came w 0 refl in
    subst (λ (p : Place). Work live runs' undo room' c' gone p.uncommitted ws (sent' ++ p.answers) came)
    (from_same k 0 0 u us m (eq-eqb u.first.coordinator k (sym ku)) ∙ ap {B = Place} (λ (x : ℕ). record { uncommitted = sent u ∷ (released_from x u.number u.attempt us).uncommitted; answers = held_by u ++ (released_from x u.number u.attempt us).answers; settles = [] }) ku ∙ sym (settled_front u us m))
    (all undo gone (u ∷ us) ws sent' came w kn)
