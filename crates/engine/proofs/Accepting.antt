-- The steps of an accepted call, from what the queues' functions say to what the definitions say.
use Prim.Native.Nat.{ℕ, zero, suc, ◌+◌, ◌*◌, ◌≤◌, ◌<◌}
use native.Mathlib.Omega.{arith}
use borrow.Author.Tests.{ne_eqb, eqb-true, leb-false, ltb-true, le-ltb, not-false}
use mathlib.Core.Path.{◌≡◌, refl, sym, ap, ◌∙◌, subst}
use mathlib.Core.Bool.{Bool, true, false, not, ◌&&◌, true≢false}
use mathlib.Core.List.{List, [], ◌∷◌, ◌++◌, append_assoc, append-nil, map}
use lib.Dec.{eqb, leb}
use lib.ListN.{length, get_or, length-append, length-map}
use lib.Seq.{sets}
use Rattle.model.specs.Limits.{TOP, most_live, most_fragments}
use Rattle.model.specs.Operations.{Cells, pick}
use Rattle.model.specs.Transactions.{finished, Uncommitted, Waiting, Engine, Answer, answer, attempts, numbers, front}
use Rattle.model.specs.Steps.{Queues, sending, arrival, arrived, joined, continued, committed, aborted, settled, again, requeued, run}
use Rattle.model.specs.Steps as Steps
use Rattle.model.specs.Refusals.{Request, Arrive, Commit, Abort, request, live, new, is_front, sound, storable, taken}
use Rattle.model.specs.declared.Event.{Event}
use Rattle.model.specs.declared.Fragment.{Fragment}
use Rattle.model.specs.declared.Scheme.{Scheme}
use Rattle.model.proofs.Chain.{all_append}
use Rattle.model.proofs.Passing.{front_or_new, and_if, decides_front}
use Rattle.model.proofs.Tests.{both}
use Rattle.model.proofs.Sound.{sound_parts, entries_depth, entries_most}
use Rattle.model.proofs.Keeping.{rises_top, joined_sound, continued_sound, settled_sound, front_leaves, aborted_sound, alone}
use Rattle.model.proofs.Kept.{arrives_storable}
use Rattle.record.specs.Words.{row_words, all_rows, row_of, live_rows, over}
use Rattle.record.proofs.Rows.{lay_over}
use Rattle.record.proofs.Back.{known_of, length_row, length-rows, rows_append, number_back}
use Rattle.refusals.specs.Rest.{call_of, front_is}
use Rattle.engine.specs.declared.course.Course.{Course}
use Rattle.engine.specs.Work.{waiting_more, total, Ground, Within, Work, Left, Small, Fair, Drained, Committed, Aborted, Continued}
use Rattle.engine.specs.Ready.{Ready, Begun, Stepped}
use Rattle.model.specs.Parts.{All, Ahead, Sound}
use Rattle.record.specs.Fitting.{Eight}
use Rattle.record.specs.Widths.{live_width}

pub drained_left : (σ : Scheme) (live runs undo room runs' undo' room' : List ℕ) (cells cells' : Cells) (c c' : Course) (came : Ground) (q : Queues) → Begun σ live runs undo room cells c came q
    → Drained σ live runs undo room cells c runs' undo' room' cells' c' → Left live runs' undo' room' c' cells' [] came q
drained_left σ live runs undo room runs' undo' room' cells cells' c c' came q b d =
    let l = d b.gone b.us b.ws b.sent came b.work b.ct b.top b.sound in
    subst (λ (x : Queues). Left live runs' undo' room' c' cells' [] came x) b.rest (record { gone = l.gone; work = l.work; stands = l.stands })

small_of : (live runs undo room : List ℕ) (c : Course) (gone : List Waiting) (us : List Uncommitted) (ws : List Waiting) (sent : List Answer) (came : Ground) (ct top : ℕ) → Work live runs undo room c gone us ws sent came
    → Sound ct top us ws → total c ≤ 64 → length sent + length ws ≤ 64 → Small c
small_of live runs undo room c gone us ws sent came ct top w s h k = record {
  live = h;
  answers = omega (arith, w.answers, w.waiting);
  depth = omega (arith, s.sixteen, w.uncommitted);
  entries = omega (arith, entries_depth ct top us ws s, w.entries, w.uncommitted);
}

-- What a ready call has

module _ (σ : Scheme) (live₀ runs undo room : List ℕ) (cells : Cells) (c : Course) (v : Event) (e : Engine) (came : Ground) (rd : Ready σ live₀ runs undo room cells c v e came) where
  parts : Sound e.count e.largest e.uncommitted e.waiting
  parts = sound_parts e (not-false (sound e) rd.passed.one)

  pub fair_of : Fair c
  fair_of = record {
    live = omega (arith, rd.work.first, rd.work.uncommitted, rd.work.waiting, parts.sixty_four);
    answers = omega (arith, rd.work.answers, rd.work.uncommitted, rd.work.waiting, parts.sixty_four);
    depth = omega (arith, rd.work.uncommitted, parts.sixteen);
    entries = omega (arith, rd.work.entries, entries_most e.count e.uncommitted parts.sixteen parts.each parts.ones);
  }

  -- a decision is for the front
  decided : eqb v.kind 1 ≡ false → is_front v.number e ≡ true
  decided a = decides_front e (call_of σ v cells room) a rd.passed

  pub some_uncommitted : eqb v.kind 1 ≡ false → 0 < c.counts.uncommitted
  some_uncommitted a = go e.uncommitted (decided a) rd.work.uncommitted
    where
      go : (us : List Uncommitted) → front (λ (u : Uncommitted). eqb u.number v.number) us ≡ true → length us ≡ c.counts.uncommitted → 0 < c.counts.uncommitted
      go [] h k = absurd (true≢false (sym h))
      go (u ∷ us) h k = omega arith

-- Abort

-- "attempt plus transactions ahead at most 64": one more fits a word
few_tried : (i : ℕ) (us : List Uncommitted) (ws : List Waiting) → Ahead i (attempts us ws) → All (λ (u : Uncommitted). u.attempt < TOP) us
few_tried i [] ws h = tt
few_tried i (u ∷ us) ws h = (omega (arith, h.0), few_tried (1 + i) us ws h.1)

begun_aborted : (σ : Scheme) (live runs undo room live' runs' undo' : List ℕ) (cells cells' : Cells) (c c' : Course) (ct top : ℕ) (us : List Uncommitted) (ws : List Waiting) (n : ℕ) (came : Ground) → Work live runs undo room c [] us ws [] came → Within came c → Sound ct top us ws
    → front (λ (u : Uncommitted). eqb u.number n) us ≡ true → Aborted live runs undo cells c live' runs' undo' cells' c' → total c' ≡ total c
    → Begun σ live' runs' undo' room cells' c' came (aborted σ cells us ws)
begun_aborted σ live runs undo room live' runs' undo' cells cells' c c' ct top [] ws n came w within s h ab k = absurd (true≢false (sym h))
begun_aborted σ live runs undo room live' runs' undo' cells cells' c c' ct top (u ∷ us) ws n came w within s h ab k =
    let a = ab room [] u us ws [] came w (known_of ct (u ∷ us) s.each) within (few_tried 1 us ws s.ahead.1) in
    let sd : Sound ct top [] (map requeued us ++ ws) = aborted_sound ct top ws cells u us s in
    record {
      ct = ct;
      top = top;
      gone = row_of u ∷ [];
      us = [];
      ws = map requeued us ++ ws;
      sent = [];
      names = [];
      work = a.0;
      sound = sd;
      small = small_of live' runs' undo' room c' (row_of u ∷ []) [] (map requeued us ++ ws) [] came ct top a.0 sd (omega (arith, k, w.first, w.uncommitted, w.waiting, s.sixty_four)) (omega (arith, sd.sixty_four));
      rest = ap (λ (x : Cells). sending [] [] (Steps.drain σ x [] (map requeued us ++ ws))) a.1;
    }

-- Commit

begun_committed : (σ : Scheme) (live runs undo room runs' undo' room' : List ℕ) (cells : Cells) (c c' : Course) (ct top : ℕ) (us : List Uncommitted) (ws : List Waiting) (n : ℕ) (came : Ground) → Work live runs undo room c [] us ws [] came → Within came c → Sound ct top us ws
    → front (λ (u : Uncommitted). eqb u.number n) us ≡ true → Committed live runs undo room c runs' undo' room' c' → total c' ≡ total c
    → Begun σ live runs' undo' room' cells c' came (committed σ cells us ws)
begun_committed σ live runs undo room runs' undo' room' cells c c' ct top [] ws n came w within s h cm k = absurd (true≢false (sym h))
begun_committed σ live runs undo room runs' undo' room' cells c c' ct top (u ∷ us) ws n came w within s h cm k =
    let a = cm u us ws [] came w (known_of ct (u ∷ us) s.each) within in
    let y = settled_sound ct top us ws (front_leaves ct top u us ws s) in
    record {
      ct = ct;
      top = top;
      gone = a.0;
      us = (settled us).uncommitted;
      ws = ws;
      sent = (settled us).answers;
      names = u.number ∷ (settled us).settles;
      work = a.1;
      sound = y.0;
      small = small_of live runs' undo' room' c' a.0 (settled us).uncommitted ws (settled us).answers came ct top a.1 y.0 (omega (arith, k, w.first, w.uncommitted, w.waiting, s.sixty_four)) (omega (arith, y.1, s.sixty_four));
      rest = refl;
    }

-- A fragment of the front

begun_continued : (σ : Scheme) (live runs undo room runs' undo' room' : List ℕ) (cells cells' : Cells) (c c' : Course) (f : Fragment) (ct top : ℕ) (u : Uncommitted) (us : List Uncommitted) (ws : List Waiting) (came : Ground)
    → Work live runs undo room c [] (u ∷ us) ws [] came → Within came c → Sound ct top (u ∷ us) ws → finished u.state ≡ false → u.ran < most_fragments → storable ct f ≡ true → length f.row ≡ 8
    → Continued live runs undo room cells c f runs' undo' room' cells' c' → total c' ≡ total c
    → Begun σ live runs' undo' room' cells' c' came (continued σ f cells u us ws)
begun_continued σ live runs undo room runs' undo' room' cells cells' c c' f ct top u us ws came w within s nf few st eight cn k = go us w s (alone ct top ws cells u us s nf)
  where
    go : (vs : List Uncommitted) → Work live runs undo room c [] (u ∷ vs) ws [] came → Sound ct top (u ∷ vs) ws → vs ≡ [] → Begun σ live runs' undo' room' cells' c' came (continued σ f cells u vs ws)
    go (x ∷ vs) w s z = absurd (mathlib.Core.List.nil≢cons (sym z))
    go [] w s z =
        let a = cn [] u ws [] came w (known_of ct (u ∷ []) s.each).0 within few eight s.each.0.few in
        let sd : Sound ct top (again u f (run f cells u.undo) ∷ []) ws = continued_sound ct top ws cells u f s st few in
        let x : List Answer = answer u.number 0 u.attempt 0 (run f cells u.undo).outcome ∷ [] in
        record {
          ct = ct;
          top = top;
          gone = [];
          us = again u f (run f cells u.undo) ∷ [];
          ws = ws;
          sent = x;
          names = [];
          work = a.0;
          sound = sd;
          small = small_of live runs' undo' room' c' [] (again u f (run f cells u.undo) ∷ []) ws x came ct top a.0 sd (omega (arith, k, w.first, w.uncommitted, w.waiting, s.sixty_four)) (omega (arith, s.sixty_four));
          rest = ap (λ (y : Cells). sending x [] (Steps.drain σ y (again u f (run f cells u.undo) ∷ []) ws)) a.1;
        }

-- A new transaction

begun_joined : (σ : Scheme) (live live' runs undo room : List ℕ) (cells : Cells) (c c' : Course) (n : ℕ) (f : Fragment) (ct top : ℕ) (us : List Uncommitted) (ws : List Waiting) (came : Ground)
    → Work live runs undo room c [] us ws [] came → Sound ct top us ws → top < n → storable ct f ≡ true → length us + length ws < most_live → length f.row ≡ 8
    → live' ≡ sets live (live_width * (c.first + c.counts.uncommitted + c.counts.waiting)) (row_words n 1 f) → c' ≡ waiting_more c
    → Begun σ live' runs undo room cells c' came (joined σ n f cells us ws)
unfolding all_rows
begun_joined σ live live' runs undo room cells c c' n f ct top us ws came w s k st few eight el ec =
    let x : Waiting = arrival n f in
    let old : List Waiting = live_rows us ws in
    let rows : live_rows us (ws ++ (x ∷ [])) ≡ old ++ (x ∷ []) = sym (append_assoc (map row_of us) ws (x ∷ [])) in
    let lo : length old ≡ c.first + c.counts.uncommitted + c.counts.waiting = length-append (map row_of us) ws ∙ omega (arith, length-map us row_of, w.first, w.uncommitted, w.waiting) in
    let lw : length (row_words n 1 f) ≡ live_width = length_row n 1 f eight in
    let lr : length (all_rows old) ≡ live_width * (c.first + c.counts.uncommitted + c.counts.waiting) = length-rows old w.eights ∙ ap (λ (y : ℕ). live_width * y) lo in
    let laid : live' ≡ over came.live (all_rows (live_rows us (ws ++ (x ∷ [])))) =
    el ∙ ap (λ (y : List ℕ). sets y (live_width * (c.first + c.counts.uncommitted + c.counts.waiting)) (row_words n 1 f)) w.at_live
    ∙ lay_over came.live (all_rows old) (row_words n 1 f) (live_width * (c.first + c.counts.uncommitted + c.counts.waiting)) lr (omega (arith, came.long_live, lw, w.first, w.uncommitted, w.waiting))
    ∙ ap (over came.live) (ap (λ (y : List ℕ). all_rows old ++ y) (sym (append-nil (row_words n 1 f))) ∙ sym (rows_append old (x ∷ [])) ∙ ap all_rows (sym rows)) in
    let wk : Work live' runs undo room c' [] us (ws ++ (x ∷ [])) [] came = record {
      at_live = laid;
      at_runs = w.at_runs;
      at_undo = w.at_undo;
      at_room = w.at_room;
      first = w.first ∙ sym (ap (λ (y : Course). y.first) ec);
      uncommitted = w.uncommitted ∙ sym (ap (λ (y : Course). y.counts.uncommitted) ec);
      waiting = length-append ws (x ∷ []) ∙ ap (λ (y : ℕ). y + 1) w.waiting ∙ sym (ap (λ (y : Course). y.counts.waiting) ec);
      entries = w.entries ∙ sym (ap (λ (y : Course). y.entries) ec);
      answers = w.answers ∙ sym (ap (λ (y : Course). y.answers) ec);
      eights = subst (All Eight) (sym rows) (all_append Eight old (x ∷ []) w.eights (eight, tt));
    } in
    let sd : Sound ct n us (ws ++ (x ∷ [])) = joined_sound ct top ws cells us n f s k st few in
    record {
      ct = ct;
      top = n;
      gone = [];
      us = us;
      ws = ws ++ (x ∷ []);
      sent = [];
      names = [];
      work = wk;
      sound = sd;
      small = small_of live' runs undo room c' [] us (ws ++ (x ∷ [])) [] came ct n wk sd (omega (arith, wk.first, wk.uncommitted, wk.waiting, sd.sixty_four)) (omega (arith, sd.sixty_four));
      rest = refl;
    }

-- By the kind of the event

pub request_arrive : (v : Event) → eqb v.kind 1 ≡ true → request v ≡ Arrive v.number v.fragment
request_arrive v a = ap {B = Request} (λ (b : Bool). elim b [ true ↦ Arrive v.number v.fragment | false ↦ elim (eqb v.kind 2) [ true ↦ Commit v.number | false ↦ Abort v.number ] ]) a

request_decides : (v : Event) (b : Bool) → eqb v.kind 1 ≡ false → eqb v.kind 2 ≡ b → request v ≡ elim b as (λ _. Request) [ true ↦ Commit v.number | false ↦ Abort v.number ]
request_decides v b a e =
    ap {B = Request} (λ (x : Bool). elim x [ true ↦ Arrive v.number v.fragment | false ↦ elim (eqb v.kind 2) [ true ↦ Commit v.number | false ↦ Abort v.number ] ]) a
    ∙ ap {B = Request} (λ (x : Bool). elim x [ true ↦ Commit v.number | false ↦ Abort v.number ]) e

-- the front's number, read from its row
front_back : (live runs undo room : List ℕ) (c : Course) (us : List Uncommitted) (ws : List Waiting) (n : ℕ) (came : Ground) → Work live runs undo room c [] us ws [] came → front_is c.counts.uncommitted live n ≡ front (λ (u : Uncommitted). eqb u.number n) us
front_back live runs undo room c [] ws n came w = ap (λ (x : ℕ). not (eqb x 0) && eqb (get_or live 0 0) n) (sym w.uncommitted)
front_back live runs undo room c (u ∷ us) ws n came w =
    ap (λ (x : ℕ). not (eqb x 0) && eqb (get_or live 0 0) n) (sym w.uncommitted)
    ∙ ap (λ (b : Bool). not b && eqb (get_or live 0 0) n) (ne_eqb (suc (length us)) 0 (λ z. omega arith))
    ∙ ap (λ (x : ℕ). eqb x n) (ap (λ (l : List ℕ). get_or l 0 0) w.at_live ∙ number_back came.live [] (row_of u) (live_rows us ws) 0 tt w.eights.0 refl)

module _ (σ : Scheme) (live₀ runs undo room : List ℕ) (cells : Cells) (c : Course) (v : Event) (e : Engine) (came : Ground) (rd : Ready σ live₀ runs undo room cells c v e came) where
  same : (b : Bool) → b ≡ false → total c ≡ total c + pick b 1 0
  same b z = let y : total c ≡ total c + 0 = omega arith in y ∙ ap (λ (x : Bool). total c + pick x 1 0) (sym z)

  -- a decision brings none
  decided_begun : eqb v.kind 1 ≡ false → {live' runs' undo' room' : List ℕ} {cells' : Cells} {c' : Course} {q : Queues} → total c' ≡ total c → Begun σ live' runs' undo' room' cells' c' came q → Stepped σ live' runs' undo' room' cells' c c' v e came q
  decided_begun a k b = record { begun = b; comes = k ∙ same (eqb v.kind 1 && new v.number e) (ap (λ (x : Bool). x && new v.number e) a) }

  pub abort_begun : eqb v.kind 1 ≡ false → eqb v.kind 2 ≡ false → (live' runs' undo' : List ℕ) (cells' : Cells) (c' : Course) → Aborted live₀ runs undo cells c live' runs' undo' cells' c' → total c' ≡ total c
      → Stepped σ live' runs' undo' room cells' c c' v e came (taken σ (request v) e cells)
  abort_begun a b live' runs' undo' cells' c' ab k = decided_begun a k (
      subst (λ (q : Request). Begun σ live' runs' undo' room cells' c' came (taken σ q e cells)) (sym (request_decides v false a b))
      (begun_aborted σ live₀ runs undo room live' runs' undo' cells cells' c c' e.count e.largest e.uncommitted e.waiting v.number came rd.work rd.within (parts σ live₀ runs undo room cells c v e came rd) (decided σ live₀ runs undo room cells c v e came rd a) ab k))

  pub commit_begun : eqb v.kind 1 ≡ false → eqb v.kind 2 ≡ true → (runs' undo' room' : List ℕ) (c' : Course) → Committed live₀ runs undo room c runs' undo' room' c' → total c' ≡ total c
      → Stepped σ live₀ runs' undo' room' cells c c' v e came (taken σ (request v) e cells)
  commit_begun a b runs' undo' room' c' cm k = decided_begun a k (
      subst (λ (q : Request). Begun σ live₀ runs' undo' room' cells c' came (taken σ q e cells)) (sym (request_decides v true a b))
      (begun_committed σ live₀ runs undo room runs' undo' room' cells c c' e.count e.largest e.uncommitted e.waiting v.number came rd.work rd.within (parts σ live₀ runs undo room cells c v e came rd) (decided σ live₀ runs undo room cells c v e came rd a) cm k))

  pub continue_begun : eqb v.kind 1 ≡ true → front_is c.counts.uncommitted live₀ v.number ≡ true → (runs' undo' room' : List ℕ) (cells' : Cells) (c' : Course) → Continued live₀ runs undo room cells c v.fragment runs' undo' room' cells' c'
      → total c' ≡ total c → Stepped σ live₀ runs' undo' room' cells' c c' v e came (taken σ (request v) e cells)
  continue_begun a fr runs' undo' room' cells' c' cn k = record {
    comes = k ∙ same (eqb v.kind 1 && new v.number e) none;
    begun =
        subst (λ (q : Request). Begun σ live₀ runs' undo' room' cells' c' came (taken σ q e cells)) (sym (request_arrive v a))
        (go e.uncommitted rd.work (parts σ live₀ runs undo room cells c v e came rd) rd.passed.eight rd.passed.eleven (sym (front_back live₀ runs undo room c e.uncommitted e.waiting v.number came rd.work) ∙ fr));
  }
    where
      none : (eqb v.kind 1 && new v.number e) ≡ false
      none = ap (λ (b : Bool). b && new v.number e) a ∙ old e.uncommitted (parts σ live₀ runs undo room cells c v e came rd) (sym (front_back live₀ runs undo room c e.uncommitted e.waiting v.number came rd.work) ∙ fr)
        where
          old : (us : List Uncommitted) → Sound e.count e.largest us e.waiting → front (λ (u : Uncommitted). eqb u.number v.number) us ≡ true → new v.number e ≡ false
          old [] s h = absurd (true≢false (sym h))
          old (u ∷ us) s h = le-ltb e.largest v.number (subst (λ (x : ℕ). x ≤ e.largest) (eqb-true u.number v.number h) (rises_top u.number e.largest (numbers us e.waiting) s.rises.1))

      go : (us : List Uncommitted) → Work live₀ runs undo room c [] us e.waiting [] came → Sound e.count e.largest us e.waiting
          → (eqb v.kind 1 && (front (λ (u : Uncommitted). eqb u.number v.number) us && front (λ (u : Uncommitted). finished u.state) us)) ≡ false
          → (eqb v.kind 1 && (front (λ (u : Uncommitted). eqb u.number v.number) us && front (λ (u : Uncommitted). leb most_fragments u.ran) us)) ≡ false
          → front (λ (u : Uncommitted). eqb u.number v.number) us ≡ true → Begun σ live₀ runs' undo' room' cells' c' came (arrived σ v.number v.fragment cells us e.waiting)
      go [] w s p8 p11 h = absurd (true≢false (sym h))
      go (u ∷ us) w s p8 p11 h =
          subst (λ (b : Bool). Begun σ live₀ runs' undo' room' cells' c' came (elim b as (λ _. Queues) [ false ↦ joined σ v.number v.fragment cells (u ∷ us) e.waiting | true ↦ continued σ v.fragment cells u us e.waiting ])) (sym h)
          (begun_continued σ live₀ runs undo room runs' undo' room' cells cells' c c' v.fragment e.count e.largest u us e.waiting came w rd.within s
          (and_if (eqb u.number v.number) (finished u.state) h (and_if (eqb v.kind 1) _ a p8))
          (leb-false most_fragments u.ran (and_if (eqb u.number v.number) (leb most_fragments u.ran) h (and_if (eqb v.kind 1) _ a p11)))
          (arrives_storable e (call_of σ v cells room) a rd.passed) rd.words cn k)

  pub join_begun : eqb v.kind 1 ≡ true → front_is c.counts.uncommitted live₀ v.number ≡ false → (live' : List ℕ) (c' : Course) → live' ≡ sets live₀ (live_width * (c.first + c.counts.uncommitted + c.counts.waiting)) (row_words v.number 1 v.fragment) → c' ≡ waiting_more c
      → Stepped σ live' runs undo room cells c c' v e came (taken σ (request v) e cells)
  join_begun a fr live' c' el ec = record {
    comes = more;
    begun =
        subst (λ (q : Request). Begun σ live' runs undo room cells c' came (taken σ q e cells)) (sym (request_arrive v a))
        (subst (λ (q : Queues). Begun σ live' runs undo room cells c' came q) (sym (joins e.uncommitted not-front))
        (begun_joined σ live₀ live' runs undo room cells c c' v.number v.fragment e.count e.largest e.uncommitted e.waiting came rd.work (parts σ live₀ runs undo room cells c v e came rd) (ltb-true e.largest v.number fresh)
        (arrives_storable e (call_of σ v cells room) a rd.passed)
        (leb-false most_live (length e.uncommitted + length e.waiting) (and_if (eqb v.kind 1 && new v.number e) (leb most_live (length e.uncommitted + length e.waiting)) (both (eqb v.kind 1) (new v.number e) a fresh) rd.passed.ten)) rd.words el ec));
  }
    where
      not-front : front (λ (u : Uncommitted). eqb u.number v.number) e.uncommitted ≡ false
      not-front = sym (front_back live₀ runs undo room c e.uncommitted e.waiting v.number came rd.work) ∙ fr

      fresh : new v.number e ≡ true
      fresh = front_or_new (live v.number e) (new v.number e) (is_front v.number e) rd.passed.six rd.passed.seven not-front

      more : total c' ≡ total c + pick (eqb v.kind 1 && new v.number e) 1 0
      more =
          let one : (eqb v.kind 1 && new v.number e) ≡ true = both (eqb v.kind 1) (new v.number e) a fresh in
          ap total ec ∙ (let z : c.first + c.counts.uncommitted + (c.counts.waiting + 1) ≡ total c + 1 = omega arith in z) ∙ ap (λ (b : Bool). total c + pick b 1 0) (sym one)

      joins : (us : List Uncommitted) → front (λ (u : Uncommitted). eqb u.number v.number) us ≡ false → arrived σ v.number v.fragment cells us e.waiting ≡ joined σ v.number v.fragment cells us e.waiting
      joins [] h = refl
      joins (u ∷ us) h = ap {B = Queues} (λ (b : Bool). elim b [ false ↦ joined σ v.number v.fragment cells (u ∷ us) e.waiting | true ↦ continued σ v.fragment cells u us e.waiting ]) h

pub front_some : (n : ℕ) (l : List ℕ) (m : ℕ) → front_is n l m ≡ true → 0 < n
front_some zero l m h = absurd (true≢false (sym h))
front_some (suc n) l m h = omega arith
