-- The steps keep a sound record sound, and send at most one answer for each transaction that they touch.
use Prim.Native.Nat.{ℕ, suc, ◌+◌, ◌≤◌, ◌<◌}
use native.Mathlib.Omega.{arith}
use borrow.Author.Tests.{ltb-true, leb-true, leb-false, lt-ltb, le-leb}
use mathlib.Core.Path.{◌≡◌, refl, sym, ap, ◌∙◌, subst}
use mathlib.Core.Bool.{Bool, true, false, not, ◌&&◌, ◌||◌, true≢false}
use mathlib.Core.List.{List, [], ◌∷◌, ◌++◌, map}
use lib.Dec.{leb, ltb, eqb}
use lib.ListN.{length, length-append, length-map, length-take}
use Rattle.model.specs.Limits.{most_operations, most_fragments, depth, most_live}
use Rattle.model.specs.Operations.{Cells, Outcome, operate, put, writes, content, multi, last, operations, tells}
use Rattle.model.specs.Transactions.{State, Running, Finished, Failed, finished, Reply, Held, Sent, holds, Uncommitted, Waiting, numbers, attempts}
use Rattle.model.specs.Steps.{noted, Ran, run_from, run, state_after, begun, again, last_finished, may_take, Place, placed, Queues, drain, arrival, joined, continued, held_by, sent, released, settled, committed, requeued, aborted, undone}
use Rattle.model.specs.Refusals.{every, inside, formed, storable, ready, fits, is_state, is_reply}
use Rattle.model.specs.Demand.{Rises}
use Rattle.model.specs.declared.Op.{Op}
use Rattle.model.specs.declared.Fragment.{Fragment}
use Rattle.model.specs.declared.Scheme.{Scheme}
use Rattle.model.specs.declared.Undo.{Undo}
use Rattle.std.specs.Prelude.{Ok, Err}
use Rattle.model.proofs.Chain.{all_append}
use Rattle.model.proofs.Tests.{both, and_left, and_right, or_left, or_true, every_append}
use Rattle.model.proofs.Taking.{may_less, may_finished}
use Rattle.model.proofs.Branches.{placed_idle, placed_behind, settled_cases, drain_cases}
use Rattle.model.proofs.Releasing.{released_keeps, released_length, released_all, held_one, released_most}
use Rattle.model.specs.Parts.{All, cell_inside, SoundOne, Stored, bad_front, Ahead, Sound}

-- What a run leaves

pub record Left (ct bound : ℕ) (r : Ran) : Type 0 where
  pub inside : every (cell_inside ct) r.undo ≡ true
  pub few : length r.undo ≤ bound
  pub numbers : length r.outcome.numbers ≤ most_operations
  pub place : r.outcome.place ≤ most_operations

run_left : (ct p : ℕ) (os : List Op) (cs : Cells) (ns : List ℕ) (us : List Undo) → every (λ (o : Op). ltb o.cell ct) os ≡ true → p + length os ≤ 9 → length ns + 1 ≡ p
    → every (cell_inside ct) us ≡ true → Left ct (length us + length os) (run_from p os cs ns us)
unfolding run_from
run_left ct p [] cs ns us h k e a = record { inside = a; few = omega arith; numbers = omega arith; place = omega arith }
run_left ct p (o ∷ os) cs ns us h k e a =
    elim (operate o cs)
    as (λ d. Left ct (length us + suc (length os))
    (elim d [
      | Ok y ↦ run_from (suc p) os (put o y cs) (ns ++ (y ∷ [])) (noted o cs us)
      | Err x ↦ record { cells = undone us cs; outcome = tells p (Err x); undo = [] }
    ])) [
      | Ok y ↦
          let x = run_left ct (suc p) os (put o y cs) (ns ++ (y ∷ [])) (noted o cs us) (and_right (ltb o.cell ct) _ h) (omega arith) (omega (arith, length-append ns (y ∷ []))) (noted_in (writes o.code)) in
          record { inside = x.inside; few = omega (arith, x.few, noted_few (writes o.code)); numbers = x.numbers; place = x.place }
      | Err x ↦ record { inside = refl; few = omega arith; numbers = omega arith; place = omega arith }
    ]
  where
    entry : Undo
    entry = record { cell = o.cell; old = content o cs }

    more : Bool → List Undo
    more b = elim b [ true ↦ us ++ (entry ∷ []) | false ↦ us ]

    noted_in : (b : Bool) → every (cell_inside ct) (more b) ≡ true
    noted_in true = every_append (cell_inside ct) us (entry ∷ []) a (both (ltb o.cell ct) true (and_left (ltb o.cell ct) _ h) refl)
    noted_in false = a

    noted_few : (b : Bool) → length (more b) ≤ suc (length us)
    noted_few true = omega (arith, length-append us (entry ∷ []))
    noted_few false = omega arith

-- a stored fragment has at most eight operations
pub eight_operations : (ct : ℕ) (f : Fragment) → storable ct f ≡ true → length (operations f) ≤ most_operations
unfolding formed operations
eight_operations ct f s =
    let c : f.count ≤ most_operations = leb-true f.count most_operations (and_right (leb 1 f.count) _ (and_left _ _ (and_left _ _ (and_left _ _ (and_left _ _ (and_left (formed f) (inside ct f) s)))))) in
    omega (arith, length-take f.count f.row)

pub ran_left : (ct : ℕ) (f : Fragment) (cs : Cells) (us : List Undo) → storable ct f ≡ true → every (cell_inside ct) us ≡ true → Left ct (length us + 8) (run f cs us)
unfolding inside
ran_left ct f cs us s a =
    let k : length (operations f) ≤ most_operations = eight_operations ct f s in
    let x = run_left ct 1 (operations f) cs [] us (and_right (formed f) (inside ct f) s) (omega arith) refl a in
    record { inside = x.inside; few = omega (arith, x.few); numbers = x.numbers; place = x.place }

state_read : (f : Fragment) (o : Outcome) → is_state (state_after f o) ≡ true
state_read f o = go (eqb o.place 0) (last f)
  where
    go : (a b : Bool) → is_state (elim a as (λ _. State) [ true ↦ elim b [ true ↦ Finished | false ↦ Running ] | false ↦ Failed ]) ≡ true
    go true true = refl
    go true false = refl
    go false b = refl

-- a waiting one, begun
begun_sound : (ct : ℕ) (w : Waiting) (cs : Cells) (a : Reply) → Stored ct w → fits a ≡ true → is_reply a ≡ true → (multi w.fragment || holds a) ≡ true
    → SoundOne ct (begun w (run w.fragment cs []) a)
begun_sound ct w cs a s f r h =
    let x = ran_left ct w.fragment cs [] s refl in
    record {
      eight = omega arith;
      stored = s;
      some = omega arith;
      held = h;
      fits = f;
      inside = x.inside;
      few = omega (arith, x.few);
      read = both (is_state (state_after w.fragment (run w.fragment cs []).outcome)) (is_reply a) (state_read w.fragment (run w.fragment cs []).outcome) r;
    }

pub front_multi : (u : Uncommitted) → bad_front u ≡ false → multi u.first ≡ true
front_multi u h = borrow.Author.Tests.not-false (multi u.first) (or_left (not (multi u.first)) (holds u.reply) h)

-- the front, after one more fragment
again_sound : (ct : ℕ) (u : Uncommitted) (f : Fragment) (cs : Cells) → SoundOne ct u → storable ct f ≡ true → u.ran < most_fragments → multi u.first ≡ true
    → SoundOne ct (again u f (run f cs u.undo))
again_sound ct u f cs o s k m =
    let x = ran_left ct f cs u.undo s o.inside in
    record {
      eight = omega arith;
      stored = o.stored;
      some = omega arith;
      held = ap (λ (b : Bool). b || false) m;
      fits = refl;
      inside = x.inside;
      few = omega (arith, x.few, o.few);
      read = both (is_state (state_after f (run f cs u.undo).outcome)) true (state_read f (run f cs u.undo).outcome) refl;
    }

-- Numbers of the queues

pub rises_weaken : (m n top : ℕ) (l : List ℕ) → m ≤ n → Rises n top l → Rises m top l
rises_weaken m n top [] k h = omega arith
rises_weaken m n top (x ∷ l) k h = (omega arith, h.1)

pub rises_top : (n top : ℕ) (l : List ℕ) → Rises n top l → n ≤ top
rises_top n top [] h = h
rises_top n top (x ∷ l) h = let y : x ≤ top = rises_top x top l h.1 in omega (arith, h.0)

pub rises_more : (n top m : ℕ) (l : List ℕ) → top < m → Rises n top l → Rises n m (l ++ (m ∷ []))
rises_more n top m [] k h = (omega arith, omega arith)
rises_more n top m (x ∷ l) k h = (h.0, rises_more x top m l k h.1)

numbers_snoc : (us : List Uncommitted) (w : Waiting) (ws : List Waiting) (v : Uncommitted) → v.number ≡ w.number → numbers (us ++ (v ∷ [])) ws ≡ numbers us (w ∷ ws)
numbers_snoc [] w ws v e = ap {B = List ℕ} (λ (n : ℕ). n ∷ map (λ (w : Waiting). w.number) ws) e
numbers_snoc (u ∷ us) w ws v e = ap {B = List ℕ} (λ (l : List ℕ). u.number ∷ l) (numbers_snoc us w ws v e)

pub numbers_more : (us : List Uncommitted) (ws : List Waiting) (w : Waiting) → numbers us (ws ++ (w ∷ [])) ≡ numbers us ws ++ (w.number ∷ [])
numbers_more [] [] w = refl
numbers_more [] (v ∷ ws) w = ap {B = List ℕ} (λ (l : List ℕ). v.number ∷ l) (numbers_more [] ws w)
numbers_more (u ∷ us) ws w = ap {B = List ℕ} (λ (l : List ℕ). u.number ∷ l) (numbers_more us ws w)

pub numbers_requeued : (us : List Uncommitted) (ws : List Waiting) → numbers [] (map requeued us ++ ws) ≡ numbers us ws
numbers_requeued [] ws = refl
numbers_requeued (u ∷ us) ws = ap {B = List ℕ} (λ (l : List ℕ). u.number ∷ l) (numbers_requeued us ws)

ready_snoc : (u : Uncommitted) (us : List Uncommitted) (v : Uncommitted) → ready (u ∷ us) ≡ true → last_finished (u ∷ us) ≡ true → ready (u ∷ us ++ (v ∷ [])) ≡ true
ready_snoc u [] v r f = both (finished u.state) true f refl
ready_snoc u (x ∷ us) v r f =
    both (finished u.state) (ready (x ∷ us ++ (v ∷ []))) (and_left (finished u.state) _ r) (ready_snoc x us v (and_right (finished u.state) _ r) f)

ready_tail : (u : Uncommitted) (us : List Uncommitted) → ready (u ∷ us) ≡ true → ready us ≡ true
ready_tail u [] r = refl
ready_tail u (v ∷ us) r = and_right (finished u.state) (ready (v ∷ us)) r

-- neither asks the replies
numbers_sent : (ws : List Waiting) (us : List Uncommitted) → numbers (map sent us) ws ≡ numbers us ws
numbers_sent ws [] = refl
numbers_sent ws (u ∷ us) = ap {B = List ℕ} (λ (l : List ℕ). u.number ∷ l) (numbers_sent ws us)

ready_sent : (us : List Uncommitted) → ready (map sent us) ≡ ready us
ready_sent [] = refl
ready_sent (u ∷ []) = refl
ready_sent (u ∷ v ∷ us) = ap (λ (b : Bool). finished u.state && b) (ready_sent (v ∷ us))

-- Attempts of the queues: the same way, and fewer ahead is no harm

abbrev Tried : List ℕ → Type 0
Tried l = All (λ (a : ℕ). 1 ≤ a) l

ahead_less : (i : ℕ) (l : List ℕ) → Ahead (1 + i) l → Ahead i l
ahead_less i [] h = tt
ahead_less i (a ∷ l) h = (omega (arith, h.0), ahead_less (1 + i) l h.1)

attempts_snoc : (us : List Uncommitted) (w : Waiting) (ws : List Waiting) (v : Uncommitted) → v.attempt ≡ w.attempt → attempts (us ++ (v ∷ [])) ws ≡ attempts us (w ∷ ws)
attempts_snoc [] w ws v e = ap {B = List ℕ} (λ (n : ℕ). n ∷ map (λ (w : Waiting). w.attempt) ws) e
attempts_snoc (u ∷ us) w ws v e = ap {B = List ℕ} (λ (l : List ℕ). u.attempt ∷ l) (attempts_snoc us w ws v e)

attempts_more : (us : List Uncommitted) (ws : List Waiting) (w : Waiting) → attempts us (ws ++ (w ∷ [])) ≡ attempts us ws ++ (w.attempt ∷ [])
attempts_more [] [] w = refl
attempts_more [] (v ∷ ws) w = ap {B = List ℕ} (λ (l : List ℕ). v.attempt ∷ l) (attempts_more [] ws w)
attempts_more (u ∷ us) ws w = ap {B = List ℕ} (λ (l : List ℕ). u.attempt ∷ l) (attempts_more us ws w)

attempts_sent : (ws : List Waiting) (us : List Uncommitted) → attempts (map sent us) ws ≡ attempts us ws
attempts_sent ws [] = refl
attempts_sent ws (u ∷ us) = ap {B = List ℕ} (λ (l : List ℕ). u.attempt ∷ l) (attempts_sent ws us)

attempts_length : (us : List Uncommitted) (ws : List Waiting) → length (attempts us ws) ≡ length us + length ws
attempts_length [] [] = refl
attempts_length [] (w ∷ ws) = omega (arith, attempts_length [] ws)
attempts_length (u ∷ us) ws = omega (arith, attempts_length us ws)

-- one more at the end, in its first attempt
ahead_more : (i : ℕ) (l : List ℕ) → i + length l < most_live → Ahead i l → Ahead i (l ++ (1 ∷ []))
ahead_more i [] k h = (omega arith, tt)
ahead_more i (a ∷ l) k h = (h.0, ahead_more (1 + i) l (omega arith) h.1)

-- "Each undoing removes a transaction ahead": one attempt more and one fewer ahead
ahead_requeued : (i : ℕ) (us : List Uncommitted) (ws : List Waiting) → Ahead (1 + i) (attempts us ws) → Ahead i (attempts [] (map requeued us ++ ws))
ahead_requeued i [] ws h = ahead_less i (attempts [] ws) h
ahead_requeued i (u ∷ us) ws h = (omega (arith, h.0), ahead_requeued (1 + i) us ws h.1)

tried_requeued : (us : List Uncommitted) (ws : List Waiting) → Tried (attempts us ws) → Tried (attempts [] (map requeued us ++ ws))
tried_requeued [] ws h = h
tried_requeued (u ∷ us) ws h = (omega arith, tried_requeued us ws h.1)

-- Drain

-- take the first waiting one and run it
pub placed_sound : (σ : Scheme) (ct top : ℕ) (us : List Uncommitted) (w : Waiting) (ws : List Waiting) (cs : Cells) → may_take σ us ≡ true → Sound ct top us (w ∷ ws)
    → Sound ct top (placed us w (run w.fragment cs [])).uncommitted ws × (length (placed us w (run w.fragment cs [])).answers ≤ 1)
placed_sound σ ct top [] w ws cs m s = placed_idle (λ (p : Place). Sound ct top p.uncommitted ws × (length p.answers ≤ 1)) w (run w.fragment cs [])
    (λ e. (
      record {
        cells = s.cells;
        sixteen = omega arith;
        sixty_four = omega (arith, s.sixty_four);
        rises = rises_weaken 0 w.number top (numbers [] ws) (omega arith) s.rises.1;
        tried = s.tried.1;
        ahead = ahead_less 0 (attempts [] ws) s.ahead.1;
        each = tt;
        waiting = s.waiting.1;
        ones = tt;
        front = refl;
        ready = refl;
      },
      omega arith,
    ))
    (λ e. (
      record {
        cells = s.cells;
        sixteen = omega arith;
        sixty_four = omega (arith, s.sixty_four);
        rises = s.rises;
        tried = s.tried;
        ahead = s.ahead;
        each = (begun_sound ct w cs Sent s.waiting.0 refl refl (ap (λ (b : Bool). b || false) e), tt);
        waiting = s.waiting.1;
        ones = tt;
        front = ap (λ (b : Bool). not b || false) e;
        ready = refl;
      },
      omega arith,
    ))
placed_sound σ ct top (u ∷ us) w ws cs m s =
    let x = ran_left ct w.fragment cs [] s.waiting.0 refl in
    let o : Outcome = (run w.fragment cs []).outcome in
    placed_behind (λ (p : Place). Sound ct top p.uncommitted ws × (length p.answers ≤ 1)) u us w (run w.fragment cs []) (
      join (Held o) (both (leb (length o.numbers) most_operations) (leb o.place most_operations) (le-leb (length o.numbers) most_operations x.numbers) (le-leb o.place most_operations x.place)) refl
          (or_true (multi w.fragment) true refl),
      omega arith,
    )
    (λ e. (join Sent refl refl (ap (λ (b : Bool). b || false) e), omega arith))
  where
    less : length (u ∷ us) < depth
    less = ltb-true (length (u ∷ us)) depth (may_less σ u us m)

    join : (a : Reply) → fits a ≡ true → is_reply a ≡ true → (multi w.fragment || holds a) ≡ true → Sound ct top (u ∷ us ++ (begun w (run w.fragment cs []) a ∷ [])) ws
    join a x r y = record {
      cells = s.cells;
      sixteen = omega (arith, less, length-append (u ∷ us) (begun w (run w.fragment cs []) a ∷ []));
      sixty_four = omega (arith, s.sixty_four, length-append (u ∷ us) (begun w (run w.fragment cs []) a ∷ []));
      rises = subst (λ (l : List ℕ). Rises 0 top l) (sym (numbers_snoc (u ∷ us) w ws (begun w (run w.fragment cs []) a) refl)) s.rises;
      tried = subst Tried (sym (attempts_snoc (u ∷ us) w ws (begun w (run w.fragment cs []) a) refl)) s.tried;
      ahead = subst (Ahead 0) (sym (attempts_snoc (u ∷ us) w ws (begun w (run w.fragment cs []) a) refl)) s.ahead;
      each = all_append (SoundOne ct) (u ∷ us) (begun w (run w.fragment cs []) a ∷ []) s.each (begun_sound ct w cs a s.waiting.0 x r y, tt);
      waiting = s.waiting.1;
      ones = all_append (λ (v : Uncommitted). v.ran ≤ 1) us (begun w (run w.fragment cs []) a ∷ []) s.ones (omega arith, tt);
      front = s.front;
      ready = ready_snoc u us (begun w (run w.fragment cs []) a) s.ready (may_finished σ u us m);
    }

pub drain_sound : (σ : Scheme) (ct top : ℕ) (cs : Cells) (us : List Uncommitted) (ws : List Waiting) → Sound ct top us ws
    → Sound ct top (drain σ cs us ws).uncommitted (drain σ cs us ws).waiting × (length (drain σ cs us ws).answers ≤ length ws)
unfolding drain
drain_sound σ ct top cs us [] s = (s, omega arith)
drain_sound σ ct top cs us (w ∷ ws) s = drain_cases (λ (q : Queues). Sound ct top q.uncommitted q.waiting × (length q.answers ≤ suc (length ws))) σ cs us w ws
    (λ _. (s, omega arith))
    (λ e. let h = placed_sound σ ct top us w ws cs e s in
    let x = drain_sound σ ct top (run w.fragment cs []).cells (placed us w (run w.fragment cs [])).uncommitted ws h.0 in
    (x.0, omega (arith, h.1, x.1, length-append (placed us w (run w.fragment cs [])).answers (drain σ (run w.fragment cs []).cells (placed us w (run w.fragment cs [])).uncommitted ws).answers)))

-- Settling: what is behind the front, before the singles have settled
pub record Half (ct top : ℕ) (us : List Uncommitted) (ws : List Waiting) : Type 0 where
  cells : ct ≤ 4096
  sixteen : length us ≤ depth
  sixty_four : length us + length ws ≤ most_live
  rises : Rises 0 top (numbers us ws)
  tried : All (λ (a : ℕ). 1 ≤ a) (attempts us ws)
  ahead : Ahead 0 (attempts us ws)
  each : All (SoundOne ct) us
  waiting : All (Stored ct) ws
  ones : All (λ (u : Uncommitted). u.ran ≤ 1) us
  ready : ready us ≡ true

half_tail : (ct top : ℕ) (u : Uncommitted) (us : List Uncommitted) (ws : List Waiting) → Half ct top (u ∷ us) ws → Half ct top us ws
half_tail ct top u us ws h = record {
  cells = h.cells;
  sixteen = omega (arith, h.sixteen);
  sixty_four = omega (arith, h.sixty_four);
  rises = rises_weaken 0 u.number top (numbers us ws) (omega arith) h.rises.1;
  tried = h.tried.1;
  ahead = ahead_less 0 (attempts us ws) h.ahead.1;
  each = h.each.1;
  waiting = h.waiting;
  ones = h.ones.1;
  ready = ready_tail u us h.ready;
}

pub front_leaves : (ct top : ℕ) (u : Uncommitted) (us : List Uncommitted) (ws : List Waiting) → Sound ct top (u ∷ us) ws → Half ct top us ws
front_leaves ct top u us ws s = record {
  cells = s.cells;
  sixteen = omega (arith, s.sixteen);
  sixty_four = omega (arith, s.sixty_four);
  rises = rises_weaken 0 u.number top (numbers us ws) (omega arith) s.rises.1;
  tried = s.tried.1;
  ahead = ahead_less 0 (attempts us ws) s.ahead.1;
  each = s.each.1;
  waiting = s.waiting;
  ones = s.ones;
  ready = ready_tail u us s.ready;
}

sent_sound : (ct : ℕ) (u : Uncommitted) → multi u.first ≡ true → SoundOne ct u → SoundOne ct (sent u)
sent_sound ct u e o = record {
  eight = o.eight;
  stored = o.stored;
  some = o.some;
  held = ap (λ (b : Bool). b || false) e;
  fits = refl;
  inside = o.inside;
  few = o.few;
  read = both (is_state u.state) true (and_left (is_state u.state) (is_reply u.reply) o.read) refl;
}

pub settled_sound : (ct top : ℕ) (us : List Uncommitted) (ws : List Waiting) → Half ct top us ws → Sound ct top (settled us).uncommitted ws × (length (settled us).answers ≤ length us)
unfolding settled
settled_sound ct top [] ws h = (record { cells = h.cells; sixteen = h.sixteen; sixty_four = h.sixty_four; rises = h.rises; tried = h.tried; ahead = h.ahead; each = tt; waiting = h.waiting; ones = tt; front = refl; ready = refl }, omega arith)
settled_sound ct top (u ∷ us) ws h = settled_cases (λ (p : Place). Sound ct top p.uncommitted ws × (length p.answers ≤ suc (length us))) u us
    (λ e. (
      record {
        cells = h.cells;
        sixteen = omega (arith, h.sixteen, released_length (u ∷ []) us);
        sixty_four = omega (arith, h.sixty_four, released_length (u ∷ []) us);
        rises = subst (λ (l : List ℕ). Rises 0 top l) (sym (ap {B = List ℕ} (λ (l : List ℕ). u.number ∷ l) (released_keeps (λ vs. numbers vs ws) (numbers_sent ws) (u ∷ []) us))) h.rises;
        tried = subst Tried (sym (ap {B = List ℕ} (λ (l : List ℕ). u.attempt ∷ l) (released_keeps (λ vs. attempts vs ws) (attempts_sent ws) (u ∷ []) us))) h.tried;
        ahead = subst (Ahead 0) (sym (ap {B = List ℕ} (λ (l : List ℕ). u.attempt ∷ l) (released_keeps (λ vs. attempts vs ws) (attempts_sent ws) (u ∷ []) us))) h.ahead;
        each = (sent_sound ct u e h.each.0, released_all (SoundOne ct) (sent_sound ct) (u ∷ []) us h.each.1);
        waiting = h.waiting;
        ones = released_all (λ (v : Uncommitted). v.ran ≤ 1) (λ v _ k. k) (u ∷ []) us h.ones.1;
        front = ap (λ (b : Bool). not b || false) e;
        ready = released_keeps (λ vs. ready (sent u ∷ vs)) (λ vs. ready_sent (sent u ∷ vs)) (u ∷ []) us ∙ sym (ready_sent (sent u ∷ us)) ∙ ready_sent (u ∷ us) ∙ h.ready;
      },
      omega (arith, held_one 0 0 u, released_most (u ∷ []) us, length-append (held_by u) (released (u ∷ []) us).answers),
    ))
    (λ _. let x = settled_sound ct top us ws (half_tail ct top u us ws h) in (x.0, omega (arith, held_one 0 0 u, x.1, length-append (held_by u) (settled us).answers)))

-- The four steps

pub record Stays (ct top : ℕ) (q : Queues) : Type 0 where
  pub sound : Sound ct top q.uncommitted q.waiting
  pub most : length q.answers ≤ 64

module _ (ct top : ℕ) (ws : List Waiting) (cs : Cells) where
  -- before the drain, each step leaves a sound record
  pub joined_sound : (us : List Uncommitted) (n : ℕ) (f : Fragment) → Sound ct top us ws → top < n → storable ct f ≡ true → length us + length ws < most_live → Sound ct n us (ws ++ (arrival n f ∷ []))
  joined_sound us n f s k st l =
      let w : Waiting = arrival n f in
      record {
        cells = s.cells;
        sixteen = s.sixteen;
        sixty_four = omega (arith, length-append ws (w ∷ []));
        rises = subst (λ (z : List ℕ). Rises 0 n z) (sym (numbers_more us ws w)) (rises_more 0 top n (numbers us ws) k s.rises);
        tried = subst Tried (sym (attempts_more us ws w)) (all_append (λ (a : ℕ). 1 ≤ a) (attempts us ws) (1 ∷ []) s.tried (omega arith, tt));
        ahead = subst (Ahead 0) (sym (attempts_more us ws w)) (ahead_more 0 (attempts us ws) (omega (arith, attempts_length us ws)) s.ahead);
        each = s.each;
        waiting = all_append (Stored ct) ws (w ∷ []) s.waiting (st, tt);
        ones = s.ones;
        front = s.front;
        ready = s.ready;
      }

  pub continued_sound : (u : Uncommitted) (f : Fragment) → Sound ct top (u ∷ []) ws → storable ct f ≡ true → u.ran < most_fragments → Sound ct top (again u f (run f cs u.undo) ∷ []) ws
  continued_sound u f s st k = record {
    cells = s.cells;
    sixteen = s.sixteen;
    sixty_four = s.sixty_four;
    rises = s.rises;
    tried = s.tried;
    ahead = s.ahead;
    each = (again_sound ct u f cs s.each.0 st k (front_multi u s.front), tt);
    waiting = s.waiting;
    ones = tt;
    front = ap (λ (b : Bool). not b || false) (front_multi u s.front);
    ready = refl;
  }

  stored_requeued : (us : List Uncommitted) → All (SoundOne ct) us → All (Stored ct) (map requeued us)
  stored_requeued [] h = tt
  stored_requeued (u ∷ us) h = (h.0.stored, stored_requeued us h.1)

  pub aborted_sound : (u : Uncommitted) (us : List Uncommitted) → Sound ct top (u ∷ us) ws → Sound ct top [] (map requeued us ++ ws)
  aborted_sound u us s = record {
    cells = s.cells;
    sixteen = omega arith;
    sixty_four = omega (arith, s.sixty_four, length-append (map requeued us) ws, length-map us requeued);
    rises = subst (λ (z : List ℕ). Rises 0 top z) (sym (numbers_requeued us ws)) (front_leaves ct top u us ws s).rises;
    tried = tried_requeued us ws s.tried.1;
    ahead = ahead_requeued 0 us ws s.ahead.1;
    each = tt;
    waiting = all_append (Stored ct) (map requeued us) ws (stored_requeued us s.each.1) s.waiting;
    ones = tt;
    front = refl;
    ready = refl;
  }

  -- an unfinished front is alone
  pub alone : (u : Uncommitted) (us : List Uncommitted) → Sound ct top (u ∷ us) ws → finished u.state ≡ false → us ≡ []
  alone u [] s nf = refl
  alone u (v ∷ us) s nf = absurd (true≢false (sym (and_left (finished u.state) (ready (v ∷ us)) s.ready) ∙ nf))

  pub joined_stays : (σ : Scheme) (us : List Uncommitted) (n : ℕ) (f : Fragment) → Sound ct top us ws → top < n → storable ct f ≡ true → length us + length ws < most_live → Stays ct n (joined σ n f cs us ws)
  joined_stays σ us n f s k st l =
      let w : Waiting = arrival n f in
      let x = drain_sound σ ct n cs us (ws ++ (w ∷ [])) (joined_sound us n f s k st l) in
      record { sound = x.0; most = omega (arith, x.1, length-append ws (w ∷ [])) }

  pub continued_stays : (σ : Scheme) (u : Uncommitted) (us : List Uncommitted) (f : Fragment) → Sound ct top (u ∷ us) ws → storable ct f ≡ true → finished u.state ≡ false → u.ran < most_fragments
      → Stays ct top (continued σ f cs u us ws)
  continued_stays σ u (v ∷ us) f s st nf k = absurd (true≢false (sym (and_left (finished u.state) (ready (v ∷ us)) s.ready) ∙ nf))
  continued_stays σ u [] f s st nf k =
      let x = drain_sound σ ct top (run f cs u.undo).cells (again u f (run f cs u.undo) ∷ []) ws (continued_sound u f s st k) in
      record { sound = x.0; most = omega (arith, x.1, s.sixty_four) }

  pub committed_stays : (σ : Scheme) (u : Uncommitted) (us : List Uncommitted) → Sound ct top (u ∷ us) ws → Stays ct top (committed σ cs (u ∷ us) ws)
  committed_stays σ u us s =
      let y = settled_sound ct top us ws (front_leaves ct top u us ws s) in
      let x = drain_sound σ ct top cs (settled us).uncommitted ws y.0 in
      record { sound = x.0; most = omega (arith, x.1, y.1, s.sixty_four, length-append (settled us).answers (drain σ cs (settled us).uncommitted ws).answers) }

  pub aborted_stays : (σ : Scheme) (u : Uncommitted) (us : List Uncommitted) → Sound ct top (u ∷ us) ws → Stays ct top (aborted σ cs (u ∷ us) ws)
  aborted_stays σ u us s =
      let x = drain_sound σ ct top _ [] (map requeued us ++ ws) (aborted_sound u us s) in
      record { sound = x.0; most = omega (arith, x.1, s.sixty_four, length-append (map requeued us) ws, length-map us requeued) }
