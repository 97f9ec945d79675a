-- Every call keeps a sound record sound and sends at most 64 answers; so no call from a fresh start returns 1. A start that was refused is
-- refused by 3 for ever.
use Prim.Native.Nat.{ℕ, zero, suc, ◌+◌, ◌≤◌, ◌<◌}
use native.Mathlib.Omega.{arith}
use borrow.Author.Tests.{ltb-true, leb-false, le-ltb, eqb-true, not-false, ltb-false}
use mathlib.Core.Path.{◌≡◌, refl, sym, ap, ◌∙◌, subst}
use mathlib.Core.Bool.{Bool, true, false, not, ◌&&◌, ◌||◌, true≢false}
use mathlib.Core.List.{List, [], ◌∷◌}
use lib.Dec.{leb, ltb, eqb}
use lib.ListN.{length, drop}
use Rattle.model.specs.Limits.{most_cells, most_fragments, most_live, least_room}
use Rattle.model.specs.Operations.{Cells, pick}
use Rattle.model.specs.Transactions.{finished, Uncommitted, Waiting, Engine, numbers}
use Rattle.model.specs.Steps.{Queues, joined, continued, arrived, committed, aborted}
use Rattle.model.specs.Refusals.{Request, Arrive, Commit, Abort, request, formed, blank, formed_event, inside, storable, sound, Call, live, rows, first_of, refusal, taken, largest_after, respond, step, Started, start, empty}
use Rattle.model.specs.Demand.{Run, onward, runs, fresh}
use Rattle.model.specs.declared.Fragment.{Fragment}
use Rattle.model.specs.declared.Scheme.{Scheme}
use Rattle.model.proofs.Branches.{request_cases}
use Rattle.model.proofs.Passing.{passed, took, front_or_new, and_if, decides_front}
use Rattle.model.proofs.Tests.{both, and_right, or_left}
use Rattle.model.proofs.Sound.{sound_parts, parts_sound}
use Rattle.model.proofs.Keeping.{Stays, joined_stays, continued_stays, committed_stays, aborted_stays, rises_top}
use Rattle.model.specs.Parts.{All, Passed, SoundEngine, Sound}

-- a fragment that was accepted could be stored
pub arrives_storable : (e : Engine) (c : Call) → eqb c.event.kind 1 ≡ true → Passed e c → storable e.count c.event.fragment ≡ true
arrives_storable e c a p =
    both (formed f) (inside e.count f)
    (go (eqb c.event.kind 1) ((eqb c.event.kind 2 || eqb c.event.kind 3) && blank f) a
    (λ z. eqb_true_1 c.event.kind a z) (and_right (leb 1 c.event.number) _ (not-false (formed_event c.event) p.four)))
    (not-false (inside e.count f) (and_if (eqb c.event.kind 1) (not (inside e.count f)) a p.five))
  where
    f : Fragment
    f = c.event.fragment

    -- kind 1 is neither 2 nor 3
    eqb_true_1 : (k : ℕ) → eqb k 1 ≡ true → ((eqb k 2 || eqb k 3) && blank f) ≡ true → ⊥
    eqb_true_1 k a z =
        let one : k ≡ 1 = eqb-true k 1 a in
        true≢false (sym z ∙ ap (λ (n : ℕ). (eqb n 2 || eqb n 3) && blank f) one)

    go : (x y : Bool) → x ≡ true → (y ≡ true → ⊥) → (x && formed f || y) ≡ true → formed f ≡ true
    go true y e n h = or (formed f) y n h
      where
        or : (b y : Bool) → (y ≡ true → ⊥) → (b || y) ≡ true → b ≡ true
        or true y n h = refl
        or false y n h = absurd (n h)
    go false y e n h = absurd (true≢false (sym e))

-- An accepted call by its steps: what holds of each step from a sound record in which H holds of the uncommitted ones, with the largest number after
-- it, holds of the call.
module _ (H : List Uncommitted → Type 0) (P : ℕ → Queues → Type 0) (σ : Scheme) (ct top : ℕ) (ws : List Waiting) (cs : Cells) (c : Call)
    (joins : (us : List Uncommitted) → Sound ct top us ws → H us → top < c.event.number → storable ct c.event.fragment ≡ true → length us + length ws < most_live
    → P c.event.number (joined σ c.event.number c.event.fragment cs us ws))
    (continues : (u : Uncommitted) (us : List Uncommitted) → Sound ct top (u ∷ us) ws → H (u ∷ us) → storable ct c.event.fragment ≡ true → finished u.state ≡ false → u.ran < most_fragments
    → P top (continued σ c.event.fragment cs u us ws))
    (commits : (u : Uncommitted) (us : List Uncommitted) → Sound ct top (u ∷ us) ws → H (u ∷ us) → P top (committed σ cs (u ∷ us) ws))
    (aborts : (u : Uncommitted) (us : List Uncommitted) → Sound ct top (u ∷ us) ws → H (u ∷ us) → request c.event ≡ Abort c.event.number → P top (aborted σ cs (u ∷ us) ws)) where
  abbrev engine_of : List Uncommitted → Engine
  engine_of us = record { count = ct; largest = top; uncommitted = us; waiting = ws }

  arrive_by : (us : List Uncommitted) → eqb c.event.kind 1 ≡ true → Sound ct top us ws → H us → Passed (engine_of us) c
      → P (largest_after (Arrive c.event.number c.event.fragment) (engine_of us)) (arrived σ c.event.number c.event.fragment cs us ws)
  arrive_by us a s x p = go us s x p
    where
      n : ℕ
      n = c.event.number

      f : Fragment
      f = c.event.fragment

      news : (vs : List Uncommitted) → Sound ct top vs ws → H vs → Passed (engine_of vs) c → ltb top n ≡ true → P (elim (ltb top n) [ true ↦ n | false ↦ top ]) (joined σ n f cs vs ws)
      news vs s x q e =
          subst (λ (t : ℕ). P t (joined σ n f cs vs ws)) (sym (ap {B = ℕ} (λ (b : Bool). elim b [ true ↦ n | false ↦ top ]) e))
          (joins vs s x (ltb-true top n e) (arrives_storable (engine_of vs) c a q)
          (leb-false most_live (length vs + length ws) (and_if (eqb c.event.kind 1 && ltb top n) (leb most_live (length vs + length ws)) (both (eqb c.event.kind 1) (ltb top n) a e) q.ten)))

      go : (vs : List Uncommitted) → Sound ct top vs ws → H vs → Passed (engine_of vs) c → P (elim (ltb top n) [ true ↦ n | false ↦ top ]) (arrived σ n f cs vs ws)
      go [] s x p = news [] s x p (front_or_new (live n (engine_of [])) (ltb top n) false p.six p.seven refl)
      go (u ∷ vs) s x p = or (eqb u.number n) refl
        where
          at : (q : Uncommitted → Bool) → eqb u.number n ≡ true → (eqb c.event.kind 1 && (eqb u.number n && q u)) ≡ false → q u ≡ false
          at q e h = and_if (eqb u.number n) (q u) e (and_if (eqb c.event.kind 1) (eqb u.number n && q u) a h)

          or : (b : Bool) → eqb u.number n ≡ b → P (elim (ltb top n) [ true ↦ n | false ↦ top ]) (elim b [ false ↦ joined σ n f cs (u ∷ vs) ws | true ↦ continued σ f cs u vs ws ])
          or false e = news (u ∷ vs) s x p (front_or_new (live n (engine_of (u ∷ vs))) (ltb top n) (eqb u.number n) p.six p.seven e)
          or true e =
              let same : u.number ≡ n = eqb-true u.number n e in
              let old : n ≤ top = subst (λ (m : ℕ). m ≤ top) same (rises_top u.number top (numbers vs ws) s.rises.1) in
              subst (λ (t : ℕ). P t (continued σ f cs u vs ws)) (sym (ap {B = ℕ} (λ (b : Bool). elim b [ true ↦ n | false ↦ top ]) (le-ltb top n old)))
              (continues u vs s x (arrives_storable (engine_of (u ∷ vs)) c a p)
              (at (λ u. finished u.state) e p.eight) (leb-false most_fragments u.ran (at (λ u. leb most_fragments u.ran) e p.eleven)))

  commit_by : (us : List Uncommitted) → eqb c.event.kind 1 ≡ false → Sound ct top us ws → H us → Passed (engine_of us) c → P top (taken σ (Commit c.event.number) (engine_of us) cs)
  commit_by [] a s x p = absurd (true≢false (sym (decides_front (engine_of []) c a p)))
  commit_by (u ∷ us) a s x p = commits u us s x

  abort_by : (us : List Uncommitted) → eqb c.event.kind 1 ≡ false → request c.event ≡ Abort c.event.number → Sound ct top us ws → H us → Passed (engine_of us) c → P top (taken σ (Abort c.event.number) (engine_of us) cs)
  abort_by [] a r s x p = absurd (true≢false (sym (decides_front (engine_of []) c a p)))
  abort_by (u ∷ us) a r s x p = aborts u us s x r

  pub accepted_by : (us : List Uncommitted) → Sound ct top us ws → H us → Passed (engine_of us) c → P (largest_after (request c.event) (engine_of us)) (taken σ (request c.event) (engine_of us) cs)
  accepted_by us s x p = request_cases (λ (q : Request). request c.event ≡ q → P (largest_after q (engine_of us)) (taken σ q (engine_of us) cs)) c.event
      (λ a _. arrive_by us a s x p) (λ a _. commit_by us a s x p) (λ a r. abort_by us a r s x p) refl

accepted_stays : (e : Engine) (c : Call) → SoundEngine e → Passed e c → Stays e.count (largest_after (request c.event) e) (taken c.scheme (request c.event) e c.lent)
accepted_stays e c s p = accepted_by (λ us. Unit {0}) (Stays e.count) c.scheme e.count e.largest e.waiting c.lent c
    (λ us s _ k st l. joined_stays e.count e.largest e.waiting c.lent c.scheme us c.event.number c.event.fragment s k st l)
    (λ u us s _ st nf k. continued_stays e.count e.largest e.waiting c.lent c.scheme u us c.event.fragment s st nf k)
    (λ u us s _. committed_stays e.count e.largest e.waiting c.lent c.scheme u us s)
    (λ u us s _ _. aborted_stays e.count e.largest e.waiting c.lent c.scheme u us s)
    e.uncommitted s tt p

-- Kept by every call, from every sound record
pub record StepKeeps (e : Engine) (c : Call) : Type 0 where
  pub sound : sound (step e c).engine ≡ true
  pub most : length (step e c).answers ≤ 64

pub step_keeps : (e : Engine) (c : Call) → sound e ≡ true → StepKeeps e c
unfolding step
step_keeps e c h =
    let x = go (refusal e c) refl in
    record { sound = x.0; most = x.1 }
  where
    go : (k : ℕ) → refusal e c ≡ k → (sound (respond k e c).engine ≡ true) × (length (respond k e c).answers ≤ 64)
    go zero q = let x = accepted_stays e c (sound_parts e h) (passed e c q) in (parts_sound (respond zero e c).engine x.sound, x.most)
    go (suc k) q = (h, omega arith)

-- "One call sends at most 64", from every record: an unsound one is refused
pub answers_most : (e : Engine) (c : Call) → length (step e c).answers ≤ 64
unfolding step
answers_most e c = go (refusal e c) refl
  where
    go : (k : ℕ) → refusal e c ≡ k → length (respond k e c).answers ≤ 64
    go zero q = (accepted_stays e c (sound_parts e (not-false (sound e) (passed e c q).one)) (passed e c q)).most
    go (suc k) q = omega arith

-- From a fresh start

empty_sound : (n : ℕ) → n ≤ most_cells → sound (empty n) ≡ true
empty_sound n k =
    parts_sound (empty n) (record { cells = k; sixteen = omega arith; sixty_four = omega arith; rises = omega arith; tried = tt; ahead = tt; each = tt; waiting = tt; ones = tt; front = refl; ready = refl })

pub start_sound : (n : ℕ) → sound (start n).engine ≡ true
unfolding start
start_sound n = go (eqb n 0 || ltb most_cells n) refl
  where
    go : (b : Bool) → (eqb n 0 || ltb most_cells n) ≡ b → sound (pick {A = Started} b (record { number = 3; engine = empty 0 }) (record { number = 0; engine = empty n })).engine ≡ true
    go true e = empty_sound 0 (omega arith)
    go false e = empty_sound n (ltb-false most_cells n (Rattle.model.proofs.Tests.or_right (eqb n 0) (ltb most_cells n) e))

pub runs_sound : (cs : Cells) (calls : List Call) → sound (runs (fresh cs) calls).engine ≡ true
runs_sound cs calls = go (fresh cs) calls (start_sound (length cs))
  where
    go : (r : Run) (calls : List Call) → sound r.engine ≡ true → sound (runs r calls).engine ≡ true
    go r [] h = h
    go r (c ∷ calls) h = go (onward r c) calls (step_keeps r.engine c h).sound

-- the returned number is the refusal
pub step_number : (e : Engine) (c : Call) → (step e c).number ≡ refusal e c
unfolding step
step_number e c = go (refusal e c)
  where
    go : (k : ℕ) → (respond k e c).number ≡ k
    go zero = refl
    go (suc k) = refl

-- a sound record is not refused by 1: every row behind the first has a larger number
pub never_one : (e : Engine) (c : Call) → sound e ≡ true → (step e c).number ≡ 1 → ⊥
unfolding refusal rows
never_one e c h z = above (behind_first_lem (rows e c)) (omega arith)
    (sym (ap {B = ℕ} (λ (b : Bool). elim (not b) [ true ↦ 1 | false ↦ first_of (behind_first_lem (rows e c)) ]) h) ∙ sym (step_number e c) ∙ z)
  where
    behind_first_lem : List (ℕ × Bool) → List (ℕ × Bool)
    behind_first_lem [] = []
    behind_first_lem (r ∷ rs) = rs

    above : (rs : List (ℕ × Bool)) → All (λ (r : ℕ × Bool). 1 < r.0) rs → first_of rs ≡ 1 → ⊥
    above [] p k = omega arith
    above (r ∷ rs) p k = go r.1 (λ j. above rs p.1 j) k
      where
        go : (b : Bool) → (first_of rs ≡ 1 → ⊥) → ◌≡◌ {A = ℕ} (elim b [ true ↦ r.0 | false ↦ first_of rs ]) 1 → ⊥
        go true f j = let x : 1 < r.0 = p.0 in omega arith
        go false f j = f j

-- no call from a fresh start returns 1
pub fresh_never_one : (cs : Cells) (calls : List Call) (c : Call) → (step (runs (fresh cs) calls).engine c).number ≡ 1 → ⊥
fresh_never_one cs calls c z = never_one (runs (fresh cs) calls).engine c (runs_sound cs calls) z

-- no call is accepted on a record of 0 cells, whatever its room
pub never_taken : (c : Call) → (step (empty 0) c).number ≡ 0 → ⊥
never_taken c z = go (eqb (length c.lent) 0) (passed (empty 0) c (took (empty 0) c z)).three
  where
    go : (b : Bool) → (b || not b) ≡ false → ⊥
    go true h = true≢false h
    go false h = true≢false h

-- "a record with 0 cells, which every later call with enough room refuses by 3"
pub not-started : (c : Call) → least_room ≤ length c.room → (step (empty 0) c).number ≡ 3
unfolding refusal rows
not-started c k =
    step_number (empty 0) c
    ∙ ap {B = ℕ} (λ (b : Bool). elim (not b) [ true ↦ 1 | false ↦ elim (ltb (length c.room) least_room) [ true ↦ 2 | false ↦ none ] ]) (empty_sound 0 (omega arith))
    ∙ ap {B = ℕ} (λ (b : Bool). elim b [ true ↦ 2 | false ↦ none ]) (le-ltb (length c.room) least_room k)
    ∙ go (eqb (length c.lent) 0)
  where
    -- 3 and the rows behind it
    none : ℕ
    none = first_of (drop 2 (rows (empty 0) c))

    go : (b : Bool) → ◌≡◌ {A = ℕ} (elim (b || not b) [ true ↦ 3 | false ↦ first_of (drop 3 (rows (empty 0) c)) ]) 3
    go true = refl
    go false = refl
