-- The answers of one call stand in rising number, so no transaction is answered twice in it, and none is for a number above the largest accepted;
-- from every record, by either scheme.
use Prim.Native.Nat.{ℕ, zero, suc, ◌≤◌, ◌<◌}
use native.Mathlib.Omega.{arith}
use borrow.Author.Tests.{ltb-true, not-false}
use mathlib.Core.Path.{◌≡◌, refl, sym, subst}
use mathlib.Core.Bool.{Bool, true, false}
use mathlib.Core.List.{List, [], ◌∷◌, ◌++◌, map, append_assoc}
use lib.Dec.{ltb, eqb}
use Rattle.model.specs.Operations.{Cells}
use Rattle.model.specs.Transactions.{Uncommitted, Waiting, Engine, Answer, Rising, numbers, front}
use Rattle.model.specs.Steps.{run, nearest, nearest_attempt, Place, placed, Queues, drain, joined, continued, arrival, arrived, held_with, held_by, released, settled, committed, requeued, aborted}
use Rattle.model.specs.Refusals.{Request, Arrive, Commit, Abort, request, sound, live, new, is_front, Call, refusal, taken, largest_after, respond, step}
use Rattle.model.specs.Demand.{Rises}
use Rattle.model.specs.declared.Fragment.{Fragment}
use Rattle.model.specs.declared.Scheme.{Scheme}
use Rattle.model.proofs.Branches.{placed_idle, placed_behind, released_cases, settled_cases, drain_cases, held_cases, request_cases}
use Rattle.model.proofs.Passing.{passed, front_or_new}
use Rattle.model.proofs.Sound.{sound_parts}
use Rattle.model.proofs.Keeping.{rises_weaken, rises_top, numbers_requeued, numbers_more, rises_more}
use Rattle.model.specs.Parts.{Passed}

-- the numbers of answers rise from above n to at most top
abbrev Up : ℕ → ℕ → List Answer → Type 0
Up n top l = Rises n top (map (λ (a : Answer). a.number) l)

up_low : (m n top : ℕ) (l : List Answer) → m ≤ n → Up n top l → Up m top l
up_low m n top l k h = rises_weaken m n top (map (λ (a : Answer). a.number) l) k h

up_high : (n top top' : ℕ) (l : List Answer) → top ≤ top' → Up n top l → Up n top' l
up_high n top top' [] k h = omega arith
up_high n top top' (a ∷ l) k h = (h.0, up_high a.number top top' l k h.1)

up_rising : (n top : ℕ) (l : List Answer) → Up n top l → Rising n l
up_rising n top [] h = tt
up_rising n top (a ∷ l) h = (h.0, up_rising a.number top l h.1)

-- at most one answer for the first of the queue, then others
placed_rising : (n top : ℕ) (us : List Uncommitted) (w : Waiting) (cs : Cells) (l : List Answer) → n < w.number → Up w.number top l → Up n top ((placed us w (run w.fragment cs [])).answers ++ l)
placed_rising n top [] w cs l k h = placed_idle (λ (p : Place). Up n top (p.answers ++ l)) w (run w.fragment cs []) (λ _. (k, h)) (λ _. (k, h))
placed_rising n top (u ∷ us) w cs l k h =
    placed_behind (λ (p : Place). Up n top (p.answers ++ l)) u us w (run w.fragment cs []) (up_low n w.number top l (omega arith) h) (λ _. (k, h))

drain_rising : (σ : Scheme) (n top : ℕ) (cs : Cells) (us : List Uncommitted) (ws : List Waiting) → Rises n top (numbers [] ws) → Up n top (drain σ cs us ws).answers
unfolding drain
drain_rising σ n top cs us [] h = h
drain_rising σ n top cs us (w ∷ ws) h = drain_cases (λ (q : Queues). Up n top q.answers) σ cs us w ws (λ _. rises_top n top (numbers [] (w ∷ ws)) h) (λ _. placed_rising n top us w cs _ h.0 (drain_rising σ w.number top _ _ ws h.1))

held_rising : (n top d b : ℕ) (u : Uncommitted) (l : List Answer) → n < u.number → Up u.number top l → Up n top (held_with d b u ++ l)
held_rising n top d b u l k h = held_cases (λ (a : List Answer). Up n top (a ++ l)) d b u (λ o _. (k, h)) (λ _. up_low n u.number top l (omega arith) h)

waits_rise : (n top : ℕ) (us : List Uncommitted) (ws : List Waiting) → Rises n top (numbers us ws) → Rises n top (numbers [] ws)
waits_rise n top [] ws h = h
waits_rise n top (u ∷ us) ws h = rises_weaken n u.number top (numbers [] ws) (omega (arith, h.0)) (waits_rise u.number top us ws h.1)

-- those that are released, then others: l, above all that wait
module _ (top : ℕ) (ws : List Waiting) (l : List Answer) (t : (m : ℕ) → Rises m top (numbers [] ws) → Up m top l) where
  released_rising : (n : ℕ) (ahead us : List Uncommitted) → Rises n top (numbers us ws) → Up n top ((released ahead us).answers ++ l)
  unfolding released
  released_rising n ahead [] h = t n h
  released_rising n ahead (u ∷ us) h =
      let k = released_rising u.number (ahead ++ (u ∷ [])) us h.1 in
      released_cases (λ (p : Place). Up n top (p.answers ++ l)) ahead u us
      (up_low n u.number top ((released (ahead ++ (u ∷ [])) us).answers ++ l) (omega (arith, h.0)) k)
      (λ _. subst (Up n top) (sym (append_assoc (held_with (nearest 0 ahead) (nearest_attempt 0 ahead) u) (released (ahead ++ (u ∷ [])) us).answers l)) (held_rising n top (nearest 0 ahead) (nearest_attempt 0 ahead) u ((released (ahead ++ (u ∷ [])) us).answers ++ l) h.0 k))

  -- those of the singles that settle, of the new front and of the released ones, then others
  settled_rising : (n : ℕ) (us : List Uncommitted) → Rises n top (numbers us ws) → Up n top ((settled us).answers ++ l)
  unfolding settled
  settled_rising n [] h = t n h
  settled_rising n (u ∷ us) h = settled_cases (λ (p : Place). Up n top (p.answers ++ l)) u us
      (λ _. subst (Up n top) (sym (append_assoc (held_by u) (released (u ∷ []) us).answers l)) (held_rising n top 0 0 u ((released (u ∷ []) us).answers ++ l) h.0 (released_rising u.number (u ∷ []) us h.1)))
      (λ _. subst (Up n top) (sym (append_assoc (held_by u) (settled us).answers l)) (held_rising n top 0 0 u ((settled us).answers ++ l) h.0 (settled_rising u.number us h.1)))

module _ (σ : Scheme) (top : ℕ) (cs : Cells) (ws : List Waiting) where
  joined_rising : (n : ℕ) (f : Fragment) (us : List Uncommitted) → Rises 0 top (numbers us ws) → top < n → Up 0 n (joined σ n f cs us ws).answers
  joined_rising n f us h k =
      let w : Waiting = arrival n f in
      drain_rising σ 0 n cs us (ws ++ (w ∷ [])) (waits_rise 0 n us (ws ++ (w ∷ [])) (subst (λ (l : List ℕ). Rises 0 n l) (sym (numbers_more us ws w)) (rises_more 0 top n (numbers us ws) k h)))

  continued_rising : (f : Fragment) (u : Uncommitted) (us : List Uncommitted) → Rises 0 top (numbers (u ∷ us) ws) → Up 0 top (continued σ f cs u us ws).answers
  continued_rising f u us h = (h.0, drain_rising σ u.number top _ _ ws (waits_rise u.number top us ws h.1))

  committed_rising : (us : List Uncommitted) → Rises 0 top (numbers us ws) → Up 0 top (committed σ cs us ws).answers
  committed_rising [] h = omega arith
  committed_rising (u ∷ us) h =
      settled_rising top ws (drain σ cs (settled us).uncommitted ws).answers (λ m r. drain_rising σ m top cs (settled us).uncommitted ws r) 0 us (rises_weaken 0 u.number top (numbers us ws) (omega arith) h.1)

  aborted_rising : (us : List Uncommitted) → Rises 0 top (numbers us ws) → Up 0 top (aborted σ cs us ws).answers
  aborted_rising [] h = omega arith
  aborted_rising (u ∷ us) h =
      drain_rising σ 0 top _ [] (map requeued us ++ ws) (subst (λ (l : List ℕ). Rises 0 top l) (sym (numbers_requeued us ws)) (rises_weaken 0 u.number top (numbers us ws) (omega arith) h.1))

  -- top': the largest number after it
  arrived_rising : (n top' : ℕ) (f : Fragment) (us : List Uncommitted) → Rises 0 top (numbers us ws) → (front (λ (u : Uncommitted). eqb u.number n) us ≡ false → (top < n) × (n ≤ top')) → top ≤ top'
      → Up 0 top' (arrived σ n f cs us ws).answers
  arrived_rising n top' f [] h k j = up_high 0 n top' (joined σ n f cs [] ws).answers (k refl).1 (joined_rising n f [] h (k refl).0)
  arrived_rising n top' f (u ∷ us) h k j = go (eqb u.number n) k
    where
      go : (b : Bool) → (b ≡ false → (top < n) × (n ≤ top')) → Up 0 top' (elim b as (λ _. Queues) [ false ↦ joined σ n f cs (u ∷ us) ws | true ↦ continued σ f cs u us ws ]).answers
      go false k = up_high 0 n top' (joined σ n f cs (u ∷ us) ws).answers (k refl).1 (joined_rising n f (u ∷ us) h (k refl).0)
      go true k = up_high 0 top top' (continued σ f cs u us ws).answers j (continued_rising f u us h)

-- the largest number accepted does not fall, and a new one is then the largest
largest_up : (q : Request) (e : Engine) → e.largest ≤ largest_after q e
largest_up (Arrive n f) e = go (ltb e.largest n) refl
  where
    go : (b : Bool) → ltb e.largest n ≡ b → e.largest ≤ elim b as (λ _. ℕ) [ true ↦ n | false ↦ e.largest ]
    go true z = let k : e.largest < n = ltb-true e.largest n z in omega arith
    go false z = omega arith
largest_up (Commit n) e = omega arith
largest_up (Abort n) e = omega arith

largest_new : (n : ℕ) (f : Fragment) (e : Engine) → ltb e.largest n ≡ true → n ≤ largest_after (Arrive n f) e
largest_new n f e z = subst (λ (b : Bool). n ≤ elim b as (λ _. ℕ) [ true ↦ n | false ↦ e.largest ]) (sym z) (omega arith)

pub largest_grows : (e : Engine) (c : Call) → e.largest ≤ (step e c).engine.largest
unfolding step
largest_grows e c = go (refusal e c)
  where
    go : (k : ℕ) → e.largest ≤ (respond k e c).engine.largest
    go zero = largest_up (request c.event) e
    go (suc k) = omega arith

pub step_upto : (e : Engine) (c : Call) → Rises 0 (step e c).engine.largest (map (λ (a : Answer). a.number) (step e c).answers)
unfolding step
step_upto e c = go (refusal e c) refl
  where
    asked : Passed e c → Rises 0 e.largest (numbers e.uncommitted e.waiting) → Up 0 (largest_after (request c.event) e) (taken c.scheme (request c.event) e c.lent).answers
    asked p h = request_cases (λ (q : Request). Up 0 (largest_after q e) (taken c.scheme q e c.lent).answers) c.event
        (λ _. arrived_rising c.scheme e.largest c.lent e.waiting n (largest_after (Arrive n f) e) f e.uncommitted h
        (λ z. let y : ltb e.largest n ≡ true = front_or_new (live n e) (new n e) (is_front n e) p.six p.seven z in (ltb-true e.largest n y, largest_new n f e y))
        (largest_up (Arrive n f) e))
        (λ _. committed_rising c.scheme e.largest c.lent e.waiting e.uncommitted h) (λ _. aborted_rising c.scheme e.largest c.lent e.waiting e.uncommitted h)
      where
        n : ℕ
        n = c.event.number

        f : Fragment
        f = c.event.fragment

    go : (k : ℕ) → refusal e c ≡ k → Up 0 (respond k e c).engine.largest (respond k e c).answers
    go zero q = let p = passed e c q in asked p (sound_parts e (not-false (sound e) p.one)).rises
    go (suc k) q = omega arith

pub step_rising : (e : Engine) (c : Call) → Rising 0 (step e c).answers
step_rising e c = up_rising 0 (step e c).engine.largest (step e c).answers (step_upto e c)
