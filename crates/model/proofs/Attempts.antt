-- Attempts (02, L2). They never fall, and an abort raises that of every uncommitted one. So an answer that depends names an attempt in which its
-- dependence does not commit once an abort was accepted. And the attempt of a front is what the last answer sent for it carries.
use Prim.Native.Nat.{ℕ, zero, suc, ◌+◌, ◌≤◌, ◌<◌}
use native.Mathlib.Omega.{arith}
use borrow.Author.Tests.{eq-eqb, ne_eqb, eqb-true, not-false}
use mathlib.Core.Path.{◌≡◌, refl, sym, ap, ◌∙◌, subst}
use mathlib.Core.Bool.{Bool, true, false, not, ◌||◌, true≢false}
use mathlib.Core.Logic.{◌⊎◌, inl, inr}
use mathlib.Core.List.{List, [], ◌∷◌, ◌++◌, map, append_assoc, nil≢cons}
use lib.Dec.{ltb, eqb}
use lib.ListN.{length, take, drop, replicate}
use Rattle.model.specs.Limits.{most_cells, most_fragments, most_live}
use Rattle.model.specs.Operations.{Cells, Outcome, multi, pick}
use Rattle.model.specs.Transactions.{Reply, Held, Sent, finished, holds, Uncommitted, Waiting, Engine, Answer, answer, numbers, attempts, undo_list, front, words}
use Rattle.model.specs.Steps.{Ran, run, begun, again, nearest, nearest_attempt, Place, placed, Queues, drain, arrival, continued, held_with, held_by, sent, released, settled, requeued, aborted, undone}
use Rattle.model.specs.Refusals.{Request, Arrive, Commit, Abort, request, storable, sound, Call, is_front, refusal, taken, largest_after, respond, step, Started, start, empty}
use Rattle.model.specs.Demand.{Run, onward, runs, fresh, Rises, NoAbort, front_attempt, last_attempt, sent_in}
use Rattle.model.specs.declared.Fragment.{Fragment}
use Rattle.model.specs.declared.Scheme.{Scheme}
use Rattle.model.proofs.Chain.{all_map, all_append}
use Rattle.model.proofs.Branches.{placed_idle, placed_behind, released_cases, settled_cases, drain_cases, held_cases}
use Rattle.model.proofs.Releasing.{released_all}
use Rattle.model.proofs.Passing.{passed}
use Rattle.model.proofs.Tests.{or_right}
use Rattle.model.proofs.Sound.{sound_parts}
use Rattle.model.proofs.Keeping.{rises_weaken, rises_top, placed_sound, front_leaves, settled_sound, joined_sound, continued_sound, aborted_sound, alone}
use Rattle.model.proofs.Kept.{accepted_by, step_keeps, runs_sound}
use Rattle.model.specs.Parts.{All, Passed, Ahead, Sound, SoundEngine, bad_front}

-- "The thirteenth word of an answer becomes the attempt of its transaction .., the fourteenth the attempt of the one it depends on"; two zeros end it
words_behind : (k m : ℕ) (ns l : List ℕ) → k ≤ m → drop k (take k (ns ++ replicate m 0) ++ l) ≡ l
words_behind zero m ns l h = refl
words_behind (suc k) zero ns l h = absurd (omega arith)
words_behind (suc k) (suc m) [] l h = words_behind k m [] l (omega arith)
words_behind (suc k) (suc m) (n ∷ ns) l h = words_behind k (suc m) ns l (omega arith)

pub words_attempts : (a : Answer) → drop 12 (words a) ≡ a.attempt ∷ a.dependence_attempt ∷ 0 ∷ 0 ∷ []
unfolding words
words_attempts a = words_behind 8 8 a.outcome.numbers (a.attempt ∷ a.dependence_attempt ∷ 0 ∷ 0 ∷ []) (omega arith)

-- What is true of number and attempt

abbrev Us : (ℕ → ℕ → Type 0) → List Uncommitted → Type 0
Us P us = All (λ (u : Uncommitted). P u.number u.attempt) us

abbrev Ws : (ℕ → ℕ → Type 0) → List Waiting → Type 0
Ws Q ws = All (λ (w : Waiting). Q w.number w.attempt) ws

-- P of the uncommitted ones, Q of the waiting ones
module _ (P Q : ℕ → ℕ → Type 0) (begins : (n a : ℕ) → Q n a → P n a) where
  placed_keep : (us : List Uncommitted) (w : Waiting) (r : Ran) → Us P us → Q w.number w.attempt → Us P (placed us w r).uncommitted
  placed_keep [] w r h k = placed_idle (λ (p : Place). Us P p.uncommitted) w r (λ _. tt) (λ _. (begins w.number w.attempt k, tt))
  placed_keep (u ∷ us) w r h k =
      let more : (a : Reply) → Us P (u ∷ us ++ (begun w r a ∷ [])) = λ a. all_append (λ (v : Uncommitted). P v.number v.attempt) (u ∷ us) (begun w r a ∷ []) h (begins w.number w.attempt k, tt) in
      placed_behind (λ (p : Place). Us P p.uncommitted) u us w r (more (Held r.outcome)) (λ _. more Sent)

  drain_keep : (σ : Scheme) (cs : Cells) (us : List Uncommitted) (ws : List Waiting) → Us P us → Ws Q ws → Us P (drain σ cs us ws).uncommitted × Ws Q (drain σ cs us ws).waiting
  unfolding drain
  drain_keep σ cs us [] h k = (h, tt)
  drain_keep σ cs us (w ∷ ws) h k = drain_cases (λ (q : Queues). Us P q.uncommitted × Ws Q q.waiting) σ cs us w ws (λ _. (h, k))
      (λ _. drain_keep σ (run w.fragment cs []).cells (placed us w (run w.fragment cs [])).uncommitted ws (placed_keep us w (run w.fragment cs []) h k.0) k.1)

released_keep : (P : ℕ → ℕ → Type 0) (ahead us : List Uncommitted) → Us P us → Us P (released ahead us).uncommitted
released_keep P ahead us h = released_all (λ (u : Uncommitted). P u.number u.attempt) (λ v _ k. k) ahead us h

settled_keep : (P : ℕ → ℕ → Type 0) (us : List Uncommitted) → Us P us → Us P (settled us).uncommitted
unfolding settled
settled_keep P [] h = tt
settled_keep P (u ∷ us) h = settled_cases (λ (p : Place). Us P p.uncommitted) u us (λ _. (h.0, released_keep P (u ∷ []) us h.1)) (λ _. settled_keep P us h.1)

requeued_keep : (P Q : ℕ → ℕ → Type 0) → ((n a : ℕ) → P n a → Q n (a + 1)) → (us : List Uncommitted) (ws : List Waiting) → Us P us → Ws Q ws → Ws Q (map requeued us ++ ws)
requeued_keep P Q f [] ws h k = k
requeued_keep P Q f (u ∷ us) ws h k = (f u.number u.attempt h.0, requeued_keep P Q f us ws h.1 k)

-- P of the attempt of D, if it is this one
abbrev Of : ℕ → (ℕ → Type 0) → ℕ → ℕ → Type 0
Of D P n a = n ≡ D → P a

-- D was accepted; P of its attempt, and Q where it waits
pub record Tried (D : ℕ) (P Q : ℕ → Type 0) (top : ℕ) (us : List Uncommitted) (ws : List Waiting) : Type 0 where
  run : Us (Of D P) us
  waits : Ws (Of D Q) ws
  old : D ≤ top

abbrev TriedAfter : ℕ → (ℕ → Type 0) → (ℕ → Type 0) → ℕ → Queues → Type 0
TriedAfter D P Q top q = Tried D P Q top q.uncommitted q.waiting

abbrev pub TriedIn : ℕ → (ℕ → Type 0) → (ℕ → Type 0) → Engine → Type 0
TriedIn D P Q e = Tried D P Q e.largest e.uncommitted e.waiting

module _ (D : ℕ) (P Q : ℕ → Type 0) (begins : (a : ℕ) → Q a → P a) where
  drain_tried : (σ : Scheme) (top : ℕ) (cs : Cells) (us : List Uncommitted) (ws : List Waiting) → Tried D P Q top us ws → TriedAfter D P Q top (drain σ cs us ws)
  drain_tried σ top cs us ws t =
      let x = drain_keep (Of D P) (Of D Q) (λ n a k e. begins a (k e)) σ cs us ws t.run t.waits in
      record { run = x.0; waits = x.1; old = t.old }

  waits_weaker : (Q' : ℕ → Type 0) → ((a : ℕ) → Q' a → Q a) → (ws : List Waiting) → Ws (Of D Q') ws → Ws (Of D Q) ws
  waits_weaker Q' g ws h = all_map (λ (w : Waiting). Of D Q' w.number w.attempt) (λ (w : Waiting). Of D Q w.number w.attempt) (λ w x e. g w.attempt (x e)) ws h

  -- an undoing raises the attempt of all that ran
  aborted_tried : (P' Q' : ℕ → Type 0) → ((a : ℕ) → P' a → Q (a + 1)) → ((a : ℕ) → Q' a → Q a) → (σ : Scheme) (top : ℕ) (cs : Cells) (us : List Uncommitted) (ws : List Waiting) → Tried D P' Q' top us ws
      → TriedAfter D P Q top (aborted σ cs us ws)
  aborted_tried P' Q' f g σ top cs [] ws t = record { run = tt; waits = waits_weaker Q' g ws t.waits; old = t.old }
  aborted_tried P' Q' f g σ top cs (u ∷ us) ws t = drain_tried σ top (undone (undo_list (u ∷ us)) cs) [] (map requeued us ++ ws) (record {
    run = tt;
    waits = requeued_keep (Of D P') (Of D Q) (λ n a x e. f a (x e)) us ws t.run.1 (waits_weaker Q' g ws t.waits);
    old = t.old;
  })

  -- every step keeps it, an abort where an undoing does
  engine_tried : (e : Engine) (v : Call) → SoundEngine e → Passed e v → ((n : ℕ) → request v.event ≡ Abort n → (a : ℕ) → P a → Q (a + 1)) → TriedIn D P Q e
      → TriedAfter D P Q (largest_after (request v.event) e) (taken v.scheme (request v.event) e v.lent)
  engine_tried e v s p f t = accepted_by (λ us. Tried D P Q e.largest us e.waiting) (TriedAfter D P Q) v.scheme e.count e.largest e.waiting v.lent v
      (λ us s t k _ _. drain_tried v.scheme v.event.number v.lent us (e.waiting ++ (arrival v.event.number v.event.fragment ∷ [])) (record {
        run = t.run;
        waits = all_append (λ (w : Waiting). Of D Q w.number w.attempt) e.waiting (arrival v.event.number v.event.fragment ∷ []) t.waits
            ((λ x. let y : D ≤ e.largest = t.old in absurd (omega arith)), tt);
        old = let y : D ≤ e.largest = t.old in omega arith;
      }))
      (λ u us s t _ _ _. drain_tried v.scheme e.largest _ _ e.waiting (record { run = (t.run.0, t.run.1); waits = t.waits; old = t.old }))
      (λ u us s t. drain_tried v.scheme e.largest v.lent (settled us).uncommitted e.waiting (record { run = settled_keep (Of D P) us t.run.1; waits = t.waits; old = t.old }))
      (λ u us s t r. aborted_tried P Q (f v.event.number r) (λ a x. x) v.scheme e.largest v.lent (u ∷ us) e.waiting t)
      e.uncommitted s t p

  step_tried : (e : Engine) (v : Call) → sound e ≡ true → ((step e v).number ≡ 0 → (n : ℕ) → request v.event ≡ Abort n → (a : ℕ) → P a → Q (a + 1)) → TriedIn D P Q e → TriedIn D P Q (step e v).engine
  unfolding step
  step_tried e v s f t = go (refusal e v) refl f
    where
      go : (k : ℕ) → refusal e v ≡ k → ((respond k e v).number ≡ 0 → (n : ℕ) → request v.event ≡ Abort n → (a : ℕ) → P a → Q (a + 1)) → TriedIn D P Q (respond k e v).engine
      go zero q f = engine_tried e v (sound_parts e s) (passed e v q) (f refl) t
      go (suc k) q f = t

  -- an accepted abort
  abort_tried : (P' Q' : ℕ → Type 0) → ((a : ℕ) → P' a → Q (a + 1)) → ((a : ℕ) → Q' a → Q a) → (n : ℕ) (e : Engine) (v : Call) → (step e v).number ≡ 0 → request v.event ≡ Abort n → TriedIn D P' Q' e → TriedIn D P Q (step e v).engine
  unfolding step
  abort_tried P' Q' f g n e v z a t = go (refusal e v) z
    where
      go : (k : ℕ) → (respond k e v).number ≡ 0 → TriedIn D P Q (respond k e v).engine
      go zero z = subst (λ (q : Request). TriedAfter D P Q (largest_after q e) (taken v.scheme q e v.lent)) (sym a) (aborted_tried P' Q' f g v.scheme e.largest v.lent e.uncommitted e.waiting t)
      go (suc k) z = absurd (omega arith)

-- D was accepted and does not wait, and if it is uncommitted its attempt is b; or, if it is live at all, it is a later one
abbrev pub Exactly : ℕ → ℕ → ℕ → List Uncommitted → List Waiting → Type 0
Exactly D b = Tried D (λ a. a ≡ b) (λ a. ⊥)

abbrev pub ExactlyIn : ℕ → ℕ → Engine → Type 0
ExactlyIn D b e = TriedIn D (λ a. a ≡ b) (λ a. ⊥) e

abbrev pub RaisedIn : ℕ → ℕ → Engine → Type 0
RaisedIn D b e = TriedIn D (λ a. b < a) (λ a. b < a) e

raised_runs : (D b : ℕ) (r : Run) (calls : List Call) → sound r.engine ≡ true → RaisedIn D b r.engine → RaisedIn D b (runs r calls).engine
raised_runs D b r [] s t = t
raised_runs D b r (v ∷ calls) s t = raised_runs D b (onward r v) calls (step_keeps r.engine v s).sound (step_tried D (λ a. b < a) (λ a. b < a) (λ a x. x) r.engine v s (λ _ _ _ a x. omega arith) t)

-- the call is no accepted abort
abbrev NotAborted : Run → Call → Type 0
NotAborted r v = (step r.engine v).number ≡ 0 → (n : ℕ) → request v.event ≡ Abort n → ⊥

exactly_step : (D b : ℕ) (r : Run) (v : Call) → sound r.engine ≡ true → NotAborted r v → ExactlyIn D b r.engine → ExactlyIn D b (onward r v).engine
exactly_step D b r v s f t = step_tried D (λ a. a ≡ b) (λ a. ⊥) (λ a x. absurd x) r.engine v s (λ z n e. absurd (f z n e)) t

-- without an accepted abort its attempt stays
pub exactly_runs : (D b : ℕ) (r : Run) (calls : List Call) → sound r.engine ≡ true → NoAbort r calls → ExactlyIn D b r.engine → ExactlyIn D b (runs r calls).engine
exactly_runs D b r [] s q t = t
exactly_runs D b r (v ∷ calls) s q t = exactly_runs D b (onward r v) calls (step_keeps r.engine v s).sound q.1 (exactly_step D b r v s q.0 t)

-- no abort was accepted, or the attempt of D is larger
pub undisturbed_or_raised : (D b : ℕ) (r : Run) (calls : List Call) → sound r.engine ≡ true → ExactlyIn D b r.engine → NoAbort r calls ⊎ RaisedIn D b (runs r calls).engine
undisturbed_or_raised D b r [] s t = inl tt
undisturbed_or_raised D b r (v ∷ calls) s t =
    go (step r.engine v).number refl (request v.event) refl (λ f. undisturbed_or_raised D b (onward r v) calls next (exactly_step D b r v s f t))
  where
    next : sound (onward r v).engine ≡ true
    next = (step_keeps r.engine v s).sound

    on : NotAborted r v → (NotAborted r v → NoAbort (onward r v) calls ⊎ RaisedIn D b (runs (onward r v) calls).engine) → NoAbort r (v ∷ calls) ⊎ RaisedIn D b (runs (onward r v) calls).engine
    on f rest = by (rest f)
      where
        by : NoAbort (onward r v) calls ⊎ RaisedIn D b (runs (onward r v) calls).engine → NoAbort r (v ∷ calls) ⊎ RaisedIn D b (runs (onward r v) calls).engine
        by (inl x) = inl (f, x)
        by (inr x) = inr x

    go : (k : ℕ) → (step r.engine v).number ≡ k → (q : Request) → request v.event ≡ q → (NotAborted r v → NoAbort (onward r v) calls ⊎ RaisedIn D b (runs (onward r v) calls).engine)
        → NoAbort r (v ∷ calls) ⊎ RaisedIn D b (runs (onward r v) calls).engine
    go (suc k) e q a rest = on (λ z. absurd (omega arith)) rest
    go zero e (Arrive n f) a rest = on (λ _ m h. let w : Arrive n f ≡ Abort m = sym a ∙ h in let x : ◌≡◌ {A = ℕ} 0 1 = cc in absurd (omega arith)) rest
    go zero e (Commit n) a rest = on (λ _ m h. let w : Commit n ≡ Abort m = sym a ∙ h in let x : ◌≡◌ {A = ℕ} 0 1 = cc in absurd (omega arith)) rest
    go zero e (Abort n) a rest = inr (raised_runs D b (onward r v) calls next
        (abort_tried D (λ a. b < a) (λ a. b < a) (λ a x. x) (λ a. a ≡ b) (λ a. ⊥) (λ a x. omega arith) (λ a x. absurd x) n r.engine v e a t))

-- D is the front
front_of : (D : ℕ) (P Q : ℕ → Type 0) (e : Engine) → is_front D e ≡ true → TriedIn D P Q e → P (front_attempt e.uncommitted)
front_of D P Q e f t = go e.uncommitted f t.run
  where
    go : (us : List Uncommitted) → front (λ (u : Uncommitted). eqb u.number D) us ≡ true → Us (Of D P) us → P (front_attempt us)
    go [] f h = absurd (true≢false (sym f))
    go (u ∷ us) f h = h.0 (eqb-true u.number D f)

pub front_exactly : (D b : ℕ) (e : Engine) → is_front D e ≡ true → ExactlyIn D b e → front_attempt e.uncommitted ≡ b
front_exactly D b e f t = front_of D (λ a. a ≡ b) (λ a. ⊥) e f t

pub not_raised : (D b : ℕ) (e : Engine) → is_front D e ≡ true → front_attempt e.uncommitted ≡ b → RaisedIn D b e → ⊥
not_raised D b e f k t = let x : b < front_attempt e.uncommitted = front_of D (λ a. b < a) (λ a. b < a) e f t in omega arith

-- What an answer names

-- D is k with its attempt b, or it is above n and among us; R stands behind it
abbrev Near : ℕ → ℕ → ℕ → ℕ → ℕ → ℕ → List Uncommitted → List ℕ → Type 0
Near n top k b D B us R = Us (Of D (λ a. a ≡ B)) us × Rises D top R × (((D ≡ k) × (B ≡ b)) ⊎ (n < D))

near : (n top k b : ℕ) (us : List Uncommitted) (R : List ℕ) → Rises n top (map (λ (u : Uncommitted). u.number) us ++ R) → k ≤ n → Near n top k b (nearest k us) (nearest_attempt b us) us R
near n top k b [] R h e = (tt, rises_weaken k n top R e h, inl (refl, refl))
near n top k b (u ∷ us) R h e =
    go (multi u.first) (near u.number top u.number u.attempt us R h.1 (omega arith)) (near u.number top k b us R h.1 (omega (arith, h.0)))
  where
    least : (D B : ℕ) → ((D ≡ u.number) × (B ≡ u.attempt)) ⊎ (u.number < D) → Of D (λ a. a ≡ B) u.number u.attempt
    least D B (inl x) e = sym x.1
    least D B (inr x) e = absurd (omega arith)

    above : (D B : ℕ) → ((D ≡ u.number) × (B ≡ u.attempt)) ⊎ (u.number < D) → n < D
    above D B (inl x) = let y : D ≡ u.number = x.0 in omega (arith, h.0)
    above D B (inr x) = omega (arith, h.0)

    apart : (D B : ℕ) → ((D ≡ k) × (B ≡ b)) ⊎ (u.number < D) → Of D (λ a. a ≡ B) u.number u.attempt
    apart D B (inl x) z = let y : D ≡ k = x.0 in absurd (omega (arith, h.0))
    apart D B (inr x) z = absurd (omega arith)

    further : (D B : ℕ) → ((D ≡ k) × (B ≡ b)) ⊎ (u.number < D) → ((D ≡ k) × (B ≡ b)) ⊎ (n < D)
    further D B (inl x) = inl x
    further D B (inr x) = inr (omega (arith, h.0))

    go : (m : Bool) → Near u.number top u.number u.attempt (nearest u.number us) (nearest_attempt u.attempt us) us R → Near u.number top k b (nearest k us) (nearest_attempt b us) us R
        → Near n top k b (elim m [ true ↦ nearest u.number us | false ↦ nearest k us ]) (elim m [ true ↦ nearest_attempt u.attempt us | false ↦ nearest_attempt b us ]) (u ∷ us) R
    go true x y = ((least (nearest u.number us) (nearest_attempt u.attempt us) x.2, x.0), x.1, inr (above (nearest u.number us) (nearest_attempt u.attempt us) x.2))
    go false x y = ((apart (nearest k us) (nearest_attempt b us) y.2, y.0), y.1, further (nearest k us) (nearest_attempt b us) y.2)

-- numbers above D are not D
apart_from : (D : ℕ) (P Q : ℕ → Type 0) (n top : ℕ) (us : List Uncommitted) (ws : List Waiting) → Rises n top (numbers us ws) → D ≤ n → Us (Of D P) us × Ws (Of D Q) ws
apart_from D P Q n top [] [] h k = (tt, tt)
apart_from D P Q n top [] (w ∷ ws) h k = (tt, ((λ e. absurd (omega (arith, h.0))), (apart_from D P Q w.number top [] ws h.1 (omega (arith, h.0))).1))
apart_from D P Q n top (u ∷ us) ws h k = let x = apart_from D P Q u.number top us ws h.1 (omega (arith, h.0)) in (((λ e. absurd (omega (arith, h.0))), x.0), x.1)

-- an answer that depends names one that was accepted and does not wait, and if that is uncommitted the attempt that it has
abbrev pub Named : ℕ → List Uncommitted → List Waiting → Answer → Type 0
Named top us ws a = (a.dependence ≡ 0 → ⊥) → Exactly a.dependence a.dependence_attempt top us ws

abbrev NamedAfter : ℕ → Queues → Type 0
NamedAfter top q = All (Named top q.uncommitted q.waiting) q.answers

-- the nearest multi among ahead, seen from those behind
near_tried : (top : ℕ) (ahead us : List Uncommitted) (ws : List Waiting) → Rises 0 top (map (λ (u : Uncommitted). u.number) ahead ++ numbers us ws)
    → Exactly (nearest 0 ahead) (nearest_attempt 0 ahead) top (ahead ++ us) ws
near_tried top ahead us ws h =
    let x = near 0 top 0 0 ahead (numbers us ws) h (omega arith) in
    let y = apart_from (nearest 0 ahead) (λ a. a ≡ nearest_attempt 0 ahead) (λ a. ⊥) (nearest 0 ahead) top us ws x.1 (omega arith) in
    record {
      run = all_append (λ (u : Uncommitted). Of (nearest 0 ahead) (λ a. a ≡ nearest_attempt 0 ahead) u.number u.attempt) ahead us x.0 y.0;
      waits = y.1;
      old = rises_top (nearest 0 ahead) top (numbers us ws) x.1;
    }

placed_named : (top : ℕ) (us : List Uncommitted) (w : Waiting) (ws : List Waiting) (r : Ran) → Rises 0 top (numbers us (w ∷ ws)) → All (Named top (placed us w r).uncommitted ws) (placed us w r).answers
placed_named top [] w ws r h = placed_idle (λ (p : Place). All (Named top p.uncommitted ws) p.answers) w r (λ _. ((λ z. absurd (z refl)), tt)) (λ _. ((λ z. absurd (z refl)), tt))
placed_named top (u ∷ us) w ws r h =
    placed_behind (λ (p : Place). All (Named top p.uncommitted ws) p.answers) u us w r tt (λ _. ((λ _. near_tried top (u ∷ us) (begun w r Sent ∷ []) ws h), tt))

-- a drain keeps what was named
named_drain : (σ : Scheme) (top : ℕ) (cs : Cells) (us : List Uncommitted) (ws : List Waiting) (l : List Answer) → All (Named top us ws) l → All (Named top (drain σ cs us ws).uncommitted (drain σ cs us ws).waiting) l
named_drain σ top cs us ws l h = all_map (Named top us ws) (Named top (drain σ cs us ws).uncommitted (drain σ cs us ws).waiting)
    (λ a n z. drain_tried a.dependence (λ x. x ≡ a.dependence_attempt) (λ x. ⊥) (λ x y. absurd y) σ top cs us ws (n z)) l h

drain_named : (σ : Scheme) (ct top : ℕ) (cs : Cells) (us : List Uncommitted) (ws : List Waiting) → Sound ct top us ws → NamedAfter top (drain σ cs us ws)
unfolding drain
drain_named σ ct top cs us [] s = tt
drain_named σ ct top cs us (w ∷ ws) s = drain_cases (NamedAfter top) σ cs us w ws (λ _. tt)
    (λ e. let r : Ran = run w.fragment cs [] in
    let q : Queues = drain σ r.cells (placed us w r).uncommitted ws in
    all_append (Named top q.uncommitted q.waiting) (placed us w r).answers q.answers
    (named_drain σ top r.cells (placed us w r).uncommitted ws (placed us w r).answers (placed_named top us w ws r s.rises))
    (drain_named σ ct top r.cells (placed us w r).uncommitted ws (placed_sound σ ct top us w ws cs e s).0))

numbers_ahead : (ahead us : List Uncommitted) (ws : List Waiting) → numbers (ahead ++ us) ws ≡ map (λ (u : Uncommitted). u.number) ahead ++ numbers us ws
numbers_ahead [] us ws = refl
numbers_ahead (u ∷ ahead) us ws = ap {B = List ℕ} (λ (l : List ℕ). u.number ∷ l) (numbers_ahead ahead us ws)

released_named : (top : ℕ) (ahead us : List Uncommitted) (ws : List Waiting) → Rises 0 top (numbers (ahead ++ us) ws) → All (Named top (ahead ++ us) ws) (released ahead us).answers
unfolding released
released_named top ahead [] ws h = tt
released_named top ahead (u ∷ us) ws h =
    let rest = moved (released_named top (ahead ++ (u ∷ [])) us ws (subst (λ (x : List Uncommitted). Rises 0 top (numbers x ws)) (sym same) h)) in
    released_cases (λ (p : Place). All (Named top (ahead ++ u ∷ us) ws) p.answers) ahead u us rest
    (λ _. all_append (Named top (ahead ++ u ∷ us) ws) (held_with (nearest 0 ahead) (nearest_attempt 0 ahead) u) (released (ahead ++ (u ∷ [])) us).answers
    (held_cases (All (Named top (ahead ++ u ∷ us) ws)) (nearest 0 ahead) (nearest_attempt 0 ahead) u
    (λ o _. ((λ _. near_tried top ahead (u ∷ us) ws (subst (λ (l : List ℕ). Rises 0 top l) (numbers_ahead ahead (u ∷ us) ws) h)), tt)) (λ _. tt))
    rest)
  where
    same : (ahead ++ (u ∷ [])) ++ us ≡ ahead ++ u ∷ us
    same = append_assoc ahead (u ∷ []) us

    moved : All (Named top ((ahead ++ (u ∷ [])) ++ us) ws) (released (ahead ++ (u ∷ [])) us).answers → All (Named top (ahead ++ u ∷ us) ws) (released (ahead ++ (u ∷ [])) us).answers
    moved x = subst (λ (y : List Uncommitted). All (Named top y ws) (released (ahead ++ (u ∷ [])) us).answers) same x

settled_named : (top : ℕ) (us : List Uncommitted) (ws : List Waiting) → Rises 0 top (numbers us ws) → All (Named top (settled us).uncommitted ws) (settled us).answers
unfolding settled
settled_named top [] ws h = tt
settled_named top (u ∷ us) ws h = settled_cases (λ (p : Place). All (Named top p.uncommitted ws) p.answers) u us
    (λ _. let vs : List Uncommitted = sent u ∷ (released (u ∷ []) us).uncommitted in
    all_append (Named top vs ws) (held_by u) (released (u ∷ []) us).answers (plain vs)
    (all_map (Named top (u ∷ us) ws) (Named top vs ws)
    (λ a n z. let t = n z in record { run = (t.run.0, released_keep (Of a.dependence (λ x. x ≡ a.dependence_attempt)) (u ∷ []) us t.run.1); waits = t.waits; old = t.old })
    (released (u ∷ []) us).answers (released_named top (u ∷ []) us ws h)))
    (λ _. all_append (Named top (settled us).uncommitted ws) (held_by u) (settled us).answers (plain (settled us).uncommitted)
    (settled_named top us ws (rises_weaken 0 u.number top (numbers us ws) (omega arith) h.1)))
  where
    plain : (vs : List Uncommitted) → All (Named top vs ws) (held_by u)
    plain vs = held_cases (All (Named top vs ws)) 0 0 u (λ o _. ((λ z. absurd (z refl)), tt)) (λ _. tt)

engine_named : (e : Engine) (v : Call) → SoundEngine e → Passed e v → NamedAfter (largest_after (request v.event) e) (taken v.scheme (request v.event) e v.lent)
engine_named e v s p = accepted_by (λ us. Unit {0}) NamedAfter v.scheme ct top ws v.lent v
    (λ us s _ k st l. drain_named v.scheme ct n v.lent us (ws ++ (arrival n f ∷ [])) (joined_sound ct top ws v.lent us n f s k st l))
    (λ u us s _ st nf k. continues u us s st nf k)
    (λ u us s _. let x = (settled_sound ct top us ws (front_leaves ct top u us ws s)).0 in
    all_append (Named top (drain v.scheme v.lent (settled us).uncommitted ws).uncommitted (drain v.scheme v.lent (settled us).uncommitted ws).waiting)
    (settled us).answers (drain v.scheme v.lent (settled us).uncommitted ws).answers
    (named_drain v.scheme top v.lent (settled us).uncommitted ws (settled us).answers (settled_named top us ws (rises_weaken 0 u.number top (numbers us ws) (omega arith) s.rises.1)))
    (drain_named v.scheme ct top v.lent (settled us).uncommitted ws x))
    (λ u us s _ _. drain_named v.scheme ct top _ [] (map requeued us ++ ws) (aborted_sound ct top ws v.lent u us s))
    e.uncommitted s tt p
  where
    n : ℕ
    n = v.event.number

    f : Fragment
    f = v.event.fragment

    ct : ℕ
    ct = e.count

    top : ℕ
    top = e.largest

    ws : List Waiting
    ws = e.waiting

    continues : (u : Uncommitted) (us : List Uncommitted) → Sound e.count e.largest (u ∷ us) e.waiting → storable e.count f ≡ true → finished u.state ≡ false → u.ran < most_fragments
        → NamedAfter e.largest (continued v.scheme f v.lent u us e.waiting)
    continues u [] s st nf k = ((λ z. absurd (z refl)), drain_named v.scheme e.count e.largest _ _ e.waiting (continued_sound e.count e.largest e.waiting v.lent u f s st k))
    continues u (x ∷ us) s st nf k = absurd (nil≢cons (sym (alone e.count e.largest e.waiting v.lent u (x ∷ us) s nf)))

-- of every call, from every record: an unsound one is refused
pub step_named : (e : Engine) (v : Call) → All (Named (step e v).engine.largest (step e v).engine.uncommitted (step e v).engine.waiting) (step e v).answers
unfolding step
step_named e v = go (refusal e v) refl
  where
    go : (k : ℕ) → refusal e v ≡ k → All (Named (respond k e v).engine.largest (respond k e v).engine.uncommitted (respond k e v).engine.waiting) (respond k e v).answers
    go zero q = let p = passed e v q in engine_named e v (sound_parts e (not-false (sound e) p.one)) p
    go (suc k) q = tt

-- The attempts that an answer tells

abbrev Fit : ℕ → Type 0
Fit a = (1 ≤ a) × (a ≤ most_live)

-- its own is 1 to 64; "the attempt of the one it depends on, 0 if none", which then is 1 to 64 too
pub record Labelled (a : Answer) : Type 0 where
  pub own : Fit a.attempt
  pub none : a.dependence ≡ 0 → a.dependence_attempt ≡ 0
  pub some : (a.dependence ≡ 0 → ⊥) → Fit a.dependence_attempt

abbrev UsFit : List Uncommitted → Type 0
UsFit us = Us (λ n a. Fit a) us

abbrev WsFit : List Waiting → Type 0
WsFit ws = Ws (λ n a. Fit a) ws

attempts_fit : (i : ℕ) (us : List Uncommitted) (ws : List Waiting) → All (λ (a : ℕ). 1 ≤ a) (attempts us ws) → Ahead i (attempts us ws) → UsFit us × WsFit ws
attempts_fit i [] [] h k = (tt, tt)
attempts_fit i [] (w ∷ ws) h k = (tt, ((h.0, omega (arith, k.0)), (attempts_fit (1 + i) [] ws h.1 k.1).1))
attempts_fit i (u ∷ us) ws h k = let x = attempts_fit (1 + i) us ws h.1 k.1 in (((h.0, omega (arith, k.0)), x.0), x.1)

sound_fit : (ct top : ℕ) (us : List Uncommitted) (ws : List Waiting) → Sound ct top us ws → UsFit us × WsFit ws
sound_fit ct top us ws s = attempts_fit 0 us ws s.tried s.ahead

nearest_fit : (k b : ℕ) (us : List Uncommitted) → UsFit us → ((nearest k us ≡ k) × (nearest_attempt b us ≡ b)) ⊎ Fit (nearest_attempt b us)
nearest_fit k b [] h = inl (refl, refl)
nearest_fit k b (u ∷ us) h = go (multi u.first) (nearest_fit u.number u.attempt us h.1) (nearest_fit k b us h.1)
  where
    mine : (B : ℕ) → ((nearest u.number us ≡ u.number) × (B ≡ u.attempt)) ⊎ Fit B → Fit B
    mine B (inl x) = subst Fit (sym x.1) h.0
    mine B (inr x) = x

    go : (m : Bool) → ((nearest u.number us ≡ u.number) × (nearest_attempt u.attempt us ≡ u.attempt)) ⊎ Fit (nearest_attempt u.attempt us) → ((nearest k us ≡ k) × (nearest_attempt b us ≡ b)) ⊎ Fit (nearest_attempt b us)
        → ((elim m as (λ _. ℕ) [ true ↦ nearest u.number us | false ↦ nearest k us ] ≡ k) × (elim m as (λ _. ℕ) [ true ↦ nearest_attempt u.attempt us | false ↦ nearest_attempt b us ] ≡ b))
        ⊎ Fit (elim m [ true ↦ nearest_attempt u.attempt us | false ↦ nearest_attempt b us ])
    go true x y = inr (mine (nearest_attempt u.attempt us) x)
    go false x y = y

-- an answer without a dependence, and one with a dependence on the nearest multi ahead
plain_labelled : (n a : ℕ) (o : Outcome) → Fit a → Labelled (answer n 0 a 0 o)
plain_labelled n a o h = record { own = h; none = λ _. refl; some = λ z. absurd (z refl) }

near_labelled : (top : ℕ) (ahead : List Uncommitted) (R : List ℕ) (n a : ℕ) (o : Outcome) → Rises 0 top (map (λ (u : Uncommitted). u.number) ahead ++ R) → UsFit ahead → Fit a → Labelled (answer n (nearest 0 ahead) a (nearest_attempt 0 ahead) o)
near_labelled top ahead R n a o h k f = record {
  own = f;
  none = λ z. none z (near 0 top 0 0 ahead R h (omega arith)).2;
  some = λ z. some z (nearest_fit 0 0 ahead k);
}
  where
    none : nearest 0 ahead ≡ 0 → ((nearest 0 ahead ≡ 0) × (nearest_attempt 0 ahead ≡ 0)) ⊎ (0 < nearest 0 ahead) → nearest_attempt 0 ahead ≡ 0
    none z (inl x) = x.1
    none z (inr x) = absurd (omega arith)

    some : (nearest 0 ahead ≡ 0 → ⊥) → ((nearest 0 ahead ≡ 0) × (nearest_attempt 0 ahead ≡ 0)) ⊎ Fit (nearest_attempt 0 ahead) → Fit (nearest_attempt 0 ahead)
    some z (inl x) = absurd (z x.0)
    some z (inr x) = x

placed_labelled : (ct top : ℕ) (us : List Uncommitted) (w : Waiting) (ws : List Waiting) (r : Ran) → Sound ct top us (w ∷ ws) → All Labelled (placed us w r).answers
placed_labelled ct top [] w ws r s =
    let f = (sound_fit ct top [] (w ∷ ws) s).1.0 in
    placed_idle (λ (p : Place). All Labelled p.answers) w r (λ _. (plain_labelled w.number w.attempt r.outcome f, tt)) (λ _. (plain_labelled w.number w.attempt r.outcome f, tt))
placed_labelled ct top (u ∷ us) w ws r s =
    let f = sound_fit ct top (u ∷ us) (w ∷ ws) s in
    placed_behind (λ (p : Place). All Labelled p.answers) u us w r tt
    (λ _. (near_labelled top (u ∷ us) (map (λ (w : Waiting). w.number) (w ∷ ws)) w.number w.attempt r.outcome s.rises f.0 f.1.0, tt))

drain_labelled : (σ : Scheme) (ct top : ℕ) (cs : Cells) (us : List Uncommitted) (ws : List Waiting) → Sound ct top us ws → All Labelled (drain σ cs us ws).answers
unfolding drain
drain_labelled σ ct top cs us [] s = tt
drain_labelled σ ct top cs us (w ∷ ws) s = drain_cases (λ (q : Queues). All Labelled q.answers) σ cs us w ws (λ _. tt)
    (λ e. let r : Ran = run w.fragment cs [] in
    all_append Labelled (placed us w r).answers (drain σ r.cells (placed us w r).uncommitted ws).answers (placed_labelled ct top us w ws r s)
    (drain_labelled σ ct top r.cells (placed us w r).uncommitted ws (placed_sound σ ct top us w ws cs e s).0))

released_labelled : (top : ℕ) (ahead us : List Uncommitted) (ws : List Waiting) → Rises 0 top (numbers (ahead ++ us) ws) → UsFit ahead → UsFit us → All Labelled (released ahead us).answers
unfolding released
released_labelled top ahead [] ws h f g = tt
released_labelled top ahead (u ∷ us) ws h f g =
    let rest = released_labelled top (ahead ++ (u ∷ [])) us ws (subst (λ (x : List Uncommitted). Rises 0 top (numbers x ws)) (sym (append_assoc ahead (u ∷ []) us)) h)
    (all_append (λ (v : Uncommitted). Fit v.attempt) ahead (u ∷ []) f (g.0, tt)) g.1 in
    released_cases (λ (p : Place). All Labelled p.answers) ahead u us rest
    (λ _. all_append Labelled (held_with (nearest 0 ahead) (nearest_attempt 0 ahead) u) (released (ahead ++ (u ∷ [])) us).answers
    (held_cases (All Labelled) (nearest 0 ahead) (nearest_attempt 0 ahead) u
    (λ o _. (near_labelled top ahead (numbers (u ∷ us) ws) u.number u.attempt o (subst (λ (l : List ℕ). Rises 0 top l) (numbers_ahead ahead (u ∷ us) ws) h) f g.0, tt)) (λ _. tt))
    rest)

settled_labelled : (top : ℕ) (us : List Uncommitted) (ws : List Waiting) → Rises 0 top (numbers us ws) → UsFit us → All Labelled (settled us).answers
unfolding settled
settled_labelled top [] ws h f = tt
settled_labelled top (u ∷ us) ws h f =
    let own = held_cases (All Labelled) 0 0 u (λ o _. (plain_labelled u.number u.attempt o f.0, tt)) (λ _. tt) in
    settled_cases (λ (p : Place). All Labelled p.answers) u us
    (λ _. all_append Labelled (held_by u) (released (u ∷ []) us).answers own (released_labelled top (u ∷ []) us ws h (f.0, tt) f.1))
    (λ _. all_append Labelled (held_by u) (settled us).answers own (settled_labelled top us ws (rises_weaken 0 u.number top (numbers us ws) (omega arith) h.1) f.1))

engine_labelled : (e : Engine) (v : Call) → SoundEngine e → Passed e v → All Labelled (taken v.scheme (request v.event) e v.lent).answers
engine_labelled e v s p = accepted_by (λ us. Unit {0}) (λ _ (q : Queues). All Labelled q.answers) v.scheme e.count e.largest e.waiting v.lent v
    (λ us s _ k st l. drain_labelled v.scheme e.count v.event.number v.lent us (e.waiting ++ (arrival v.event.number v.event.fragment ∷ []))
    (joined_sound e.count e.largest e.waiting v.lent us v.event.number v.event.fragment s k st l))
    (λ u us s _ st nf k. continues u us s st nf k)
    (λ u us s _. all_append Labelled (settled us).answers (drain v.scheme v.lent (settled us).uncommitted e.waiting).answers
    (settled_labelled e.largest us e.waiting (rises_weaken 0 u.number e.largest (numbers us e.waiting) (omega arith) s.rises.1) (sound_fit e.count e.largest (u ∷ us) e.waiting s).0.1)
    (drain_labelled v.scheme e.count e.largest v.lent (settled us).uncommitted e.waiting (settled_sound e.count e.largest us e.waiting (front_leaves e.count e.largest u us e.waiting s)).0))
    (λ u us s _ _. drain_labelled v.scheme e.count e.largest _ [] (map requeued us ++ e.waiting) (aborted_sound e.count e.largest e.waiting v.lent u us s))
    e.uncommitted s tt p
  where
    continues : (u : Uncommitted) (us : List Uncommitted) → Sound e.count e.largest (u ∷ us) e.waiting → storable e.count v.event.fragment ≡ true → finished u.state ≡ false → u.ran < most_fragments
        → All Labelled (continued v.scheme v.event.fragment v.lent u us e.waiting).answers
    continues u [] s st nf k = (
      plain_labelled u.number u.attempt (run v.event.fragment v.lent u.undo).outcome (sound_fit e.count e.largest (u ∷ []) e.waiting s).0.0,
      drain_labelled v.scheme e.count e.largest _ _ e.waiting (continued_sound e.count e.largest e.waiting v.lent u v.event.fragment s st k),
    )
    continues u (x ∷ us) s st nf k = absurd (nil≢cons (sym (alone e.count e.largest e.waiting v.lent u (x ∷ us) s nf)))

-- of every call, from every record: an unsound one is refused
pub step_labelled : (e : Engine) (v : Call) → All Labelled (step e v).answers
unfolding step
step_labelled e v = go (refusal e v) refl
  where
    go : (k : ℕ) → refusal e v ≡ k → All Labelled (respond k e v).answers
    go zero q = let p = passed e v q in engine_labelled e v (sound_parts e (not-false (sound e) p.one)) p
    go (suc k) q = tt

-- What was sent

-- one list of answers after another
pub last_append : (n k : ℕ) (l m : List Answer) → last_attempt n k (l ++ m) ≡ last_attempt n (last_attempt n k l) m
last_append n k [] m = refl
last_append n k (a ∷ l) m = go (eqb a.number n) (last_append n a.attempt l m) (last_append n k l m)
  where
    go : (b : Bool) → last_attempt n a.attempt (l ++ m) ≡ last_attempt n (last_attempt n a.attempt l) m → last_attempt n k (l ++ m) ≡ last_attempt n (last_attempt n k l) m
        → ◌≡◌ {A = ℕ} (elim b [ true ↦ last_attempt n a.attempt (l ++ m) | false ↦ last_attempt n k (l ++ m) ])
        (last_attempt n (elim b [ true ↦ last_attempt n a.attempt l | false ↦ last_attempt n k l ]) m)
    go true x y = x
    go false x y = y

-- an answer for n, and one for another
last_same : (n k : ℕ) (a : Answer) → a.number ≡ n → last_attempt n k (a ∷ []) ≡ a.attempt
last_same n k a e = ap {B = ℕ} (λ (b : Bool). elim b [ true ↦ a.attempt | false ↦ k ]) (eq-eqb a.number n e)

last_other : (n k : ℕ) (a : Answer) → (a.number ≡ n → ⊥) → last_attempt n k (a ∷ []) ≡ k
last_other n k a e = ap {B = ℕ} (λ (b : Bool). elim b [ true ↦ a.attempt | false ↦ k ]) (ne_eqb a.number n e)

-- F n is the attempt of the last answer sent for n so far; after these answers
abbrev after : (ℕ → ℕ) → List Answer → ℕ → ℕ
after F l n = last_attempt n (F n) l

-- whose answer was sent, it was sent with its attempt
abbrev Told : (ℕ → ℕ) → Uncommitted → Type 0
Told F u = holds u.reply ≡ false → F u.number ≡ u.attempt

told_append : (F : ℕ → ℕ) (l m : List Answer) (us : List Uncommitted) → All (Told (after (after F l) m)) us → All (Told (after F (l ++ m))) us
told_append F l m us h = all_map (Told (after (after F l) m)) (Told (after F (l ++ m))) (λ u t z. last_append u.number (F u.number) l m ∙ t z) us h

-- answers for numbers above these
abbrev Above : ℕ → List Answer → Type 0
Above n l = All (λ (a : Answer). n < a.number) l

last_above : (n k : ℕ) (l : List Answer) → Above n l → last_attempt n k l ≡ k
last_above n k [] h = refl
last_above n k (a ∷ l) h =
    let x : n < a.number = h.0 in
    ap {B = ℕ} (λ (b : Bool). elim b [ true ↦ last_attempt n a.attempt l | false ↦ last_attempt n k l ]) (ne_eqb a.number n (λ e. omega arith)) ∙ last_above n k l h.1

told_above : (F : ℕ → ℕ) (u : Uncommitted) (l : List Answer) → Above u.number l → Told F u → Told (after F l) u
told_above F u l h t z = last_above u.number (F u.number) l h ∙ t z

-- the uncommitted ones lie below the first waiting one
told_below : (F : ℕ → ℕ) (n top m : ℕ) (us : List Uncommitted) (R : List ℕ) (a : Answer) → a.number ≡ m → Rises n top (map (λ (u : Uncommitted). u.number) us ++ m ∷ R) → All (Told F) us → All (Told (after F (a ∷ []))) us
told_below F n top m [] R a e h t = tt
told_below F n top m (u ∷ us) R a e h t =
    ((λ z. last_other u.number (F u.number) a (λ x. let y : u.number < m = between u.number us h.1 in omega arith) ∙ t.0 z), told_below F u.number top m us R a e h.1 t.1)
  where
    between : (k : ℕ) (vs : List Uncommitted) → Rises k top (map (λ (u : Uncommitted). u.number) vs ++ m ∷ R) → k < m
    between k [] h = h.0
    between k (v ∷ vs) h = let y : v.number < m = between v.number vs h.1 in omega (arith, h.0)

placed_told : (F : ℕ → ℕ) (top : ℕ) (us : List Uncommitted) (w : Waiting) (ws : List Waiting) (r : Ran) → Rises 0 top (numbers us (w ∷ ws)) → All (Told F) us → All (Told (after F (placed us w r).answers)) (placed us w r).uncommitted
placed_told F top [] w ws r h t = placed_idle (λ (p : Place). All (Told (after F p.answers)) p.uncommitted) w r (λ _. tt) (λ _. ((λ _. last_same w.number (F w.number) (answer w.number 0 w.attempt 0 r.outcome) refl), tt))
placed_told F top (u ∷ us) w ws r h t = placed_behind (λ (p : Place). All (Told (after F p.answers)) p.uncommitted) u us w r
    (all_append (Told F) (u ∷ us) (begun w r (Held r.outcome) ∷ []) t ((λ z. absurd (true≢false z)), tt))
    (λ _. let a : Answer = answer w.number (nearest 0 (u ∷ us)) w.attempt (nearest_attempt 0 (u ∷ us)) r.outcome in
    all_append (Told (after F (a ∷ []))) (u ∷ us) (begun w r Sent ∷ []) (told_below F 0 top w.number (u ∷ us) (map (λ (w : Waiting). w.number) ws) a refl h t)
    ((λ _. last_same w.number (F w.number) a refl), tt))

drain_told : (σ : Scheme) (F : ℕ → ℕ) (ct top : ℕ) (cs : Cells) (us : List Uncommitted) (ws : List Waiting) → Sound ct top us ws → All (Told F) us → All (Told (after F (drain σ cs us ws).answers)) (drain σ cs us ws).uncommitted
unfolding drain
drain_told σ F ct top cs us [] s t = t
drain_told σ F ct top cs us (w ∷ ws) s t = drain_cases (λ (q : Queues). All (Told (after F q.answers)) q.uncommitted) σ cs us w ws (λ _. t)
    (λ e. let r : Ran = run w.fragment cs [] in
    let q : Queues = drain σ r.cells (placed us w r).uncommitted ws in
    told_append F (placed us w r).answers q.answers q.uncommitted
    (drain_told σ (after F (placed us w r).answers) ct top r.cells (placed us w r).uncommitted ws (placed_sound σ ct top us w ws cs e s).0 (placed_told F top us w ws r s.rises t)))

-- a held answer that is sent
held_told : (F : ℕ → ℕ) (d b : ℕ) (u : Uncommitted) → Told F u → Told (after F (held_with d b u)) (sent u)
held_told F d b u t = held_cases (λ (l : List Answer). Told (after F l) (sent u)) d b u (λ o _ _. last_same u.number (F u.number) (answer u.number d u.attempt b o) refl) (λ n _. t n)

-- and those behind it
held_others : (F : ℕ → ℕ) (d b top : ℕ) (u : Uncommitted) (us : List Uncommitted) (ws : List Waiting) → Rises u.number top (numbers us ws) → All (Told F) us → All (Told (after F (held_with d b u))) us
held_others F d b top u us ws h t = held_cases (λ (l : List Answer). All (Told (after F l)) us) d b u (λ o _. go u.number (answer u.number d u.attempt b o) refl us (omega arith) h t) (λ _. t)
  where
    go : (n : ℕ) (a : Answer) → a.number ≡ u.number → (vs : List Uncommitted) → u.number ≤ n → Rises n top (numbers vs ws) → All (Told F) vs → All (Told (after F (a ∷ []))) vs
    go n a e [] k h t = tt
    go n a e (v ∷ vs) k h t = ((λ z. last_other v.number (F v.number) a (λ x. omega (arith, h.0)) ∙ t.0 z), go v.number a e vs (omega (arith, h.0)) h.1 t.1)

released_above : (n top : ℕ) (ahead us : List Uncommitted) (ws : List Waiting) → Rises n top (numbers us ws) → Above n (released ahead us).answers
unfolding released
released_above n top ahead [] ws h = tt
released_above n top ahead (u ∷ us) ws h =
    let t = all_map (λ (a : Answer). u.number < a.number) (λ (a : Answer). n < a.number) (λ a x. omega (arith, h.0)) (released (ahead ++ (u ∷ [])) us).answers (released_above u.number top (ahead ++ (u ∷ [])) us ws h.1) in
    released_cases (λ (p : Place). Above n p.answers) ahead u us t
    (λ _. all_append (λ (a : Answer). n < a.number) (held_with (nearest 0 ahead) (nearest_attempt 0 ahead) u) (released (ahead ++ (u ∷ [])) us).answers
    (held_cases (Above n) (nearest 0 ahead) (nearest_attempt 0 ahead) u (λ o _. (h.0, tt)) (λ _. tt)) t)

released_told : (F : ℕ → ℕ) (n top : ℕ) (ahead us : List Uncommitted) (ws : List Waiting) → Rises n top (numbers us ws) → All (Told F) us → All (Told (after F (released ahead us).answers)) (released ahead us).uncommitted
unfolding released
released_told F n top ahead [] ws h t = tt
released_told F n top ahead (u ∷ us) ws h t =
    let l : List Answer = held_with (nearest 0 ahead) (nearest_attempt 0 ahead) u in
    let above = released_above u.number top (ahead ++ (u ∷ [])) us ws h.1 in
    released_cases (λ (p : Place). All (Told (after F p.answers)) p.uncommitted) ahead u us
    (told_above F u (released (ahead ++ (u ∷ [])) us).answers above t.0, released_told F u.number top (ahead ++ (u ∷ [])) us ws h.1 t.1)
    (λ _. told_append F l (released (ahead ++ (u ∷ [])) us).answers (sent u ∷ (released (ahead ++ (u ∷ [])) us).uncommitted) (
      told_above (after F l) (sent u) (released (ahead ++ (u ∷ [])) us).answers above (held_told F (nearest 0 ahead) (nearest_attempt 0 ahead) u t.0),
      released_told (after F l) u.number top (ahead ++ (u ∷ [])) us ws h.1 (held_others F (nearest 0 ahead) (nearest_attempt 0 ahead) top u us ws h.1 t.1),
    ))

settled_told : (F : ℕ → ℕ) (n top : ℕ) (us : List Uncommitted) (ws : List Waiting) → Rises n top (numbers us ws) → All (Told F) us → All (Told (after F (settled us).answers)) (settled us).uncommitted
unfolding settled
settled_told F n top [] ws h t = tt
settled_told F n top (u ∷ us) ws h t =
    let others = held_others F 0 0 top u us ws h.1 t.1 in
    settled_cases (λ (p : Place). All (Told (after F p.answers)) p.uncommitted) u us
    (λ _. told_append F (held_by u) (released (u ∷ []) us).answers (sent u ∷ (released (u ∷ []) us).uncommitted) (
      told_above (after F (held_by u)) (sent u) (released (u ∷ []) us).answers (released_above u.number top (u ∷ []) us ws h.1) (held_told F 0 0 u t.0),
      released_told (after F (held_by u)) u.number top (u ∷ []) us ws h.1 others,
    ))
    (λ _. told_append F (held_by u) (settled us).answers (settled us).uncommitted (settled_told (after F (held_by u)) u.number top us ws h.1 others))

engine_told : (F : ℕ → ℕ) (e : Engine) (v : Call) → SoundEngine e → Passed e v → All (Told F) e.uncommitted
    → All (Told (after F (taken v.scheme (request v.event) e v.lent).answers)) (taken v.scheme (request v.event) e v.lent).uncommitted
engine_told F e v s p t = accepted_by (All (Told F)) (λ _ (q : Queues). All (Told (after F q.answers)) q.uncommitted) v.scheme ct top ws v.lent v
    (λ us s t k st l. drain_told v.scheme F ct n v.lent us (ws ++ (arrival n f ∷ [])) (joined_sound ct top ws v.lent us n f s k st l) t)
    (λ u us s t st nf k. continues u us s t st nf k)
    (λ u us s t. told_append F (settled us).answers (drain v.scheme v.lent (settled us).uncommitted ws).answers (drain v.scheme v.lent (settled us).uncommitted ws).uncommitted
    (drain_told v.scheme (after F (settled us).answers) ct top v.lent (settled us).uncommitted ws (settled_sound ct top us ws (front_leaves ct top u us ws s)).0
    (settled_told F u.number top us ws s.rises.1 t.1)))
    (λ u us s t _. drain_told v.scheme F ct top _ [] (map requeued us ++ ws) (aborted_sound ct top ws v.lent u us s) tt)
    e.uncommitted s t p
  where
    n : ℕ
    n = v.event.number

    f : Fragment
    f = v.event.fragment

    ct : ℕ
    ct = e.count

    top : ℕ
    top = e.largest

    ws : List Waiting
    ws = e.waiting

    continues : (u : Uncommitted) (us : List Uncommitted) → Sound e.count e.largest (u ∷ us) e.waiting → All (Told F) (u ∷ us) → storable e.count f ≡ true → finished u.state ≡ false → u.ran < most_fragments
        → All (Told (after F (continued v.scheme f v.lent u us e.waiting).answers)) (continued v.scheme f v.lent u us e.waiting).uncommitted
    continues u [] s t st nf k =
        let r : Ran = run f v.lent u.undo in
        let a : Answer = answer u.number 0 u.attempt 0 r.outcome in
        let q : Queues = drain v.scheme r.cells (again u f r ∷ []) e.waiting in
        told_append F (a ∷ []) q.answers q.uncommitted
        (drain_told v.scheme (after F (a ∷ [])) e.count e.largest r.cells (again u f r ∷ []) e.waiting (continued_sound e.count e.largest e.waiting v.lent u f s st k)
        ((λ _. last_same u.number (F u.number) a refl), tt))
    continues u (x ∷ us) s t st nf k = absurd (nil≢cons (sym (alone e.count e.largest e.waiting v.lent u (x ∷ us) s nf)))

step_told : (F : ℕ → ℕ) (e : Engine) (v : Call) → sound e ≡ true → All (Told F) e.uncommitted → All (Told (after F (step e v).answers)) (step e v).engine.uncommitted
unfolding step
step_told F e v s t = go (refusal e v) refl
  where
    go : (k : ℕ) → refusal e v ≡ k → All (Told (after F (respond k e v).answers)) (respond k e v).engine.uncommitted
    go zero q = engine_told F e v (sound_parts e s) (passed e v q) t
    go (suc k) q = t

runs_told : (F : ℕ → ℕ) (r : Run) (calls : List Call) → sound r.engine ≡ true → All (Told F) r.engine.uncommitted → All (Told (after F (sent_in r calls))) (runs r calls).engine.uncommitted
runs_told F r [] s t = t
runs_told F r (v ∷ calls) s t = told_append F (step r.engine v).answers (sent_in (onward r v) calls) (runs (onward r v) calls).engine.uncommitted
    (runs_told (after F (step r.engine v).answers) (onward r v) calls (step_keeps r.engine v s).sound (step_told F r.engine v s t))

fresh_told : (cs : Cells) → All (Told (λ n. 0)) (fresh cs).engine.uncommitted
unfolding start
fresh_told cs = go (eqb (length cs) 0 || ltb most_cells (length cs))
  where
    go : (b : Bool) → All (Told (λ n. 0)) (pick {A = Started} b (record { number = 3; engine = empty 0 }) (record { number = 0; engine = empty (length cs) })).engine.uncommitted
    go true = tt
    go false = tt

-- the front was answered, and in the attempt that it has
pub front_told : (cs : Cells) (calls more : List Call) (D : ℕ) → is_front D (runs (runs (fresh cs) calls) more).engine ≡ true
    → front_attempt (runs (runs (fresh cs) calls) more).engine.uncommitted ≡ last_attempt D 0 (sent_in (fresh cs) calls ++ sent_in (runs (fresh cs) calls) more)
front_told cs calls more D f = go R.engine.uncommitted f (told_append (λ n. 0) (sent_in (fresh cs) calls) (sent_in r more) R.engine.uncommitted
    (runs_told (after (λ n. 0) (sent_in (fresh cs) calls)) r more (runs_sound cs calls) (runs_told (λ n. 0) (fresh cs) calls (runs_sound cs []) (fresh_told cs))))
    (sound_parts R.engine sounds).front
  where
    r : Run
    r = runs (fresh cs) calls

    R : Run
    R = runs (runs (fresh cs) calls) more

    sounds : sound (runs (runs (fresh cs) calls) more).engine ≡ true
    sounds = on (runs (fresh cs) calls) more (runs_sound cs calls)
      where
        on : (x : Run) (vs : List Call) → sound x.engine ≡ true → sound (runs x vs).engine ≡ true
        on x [] h = h
        on x (v ∷ vs) h = on (onward x v) vs (step_keeps x.engine v h).sound

    go : (us : List Uncommitted) → front (λ (u : Uncommitted). eqb u.number D) us ≡ true → All (Told (after (λ n. 0) (sent_in (fresh cs) calls ++ sent_in (runs (fresh cs) calls) more))) us → front bad_front us ≡ false
        → front_attempt us ≡ last_attempt D 0 (sent_in (fresh cs) calls ++ sent_in (runs (fresh cs) calls) more)
    go [] f t b = absurd (true≢false (sym f))
    go (u ∷ us) f t b = sym (t.0 (or_right (not (multi u.first)) (holds u.reply) b))
        ∙ ap (λ (n : ℕ). last_attempt n 0 (sent_in (fresh cs) calls ++ sent_in (runs (fresh cs) calls) more)) (eqb-true u.number D f)
