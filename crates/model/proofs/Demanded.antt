-- Demand 3, proved: one call keeps the invariant, and the invariant says what each sentence asks.
use Prim.Native.Nat.{ℕ, zero, suc, ◌≤◌, ◌<◌}
use native.Mathlib.Omega.{arith}
use borrow.Author.Tests.{ltb-true, le-ltb, eqb-true}
use mathlib.Core.Path.{◌≡◌, refl, sym, ap, ◌∙◌, subst}
use mathlib.Core.Bool.{Bool, true, false, ◌||◌, true≢false}
use mathlib.Core.Logic.{◌⊎◌, inl, inr}
use mathlib.Core.List.Memᴰ
use mathlib.Core.List.{List, [], ◌∷◌, ◌++◌, map, append_assoc, append-nil, Memᴰ}
use lib.Dec.{ltb, eqb}
use lib.ListN.{length, take}
use lib.Seq.{take_at}
use Rattle.model.specs.Operations.{Cells, multi, told, pick}
use Rattle.model.specs.Limits.{most_cells}
use Rattle.model.specs.Transactions.{front, Uncommitted, Waiting, Answer, Engine, numbers, finished}
use Rattle.model.specs.Steps.{Queues, arrival, joined, continued, arrived}
use Rattle.model.specs.Refusals.{Request, Arrive, Commit, Abort, request, sound, Call, live, new, is_front, refusal, taken, largest_after, respond, step, settles_by, settles_in, Started, start, empty}
use Rattle.model.specs.Serial.{Tx, Open, Committed, Aborted, attempt, effect, serial}
use Rattle.model.specs.Demand.{QueueOrder, numbers_of, Log, is_logged, at, extended, decided, logged, noticed, kept, Run, onward, runs, fresh, Lends, AllLend, Standing, Settles, Gone, Undecided, settled_of, live_of, CellsHold, Gives, front_attempt, last_attempt, sent_in, NoAbort, DependentRight, SeenRight, UndisturbedRight, Demand3}
use Rattle.model.specs.declared.Event.{Event}
use Rattle.model.specs.declared.Fragment.{Fragment}
use Rattle.model.specs.declared.Scheme.{Scheme}
use Rattle.model.proofs.Logs.{InOrder, serial_append, rises_weaken, rises_settled, rises_at, gives_at, settled_append, known_new, known_at}
use Rattle.model.proofs.Chain.{nearest_tx, pend_multi_leaves, as_tx, tx_of, lives, Pend, InPast, Followed, all_mem, Inv, chain_cells, lives_length, settled_is}
use Rattle.model.proofs.Draining.{Plain, nearest_low}
use Rattle.model.proofs.Settling.{log_front, rises_log_front, Got, commit_inv, abort_inv, again_inv, new_inv, top_front, rises_front}
use Rattle.model.proofs.Replying.{Went, went_none}
use Rattle.model.proofs.Branches.{request_cases}
use Rattle.model.proofs.Passing.{passed, took, front_or_new, and_if, decides_front}
use Rattle.model.proofs.Kept.{step_keeps, runs_sound}
use Rattle.model.proofs.Attempts.{ExactlyIn, RaisedIn, exactly_runs, undisturbed_or_raised, front_exactly, not_raised, Named, step_named, front_told}
use Rattle.model.specs.Parts.{All, Passed}

-- Between two calls; as': answers that depend and were sent since the last accepted abort
pub record Whole (cs₀ : Cells) (r : Run) (as' : List Answer) : Type 0 where
  pub inv : Inv cs₀ r.log r.cells r.engine.uncommitted r.engine.waiting as'
  pub rises : InOrder 0 r.engine.largest r.log
  pub idle : r.engine.uncommitted ≡ [] → r.engine.waiting ≡ []

-- The cells

pub whole_cells : (cs₀ : Cells) (r : Run) (as' : List Answer) → Whole cs₀ r as' → CellsHold cs₀ r
whole_cells cs₀ r as' w =
    sym (chain_cells i.base i.more us r.cells i.chain)
    ∙ ap (λ (x : Log). serial x i.base) (sym (ap (take (length us)) st.1 ∙ take_at (lives i.more us) (map as_tx r.engine.waiting) (length us) (lives_length i.more us)))
    ∙ ap (serial (take (length us) (live_of r.log))) (sym i.based ∙ ap (λ (x : Log). serial x cs₀) (sym st.0))
  where
    us : List Uncommitted
    us = r.engine.uncommitted

    i : Inv cs₀ r.log r.cells r.engine.uncommitted r.engine.waiting as'
    i = w.inv

    st : (settled_of r.log ≡ settled_of w.inv.past) × (live_of r.log ≡ lives w.inv.more r.engine.uncommitted ++ map as_tx r.engine.waiting)
    st = settled_is cs₀ r.log r.cells r.engine.uncommitted r.engine.waiting as' w.inv w.idle

pub numbers_live : (fs : List Fragment) (us : List Uncommitted) (ws : List Waiting) → numbers us ws ≡ numbers_of (lives fs us ++ map as_tx ws)
numbers_live fs [] [] = refl
numbers_live fs [] (w ∷ ws) = ap {B = List ℕ} (λ (x : List ℕ). w.number ∷ x) (numbers_live fs [] ws)
numbers_live fs (u ∷ us) ws = ap {B = List ℕ} (λ (x : List ℕ). u.number ∷ x) (numbers_live [] us ws)

pub whole_queue : (cs₀ : Cells) (r : Run) (as' : List Answer) → Whole cs₀ r as' → QueueOrder r
whole_queue cs₀ r as' w =
    numbers_live w.inv.more r.engine.uncommitted r.engine.waiting
    ∙ ap numbers_of (sym (settled_is cs₀ r.log r.cells r.engine.uncommitted r.engine.waiting as' w.inv w.idle).1)

got_cast : (cs₀ : Cells) (l l' m : Log) (t t' : ℕ) (as' : List Answer) (q : Queues) → l' ≡ m → t ≡ t' → Got cs₀ l l' t as' q → Got cs₀ l m t' as' q
got_cast cs₀ l l' m t t' as' q e f g = subst (λ (x : Log). Got cs₀ l x t' as' q) e (subst (λ (x : ℕ). Got cs₀ l l' x as' q) f g)

-- A request that was accepted

module _ (σ : Scheme) (cs₀ : Cells) (ct top : ℕ) (ws : List Waiting) (cs : Cells) (l : Log) (rises : InOrder 0 top l) where
  abbrev engine_of : List Uncommitted → Engine
  engine_of us = record { count = ct; largest = top; uncommitted = us; waiting = ws }

  arrive_new : (us : List Uncommitted) (as' : List Answer) (n : ℕ) (f : Fragment) → Inv cs₀ l cs us ws as' → (us ≡ [] → ws ≡ []) → ltb top n ≡ true
      → Got cs₀ l (logged (Arrive n f) l) (largest_after (Arrive n f) (engine_of us)) as' (joined σ n f cs us ws)
  arrive_new us as' n f i idle e =
      got_cast cs₀ l (l ++ record { number = n; first = f; more = []; decision = Open } ∷ []) (logged (Arrive n f) l) n (elim (ltb top n) [ true ↦ n | false ↦ top ]) as' (joined σ n f cs us ws)
      (sym (ap {B = Log} (λ (b : Bool). elim b [ true ↦ at n (extended f) l | false ↦ l ++ record { number = n; first = f; more = []; decision = Open } ∷ [] ]) (known_new 0 top n l k rises)))
      (sym (ap {B = ℕ} (λ (b : Bool). elim b [ true ↦ n | false ↦ top ]) e))
      (new_inv σ cs₀ top l rises cs us ws as' (arrival n f) i idle k)
    where
      k : top < n
      k = ltb-true top n e

  arrive_again : (u : Uncommitted) (us : List Uncommitted) (as' : List Answer) (f : Fragment) (i : Inv cs₀ l cs (u ∷ us) ws as') → finished u.state ≡ false
      → Got cs₀ l (logged (Arrive u.number f) l) (largest_after (Arrive u.number f) (engine_of (u ∷ us))) as' (continued σ f cs u us ws)
  arrive_again u us as' f i nf =
      got_cast cs₀ l (at u.number (extended f) l) (logged (Arrive u.number f) l) top (elim (ltb top u.number) [ true ↦ u.number | false ↦ top ]) as' (continued σ f cs u us ws)
      (sym (ap {B = Log} (λ (b : Bool). elim b [ true ↦ at u.number (extended f) l | false ↦ l ++ record { number = u.number; first = f; more = []; decision = Open } ∷ [] ]) kn))
      (sym (ap {B = ℕ} (λ (b : Bool). elim b [ true ↦ u.number | false ↦ top ]) (le-ltb top u.number (top_front cs₀ top l rises cs ws as' u us i))))
      (again_inv σ cs₀ top l rises cs ws as' u us i f nf)
    where
      kn : is_logged u.number l ≡ true
      kn = ap (is_logged u.number) i.split ∙ known_at top (tx_of i.more u) (lives [] us ++ map as_tx ws) 0 i.past (rises_front cs₀ top l rises cs ws as' u us i)

  accept_arrive : (us : List Uncommitted) (as' : List Answer) (c : Call) → eqb c.event.kind 1 ≡ true → Inv cs₀ l cs us ws as' → (us ≡ [] → ws ≡ []) → Passed (engine_of us) c
      → Got cs₀ l (logged (Arrive c.event.number c.event.fragment) l) (largest_after (Arrive c.event.number c.event.fragment) (engine_of us)) as'
      (arrived σ c.event.number c.event.fragment cs us ws)
  accept_arrive [] as' c a i idle p =
      arrive_new [] as' c.event.number c.event.fragment i idle (front_or_new (live c.event.number (engine_of [])) (new c.event.number (engine_of [])) false p.six p.seven refl)
  accept_arrive (u ∷ us) as' c a i idle p = go (eqb u.number n) refl
    where
      n : ℕ
      n = c.event.number

      f : Fragment
      f = c.event.fragment

      go : (b : Bool) → eqb u.number n ≡ b → Got cs₀ l (logged (Arrive n f) l) (largest_after (Arrive n f) (engine_of (u ∷ us))) as'
          (elim b [ false ↦ joined σ n f cs (u ∷ us) ws | true ↦ continued σ f cs u us ws ])
      go false e = arrive_new (u ∷ us) as' n f i idle (front_or_new (live n (engine_of (u ∷ us))) (new n (engine_of (u ∷ us))) (eqb u.number n) p.six p.seven e)
      go true e = subst (λ (m : ℕ). Got cs₀ l (logged (Arrive m f) l) (largest_after (Arrive m f) (engine_of (u ∷ us))) as' (continued σ f cs u us ws)) (eqb-true u.number n e)
          (arrive_again u us as' f i (and_if (eqb u.number n) (finished u.state) e (and_if (eqb c.event.kind 1) _ a p.eight)))

  accept_commit : (us : List Uncommitted) (as' : List Answer) (c : Call) → eqb c.event.kind 1 ≡ false → Inv cs₀ l cs us ws as' → Passed (engine_of us) c
      → Got cs₀ l (logged (Commit c.event.number) l) top as' (taken σ (Commit c.event.number) (engine_of us) cs)
  accept_commit [] as' c a i p = absurd (true≢false (sym (decides_front (engine_of []) c a p)))
  accept_commit (u ∷ us) as' c a i p =
      subst (λ (m : ℕ). Got cs₀ l (logged (Commit m) l) top as' (taken σ (Commit m) (engine_of (u ∷ us)) cs)) (eqb-true u.number c.event.number (decides_front (engine_of (u ∷ us)) c a p))
      (commit_inv cs₀ top l rises cs ws as' u us i σ)

  accept_abort : (us : List Uncommitted) (as' : List Answer) (c : Call) → eqb c.event.kind 1 ≡ false → Inv cs₀ l cs us ws as' → Passed (engine_of us) c
      → Got cs₀ l (logged (Abort c.event.number) l) top [] (taken σ (Abort c.event.number) (engine_of us) cs)
  accept_abort [] as' c a i p = absurd (true≢false (sym (decides_front (engine_of []) c a p)))
  accept_abort (u ∷ us) as' c a i p =
      subst (λ (m : ℕ). Got cs₀ l (logged (Abort m) l) top [] (taken σ (Abort m) (engine_of (u ∷ us)) cs)) (eqb-true u.number c.event.number (decides_front (engine_of (u ∷ us)) c a p))
      (abort_inv cs₀ top l rises cs ws as' u us i σ)

-- One call. After an abort no answer is followed any longer.

accept : (σ : Scheme) (cs₀ : Cells) (e : Engine) (cs : Cells) (l : Log) (as' : List Answer) (c : Call) → Inv cs₀ l cs e.uncommitted e.waiting as' → (e.uncommitted ≡ [] → e.waiting ≡ []) → InOrder 0 e.largest l → Passed e c
    → ((n : ℕ) → request c.event ≡ Abort n → as' ≡ []) → Got cs₀ l (logged (request c.event) l) (largest_after (request c.event) e) as' (taken σ (request c.event) e cs)
accept σ cs₀ e cs l as' c i idle h p z =
    request_cases (λ (q : Request). ((n : ℕ) → q ≡ Abort n → as' ≡ []) → Got cs₀ l (logged q l) (largest_after q e) as' (taken σ q e cs)) c.event
    (λ a _. accept_arrive σ cs₀ e.count e.largest e.waiting cs l h e.uncommitted as' c a i idle p)
    (λ a _. accept_commit σ cs₀ e.count e.largest e.waiting cs l h e.uncommitted as' c a i p)
    (λ a y. subst (λ (x : List Answer). Got cs₀ l (logged (Abort c.event.number) l) e.largest x (taken σ (Abort c.event.number) e cs)) (sym (y c.event.number refl))
    (accept_abort σ cs₀ e.count e.largest e.waiting cs l h e.uncommitted as' c a i p)) z

pub record Next (cs₀ : Cells) (r : Run) (c : Call) (as' : List Answer) : Type 0 where
  pub whole : Whole cs₀ (onward r c) (as' ++ (step r.engine c).answers)
  pub plain : All (Plain cs₀ (onward r c).log) (step r.engine c).answers
  -- who settles, as the steps name them; and what singles are answered
  pub went : Went cs₀ (onward r c).log r.log (onward r c).log (step r.engine c).answers (settles_in r.engine c)

pub whole_onward : (cs₀ : Cells) (r : Run) (c : Call) (as' : List Answer) → Whole cs₀ r as' → Lends r c → ((step r.engine c).number ≡ 0 → (n : ℕ) → request c.event ≡ Abort n → as' ≡ [])
    → Next cs₀ r c as'
unfolding step
whole_onward cs₀ r c as' w d z =
    let x = go (refusal r.engine c) refl d z in
    record { whole = x.0; plain = x.1; went = x.2 }
  where
    there : ℕ → Run
    there k = record {
      engine = (respond k r.engine c).engine;
      cells = kept (respond k r.engine c).number r.cells (respond k r.engine c).cells;
      log = noticed (respond k r.engine c).number (request c.event) r.log;
    }

    go : (k : ℕ) → refusal r.engine c ≡ k → ((respond k r.engine c).number ≡ 0 → c.lent ≡ r.cells)
        → ((respond k r.engine c).number ≡ 0 → (n : ℕ) → request c.event ≡ Abort n → as' ≡ [])
        → Whole cs₀ (there k) (as' ++ (respond k r.engine c).answers) × All (Plain cs₀ (there k).log) (respond k r.engine c).answers
        × Went cs₀ (there k).log r.log (there k).log (respond k r.engine c).answers (settles_by (respond k r.engine c).number r.engine c)
    go zero e d' z' =
        let g = accept c.scheme cs₀ r.engine c.lent r.log as' c
        (subst (λ (x : Cells). Inv cs₀ r.log x r.engine.uncommitted r.engine.waiting as') (sym (d' refl)) w.inv) w.idle w.rises (passed r.engine c e) (z' refl) in
        (record { inv = g.after.inv; rises = g.rises; idle = g.after.idle }, g.after.plain, g.went)
    go (suc k) e d' z' = (rw append-nil w, tt, went_none cs₀ r.log r.log r.log refl)

-- The theorem

empty_whole : (cs₀ : Cells) (n : ℕ) → Whole cs₀ (record { engine = empty n; cells = cs₀; log = [] }) []
empty_whole cs₀ n = record {
  inv = record { past = []; base = cs₀; more = []; split = refl; closed = tt; based = refl; chain = refl; ready = tt; multi = tt; followed = tt };
  rises = omega arith;
  idle = λ h. refl;
}

pub fresh_whole : (cs₀ : Cells) → Whole cs₀ (fresh cs₀) []
unfolding start
fresh_whole cs₀ = go (eqb (length cs₀) 0 || ltb most_cells (length cs₀))
  where
    go : (b : Bool) → Whole cs₀ (record { engine = (pick {A = Started} b (record { number = 3; engine = empty 0 }) (record { number = 0; engine = empty (length cs₀) })).engine; cells = cs₀; log = [] }) []
    go true = empty_whole cs₀ 0
    go false = empty_whole cs₀ (length cs₀)

-- follow nothing any longer
pub forget : (cs₀ : Cells) (r : Run) (as' : List Answer) → Whole cs₀ r as' → Whole cs₀ r []
forget cs₀ r as' w = record {
  inv = record {
    past = w.inv.past;
    base = w.inv.base;
    more = w.inv.more;
    split = w.inv.split;
    closed = w.inv.closed;
    based = w.inv.based;
    chain = w.inv.chain;
    ready = w.inv.ready;
    multi = w.inv.multi;
    followed = tt;
  };
  rises = w.rises;
  idle = w.idle;
}

pub whole_next : (cs₀ : Cells) (r : Run) (c : Call) → Whole cs₀ r [] → Lends r c → Whole cs₀ (onward r c) []
whole_next cs₀ r c w d = forget cs₀ (onward r c) (step r.engine c).answers (whole_onward cs₀ r c [] w d (λ _ _ _. refl)).whole

pub whole_runs : (cs₀ : Cells) (r : Run) (calls : List Call) → AllLend r calls → Whole cs₀ r [] → Whole cs₀ (runs r calls) []
whole_runs cs₀ r [] d w = w
whole_runs cs₀ r (c ∷ calls) d w = whole_runs cs₀ (onward r c) calls d.1 (whole_next cs₀ r c w d.0)

-- answers followed through calls without an accepted abort
followed_runs : (cs₀ : Cells) (r : Run) (calls : List Call) (as' : List Answer) → AllLend r calls → Whole cs₀ r as' → NoAbort r calls → (more : List Answer) × Whole cs₀ (runs r calls) (as' ++ more)
followed_runs cs₀ r [] as' d w q = ([], rw append-nil w)
followed_runs cs₀ r (c ∷ calls) as' d w q =
    let n = whole_onward cs₀ r c as' w d.0 (λ h k e. absurd (q.0 h k e)) in
    let x = followed_runs cs₀ (onward r c) calls (as' ++ (step r.engine c).answers) d.1 n.whole q.1 in
    ((step r.engine c).answers ++ x.0, subst (λ (y : List Answer). Whole cs₀ (runs (onward r c) calls) y) (append_assoc as' (step r.engine c).answers x.0) x.1)

-- the invariant after any calls from a fresh start, and over one call more
pub reached : (cs₀ : Cells) (calls : List Call) → AllLend (fresh cs₀) calls → Whole cs₀ (runs (fresh cs₀) calls) []
reached cs₀ calls d = whole_runs cs₀ (fresh cs₀) calls d (fresh_whole cs₀)

pub reaches : (cs₀ : Cells) (calls : List Call) → AllLend (fresh cs₀) calls → (c : Call) → Lends (runs (fresh cs₀) calls) c → Next cs₀ (runs (fresh cs₀) calls) c []
reaches cs₀ calls d c k = whole_onward cs₀ (runs (fresh cs₀) calls) c [] (reached cs₀ calls d) k (λ _ _ _. refl)

-- Answers that depend

-- what is in the past lies below the front
past_below : (n top : ℕ) (P : Log) (t : Tx) (R : Log) → InOrder n top (P ++ t ∷ R) → (x : Tx) → Memᴰ x P → x.number < t.number
past_below n top [] t R h x m = absurd (Memᴰ.not-nil m)
past_below n top (p ∷ P) t R h x m = go (past_below p.number top P t R h.1 x) (Memᴰ.cases_cons m)
  where
    go : (Memᴰ x P → x.number < t.number) → (x ≡ p) ⊎ Memᴰ x P → x.number < t.number
    go f (inl e) = subst (λ (y : Tx). y.number < t.number) (sym e) (rises_at p.number top P t R h.1)
    go f (inr k) = f k

-- the nearest multi is the one that left: only singles between
Singles : List Tx → Type 0
Singles ts = All (λ (t : Tx). multi t.first ≡ false) ts

nearest_self : (k top : ℕ) (A R : Log) → InOrder k top (A ++ R) → nearest_tx k A ≡ k → Singles A
unfolding Singles
nearest_self k top [] R h e = tt
nearest_self k top (t ∷ A) R h e = go (multi t.first) refl (λ x. nearest_self k top A R (rises_weaken k t.number top (A ++ R) (omega (arith, h.0)) h.1) x) e
  where
    go : (b : Bool) → multi t.first ≡ b → (nearest_tx k A ≡ k → Singles A) → ◌≡◌ {A = ℕ} (elim b [ true ↦ nearest_tx t.number A | false ↦ nearest_tx k A ]) k → Singles (t ∷ A)
    go true m f x = let y : t.number ≤ nearest_tx t.number A = nearest_low t.number top A R h.1 in absurd (omega (arith, h.0))
    go false m f x = (m, f x)

singles_settled : (A : List Tx) → Singles A → settled_of A ≡ A
unfolding Singles
singles_settled [] h = refl
singles_settled (t ∷ A) h =
    ap {B = Log}
    (λ (b : Bool). elim (elim b as (λ _. Standing) [ false ↦ Settles | true ↦ elim t.decision [ Open ↦ Undecided | Committed ↦ Settles | Aborted ↦ Gone ] ])
    [ Settles ↦ t ∷ settled_of A | Gone ↦ settled_of A | Undecided ↦ [] ])
    h.0
    ∙ ap {B = Log} (λ (x : Log). t ∷ x) (singles_settled A h.1)

module _ (cs₀ : Cells) (top : ℕ) (l : Log) (rises : InOrder 0 top l) (cs : Cells) (ws : List Waiting) (as' : List Answer) (u : Uncommitted) (us : List Uncommitted)
    (i : Inv cs₀ l cs (u ∷ us) ws as') (a : Answer) where
  fulfilled : a.dependence ≡ u.number → Pend u.number (effect (tx_of i.more u) i.base) [] us a → Gives cs₀ a.number (at u.number (decided Committed) l) a.outcome
  fulfilled e p =
      subst (λ (n : ℕ). Gives cs₀ n (at u.number (decided Committed) l) a.outcome) (sym p.names)
      (gives_at cs₀ top (at u.number (decided Committed) l) (i.past ++ done ∷ p.ahead) p.it (p.behind ++ map as_tx ws) a.outcome
      (rises_log_front cs₀ top l rises cs ws as' u us i (decided Committed) refl) log
      (p.foretells ∙ ap (λ (x : Cells). told (attempt p.it x)) (sym ran)))
    where
      done : Tx
      done = decided Committed (tx_of i.more u)

      tail : lives [] us ++ map as_tx ws ≡ p.ahead ++ p.it ∷ (p.behind ++ map as_tx ws)
      tail = ap (λ (x : Log). x ++ map as_tx ws) p.queue ∙ append_assoc p.ahead (p.it ∷ p.behind) (map as_tx ws)

      log : at u.number (decided Committed) l ≡ (i.past ++ done ∷ p.ahead) ++ p.it ∷ (p.behind ++ map as_tx ws)
      log = log_front cs₀ top l rises cs ws as' u us i (decided Committed) ∙ ap (λ (x : Log). i.past ++ done ∷ x) tail
          ∙ sym (append_assoc i.past (done ∷ p.ahead) (p.it ∷ (p.behind ++ map as_tx ws)))

      above : (n : ℕ) (P : Log) → InOrder n top (P ++ tx_of i.more u ∷ (lives [] us ++ map as_tx ws)) → InOrder u.number top (lives [] us ++ map as_tx ws)
      above n [] h = h.1
      above n (x ∷ P) h = above x.number P h.1

      singles : Singles p.ahead
      singles = nearest_self u.number top p.ahead (p.it ∷ (p.behind ++ map as_tx ws))
          (subst (λ (x : Log). InOrder u.number top x) tail (above 0 i.past (rises_front cs₀ top l rises cs ws as' u us i))) (sym p.on ∙ e)

      ran : serial (settled_of (i.past ++ done ∷ p.ahead)) cs₀ ≡ serial p.ahead (effect (tx_of i.more u) i.base)
      ran = ap (λ (x : Log). serial x cs₀) (settled_append i.past (done ∷ p.ahead) i.closed)
          ∙ serial_append (settled_of i.past) (settled_of (done ∷ p.ahead)) cs₀
          ∙ ap {B = Cells} (λ (b : Bool). serial (elim (elim b as (λ _. Standing) [ false ↦ Settles | true ↦ Settles ]) [ Settles ↦ done ∷ settled_of p.ahead | Gone ↦ settled_of p.ahead | Undecided ↦ [] ]) (serial (settled_of i.past) cs₀)) i.multi
          ∙ ap (λ (x : Log). serial x (effect (tx_of i.more u) (serial (settled_of i.past) cs₀))) (singles_settled p.ahead singles)
          ∙ ap (λ (x : Cells). serial p.ahead (effect (tx_of i.more u) x)) i.based

  depend_front : (a.dependence ≡ 0 → ⊥) → a.dependence ≡ u.number → Followed 0 i.past i.base i.more (u ∷ us) a → Gives cs₀ a.number (at u.number (decided Committed) l) a.outcome
  depend_front z e t = go (t z)
    where
      there : (a.dependence ≡ 0) ⊎ Pend u.number (effect (tx_of i.more u) i.base) [] us a → Gives cs₀ a.number (at u.number (decided Committed) l) a.outcome
      there (inl x) = absurd (z x)
      there (inr p) = fulfilled e p

      go : Pend 0 i.base i.more (u ∷ us) a ⊎ InPast a.dependence i.past → Gives cs₀ a.number (at u.number (decided Committed) l) a.outcome
      go (inl p) = there (pend_multi_leaves 0 i.base i.more u us a i.multi p)
      go (inr x) =
          let k : x.0.number < u.number = past_below 0 top i.past (tx_of i.more u) (lives [] us ++ map as_tx ws) (rises_front cs₀ top l rises cs ws as' u us i) x.0 x.1 in
          let y : x.0.number ≡ u.number = x.2 ∙ e in
          absurd (omega arith)

depend_commit : (cs₀ : Cells) (ct top : ℕ) (us : List Uncommitted) (ws : List Waiting) (cs : Cells) (l : Log) (as' : List Answer) (i : Inv cs₀ l cs us ws as') → InOrder 0 top l
    → (a : Answer) → (a.dependence ≡ 0 → ⊥) → Followed 0 i.past i.base i.more us a → front (λ (u : Uncommitted). eqb u.number a.dependence) us ≡ true
    → Gives cs₀ a.number (at a.dependence (decided Committed) l) a.outcome
depend_commit cs₀ ct top [] ws cs l as' i h a z t p = absurd (true≢false (sym p))
depend_commit cs₀ ct top (u ∷ us) ws cs l as' i h a z t p =
    subst (λ (n : ℕ). Gives cs₀ a.number (at n (decided Committed) l) a.outcome) same (depend_front cs₀ top l h cs ws as' u us i a z (sym same) t)
  where
    same : u.number ≡ a.dependence
    same = eqb-true u.number a.dependence p

-- a request that commits n
commits : (v : Event) (n : ℕ) → request v ≡ Commit n → (eqb v.kind 1 ≡ false) × (v.number ≡ n)
commits v n h = go (eqb v.kind 1) (eqb v.kind 2) h
  where
    go : (a b : Bool) → elim a as (λ _. Request) [ true ↦ Arrive v.number v.fragment | false ↦ elim b [ true ↦ Commit v.number | false ↦ Abort v.number ] ] ≡ Commit n → (a ≡ false) × (v.number ≡ n)
    go true b e = let x : ◌≡◌ {A = ℕ} 0 1 = cc in absurd (omega arith)
    go false true e = (refl, cc)
    go false false e = let x : ◌≡◌ {A = ℕ} 0 1 = cc in absurd (omega arith)

-- what 01 says of it: no abort was accepted between the answer and the commit
pub undisturbed_right : (cs₀ : Cells) (calls : List Call) → AllLend (fresh cs₀) calls → (c : Call) → Lends (runs (fresh cs₀) calls) c → (between : List Call)
    → AllLend (onward (runs (fresh cs₀) calls) c) between → (d : Call) → UndisturbedRight cs₀ (runs (fresh cs₀) calls) c between d
undisturbed_right cs₀ calls k c j between b d a m z q ev ok =
    subst (λ (x : Log). Gives cs₀ a.number x a.outcome) (sym (ap (λ (k : ℕ). noticed k (request d.event) R.log) ok ∙ ap (λ (v : Request). noticed 0 v R.log) ev))
    (depend_commit cs₀ R.engine.count R.engine.largest R.engine.uncommitted R.engine.waiting R.cells R.log ((step r.engine c).answers ++ f.0) f.1.inv f.1.rises a z
    (all_mem (Followed 0 f.1.inv.past f.1.inv.base f.1.inv.more R.engine.uncommitted) ((step r.engine c).answers ++ f.0) f.1.inv.followed a (Memᴰ.append_left f.0 m))
    (subst (λ (n : ℕ). is_front n R.engine ≡ true) x.1 (decides_front R.engine d x.0
    (passed R.engine d (took R.engine d ok)))))
  where
    r : Run
    r = runs (fresh cs₀) calls

    R : Run
    R = runs (onward r c) between

    f : (more : List Answer) × Whole cs₀ (runs (onward r c) between) ((step r.engine c).answers ++ more)
    f = followed_runs cs₀ (onward r c) between (step r.engine c).answers b (reaches cs₀ calls k c j).whole q

    x : (eqb d.event.kind 1 ≡ false) × (d.event.number ≡ a.dependence)
    x = commits d.event a.dependence ev

-- In which attempt D commits. A commit is for the front.
commits_front : (e : Engine) (d : Call) (n : ℕ) → request d.event ≡ Commit n → (step e d).number ≡ 0 → is_front n e ≡ true
commits_front e d n ev ok = let x = commits d.event n ev in subst (λ (m : ℕ). is_front m e ≡ true) x.1 (decides_front e d x.0 (passed e d (took e d ok)))

-- c sends a, which depends on D = a.dependence
module _ (cs₀ : Cells) (calls : List Call) (c : Call) (a : Answer) (m : Memᴰ a (step (runs (fresh cs₀) calls).engine c).answers) (z : a.dependence ≡ 0 → ⊥) where
  abbrev sender : Run
  sender = runs (fresh cs₀) calls

  sounds : sound (onward sender c).engine ≡ true
  sounds = (step_keeps sender.engine c (runs_sound cs₀ calls)).sound

  -- then D runs, in the attempt that a names
  named : ExactlyIn a.dependence a.dependence_attempt (onward sender c).engine
  named =
      let e : Engine = (onward sender c).engine in
      all_mem (Named e.largest e.uncommitted e.waiting) (step sender.engine c).answers (step_named sender.engine c) a m z

  -- d commits it
  module _ (between : List Call) (d : Call) (ev : request d.event ≡ Commit a.dependence) (ok : (step (runs (onward sender c) between).engine d).number ≡ 0) where
    abbrev committer : Engine
    committer = (runs (onward sender c) between).engine

    is : is_front a.dependence committer ≡ true
    is = commits_front committer d a.dependence ev ok

    -- where no abort was accepted between, D commits in that very attempt
    pub undisturbed_attempt : NoAbort (onward sender c) between → front_attempt committer.uncommitted ≡ a.dependence_attempt
    undisturbed_attempt q = front_exactly a.dependence a.dependence_attempt committer is (exactly_runs a.dependence a.dependence_attempt (onward sender c) between sounds q named)

    -- and only there
    pub attempt_undisturbed : front_attempt committer.uncommitted ≡ a.dependence_attempt → NoAbort (onward sender c) between
    attempt_undisturbed e = go (undisturbed_or_raised a.dependence a.dependence_attempt (onward sender c) between sounds named)
      where
        go : NoAbort (onward sender c) between ⊎ RaisedIn a.dependence a.dependence_attempt committer → NoAbort (onward sender c) between
        go (inl q) = q
        go (inr t) = absurd (not_raised a.dependence a.dependence_attempt committer is e t)

    -- the last answer sent for D carries the attempt in which it commits
    pub seen_attempt : front_attempt committer.uncommitted ≡ last_attempt a.dependence 0 (sent_in (fresh cs₀) calls ++ sent_in sender (c ∷ between))
    seen_attempt = front_told cs₀ calls (c ∷ between) a.dependence is

-- "right if D commits in that very attempt" (02, L2)
dependent_right : (cs₀ : Cells) (calls : List Call) → AllLend (fresh cs₀) calls → (c : Call) → Lends (runs (fresh cs₀) calls) c → (between : List Call)
    → AllLend (onward (runs (fresh cs₀) calls) c) between → (d : Call) → DependentRight cs₀ (runs (fresh cs₀) calls) c between d
dependent_right cs₀ calls k c j between b d a m z ev ok e = undisturbed_right cs₀ calls k c j between b d a m z (attempt_undisturbed cs₀ calls c a m z between d ev ok e) ev ok

-- the same, by what a coordinator sees
seen_right : (cs₀ : Cells) (calls : List Call) → AllLend (fresh cs₀) calls → (c : Call) → Lends (runs (fresh cs₀) calls) c → (between : List Call)
    → AllLend (onward (runs (fresh cs₀) calls) c) between → (d : Call) → SeenRight cs₀ (runs (fresh cs₀) calls) (sent_in (fresh cs₀) calls) c between d
seen_right cs₀ calls k c j between b d a m z ev ok e = dependent_right cs₀ calls k c j between b d a m z ev ok (seen_attempt cs₀ calls c a m z between d ev ok ∙ e)

pub demand3 : (cs : Cells) → Demand3 cs
demand3 cs = record {
  cells = λ calls d. whole_cells cs (runs (fresh cs) calls) [] (reached cs calls d);
  queues = λ calls d. whole_queue cs (runs (fresh cs) calls) [] (reached cs calls d);
  settling = λ calls d c k. record {
    accepted = (reached cs calls d).rises;
    rises = rises_settled 0 (runs (fresh cs) calls).engine.largest (runs (fresh cs) calls).log (reached cs calls d).rises;
    more = (reaches cs calls d c k).went.more;
    grows = (reaches cs calls d c k).went.grows;
    named = (reaches cs calls d c k).went.named;
  };
  plain = λ calls d c k a m e.
      all_mem (Plain cs (onward (runs (fresh cs) calls) c).log) (step (runs (fresh cs) calls).engine c).answers (reaches cs calls d c k).plain a m e;
  dependent = dependent_right cs;
  seen = seen_right cs;
}
