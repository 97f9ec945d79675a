-- Draining keeps the invariant, every answer without a dependence that it sends is right, and the singles that settle are answered.
use Prim.Native.Nat.{ℕ, ◌≤◌, ◌<◌}
use native.Mathlib.Omega.{arith}
use mathlib.Core.Path.{◌≡◌, refl, sym, ap, ◌∙◌, subst}
use mathlib.Core.Bool.{Bool, true, false, ◌||◌, true≢false}
use mathlib.Core.Logic.{inl}
use mathlib.Core.List.{List, [], ◌∷◌, ◌++◌, map, append_assoc, append-nil}
use Rattle.model.specs.Operations.{Cells, Outcome, multi, told}
use Rattle.model.specs.Transactions.{Reply, Held, Sent, holds, Uncommitted, Waiting, Answer, answer}
use Rattle.model.specs.Steps.{Ran, run, begun, nearest, nearest_attempt, last_finished, may_take, Queues, Place, placed, drain}
use Rattle.model.specs.Serial.{attempt, effect, serial}
use Rattle.model.specs.Demand.{Log, Standing, Settles, Undecided, standing, settled_of, Gives}
use Rattle.model.specs.declared.Fragment.{Fragment}
use Rattle.model.specs.declared.Scheme.{Scheme}
use Rattle.model.proofs.Taking.{may_finished}
use Rattle.model.proofs.Tests.{or_true}
use Rattle.model.proofs.Branches.{placed_idle, placed_behind, drain_cases}
use Rattle.model.proofs.Replying.{Went, went_none, went_both, went_multi, went_settles}
use Rattle.model.proofs.Logs.{InOrder, rises_weaken, gives_at, Past, closed_snoc, past_settles}
use Rattle.model.proofs.Chain.{nearest_tx, nearest_lives, as_tx, lives, Followed, all_map, all_append, Inv, chain_cells, chain_snoc, lives_snoc, ready_snoc, begun_agrees, begun_stands, begun_entry, settled_is, sent_is_not_held, held_inj, followed_idle, followed_snoc}
use Rattle.model.specs.Parts.{All}

pub past_if : (s : Standing) → s ≡ Settles → Past s
past_if s e = subst Past (sym e) tt

-- an answer without a dependence is right by the log
abbrev pub Plain : Cells → Log → Answer → Type 0
Plain cs₀ l a = a.dependence ≡ 0 → Gives cs₀ a.number l a.outcome

-- the invariant goes on after these answers, and of the singles among them each has settled; ns have settled
abbrev pub Onto : Cells → Log → Log → Cells → List Uncommitted → List Waiting → List Answer → List Answer → List ℕ → Type 0
Onto cs₀ l P cs us ws as' new ns = (j : Inv cs₀ l cs us ws (as' ++ new)) × Went cs₀ l P j.past new ns

-- numbers of the log from a given place on
pub rises_drop : (n top : ℕ) (P Q : Log) → InOrder n top (P ++ Q) → InOrder n top Q
rises_drop n top [] Q h = h
rises_drop n top (p ∷ P) Q h = rises_weaken n p.number top Q (omega (arith, h.0)) (rises_drop p.number top P Q h.1)

pub nearest_low : (k top : ℕ) (A R : Log) → InOrder k top (A ++ R) → k ≤ nearest_tx k A
nearest_low k top [] R h = omega arith
nearest_low k top (t ∷ A) R h = go (multi t.first) (nearest_low t.number top A R h.1) (nearest_low k top A R (rises_weaken k t.number top (A ++ R) (omega (arith, h.0)) h.1))
  where
    go : (b : Bool) → t.number ≤ nearest_tx t.number A → k ≤ nearest_tx k A → k ≤ elim b [ true ↦ nearest_tx t.number A | false ↦ nearest_tx k A ]
    go true x y = omega (arith, h.0)
    go false x y = y

-- the front is a multi and its number is not 0, so what lies behind it depends on a number that is not 0
pub nearest_front : (top : ℕ) (fs : List Fragment) (u : Uncommitted) (us : List Uncommitted) (R : Log) → multi u.first ≡ true → InOrder 0 top (lives fs (u ∷ us) ++ R) → nearest 0 (u ∷ us) ≡ 0 → ⊥
nearest_front top fs u us R e h z =
    let k : u.number ≤ nearest_tx u.number (lives [] us) = nearest_low u.number top (lives [] us) R h.1 in
    let j : nearest 0 (u ∷ us) ≡ nearest_tx u.number (lives [] us) = nearest_lives 0 fs (u ∷ us) ∙ ap {B = ℕ} (λ (x : Bool). elim x [ true ↦ nearest_tx u.number (lives [] us) | false ↦ nearest_tx 0 (lives [] us) ]) e in
    let i : 0 < u.number = h.0 in
    let y : nearest_tx u.number (lives [] us) ≡ 0 = sym j ∙ z in
    omega arith

module _ (cs₀ : Cells) (top : ℕ) (l : Log) (rises : InOrder 0 top l) where
  -- what a run of the first waiting one tells, at any cells equal to those that stand
  tells_at : (w : Waiting) (cs b : Cells) → b ≡ cs → (run w.fragment cs []).outcome ≡ told (attempt (as_tx w) b)
  tells_at w cs b e = (begun_agrees w.fragment cs).tells ∙ ap (λ (x : Cells). told (attempt (as_tx w) x)) (sym e)

  -- Nothing uncommitted
  module _ (w : Waiting) (ws : List Waiting) (cs : Cells) (as' : List Answer) (i : Inv cs₀ l cs [] (w ∷ ws) as') where
    r : Ran
    r = run w.fragment cs []

    plain_first : Plain cs₀ l (answer w.number 0 w.attempt 0 (run w.fragment cs []).outcome)
    plain_first h = gives_at cs₀ top l i.past (as_tx w) (map as_tx ws) (run w.fragment cs []).outcome rises i.split (tells_at w cs (serial (settled_of i.past) cs₀) (i.based ∙ i.chain))

    settles_at_once : multi w.fragment ≡ false → Onto cs₀ l i.past (run w.fragment cs []).cells [] ws as' (answer w.number 0 w.attempt 0 (run w.fragment cs []).outcome ∷ []) (w.number ∷ [])
    settles_at_once e = (
      record {
        past = i.past ++ as_tx w ∷ [];
        base = (run w.fragment cs []).cells;
        more = [];
        split = i.split ∙ sym (append_assoc i.past (as_tx w ∷ []) (map as_tx ws));
        closed = closed_snoc i.past (as_tx w) i.closed (past_if (standing (as_tx w)) st);
        based = past_settles i.past (as_tx w) cs₀ i.closed st ∙ ap (effect (as_tx w)) (i.based ∙ i.chain) ∙ begun_stands w cs;
        chain = refl;
        ready = tt;
        multi = tt;
        followed = all_append (Followed 0 (i.past ++ as_tx w ∷ []) (run w.fragment cs []).cells [] []) as' (answer w.number 0 w.attempt 0 (run w.fragment cs []).outcome ∷ [])
            (all_map (Followed 0 i.past i.base i.more []) (Followed 0 (i.past ++ as_tx w ∷ []) (run w.fragment cs []).cells [] [])
            (λ a t. followed_idle 0 i.past (as_tx w ∷ []) i.base (run w.fragment cs []).cells i.more [] [] a t) as' i.followed)
            ((λ h. absurd (h refl)), tt);
      },
      went_settles cs₀ top l i.past (as_tx w) (map as_tx ws) (answer w.number 0 w.attempt 0 (run w.fragment cs []).outcome) rises i.split i.closed st e
          (ap (answer w.number 0 0 0) (tells_at w cs (serial (settled_of i.past) cs₀) (i.based ∙ i.chain))),
    )
      where
        st : standing (as_tx w) ≡ Settles
        st = ap {B = Standing} (λ (b : Bool). elim b [ false ↦ Settles | true ↦ Undecided ]) e

    becomes_front : multi w.fragment ≡ true → Onto cs₀ l i.past (run w.fragment cs []).cells (begun w (run w.fragment cs []) Sent ∷ []) ws as' (answer w.number 0 w.attempt 0 (run w.fragment cs []).outcome ∷ []) []
    becomes_front e = (
      record {
        past = i.past;
        base = cs;
        more = [];
        split = i.split;
        closed = i.closed;
        based = i.based ∙ i.chain;
        chain = begun_entry w cs Sent (λ o h. sent_is_not_held o _ h) (ap (λ (b : Bool). b || false) e);
        ready = tt;
        multi = e;
        followed = all_append (Followed 0 i.past cs [] (begun w (run w.fragment cs []) Sent ∷ [])) as' (answer w.number 0 w.attempt 0 (run w.fragment cs []).outcome ∷ [])
            (all_map (Followed 0 i.past i.base i.more []) (Followed 0 i.past cs [] (begun w (run w.fragment cs []) Sent ∷ []))
            (λ a t. rw (← append-nil i.past) (followed_idle 0 i.past [] i.base cs i.more [] (begun w (run w.fragment cs []) Sent ∷ []) a t)) as' i.followed)
            ((λ h. absurd (h refl)), tt);
      },
      went_multi cs₀ top l i.past i.past (as_tx w) (map as_tx ws) (answer w.number 0 w.attempt 0 (run w.fragment cs []).outcome) i.past rises i.split e refl refl,
    )

  -- Behind the last of the uncommitted ones
  module _ (u : Uncommitted) (us : List Uncommitted) (w : Waiting) (ws : List Waiting) (cs : Cells) (as' : List Answer) (i : Inv cs₀ l cs (u ∷ us) (w ∷ ws) as')
      (f : last_finished (u ∷ us) ≡ true) where
    joins : (a : Reply) → ((o : Outcome) → a ≡ Held o → o ≡ (run w.fragment cs []).outcome) → (multi w.fragment || holds a) ≡ true → (new : List Answer)
        → All (Followed 0 i.past i.base i.more (u ∷ us ++ (begun w (run w.fragment cs []) a ∷ []))) new
        → Went cs₀ l i.past i.past new []
        → Onto cs₀ l i.past (run w.fragment cs []).cells (u ∷ us ++ (begun w (run w.fragment cs []) a ∷ [])) ws as' new []
    joins a h hd new t s = (
      record {
        past = i.past;
        base = i.base;
        more = i.more;
        split = i.split ∙ ap (λ (x : Log). i.past ++ x)
            (sym (append_assoc (lives i.more (u ∷ us)) (as_tx w ∷ []) (map as_tx ws)) ∙ ap (λ (x : Log). x ++ map as_tx ws) (sym (lives_snoc i.more u us (begun w (run w.fragment cs []) a))));
        closed = i.closed;
        based = i.based;
        chain = chain_snoc i.base i.more u us cs (begun w (run w.fragment cs []) a) (run w.fragment cs []).cells i.chain (begun_entry w cs a h hd).0 (begun_stands w cs);
        ready = ready_snoc u us (begun w (run w.fragment cs []) a) i.ready f;
        multi = i.multi;
        followed = all_append (Followed 0 i.past i.base i.more (u ∷ us ++ (begun w (run w.fragment cs []) a ∷ []))) as' new
            (all_map (Followed 0 i.past i.base i.more (u ∷ us)) (Followed 0 i.past i.base i.more (u ∷ us ++ (begun w (run w.fragment cs []) a ∷ [])))
            (λ x t'. followed_snoc 0 i.past i.base i.more u us (begun w (run w.fragment cs []) a) x t') as' i.followed)
            t;
      },
      s,
    )

    -- a held one
    joins_held : Onto cs₀ l i.past (run w.fragment cs []).cells (u ∷ us ++ (begun w (run w.fragment cs []) (Held (run w.fragment cs []).outcome) ∷ [])) ws as' [] []
    joins_held = joins (Held (run w.fragment cs []).outcome) (λ o h. held_inj o (run w.fragment cs []).outcome h) (or_true (multi w.fragment) true refl) [] tt (went_none cs₀ l i.past i.past refl)

    -- one that is answered with a dependence
    joins_answered : multi w.fragment ≡ true → Onto cs₀ l i.past (run w.fragment cs []).cells (u ∷ us ++ (begun w (run w.fragment cs []) Sent ∷ [])) ws as'
        (answer w.number (nearest 0 (u ∷ us)) w.attempt (nearest_attempt 0 (u ∷ us)) (run w.fragment cs []).outcome ∷ []) []
    joins_answered e = joins Sent (λ o h. sent_is_not_held o _ h) (ap (λ (b : Bool). b || false) e) (answer w.number (nearest 0 (u ∷ us)) w.attempt (nearest_attempt 0 (u ∷ us)) (run w.fragment cs []).outcome ∷ []) (
      (λ h. inl (record {
        ahead = lives i.more (u ∷ us);
        it = as_tx w;
        behind = [];
        queue = lives_snoc i.more u us (begun w (run w.fragment cs []) Sent);
        names = refl;
        on = nearest_lives 0 i.more (u ∷ us);
        foretells = tells_at w cs (serial (lives i.more (u ∷ us)) i.base) (chain_cells i.base i.more (u ∷ us) cs i.chain);
      })),
      tt,
    ) (went_multi cs₀ top l (i.past ++ lives i.more (u ∷ us)) i.past (as_tx w) (map as_tx ws) (answer w.number (nearest 0 (u ∷ us)) w.attempt (nearest_attempt 0 (u ∷ us)) (run w.fragment cs []).outcome) i.past rises
        (i.split ∙ sym (append_assoc i.past (lives i.more (u ∷ us)) (as_tx w ∷ map as_tx ws))) e refl refl)

    plain_answered : Plain cs₀ l (answer w.number (nearest 0 (u ∷ us)) w.attempt (nearest_attempt 0 (u ∷ us)) (run w.fragment cs []).outcome)
    plain_answered z = absurd (nearest_front top i.more u us (map as_tx (w ∷ ws)) i.multi
        (rises_drop 0 top i.past (lives i.more (u ∷ us) ++ map as_tx (w ∷ ws)) (subst (λ (x : Log). InOrder 0 top x) i.split rises)) z)

  -- take the first waiting one and run it
  pub placed_inv : (σ : Scheme) (us : List Uncommitted) (w : Waiting) (ws : List Waiting) (cs : Cells) (as' : List Answer) → may_take σ us ≡ true → (i : Inv cs₀ l cs us (w ∷ ws) as')
      → Onto cs₀ l i.past (run w.fragment cs []).cells (placed us w (run w.fragment cs [])).uncommitted ws as' (placed us w (run w.fragment cs [])).answers (placed us w (run w.fragment cs [])).settles
      × All (Plain cs₀ l) (placed us w (run w.fragment cs [])).answers
  placed_inv σ [] w ws cs as' m i =
      placed_idle (λ (p : Place). Onto cs₀ l i.past (run w.fragment cs []).cells p.uncommitted ws as' p.answers p.settles × All (Plain cs₀ l) p.answers) w (run w.fragment cs [])
      (λ e. (settles_at_once w ws cs as' i e, (plain_first w ws cs as' i, tt))) (λ e. (becomes_front w ws cs as' i e, (plain_first w ws cs as' i, tt)))
  placed_inv σ (u ∷ us) w ws cs as' m i =
      let f = may_finished σ u us m in
      placed_behind (λ (p : Place). Onto cs₀ l i.past (run w.fragment cs []).cells p.uncommitted ws as' p.answers p.settles × All (Plain cs₀ l) p.answers) u us w (run w.fragment cs [])
      (joins_held u us w ws cs as' i f, tt) (λ e. (joins_answered u us w ws cs as' i f e, (plain_answered u us w ws cs as' i f, tt)))

-- after a drain that began with the past P
pub record After (cs₀ : Cells) (l P : Log) (as' : List Answer) (q : Queues) : Type 0 where
  pub inv : Inv cs₀ l q.cells q.uncommitted q.waiting (as' ++ q.answers)
  -- where something waits, something is uncommitted
  pub idle : q.uncommitted ≡ [] → q.waiting ≡ []
  pub plain : All (Plain cs₀ l) q.answers
  -- all that can settle has settled, and each single of it was answered
  pub went : Went cs₀ l P l q.answers q.settles

pub drain_inv : (σ : Scheme) (cs₀ : Cells) (top : ℕ) (l : Log) → InOrder 0 top l → (cs : Cells) (us : List Uncommitted) (ws : List Waiting) (as' : List Answer) (i : Inv cs₀ l cs us ws as') → After cs₀ l i.past as' (drain σ cs us ws)
unfolding drain
drain_inv σ cs₀ top l rises cs us [] as' i = record { inv = rw append-nil i; idle = λ _. refl; plain = tt; went = went_none cs₀ l i.past l (settled_is cs₀ l cs us [] as' i (λ _. refl)).0 }
drain_inv σ cs₀ top l rises cs us (w ∷ ws) as' i = drain_cases (After cs₀ l i.past as') σ cs us w ws
    (λ e. let none : us ≡ [] → w ∷ ws ≡ [] = λ h. absurd (true≢false (sym (ap (may_take σ) h) ∙ e)) in
    record { inv = rw append-nil i; idle = none; plain = tt; went = went_none cs₀ l i.past l (settled_is cs₀ l cs us (w ∷ ws) as' i none).0 })
    (λ e. let pl : Place = placed us w (run w.fragment cs []) in
    let q : Queues = drain σ (run w.fragment cs []).cells pl.uncommitted ws in
    let p = placed_inv cs₀ top l rises σ us w ws cs as' e i in
    let a = drain_inv σ cs₀ top l rises (run w.fragment cs []).cells pl.uncommitted ws (as' ++ pl.answers) p.0.0 in
    record {
      inv = subst (λ (x : List Answer). Inv cs₀ l q.cells q.uncommitted q.waiting x) (append_assoc as' pl.answers q.answers) a.inv;
      idle = a.idle;
      plain = all_append (Plain cs₀ l) pl.answers q.answers p.1 a.plain;
      went = went_both cs₀ l i.past p.0.0.past l pl.answers q.answers pl.settles q.settles p.0.1 a.went;
    })
