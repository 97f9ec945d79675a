-- Commit, abort and arrivals keep the invariant.
use Prim.Native.Nat.{ℕ, ◌≤◌, ◌<◌}
use mathlib.Core.Path.{◌≡◌, refl, sym, ap, ◌∙◌, subst}
use mathlib.Core.Bool.{Bool, true, false, ◌||◌, true≢false}
use mathlib.Core.Logic.{◌⊎◌, inl, inr}
use mathlib.Core.List.Memᴰ
use mathlib.Core.List.{List, [], ◌∷◌, ◌++◌, map, append_assoc, append-nil, Memᴰ, nil≢cons}
use Rattle.model.specs.Operations.{Cells, multi, told}
use Rattle.model.specs.Transactions.{Uncommitted, Waiting, Answer, answer, undo_list, finished}
use Rattle.model.specs.Steps.{undone, run, again, requeued, Place, drain, nearest, nearest_attempt, held_by, sent, released, settled, Queues, sending, arrival, joined, continued, committed, aborted}
use Rattle.model.specs.Serial.{Tx, Committed, Aborted, attempt, effect, serial}
use Rattle.model.specs.Demand.{Log, Standing, Settles, Gone, Undecided, standing, settled_of, Gives, at, extended, decided}
use Rattle.model.specs.declared.Fragment.{Fragment}
use Rattle.model.specs.declared.Scheme.{Scheme}
use Rattle.model.proofs.Logs.{InOrder, serial_append, rises_put, rises_more, rises_below, gives_at, Past, Closed, closed_snoc, past_settles, past_gone, at_at}
use Rattle.model.proofs.Chain.{as_tx, tx_of, lives, Entry, Chain, ButLast, Pend, InPast, Followed, all_map, all_append, Inv, nearest_lives, chain_undone, lives_snoc, lives_requeued, ready_tail, again_entry, sent_is_not_held, followed_idle, in_past, pend_multi_leaves, pend_single_leaves, pend_front, pend_same, pend_alone, settled_is}
use Rattle.model.proofs.Replying.{Went, went_none, went_both, went_from, went_multi, went_settles, went_commit, went_gone}
use Rattle.model.proofs.Branches.{released_cases, settled_cases, held_cases}
use Rattle.model.proofs.Releasing.{released_sent, released_keeps}
use Rattle.model.proofs.Draining.{Plain, After, drain_inv, past_if, rises_drop, nearest_front}
use Rattle.model.specs.Parts.{All}

-- an answer without a dependence, and right
abbrev pub Sure : Cells → Log → Answer → Type 0
Sure cs₀ l a = (a.dependence ≡ 0) × Gives cs₀ a.number l a.outcome

pub map-append : (ws vs : List Waiting) → map as_tx (ws ++ vs) ≡ map as_tx ws ++ map as_tx vs
map-append [] vs = refl
map-append (w ∷ ws) vs = ap {B = Log} (λ (x : Log). as_tx w ∷ x) (map-append ws vs)

-- in the midst of settling: k, the last multi that left, is in the past, and a single may be first
pub record Mid (cs₀ : Cells) (l : Log) (cs : Cells) (k : ℕ) (us : List Uncommitted) (ws : List Waiting) (as' : List Answer) : Type 0 where
  pub past : Log
  pub base : Cells
  pub split : l ≡ past ++ (lives [] us ++ map as_tx ws)
  pub closed : Closed past
  pub based : serial (settled_of past) cs₀ ≡ base
  pub chain : Chain base [] us cs
  pub ready : ButLast us
  pub gone : InPast k past
  pub followed : All (Followed k past base [] us) as'

same_past : (a k : ℕ) (P : Log) → a ≡ k → InPast k P → InPast a P
same_past a k P e i = (i.0, i.1, i.2 ∙ sym e)

-- an answer that is sent is right: it is followed if it depends, and right at once if it does not
abbrev pub Right : Cells → Log → Log → Cells → List Fragment → List Uncommitted → Answer → Type 0
Right cs₀ l P b fs us a = Followed 0 P b fs us a × Plain cs₀ l a

sure_right : (cs₀ : Cells) (l P : Log) (b : Cells) (fs : List Fragment) (us : List Uncommitted) (new : List Answer) → All (Sure cs₀ l) new → All (Right cs₀ l P b fs us) new
sure_right cs₀ l P b fs us new h = all_map (Sure cs₀ l) (Right cs₀ l P b fs us) (λ a s. ((λ z. absurd (z s.0)), (λ _. s.1))) new h

-- What L6 releases

lives_sent : (fs : List Fragment) (us : List Uncommitted) → lives fs (map sent us) ≡ lives fs us
lives_sent fs [] = refl
lives_sent fs (u ∷ us) = ap {B = Log} (λ (x : Log). tx_of fs u ∷ x) (lives_sent [] us)

ready_sent : (us : List Uncommitted) → ◌≡◌ {A = Type 0} (ButLast (map sent us)) (ButLast us)
ready_sent [] = refl
ready_sent (u ∷ []) = refl
ready_sent (u ∷ v ∷ us) = ap (λ (X : Type 0). (finished u.state ≡ true) × X) (ready_sent (v ∷ us))

ready_released : (ahead : List Uncommitted) (u : Uncommitted) (us : List Uncommitted) → ButLast (u ∷ us) → ButLast (sent u ∷ (released ahead us).uncommitted)
ready_released ahead u us r =
    subst (λ (X : Type 0). X) (sym (ready_sent (u ∷ us)) ∙ ap (λ (x : List Uncommitted). ButLast (sent u ∷ x)) (sym (released_sent ahead us)) ∙ ready_sent (sent u ∷ (released ahead us).uncommitted)) r

-- a multi's answer is sent
sent_entry : (b : Cells) (fs : List Fragment) (u : Uncommitted) → multi u.first ≡ true → Entry b fs u → Entry b fs (sent u)
sent_entry b fs u e x = record {
  back = x.back;
  fine = x.fine;
  says = λ o h. sent_is_not_held o _ h;
  state = x.state;
  ran = x.ran;
  held = ap (λ (b : Bool). b || false) e;
}

released_chain : (b : Cells) (ahead us : List Uncommitted) (cs : Cells) → Chain b [] us cs → Chain b [] (released ahead us).uncommitted cs
unfolding released
released_chain b ahead [] cs c = c
released_chain b ahead (u ∷ us) cs c =
    let t = released_chain (effect (tx_of [] u) b) (ahead ++ (u ∷ [])) us cs c.1 in
    released_cases (λ (p : Place). Chain b [] p.uncommitted cs) ahead u us (c.0, t) (λ e. (sent_entry b [] u e c.0, t))

-- the front a is a multi, and as'' are between it and us; vs is the queue as it becomes
module _ (cs₀ : Cells) (top : ℕ) (l : Log) (rises : InOrder 0 top l) (P : Log) (b : Cells) (fs : List Fragment) (cs : Cells) (a : Uncommitted) (e : multi a.first ≡ true) (ws : List Waiting) (vs : List Uncommitted) where
  -- each released answer is a multi's; it depends on the nearest multi ahead, which is not 0, and carries what its fragment gives after all that is ahead
  released_right : (as'' us : List Uncommitted) → lives fs vs ≡ lives fs (a ∷ as'') ++ lives [] us → l ≡ P ++ (lives fs (a ∷ as'') ++ (lives [] us ++ map as_tx ws))
      → Chain (serial (lives fs (a ∷ as'')) b) [] us cs
      → All (Right cs₀ l P b fs vs) (released (a ∷ as'') us).answers × Went cs₀ l P P (released (a ∷ as'') us).answers []
  unfolding released
  released_right as'' [] q s c = (tt, went_none cs₀ l P P refl)
  released_right as'' (u ∷ us) q s c =
      let rest = released_right (as'' ++ (u ∷ [])) us behind_it.0 behind_it.1 behind_it.2 in
      released_cases (λ (p : Place). All (Right cs₀ l P b fs vs) p.answers × Went cs₀ l P P p.answers []) (a ∷ as'') u us rest
      (λ m. held_cases (λ (x : List Answer). All (Right cs₀ l P b fs vs) (x ++ (released (a ∷ as'' ++ (u ∷ [])) us).answers) × Went cs₀ l P P (x ++ (released (a ∷ as'' ++ (u ∷ [])) us).answers) []) (nearest 0 (a ∷ as'')) (nearest_attempt 0 (a ∷ as'')) u
      (λ o h. (
        (
          (
            (λ _. inl (record {
              ahead = lives fs (a ∷ as'');
              it = tx_of [] u;
              behind = lives [] us;
              queue = q;
              names = refl;
              on = nearest_lives 0 fs (a ∷ as'');
              foretells = c.0.says o h;
            })),
            (λ z. absurd (nearest_front top fs a as'' (lives [] (u ∷ us) ++ map as_tx ws) e
                (rises_drop 0 top P (lives fs (a ∷ as'') ++ (lives [] (u ∷ us) ++ map as_tx ws)) (subst (λ (x : Log). InOrder 0 top x) s rises)) z)),
          ),
          rest.0,
        ),
        went_both cs₀ l P P P (answer u.number (nearest 0 (a ∷ as'')) u.attempt (nearest_attempt 0 (a ∷ as'')) o ∷ []) (released (a ∷ as'' ++ (u ∷ [])) us).answers [] []
            (went_multi cs₀ top l (P ++ lives fs (a ∷ as'')) P (tx_of [] u) (lives [] us ++ map as_tx ws) (answer u.number (nearest 0 (a ∷ as'')) u.attempt (nearest_attempt 0 (a ∷ as'')) o) P rises
            (s ∙ sym (append_assoc P (lives fs (a ∷ as'')) (lives [] (u ∷ us) ++ map as_tx ws))) m refl refl)
            rest.1,
      ))
      (λ _. rest))
    where
      further : (x : Log) → lives fs (a ∷ as'') ++ tx_of [] u ∷ x ≡ lives fs (a ∷ as'' ++ (u ∷ [])) ++ x
      further x = sym (append_assoc (lives fs (a ∷ as'')) (tx_of [] u ∷ []) x) ∙ ap (λ (y : Log). y ++ x) (sym (lives_snoc fs a as'' u))

      -- those behind u
      behind_it : (lives fs vs ≡ lives fs (a ∷ as'' ++ (u ∷ [])) ++ lives [] us) × (l ≡ P ++ (lives fs (a ∷ as'' ++ (u ∷ [])) ++ (lives [] us ++ map as_tx ws)))
          × Chain (serial (lives fs (a ∷ as'' ++ (u ∷ []))) b) [] us cs
      behind_it = (
        q ∙ further (lives [] us),
        s ∙ ap (λ (x : Log). P ++ x) (further (lives [] us ++ map as_tx ws)),
        subst (λ (x : Cells). Chain x [] us cs) (sym (ap (λ (x : Log). serial x b) (lives_snoc fs a as'' u) ∙ serial_append (lives fs (a ∷ as'')) (tx_of [] u ∷ []) b)) c.1,
      )

module _ (cs₀ : Cells) (top : ℕ) (l : Log) (rises : InOrder 0 top l) (cs : Cells) (k : ℕ) (ws : List Waiting) (as' : List Answer) where
  held_sure : (u : Uncommitted) (us : List Uncommitted) → Mid cs₀ l cs k (u ∷ us) ws as' → All (Sure cs₀ l) (held_by u)
  held_sure u us m = held_cases (All (Sure cs₀ l)) 0 0 u (λ o e. (
    (
      refl,
      gives_at cs₀ top l m.past (tx_of [] u) (lives [] us ++ map as_tx ws) o rises m.split
          (m.chain.0.says o e ∙ ap (λ (x : Cells). told (attempt (tx_of [] u) x)) (sym m.based)),
    ),
    tt,
  )) (λ _. tt)

  -- a single that settles holds its answer; a multi that holds one is no single
  held_single : (u : Uncommitted) (us : List Uncommitted) (m : Mid cs₀ l cs k (u ∷ us) ws as') → multi u.first ≡ false → Went cs₀ l m.past (m.past ++ tx_of [] u ∷ []) (held_by u) (u.number ∷ [])
  held_single u us m e = held_cases (λ (a : List Answer). Went cs₀ l m.past (m.past ++ tx_of [] u ∷ []) a (u.number ∷ [])) 0 0 u
      (λ o x. went_settles cs₀ top l m.past (tx_of [] u) (lives [] us ++ map as_tx ws) (answer u.number 0 u.attempt 0 o) rises m.split m.closed
      (ap {B = Standing} (λ (b : Bool). elim b [ false ↦ Settles | true ↦ Undecided ]) e) e
      (ap (answer u.number 0 0 0) (m.chain.0.says o x ∙ ap (λ (y : Cells). told (attempt (tx_of [] u) y)) (sym m.based))))
      (λ n. absurd (true≢false (sym m.chain.0.held ∙ (λ i. e i || n i))))

  held_multi : (u : Uncommitted) (us : List Uncommitted) (m : Mid cs₀ l cs k (u ∷ us) ws as') → multi u.first ≡ true → Went cs₀ l m.past m.past (held_by u) []
  held_multi u us m e = held_cases (λ (a : List Answer). Went cs₀ l m.past m.past a []) 0 0 u
      (λ o _. went_multi cs₀ top l m.past m.past (tx_of [] u) (lives [] us ++ map as_tx ws) (answer u.number 0 u.attempt 0 o) m.past rises m.split e refl refl)
      (λ _. went_none cs₀ l m.past m.past refl)

  -- a multi is first: the new front, and behind it some are released
  new_front : (u : Uncommitted) (us : List Uncommitted) → multi u.first ≡ true → Mid cs₀ l cs k (u ∷ us) ws as' → Inv cs₀ l cs (sent u ∷ (released (u ∷ []) us).uncommitted) ws as'
  new_front u us e m = record {
    past = m.past;
    base = m.base;
    more = [];
    split = m.split ∙ ap (λ (x : Log). m.past ++ (x ++ map as_tx ws)) queue;
    closed = m.closed;
    based = m.based;
    chain = (sent_entry m.base [] u e m.chain.0, released_chain (effect (tx_of [] u) m.base) (u ∷ []) us cs m.chain.1);
    ready = ready_released (u ∷ []) u us m.ready;
    multi = e;
    followed = all_map (Followed k m.past m.base [] (u ∷ us)) (Followed 0 m.past m.base [] (sent u ∷ (released (u ∷ []) us).uncommitted)) (λ a t h. go a (t h)) as' m.followed;
  }
    where
      queue : lives [] (u ∷ us) ≡ lives [] (sent u ∷ (released (u ∷ []) us).uncommitted)
      queue = ap {B = Log} (λ (x : Log). tx_of [] u ∷ x) (sym (released_keeps (lives []) (lives_sent []) (u ∷ []) us))

      go : (a : Answer) → Pend k m.base [] (u ∷ us) a ⊎ InPast a.dependence m.past
          → Pend 0 m.base [] (sent u ∷ (released (u ∷ []) us).uncommitted) a ⊎ InPast a.dependence m.past
      go a (inr i) = inr i
      go a (inl p) = here (pend_front k m.base [] u us a e p)
        where
          here : (a.dependence ≡ k) ⊎ Pend 0 m.base [] (sent u ∷ us) a → Pend 0 m.base [] (sent u ∷ (released (u ∷ []) us).uncommitted) a ⊎ InPast a.dependence m.past
          here (inl z) = inr (same_past a.dependence k m.past z m.gone)
          here (inr x) = inl (pend_same 0 m.base [] (sent u ∷ us) (sent u ∷ (released (u ∷ []) us).uncommitted) a queue x)

  -- its own answer, if it was held, and those that are released
  new_front_right : (u : Uncommitted) (us : List Uncommitted) → multi u.first ≡ true → (m : Mid cs₀ l cs k (u ∷ us) ws as')
      → Went cs₀ l m.past m.past (held_by u ++ (released (u ∷ []) us).answers) [] × All (Right cs₀ l m.past m.base [] (sent u ∷ (released (u ∷ []) us).uncommitted)) (held_by u ++ (released (u ∷ []) us).answers)
  new_front_right u us e m =
      let vs : List Uncommitted = sent u ∷ (released (u ∷ []) us).uncommitted in
      let r = released_right cs₀ top l rises m.past m.base [] cs u e ws vs [] us (ap {B = Log} (λ (x : Log). tx_of [] u ∷ x) (released_keeps (lives []) (lives_sent []) (u ∷ []) us)) m.split m.chain.1 in (
        went_both cs₀ l m.past m.past m.past (held_by u) (released (u ∷ []) us).answers [] [] (held_multi u us m e) r.1,
        all_append (Right cs₀ l m.past m.base [] vs) (held_by u) (released (u ∷ []) us).answers (sure_right cs₀ l m.past m.base [] vs (held_by u) (held_sure u us m)) r.0,
      )

  -- a single is first: it settles
  single_settles : (u : Uncommitted) (us : List Uncommitted) → multi u.first ≡ false → Mid cs₀ l cs k (u ∷ us) ws as' → Mid cs₀ l cs k us ws as'
  single_settles u us e m = record {
    past = m.past ++ tx_of [] u ∷ [];
    base = effect (tx_of [] u) m.base;
    split = m.split ∙ sym (append_assoc m.past (tx_of [] u ∷ []) (lives [] us ++ map as_tx ws));
    closed = closed_snoc m.past (tx_of [] u) m.closed (past_if (standing (tx_of [] u)) st);
    based = past_settles m.past (tx_of [] u) cs₀ m.closed st ∙ ap (effect (tx_of [] u)) m.based;
    chain = m.chain.1;
    ready = ready_tail u us m.ready;
    gone = in_past k m.past (tx_of [] u ∷ []) m.gone;
    followed = all_map (Followed k m.past m.base [] (u ∷ us)) (Followed k (m.past ++ tx_of [] u ∷ []) (effect (tx_of [] u) m.base) [] us) (λ a t h. go a (t h)) as' m.followed;
  }
    where
      st : standing (tx_of [] u) ≡ Settles
      st = ap {B = Standing} (λ (b : Bool). elim b [ false ↦ Settles | true ↦ Undecided ]) e

      go : (a : Answer) → Pend k m.base [] (u ∷ us) a ⊎ InPast a.dependence m.past
          → Pend k (effect (tx_of [] u) m.base) [] us a ⊎ InPast a.dependence (m.past ++ tx_of [] u ∷ [])
      go a (inr i) = inr (in_past a.dependence m.past (tx_of [] u ∷ []) i)
      go a (inl p) = here (pend_single_leaves k m.base [] u us a e p)
        where
          here : (a.dependence ≡ k) ⊎ Pend k (effect (tx_of [] u) m.base) [] us a → Pend k (effect (tx_of [] u) m.base) [] us a ⊎ InPast a.dependence (m.past ++ tx_of [] u ∷ [])
          here (inl z) = inr (in_past a.dependence m.past (tx_of [] u ∷ []) (same_past a.dependence k m.past z m.gone))
          here (inr x) = inl x

  -- "Then singles settle and are answered from the front of the queue until a multi is first."
  pub settled_inv : (us : List Uncommitted) (m : Mid cs₀ l cs k us ws as')
      → (j : Inv cs₀ l cs (settled us).uncommitted ws as') × Went cs₀ l m.past j.past (settled us).answers (settled us).settles
      × All (Right cs₀ l j.past j.base j.more (settled us).uncommitted) (settled us).answers
  unfolding settled new_front single_settles
  settled_inv [] m = (
    record {
      past = m.past;
      base = m.base;
      more = [];
      split = m.split;
      closed = m.closed;
      based = m.based;
      chain = m.chain;
      ready = tt;
      multi = tt;
      followed = all_map (Followed k m.past m.base [] []) (Followed 0 m.past m.base [] [])
          (λ a t. rw (← append-nil m.past) (followed_idle k m.past [] m.base m.base [] [] [] a t)) as' m.followed;
    },
    went_none cs₀ l m.past m.past refl,
    tt,
  )
  settled_inv (u ∷ us) m =
      settled_cases (λ (p : Place). (j : Inv cs₀ l cs p.uncommitted ws as') × Went cs₀ l m.past j.past p.answers p.settles × All (Right cs₀ l j.past j.base j.more p.uncommitted) p.answers) u us
      (λ e. let r = new_front_right u us e m in (new_front u us e m, r.0, r.1))
      (λ e. let x = settled_inv us (single_settles u us e m) in (
        x.0,
        went_both cs₀ l m.past (m.past ++ tx_of [] u ∷ []) x.0.past (held_by u) (settled us).answers (u.number ∷ []) (settled us).settles (held_single u us m e) x.1,
        all_append (Right cs₀ l x.0.past x.0.base x.0.more (settled us).uncommitted) (held_by u) (settled us).answers
            (sure_right cs₀ l x.0.past x.0.base x.0.more (settled us).uncommitted (held_by u) (held_sure u us m)) x.2,
      ))

-- after an accepted call: the log was l and is l', the largest number top'
pub record Got (cs₀ : Cells) (l l' : Log) (top' : ℕ) (as' : List Answer) (q : Queues) : Type 0 where
  pub began : Log
  pub after : After cs₀ l' began as' q
  pub rises : InOrder 0 top' l'
  -- those settled that the step names, and the answers of singles are those of the singles among them, in that order
  pub went : Went cs₀ l' l l' q.answers q.settles

-- more answers to follow
followed : (cs₀ : Cells) (l : Log) (cs : Cells) (us : List Uncommitted) (ws : List Waiting) (as' new : List Answer) (i : Inv cs₀ l cs us ws as') → All (Right cs₀ l i.past i.base i.more us) new
    → Inv cs₀ l cs us ws (as' ++ new)
followed cs₀ l cs us ws as' new i h = record {
  past = i.past;
  base = i.base;
  more = i.more;
  split = i.split;
  closed = i.closed;
  based = i.based;
  chain = i.chain;
  ready = i.ready;
  multi = i.multi;
  followed = all_append (Followed 0 i.past i.base i.more us) as' new i.followed
      (all_map (Right cs₀ l i.past i.base i.more us) (Followed 0 i.past i.base i.more us) (λ a r. r.0) new h);
}

-- a call that sends some answers itself, in which some settle, and then drains
sends_drains : (σ : Scheme) (cs₀ : Cells) (top : ℕ) (l : Log) → InOrder 0 top l → (cs : Cells) (us : List Uncommitted) (ws : List Waiting) (as' new : List Answer) (ns : List ℕ) (P : Log) (i : Inv cs₀ l cs us ws as')
    → All (Right cs₀ l i.past i.base i.more us) new → Went cs₀ l P i.past new ns → After cs₀ l P as' (sending new ns (drain σ cs us ws))
unfolding followed
sends_drains σ cs₀ top l rises cs us ws as' new ns P i h s =
    let a = drain_inv σ cs₀ top l rises cs us ws (as' ++ new) (followed cs₀ l cs us ws as' new i h) in
    record {
      inv = subst (λ (x : List Answer). Inv cs₀ l (drain σ cs us ws).cells (drain σ cs us ws).uncommitted (drain σ cs us ws).waiting x) (append_assoc as' new (drain σ cs us ws).answers) a.inv;
      idle = a.idle;
      plain = all_append (Plain cs₀ l) new (drain σ cs us ws).answers (all_map (Right cs₀ l i.past i.base i.more us) (Plain cs₀ l) (λ x r. r.1) new h) a.plain;
      went = went_both cs₀ l P i.past l new (drain σ cs us ws).answers ns (drain σ cs us ws).settles s a.went;
    }

module _ (cs₀ : Cells) (top : ℕ) (l : Log) (rises : InOrder 0 top l) (cs : Cells) (ws : List Waiting) (as' : List Answer) where
  -- the log around the front
  module _ (u : Uncommitted) (us : List Uncommitted) (i : Inv cs₀ l cs (u ∷ us) ws as') where
    pub rises_front : InOrder 0 top (i.past ++ tx_of i.more u ∷ (lives [] us ++ map as_tx ws))
    rises_front = subst (λ (x : Log). InOrder 0 top x) i.split rises

    pub log_front : (g : Tx → Tx) → at u.number g l ≡ i.past ++ g (tx_of i.more u) ∷ (lives [] us ++ map as_tx ws)
    log_front g = ap (at u.number g) i.split ∙ at_at top (tx_of i.more u) (lives [] us ++ map as_tx ws) g 0 i.past rises_front

    pub rises_log_front : (g : Tx → Tx) → (g (tx_of i.more u)).number ≡ u.number → InOrder 0 top (at u.number g l)
    rises_log_front g e = subst (λ (x : Log). InOrder 0 top x) (sym (log_front g)) (rises_put 0 top i.past (tx_of i.more u) (g (tx_of i.more u)) (lives [] us ++ map as_tx ws) e rises_front)

    pub top_front : u.number ≤ top
    top_front = go 0 i.past rises_front
      where
        go : (n : ℕ) (P : Log) → InOrder n top (P ++ tx_of i.more u ∷ (lives [] us ++ map as_tx ws)) → u.number ≤ top
        go n [] h = rises_below u.number top (lives [] us ++ map as_tx ws) h.1
        go n (p ∷ P) h = go p.number P h.1

    pub settled_before : settled_of l ≡ settled_of i.past
    settled_before = (settled_is cs₀ l cs (u ∷ us) ws as' i (λ h. absurd (nil≢cons (sym h)))).0

    -- "Commit of the front: it settles."
    front_settles : Mid cs₀ (at u.number (decided Committed) l) cs u.number us ws as'
    front_settles = record {
      past = i.past ++ done ∷ [];
      base = effect (tx_of i.more u) i.base;
      split = log_front (decided Committed) ∙ sym (append_assoc i.past (done ∷ []) (lives [] us ++ map as_tx ws));
      closed = closed_snoc i.past done i.closed (past_if (standing done) st);
      based = past_settles i.past done cs₀ i.closed st ∙ ap (effect done) i.based;
      chain = i.chain.1;
      ready = ready_tail u us i.ready;
      gone = (done, Memᴰ.append_right i.past (Memᴰ.head refl), refl);
      followed = all_map (Followed 0 i.past i.base i.more (u ∷ us)) (Followed u.number (i.past ++ done ∷ []) (effect (tx_of i.more u) i.base) [] us) (λ a t h. go a h (t h)) as' i.followed;
    }
      where
        done : Tx
        done = decided Committed (tx_of i.more u)

        st : standing done ≡ Settles
        st = ap {B = Standing} (λ (b : Bool). elim b [ false ↦ Settles | true ↦ Settles ]) i.multi

        go : (a : Answer) → (a.dependence ≡ 0 → ⊥) → Pend 0 i.base i.more (u ∷ us) a ⊎ InPast a.dependence i.past
            → Pend u.number (effect (tx_of i.more u) i.base) [] us a ⊎ InPast a.dependence (i.past ++ done ∷ [])
        go a z (inr x) = inr (in_past a.dependence i.past (done ∷ []) x)
        go a z (inl p) = here (pend_multi_leaves 0 i.base i.more u us a i.multi p)
          where
            here : (a.dependence ≡ 0) ⊎ Pend u.number (effect (tx_of i.more u) i.base) [] us a
                → Pend u.number (effect (tx_of i.more u) i.base) [] us a ⊎ InPast a.dependence (i.past ++ done ∷ [])
            here (inl y) = absurd (z y)
            here (inr y) = inl y

    pub commit_inv : (σ : Scheme) → Got cs₀ l (at u.number (decided Committed) l) top as' (committed σ cs (u ∷ us) ws)
    unfolding front_settles
    commit_inv σ =
        let l' : Log = at u.number (decided Committed) l in
        let done : Tx = decided Committed (tx_of i.more u) in
        let st : standing done ≡ Settles = ap {B = Standing} (λ (b : Bool). elim b [ false ↦ Settles | true ↦ Settles ]) i.multi in
        let h = rises_log_front (decided Committed) refl in
        let x = settled_inv cs₀ top l' h cs u.number ws as' us front_settles in
        let a = sends_drains σ cs₀ top l' h cs (settled us).uncommitted ws as' (settled us).answers (u.number ∷ (settled us).settles) i.past x.0 x.2
        (went_both cs₀ l' i.past (i.past ++ done ∷ []) x.0.past [] (settled us).answers (u.number ∷ []) (settled us).settles (went_commit cs₀ l' i.past done i.closed st i.multi) x.1) in
        record { began = i.past; after = a; rises = h; went = went_from cs₀ l' i.past l l' (committed σ cs (u ∷ us) ws).answers (committed σ cs (u ∷ us) ws).settles (sym settled_before) a.went }

    -- "Abort of the front": nothing that depended is followed any longer
    pub abort_inv : (σ : Scheme) → Got cs₀ l (at u.number (decided Aborted) l) top [] (aborted σ cs (u ∷ us) ws)
    abort_inv σ =
        let l' : Log = at u.number (decided Aborted) l in
        let a = drain_inv σ cs₀ top l' h (undone (undo_list (u ∷ us)) cs) [] (map requeued us ++ ws) [] inv in
        record {
          began = inv.past;
          after = a;
          rises = h;
          went = went_from cs₀ l' i.past l l' (aborted σ cs (u ∷ us) ws).answers (aborted σ cs (u ∷ us) ws).settles (sym settled_before)
              (went_both cs₀ l' i.past (i.past ++ gone ∷ []) l' [] (aborted σ cs (u ∷ us) ws).answers [] (aborted σ cs (u ∷ us) ws).settles (went_gone cs₀ l' i.past gone i.closed st) a.went);
        }
      where
        gone : Tx
        gone = decided Aborted (tx_of i.more u)

        h : InOrder 0 top (at u.number (decided Aborted) l)
        h = rises_log_front (decided Aborted) refl

        st : standing gone ≡ Gone
        st = ap {B = Standing} (λ (b : Bool). elim b [ false ↦ Settles | true ↦ Gone ]) i.multi

        inv : Inv cs₀ (at u.number (decided Aborted) l) (undone (undo_list (u ∷ us)) cs) [] (map requeued us ++ ws) []
        inv = record {
          past = i.past ++ gone ∷ [];
          base = i.base;
          more = [];
          split = log_front (decided Aborted) ∙ sym (append_assoc i.past (gone ∷ []) (lives [] us ++ map as_tx ws))
              ∙ ap (λ (x : Log). (i.past ++ gone ∷ []) ++ x) (ap (λ (x : Log). x ++ map as_tx ws) (lives_requeued us) ∙ sym (map-append (map requeued us) ws));
          closed = closed_snoc i.past gone i.closed (subst Past (sym st) tt);
          based = past_gone i.past gone cs₀ i.closed st ∙ i.based;
          chain = sym (chain_undone i.base i.more (u ∷ us) cs i.chain);
          ready = tt;
          multi = tt;
          followed = tt;
        }

-- "Arrival, number of the front": an unfinished front is alone
pub again_inv : (σ : Scheme) (cs₀ : Cells) (top : ℕ) (l : Log) (rises : InOrder 0 top l) (cs : Cells) (ws : List Waiting) (as' : List Answer) (u : Uncommitted) (us : List Uncommitted)
    (i : Inv cs₀ l cs (u ∷ us) ws as') (f : Fragment) → finished u.state ≡ false → Got cs₀ l (at u.number (extended f) l) top as' (continued σ f cs u us ws)
again_inv σ cs₀ top l rises cs ws as' u (v ∷ us) i f nf = absurd (true≢false (sym i.ready.0 ∙ nf))
again_inv σ cs₀ top l rises cs ws as' u [] i f nf = record {
  began = i.past;
  after = after;
  rises = h;
  went = went_from cs₀ (at u.number (extended f) l) i.past l (at u.number (extended f) l) (continued σ f cs u [] ws).answers (continued σ f cs u [] ws).settles
      (sym (settled_before cs₀ top l rises cs ws as' u [] i)) after.went;
}
  where
    h : InOrder 0 top (at u.number (extended f) l)
    h = rises_log_front cs₀ top l rises cs ws as' u [] i (extended f) refl

    log : at u.number (extended f) l ≡ i.past ++ tx_of (i.more ++ (f ∷ [])) u ∷ map as_tx ws
    log = log_front cs₀ top l rises cs ws as' u [] i (extended f)

    x : (Entry i.base (i.more ++ (f ∷ [])) (again u f (run f cs u.undo)) × (effect (tx_of (i.more ++ (f ∷ [])) u) i.base ≡ (run f cs u.undo).cells))
        × ((run f cs u.undo).outcome ≡ told (attempt (tx_of (i.more ++ (f ∷ [])) u) i.base))
    x = again_entry i.base i.more u f cs i.chain.0 i.chain.1 nf i.multi

    inv : Inv cs₀ (at u.number (extended f) l) (run f cs u.undo).cells (again u f (run f cs u.undo) ∷ []) ws as'
    inv = record {
      past = i.past;
      base = i.base;
      more = i.more ++ (f ∷ []);
      split = log;
      closed = i.closed;
      based = i.based;
      chain = x.0;
      ready = tt;
      multi = i.multi;
      followed = all_map (Followed 0 i.past i.base i.more (u ∷ [])) (Followed 0 i.past i.base (i.more ++ (f ∷ [])) (again u f (run f cs u.undo) ∷ [])) (λ a t z. go a z (t z)) as' i.followed;
    }
      where
        go : (a : Answer) → (a.dependence ≡ 0 → ⊥) → Pend 0 i.base i.more (u ∷ []) a ⊎ InPast a.dependence i.past
            → Pend 0 i.base (i.more ++ (f ∷ [])) (again u f (run f cs u.undo) ∷ []) a ⊎ InPast a.dependence i.past
        go a z (inl p) = absurd (pend_alone i.base i.more u a z p)
        go a z (inr y) = inr y

    after : After cs₀ (at u.number (extended f) l) i.past as' (continued σ f cs u [] ws)
    after = sends_drains σ cs₀ top (at u.number (extended f) l) h (run f cs u.undo).cells (again u f (run f cs u.undo) ∷ []) ws as' (answer u.number 0 u.attempt 0 (run f cs u.undo).outcome ∷ []) [] i.past inv
        (sure_right cs₀ (at u.number (extended f) l) inv.past inv.base inv.more (again u f (run f cs u.undo) ∷ []) (answer u.number 0 u.attempt 0 (run f cs u.undo).outcome ∷ []) (
          (
            refl,
            gives_at cs₀ top (at u.number (extended f) l) i.past (tx_of (i.more ++ (f ∷ [])) u) (map as_tx ws) (run f cs u.undo).outcome h log
                (x.1 ∙ ap (λ (y : Cells). told (attempt (tx_of (i.more ++ (f ∷ [])) u) y)) (sym i.based)),
          ),
          tt,
        ))
        (went_multi cs₀ top (at u.number (extended f) l) i.past i.past (tx_of (i.more ++ (f ∷ [])) u) (map as_tx ws) (answer u.number 0 u.attempt 0 (run f cs u.undo).outcome) i.past h log i.multi refl refl)

-- "Arrival, new number": join the end of the waiting queue
pub new_inv : (σ : Scheme) (cs₀ : Cells) (top : ℕ) (l : Log) (rises : InOrder 0 top l) (cs : Cells) (us : List Uncommitted) (ws : List Waiting) (as' : List Answer) (w : Waiting)
    (i : Inv cs₀ l cs us ws as') → (us ≡ [] → ws ≡ []) → top < w.number → Got cs₀ l (l ++ as_tx w ∷ []) w.number as' (joined σ w.number w.fragment cs us ws)
new_inv σ cs₀ top l rises cs us ws as' w i idle k = record {
  began = i.past;
  after = after;
  rises = h;
  went = went_from cs₀ (l ++ as_tx w ∷ []) i.past l (l ++ as_tx w ∷ []) (joined σ w.number w.fragment cs us ws).answers (joined σ w.number w.fragment cs us ws).settles
      (sym (settled_is cs₀ l cs us ws as' i idle).0) after.went;
}
  where
    h : InOrder 0 w.number (l ++ as_tx w ∷ [])
    h = rises_more 0 top l (as_tx w) k rises

    after : After cs₀ (l ++ as_tx w ∷ []) i.past as' (joined σ w.number w.fragment cs us ws)
    after = drain_inv σ cs₀ w.number (l ++ as_tx w ∷ []) h cs us (ws ++ (arrival w.number w.fragment ∷ [])) as' (record {
      past = i.past;
      base = i.base;
      more = i.more;
      split = ap (λ (x : Log). x ++ as_tx w ∷ []) i.split ∙ append_assoc i.past (lives i.more us ++ map as_tx ws) (as_tx w ∷ [])
          ∙ ap (λ (x : Log). i.past ++ x) (append_assoc (lives i.more us) (map as_tx ws) (as_tx w ∷ []) ∙ ap (λ (x : Log). lives i.more us ++ x) (sym (map-append ws (arrival w.number w.fragment ∷ []))));
      closed = i.closed;
      based = i.based;
      chain = i.chain;
      ready = i.ready;
      multi = i.multi;
      followed = i.followed;
    })
