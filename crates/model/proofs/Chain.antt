-- The invariant of demand 3: the log splits into a closed past, the uncommitted ones and the waiting ones; the uncommitted ones form a chain
-- from the cells that the past leaves to the cells as they stand.
use Prim.Native.Nat.{ℕ, suc}
use native.Mathlib.Omega.{arith}
use borrow.Author.Tests.{ne_eqb}
use mathlib.Core.Path.{◌≡◌, refl, sym, ap, ◌∙◌, subst}
use mathlib.Core.Bool.{Bool, true, false, ◌||◌, true≢false}
use mathlib.Core.Logic.{◌⊎◌, inl, inr}
use mathlib.Core.List.Memᴰ
use mathlib.Core.List.{List, [], ◌∷◌, ◌++◌, map, append_assoc, append-nil, Memᴰ, nil≢cons, head-eq_of_cons-eq, tail-eq_of_cons-eq}
use lib.ListN.{length, length-append}
use Rattle.model.specs.Operations.{Cells, Outcome, multi, last, operations, Trial, Done, Broke, trial, told}
use Rattle.model.specs.Transactions.{State, Running, Finished, Failed, finished, Reply, Held, Sent, NoReply, holds, Uncommitted, Waiting, undo_list, Answer}
use Rattle.model.specs.Steps.{undone, Ran, run, state_after, begun, again, sent, requeued, last_finished, nearest}
use Rattle.model.specs.Serial.{Tx, Open, next, through, attempt, or_else, effect, serial}
use Rattle.model.specs.Demand.{Log, Standing, Settles, Gone, Undecided, standing, settled_of, live_of}
use Rattle.model.specs.declared.Fragment.{Fragment}
use Rattle.model.specs.declared.Undo.{Undo}
use Rattle.model.proofs.Undoing.{Agree, run_agrees, undone_append, Placed, trial_placed}
use Rattle.model.proofs.Logs.{Closed, settled_append, live_append}
use Rattle.model.specs.Parts.{All}

-- what the log has of a waiting one, and of an uncommitted one whose fragments after the first are fs
abbrev pub as_tx : Waiting → Tx
as_tx w = record { number = w.number; first = w.fragment; more = []; decision = Open }

abbrev pub tx_of : List Fragment → Uncommitted → Tx
tx_of fs u = record { number = u.number; first = u.first; more = fs; decision = Open }

-- the uncommitted ones in the log: only the front has later fragments
abbrev pub lives : List Fragment → List Uncommitted → List Tx
lives fs [] = []
lives fs (u ∷ us) = tx_of fs u ∷ lives [] us

-- nothing failed
abbrev pub Fine : Trial → Type 0
Fine (Done cs ns) = Unit {0}
Fine (Broke p x) = ⊥

-- the last of a transaction's fragments
abbrev pub latest : Fragment → List Fragment → Fragment
latest f [] = f
latest f (g ∷ gs) = latest g gs

pub latest_snoc : (f : Fragment) (fs : List Fragment) (g : Fragment) → latest f (fs ++ (g ∷ [])) ≡ g
latest_snoc f [] g = refl
latest_snoc f (x ∷ fs) g = latest_snoc x fs g

-- u, whose later fragments are fs, ran at b
pub record Entry (b : Cells) (fs : List Fragment) (u : Uncommitted) : Type 0 where
  -- its entries take its result back
  pub back : undone u.undo (effect (tx_of fs u) b) ≡ b
  -- it is not finished only if nothing failed
  pub fine : finished u.state ≡ false → Fine (attempt (tx_of fs u) b)
  -- a held answer is what its fragment gives there
  pub says : (o : Outcome) → u.reply ≡ Held o → o ≡ told (attempt (tx_of fs u) b)
  -- its state and its count of runs are what its fragments make them
  pub state : u.state ≡ state_after (latest u.first fs) (told (attempt (tx_of fs u) b))
  pub ran : u.ran ≡ suc (length fs)
  -- a single's answer is held
  pub held : (multi u.first || holds u.reply) ≡ true

abbrev pub Chain : Cells → List Fragment → List Uncommitted → Cells → Type 0
Chain b fs [] cs = b ≡ cs
Chain b fs (u ∷ us) cs = Entry b fs u × Chain (effect (tx_of fs u) b) [] us cs

-- "an unfinished one that is not the last": none
abbrev pub ButLast : List Uncommitted → Type 0
ButLast [] = Unit {0}
ButLast (u ∷ []) = Unit {0}
ButLast (u ∷ v ∷ us) = (finished u.state ≡ true) × ButLast (v ∷ us)

-- "a front that is a single": none
abbrev pub FrontMulti : List Uncommitted → Type 0
FrontMulti [] = Unit {0}
FrontMulti (u ∷ us) = multi u.first ≡ true

-- the nearest multi of a list of the log; k where there is none
abbrev pub nearest_tx : ℕ → List Tx → ℕ
nearest_tx k [] = k
nearest_tx k (t ∷ ts) = elim (multi t.first) [ true ↦ nearest_tx t.number ts | false ↦ nearest_tx k ts ]

-- an answer that depends on D: its transaction stands in the queue, D is the nearest multi ahead of it, and its outcome is what its
-- fragment gives after all that is ahead. Said of the log's transactions, so that held or sent does not matter.
pub record Pend (k : ℕ) (b : Cells) (fs : List Fragment) (us : List Uncommitted) (a : Answer) : Type 0 where
  pub ahead : List Tx
  pub it : Tx
  pub behind : List Tx
  pub queue : lives fs us ≡ ahead ++ it ∷ behind
  pub names : a.number ≡ it.number
  pub on : a.dependence ≡ nearest_tx k ahead
  pub foretells : a.outcome ≡ told (attempt it (serial ahead b))

abbrev pub InPast : ℕ → Log → Type 0
InPast n P = (t : Tx) × Memᴰ t P × (t.number ≡ n)

-- either it still pends, or D was decided
abbrev pub Followed : ℕ → Log → Cells → List Fragment → List Uncommitted → Answer → Type 0
Followed k P b fs us a = (a.dependence ≡ 0 → ⊥) → Pend k b fs us a ⊎ InPast a.dependence P

pub all_map : {A : Type 0} (P Q : A → Type 0) → ((a : A) → P a → Q a) → (l : List A) → All P l → All Q l
all_map P Q f [] h = tt
all_map P Q f (a ∷ l) h = (f a h.0, all_map P Q f l h.1)

pub all_append : {A : Type 0} (P : A → Type 0) (l m : List A) → All P l → All P m → All P (l ++ m)
all_append P [] m h k = k
all_append P (a ∷ l) m h k = (h.0, all_append P l m h.1 k)

pub all_left : {A : Type 0} (P : A → Type 0) (l m : List A) → All P (l ++ m) → All P l
all_left P [] m h = tt
all_left P (a ∷ l) m h = (h.0, all_left P l m h.1)

pub all_right : {A : Type 0} (P : A → Type 0) (l m : List A) → All P (l ++ m) → All P m
all_right P [] m h = h
all_right P (a ∷ l) m h = all_right P l m h.1

pub all_mem : {A : Type 0} (P : A → Type 0) (l : List A) → All P l → (a : A) → Memᴰ a l → P a
all_mem P [] h a m = absurd (Memᴰ.not-nil m)
all_mem P (x ∷ l) h a m = go (λ k. all_mem P l h.1 a k) (Memᴰ.cases_cons m)
  where
    go : (Memᴰ a l → P a) → (a ≡ x) ⊎ Memᴰ a l → P a
    go f (inl e) = subst P (sym e) h.0
    go f (inr k) = f k

-- cs₀: the starting cells; l: the log; as: the answers followed
pub record Inv (cs₀ : Cells) (l : Log) (cs : Cells) (us : List Uncommitted) (ws : List Waiting) (as' : List Answer) : Type 0 where
  pub past : Log
  pub base : Cells
  pub more : List Fragment
  pub split : l ≡ past ++ (lives more us ++ map as_tx ws)
  pub closed : Closed past
  pub based : serial (settled_of past) cs₀ ≡ base
  pub chain : Chain base more us cs
  pub ready : ButLast us
  pub multi : FrontMulti us
  pub followed : All (Followed 0 past base more us) as'

-- the chain gives the cells, forwards and backwards
pub chain_cells : (b : Cells) (fs : List Fragment) (us : List Uncommitted) (cs : Cells) → Chain b fs us cs → serial (lives fs us) b ≡ cs
chain_cells b fs [] cs c = c
chain_cells b fs (u ∷ us) cs c = chain_cells (effect (tx_of fs u) b) [] us cs c.1

-- undoing newest to oldest, from the tail to the front, restores
pub chain_undone : (b : Cells) (fs : List Fragment) (us : List Uncommitted) (cs : Cells) → Chain b fs us cs → undone (undo_list us) cs ≡ b
unfolding undone
chain_undone b fs [] cs c = sym c
chain_undone b fs (u ∷ us) cs c = undone_append u.undo (undo_list us) cs ∙ ap (undone u.undo) (chain_undone (effect (tx_of fs u) b) [] us cs c.1) ∙ c.0.back

-- one more at the end
pub chain_snoc : (b : Cells) (fs : List Fragment) (u : Uncommitted) (us : List Uncommitted) (cs : Cells) (v : Uncommitted) (cs' : Cells) → Chain b fs (u ∷ us) cs
    → Entry cs [] v → effect (tx_of [] v) cs ≡ cs' → Chain b fs (u ∷ us ++ (v ∷ [])) cs'
chain_snoc b fs u [] cs v cs' c e h = (c.0, (subst (λ (x : Cells). Entry x [] v) (sym c.1) e, ap (effect (tx_of [] v)) c.1 ∙ h))
chain_snoc b fs u (u' ∷ us) cs v cs' c e h = (c.0, chain_snoc (effect (tx_of fs u) b) [] u' us cs v cs' c.1 e h)

pub lives_snoc : (fs : List Fragment) (u : Uncommitted) (us : List Uncommitted) (v : Uncommitted) → lives fs (u ∷ us ++ (v ∷ [])) ≡ lives fs (u ∷ us) ++ (tx_of [] v ∷ [])
lives_snoc fs u [] v = refl
lives_snoc fs u (u' ∷ us) v = ap {B = Log} (λ (x : Log). tx_of fs u ∷ x) (lives_snoc [] u' us v)

pub lives_length : (fs : List Fragment) (us : List Uncommitted) → length (lives fs us) ≡ length us
lives_length fs [] = refl
lives_length fs (u ∷ us) = ap suc (lives_length [] us)

pub lives_requeued : (us : List Uncommitted) → lives [] us ≡ map as_tx (map requeued us)
lives_requeued [] = refl
lives_requeued (u ∷ us) = ap {B = Log} (λ (x : Log). tx_of [] u ∷ x) (lives_requeued us)

pub ready_snoc : (u : Uncommitted) (us : List Uncommitted) (v : Uncommitted) → ButLast (u ∷ us) → last_finished (u ∷ us) ≡ true → ButLast (u ∷ us ++ (v ∷ []))
ready_snoc u [] v r f = (f, tt)
ready_snoc u (u' ∷ us) v r f = (r.0, ready_snoc u' us v r.1 f)

pub ready_tail : (u : Uncommitted) (us : List Uncommitted) → ButLast (u ∷ us) → ButLast us
ready_tail u [] r = tt
ready_tail u (v ∷ us) r = r.1

-- an unfinished front is alone
pub alone : (u : Uncommitted) (us : List Uncommitted) → ButLast (u ∷ us) → finished u.state ≡ false → us ≡ []
alone u [] r f = refl
alone u (v ∷ us) r f = absurd (true≢false (sym r.0 ∙ f))

fine_of : (f : Fragment) (t : Trial) → Placed t → finished (state_after f (told t)) ≡ false → Fine t
fine_of f (Done cs ns) p h = tt
fine_of f (Broke q x) p h =
    absurd (true≢false (sym (ap {B = Bool} (λ (x : Bool). finished (elim x as (λ _. State) [ true ↦ elim (last f) [ true ↦ Finished | false ↦ Running ] | false ↦ Failed ])) (ne_eqb q 0 (λ e. omega arith))) ∙ h))

-- a fragment f run to r, where u's entries led back to b: what u is afterwards, if f by itself came to t
entry_of : (b : Cells) (fs : List Fragment) (u : Uncommitted) (f : Fragment) (r : Ran) (t : Trial) → Agree b r t → Placed t → attempt (tx_of fs u) b ≡ t
    → u.undo ≡ r.undo → u.state ≡ state_after f r.outcome → ((o : Outcome) → u.reply ≡ Held o → o ≡ r.outcome)
    → latest u.first fs ≡ f → u.ran ≡ suc (length fs) → (multi u.first || holds u.reply) ≡ true
    → Entry b fs u × (effect (tx_of fs u) b ≡ r.cells)
entry_of b fs u f r t a pl e un st re la rn hd = (
  record {
    back = ap (undone u.undo) stands ∙ ap (λ (x : List Undo). undone x r.cells) un ∙ a.back;
    fine = λ h. subst Fine (sym e) (fine_of f t pl (ap (λ (x : Outcome). finished (state_after f x)) (sym a.tells) ∙ ap finished (sym st) ∙ h));
    says = λ o h. re o h ∙ a.tells ∙ ap told (sym e);
    state = st ∙ (λ i. state_after (sym la i) ((a.tells ∙ ap told (sym e)) i));
    ran = rn;
    held = hd;
  },
  stands,
)
  where
    stands : effect (tx_of fs u) b ≡ r.cells
    stands = ap (or_else b) e ∙ sym a.stands

not_held : {A : Type 0} (o : Outcome) → Sent ≡ Held o → A
not_held o h = absurd (subst D h tt)
  where
    D : Reply → Type 0
    D (Held x) = ⊥
    D Sent = Unit {0}
    D NoReply = Unit {0}

pub sent_is_not_held : (o x : Outcome) → Sent ≡ Held o → o ≡ x
sent_is_not_held o x h = not_held o h

pub held_inj : (o x : Outcome) → Held x ≡ Held o → o ≡ x
held_inj o x h = cc

pub begun_agrees : (f : Fragment) (cs : Cells) → Agree cs (run f cs []) (trial f cs)
unfolding undone
begun_agrees f cs = run_agrees cs 1 (operations f) cs [] [] refl

-- the first waiting one, run
pub begun_stands : (w : Waiting) (cs : Cells) → effect (as_tx w) cs ≡ (run w.fragment cs []).cells
begun_stands w cs = sym (begun_agrees w.fragment cs).stands

pub begun_entry : (w : Waiting) (cs : Cells) (a : Reply) → ((o : Outcome) → a ≡ Held o → o ≡ (run w.fragment cs []).outcome) → (multi w.fragment || holds a) ≡ true
    → Entry cs [] (begun w (run w.fragment cs []) a) × (effect (as_tx w) cs ≡ (run w.fragment cs []).cells)
begun_entry w cs a h hd =
    entry_of cs [] (begun w (run w.fragment cs []) a) w.fragment (run w.fragment cs []) (trial w.fragment cs) (begun_agrees w.fragment cs)
    (trial_placed 1 (operations w.fragment) cs [] (omega arith)) refl refl refl h refl refl hd

through_snoc : (r : Trial) (fs : List Fragment) (f : Fragment) → through r (fs ++ (f ∷ [])) ≡ next (through r fs) f
through_snoc r [] f = refl
through_snoc r (g ∷ fs) f = through_snoc (next r g) fs f

next_fine : (b : Cells) (r : Trial) (f : Fragment) → Fine r → next r f ≡ trial f (or_else b r)
next_fine b (Done cs ns) f h = refl
next_fine b (Broke p x) f h = absurd h

-- another fragment of the front
pub again_entry : (b : Cells) (fs : List Fragment) (u : Uncommitted) (f : Fragment) (cs : Cells) → Entry b fs u → effect (tx_of fs u) b ≡ cs → finished u.state ≡ false
    → multi u.first ≡ true
    → (Entry b (fs ++ (f ∷ [])) (again u f (run f cs u.undo)) × (effect (tx_of (fs ++ (f ∷ [])) u) b ≡ (run f cs u.undo).cells))
    × ((run f cs u.undo).outcome ≡ told (attempt (tx_of (fs ++ (f ∷ [])) u) b))
again_entry b fs u f cs e h k m = (
  entry_of b (fs ++ (f ∷ [])) (again u f (run f cs u.undo)) f (run f cs u.undo) (trial f cs) agree (trial_placed 1 (operations f) cs [] (omega arith)) same refl refl (λ o x. sent_is_not_held o _ x)
      (latest_snoc u.first fs f) (omega (arith, e.ran, length-append fs (f ∷ []))) (ap (λ (x : Bool). x || false) m),
  agree.tells ∙ ap told (sym same),
)
  where
    agree : Agree b (run f cs u.undo) (trial f cs)
    agree = run_agrees b 1 (operations f) cs [] u.undo (ap (undone u.undo) (sym h) ∙ e.back)

    same : attempt (tx_of (fs ++ (f ∷ [])) u) b ≡ trial f cs
    same = through_snoc (trial u.first b) fs f ∙ next_fine b (attempt (tx_of fs u) b) f (e.fine k) ∙ ap (trial f) h

-- Answers that pend

pub nearest_lives : (k : ℕ) (fs : List Fragment) (us : List Uncommitted) → nearest k us ≡ nearest_tx k (lives fs us)
nearest_lives k fs [] = refl
nearest_lives k fs (u ∷ us) = go (multi u.first) (nearest_lives u.number [] us) (nearest_lives k [] us)
  where
    go : (b : Bool) → nearest u.number us ≡ nearest_tx u.number (lives [] us) → nearest k us ≡ nearest_tx k (lives [] us)
        → ◌≡◌ {A = ℕ} (elim b [ true ↦ nearest u.number us | false ↦ nearest k us ]) (elim b [ true ↦ nearest_tx u.number (lives [] us) | false ↦ nearest_tx k (lives [] us) ])
    go true x y = x
    go false x y = y

nothing_pends : (A : List Tx) (v : Tx) (B : List Tx) → [] ≡ A ++ v ∷ B → ⊥
nothing_pends [] v B e = nil≢cons e
nothing_pends (x ∷ A) v B e = nil≢cons e

pub none_pends : (k : ℕ) (b : Cells) (fs : List Fragment) (a : Answer) → Pend k b fs [] a → ⊥
none_pends k b fs a p = nothing_pends p.ahead p.it p.behind p.queue

pub in_past : (n : ℕ) (P Q : Log) → InPast n P → InPast n (P ++ Q)
in_past n P Q i = (i.0, Memᴰ.append_left Q i.1, i.2)

-- with nothing uncommitted the past may grow and the base be another
pub followed_idle : (k : ℕ) (P Q : Log) (b b' : Cells) (fs fs' : List Fragment) (us : List Uncommitted) (a : Answer) → Followed k P b fs [] a → Followed 0 (P ++ Q) b' fs' us a
followed_idle k P Q b b' fs fs' us a t h = go (t h)
  where
    go : Pend k b fs [] a ⊎ InPast a.dependence P → Pend 0 b' fs' us a ⊎ InPast a.dependence (P ++ Q)
    go (inl p) = absurd (none_pends k b fs a p)
    go (inr i) = inr (in_past a.dependence P Q i)

-- one more at the end
pub followed_snoc : (k : ℕ) (P : Log) (b : Cells) (fs : List Fragment) (u : Uncommitted) (us : List Uncommitted) (v : Uncommitted) (a : Answer) → Followed k P b fs (u ∷ us) a → Followed k P b fs (u ∷ us ++ (v ∷ [])) a
followed_snoc k P b fs u us v a t h = go (t h)
  where
    go : Pend k b fs (u ∷ us) a ⊎ InPast a.dependence P → Pend k b fs (u ∷ us ++ (v ∷ [])) a ⊎ InPast a.dependence P
    go (inl p) = inl (record {
      ahead = p.ahead;
      it = p.it;
      behind = p.behind ++ (tx_of [] v ∷ []);
      queue = lives_snoc fs u us v ∙ ap (λ (x : Log). x ++ (tx_of [] v ∷ [])) p.queue ∙ append_assoc p.ahead (p.it ∷ p.behind) (tx_of [] v ∷ []);
      names = p.names;
      on = p.on;
      foretells = p.foretells;
    })
    go (inr i) = inr i

-- the first of the queue, t, leaves it or becomes the front
module _ (k : ℕ) (b : Cells) (fs : List Fragment) (u : Uncommitted) (us : List Uncommitted) (a : Answer) where
  nearest_multi : multi u.first ≡ true → (k : ℕ) (A : List Tx) → nearest_tx k (tx_of fs u ∷ A) ≡ nearest_tx u.number A
  nearest_multi e k A = ap {B = ℕ} (λ (x : Bool). elim x [ true ↦ nearest_tx u.number A | false ↦ nearest_tx k A ]) e

  nearest_single : multi u.first ≡ false → (A : List Tx) → nearest_tx k (tx_of fs u ∷ A) ≡ nearest_tx k A
  nearest_single e A = ap {B = ℕ} (λ (x : Bool). elim x [ true ↦ nearest_tx u.number A | false ↦ nearest_tx k A ]) e

  -- it is the first itself, or the first is ahead of it
  pend_cases : {X : Type 0} → Pend k b fs (u ∷ us) a → (a.dependence ≡ k → X)
      → ((A : List Tx) (v : Tx) (B : List Tx) → lives [] us ≡ A ++ v ∷ B → a.number ≡ v.number → a.dependence ≡ nearest_tx k (tx_of fs u ∷ A)
      → a.outcome ≡ told (attempt v (serial A (effect (tx_of fs u) b))) → X)
      → X
  pend_cases {X} p f g = go p.ahead p.queue p.on p.foretells
    where
      go : (A : List Tx) → tx_of fs u ∷ lives [] us ≡ A ++ p.it ∷ p.behind → a.dependence ≡ nearest_tx k A → a.outcome ≡ told (attempt p.it (serial A b)) → X
      go [] q o t = f o
      go (x ∷ A) q o t =
          g A p.it p.behind (tail-eq_of_cons-eq q) p.names
          (o ∙ ap (λ (y : Tx). nearest_tx k (y ∷ A)) (sym (head-eq_of_cons-eq q)))
          (t ∙ ap (λ (y : Tx). told (attempt p.it (serial A (effect y b)))) (sym (head-eq_of_cons-eq q)))

  pub pend_multi_leaves : multi u.first ≡ true → Pend k b fs (u ∷ us) a → (a.dependence ≡ k) ⊎ Pend u.number (effect (tx_of fs u) b) [] us a
  pend_multi_leaves e p = pend_cases p (λ z. inl z) (λ A v B q n o t. inr (record { ahead = A; it = v; behind = B; queue = q; names = n; on = o ∙ nearest_multi e k A; foretells = t }))

  pub pend_single_leaves : multi u.first ≡ false → Pend k b fs (u ∷ us) a → (a.dependence ≡ k) ⊎ Pend k (effect (tx_of fs u) b) [] us a
  pend_single_leaves e p = pend_cases p (λ z. inl z) (λ A v B q n o t. inr (record { ahead = A; it = v; behind = B; queue = q; names = n; on = o ∙ nearest_single e A; foretells = t }))

  -- a multi becomes the front
  pub pend_front : multi u.first ≡ true → Pend k b fs (u ∷ us) a → (a.dependence ≡ k) ⊎ Pend 0 b fs (sent u ∷ us) a
  pend_front e p = pend_cases p (λ z. inl z) (λ A v B q n o t. inr (record {
    ahead = tx_of fs u ∷ A;
    it = v;
    behind = B;
    queue = ap {B = Log} (λ (y : Log). tx_of fs u ∷ y) q;
    names = n;
    on = o ∙ nearest_multi e k A ∙ sym (nearest_multi e 0 A);
    foretells = t;
  }))

-- in a queue with the same transactions of the log
pub pend_same : (k : ℕ) (b : Cells) (fs : List Fragment) (us vs : List Uncommitted) (a : Answer) → lives fs us ≡ lives fs vs → Pend k b fs us a → Pend k b fs vs a
pend_same k b fs us vs a e p = record { ahead = p.ahead; it = p.it; behind = p.behind; queue = sym e ∙ p.queue; names = p.names; on = p.on; foretells = p.foretells }

-- an answer pends only behind a front
pub pend_alone : (b : Cells) (fs : List Fragment) (u : Uncommitted) (a : Answer) → (a.dependence ≡ 0 → ⊥) → Pend 0 b fs (u ∷ []) a → ⊥
pend_alone b fs u a h p = pend_cases 0 b fs u [] a p h (λ A v B q n o t. nothing_pends A v B q)

-- the log of a whole state: nothing live and all past, or split at the front
pub settled_is : (cs₀ : Cells) (l : Log) (cs : Cells) (us : List Uncommitted) (ws : List Waiting) (as' : List Answer) (i : Inv cs₀ l cs us ws as') → (us ≡ [] → ws ≡ [])
    → (settled_of l ≡ settled_of i.past) × (live_of l ≡ lives i.more us ++ map as_tx ws)
settled_is cs₀ l cs [] ws as' i idle = (
  ap settled_of all,
  ap live_of (i.split ∙ ap (λ (x : List Waiting). i.past ++ map as_tx x) (idle refl)) ∙ live_append i.past [] i.closed ∙ sym (ap (map as_tx) (idle refl)),
)
  where
    all : l ≡ i.past
    all = i.split ∙ ap (λ (x : List Waiting). i.past ++ map as_tx x) (idle refl) ∙ append-nil i.past
settled_is cs₀ l cs (u ∷ us) ws as' i idle = (
  ap settled_of i.split ∙ settled_append i.past (lives i.more (u ∷ us) ++ map as_tx ws) i.closed
      ∙ ap {B = Log} (λ (s : Standing). settled_of i.past ++ elim s [ Settles ↦ t ∷ settled_of (lives [] us ++ map as_tx ws) | Gone ↦ settled_of (lives [] us ++ map as_tx ws) | Undecided ↦ [] ]) und
      ∙ append-nil (settled_of i.past),
  ap live_of i.split ∙ live_append i.past (lives i.more (u ∷ us) ++ map as_tx ws) i.closed
      ∙ ap {B = Log} (λ (s : Standing). elim s [ Settles ↦ live_of (lives [] us ++ map as_tx ws) | Gone ↦ live_of (lives [] us ++ map as_tx ws) | Undecided ↦ t ∷ (lives [] us ++ map as_tx ws) ]) und,
)
  where
    t : Tx
    t = tx_of i.more u

    und : standing t ≡ Undecided
    und = ap {B = Standing} (λ (b : Bool). elim b [ false ↦ Settles | true ↦ Undecided ]) i.multi
