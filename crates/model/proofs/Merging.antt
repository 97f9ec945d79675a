-- Request L10 proved: the log after accepted calls is sorted by number, and what it has of a number is what was asked for that number. So two ways
-- to merge the same leave the same log, and with it the same cells and the same answers of singles.
use Prim.Native.Nat.{ℕ, zero, suc, ◌≤◌, ◌<◌}
use native.Mathlib.Omega.{arith}
use borrow.Author.Tests.{eq-eqb, ne_eqb, eqb-true, ltb-true, ltb-false}
use mathlib.Core.Path.{◌≡◌, refl, sym, ap, ◌∙◌, subst}
use mathlib.Core.Bool.{Bool, true, false, not, true≢false}
use mathlib.Core.List.{List, [], ◌∷◌, ◌++◌, map, append_assoc, append-nil}
use lib.Dec.{ltb, eqb}
use Rattle.model.specs.Operations.{Cells, multi}
use Rattle.model.specs.Transactions.{Uncommitted, Waiting, Engine, Answer, front}
use Rattle.model.specs.Refusals.{Request, Arrive, Commit, Abort, request, Call, live, new, is_front, step}
use Rattle.model.specs.Serial.{Tx, Decision, Open, Committed, Aborted, serial}
use Rattle.model.specs.Demand.{Log, is_logged, at, extended, decided, logged, noticed, Run, onward, runs, fresh, AllLend, settled_of, Rises, Found, This, None, the, sent_in}
use Rattle.model.specs.Schemes.{single, attempts_aside, of_singles, replies}
use Rattle.model.specs.Merged.{taken_by, taken_in, fragments_of, decision_from, decision_of, Merged, OrderMakesNoOdds}
use Rattle.model.specs.declared.Fragment.{Fragment}
use Rattle.model.specs.Parts.{Passed}
use Rattle.model.proofs.Logs.{InOrder, rises_below, known_at}
use Rattle.model.proofs.Chain.{as_tx, tx_of, lives, Inv}
use Rattle.model.proofs.Settling.{rises_front}
use Rattle.model.proofs.Replying.{of_append}
use Rattle.model.proofs.Branches.{request_cases}
use Rattle.model.proofs.Passing.{passed, took, front_or_new, decides_front}
use Rattle.model.proofs.Keeping.{rises_top}
use Rattle.model.proofs.Demanded.{Whole, whole_onward, whole_next, fresh_whole, reached}
use Rattle.model.proofs.Agreeing.{whole_idle}
use Rattle.model.proofs.Rising.{largest_grows, step_upto}

-- Looking up a number

-- a change that keeps the numbers
abbrev Keeps : (Tx → Tx) → Type 0
Keeps g = (t : Tx) → (g t).number ≡ t.number

abbrev changed : (Tx → Tx) → Found → Found
changed g (This t) = This (g t)
changed g None = None

abbrev is_found : Found → Bool
is_found (This t) = true
is_found None = false

-- the head of a log, by whether it has number n
abbrev pick_the : Bool → Tx → Found → Found
pick_the b t x = elim b [ true ↦ This t | false ↦ x ]

the_logged : (n : ℕ) (l : Log) → is_logged n l ≡ is_found (the n l)
the_logged n [] = refl
the_logged n (t ∷ ts) = go (eqb t.number n) (the_logged n ts)
  where
    go : (b : Bool) → is_logged n ts ≡ is_found (the n ts) → ◌≡◌ {A = Bool} (elim b [ true ↦ true | false ↦ is_logged n ts ]) (is_found (pick_the b t (the n ts)))
    go true e = refl
    go false e = e

the_same : (n : ℕ) (g : Tx → Tx) → Keeps g → (l : Log) → the n (at n g l) ≡ changed g (the n l)
the_same n g k [] = refl
the_same n g k (t ∷ ts) = go (eqb t.number n) refl (the_same n g k ts)
  where
    go : (b : Bool) → eqb t.number n ≡ b → the n (at n g ts) ≡ changed g (the n ts) → ◌≡◌ {A = Found} (the n (elim b [ true ↦ g t ∷ ts | false ↦ t ∷ at n g ts ])) (changed g (pick_the b t (the n ts)))
    go true e h = ap {B = Found} (λ (b : Bool). pick_the b (g t) (the n ts)) (ap (λ (m : ℕ). eqb m n) (k t) ∙ e)
    go false e h = ap {B = Found} (λ (b : Bool). pick_the b t (the n (at n g ts))) e ∙ h

the_other : (n m : ℕ) (g : Tx → Tx) → Keeps g → eqb m n ≡ false → (l : Log) → the n (at m g l) ≡ the n l
the_other n m g k z [] = refl
the_other n m g k z (t ∷ ts) = go (eqb t.number m) refl (the_other n m g k z ts)
  where
    go : (b : Bool) → eqb t.number m ≡ b → the n (at m g ts) ≡ the n ts → ◌≡◌ {A = Found} (the n (elim b [ true ↦ g t ∷ ts | false ↦ t ∷ at m g ts ])) (the n (t ∷ ts))
    go true e h =
        let y : eqb t.number n ≡ false = ap (λ (x : ℕ). eqb x n) (eqb-true t.number m e) ∙ z in
        ap {B = Found} (λ (b : Bool). pick_the b (g t) (the n ts)) (ap (λ (x : ℕ). eqb x n) (k t) ∙ y) ∙ sym (ap {B = Found} (λ (b : Bool). pick_the b t (the n ts)) y)
    go false e h = ap {B = Found} (λ (x : Found). pick_the (eqb t.number n) t x) h

-- one more at the end
the_more : (n : ℕ) (l : Log) (t : Tx) → the n (l ++ t ∷ []) ≡ elim (the n l) [ This s ↦ This s | None ↦ pick_the (eqb t.number n) t None ]
the_more n [] t = refl
the_more n (s ∷ l) t = go (eqb s.number n) (the_more n l t)
  where
    go : (b : Bool) → the n (l ++ t ∷ []) ≡ elim (the n l) [ This s ↦ This s | None ↦ pick_the (eqb t.number n) t None ]
        → ◌≡◌ {A = Found} (pick_the b s (the n (l ++ t ∷ []))) (elim (pick_the b s (the n l)) [ This s ↦ This s | None ↦ pick_the (eqb t.number n) t None ])
    go true e = refl
    go false e = e

-- below all numbers, and above all numbers
the_low : (n top k : ℕ) (l : Log) → k ≤ n → InOrder n top l → the k l ≡ None
the_low n top k [] j h = refl
the_low n top k (t ∷ ts) j h =
    ap {B = Found} (λ (b : Bool). pick_the b t (the k ts)) (ne_eqb t.number k (λ e. omega (arith, h.0))) ∙ the_low t.number top k ts (omega (arith, h.0)) h.1

the_high : (n top k : ℕ) (l : Log) → top < k → InOrder n top l → the k l ≡ None
the_high n top k [] j h = refl
the_high n top k (t ∷ ts) j h =
    let y : t.number ≤ top = rises_below t.number top ts h.1 in
    ap {B = Found} (λ (b : Bool). pick_the b t (the k ts)) (ne_eqb t.number k (λ e. omega arith)) ∙ the_high t.number top k ts j h.1

-- Two sorted logs that have the same of each number are the same

the_head : (t : Tx) (ts : Log) → the t.number (t ∷ ts) ≡ This t
the_head t ts = ap {B = Found} (λ (b : Bool). pick_the b t (the t.number ts)) (eq-eqb t.number t.number refl)

-- a head that the other has too is not below its head
head_in : (n top : ℕ) (t : Tx) (ts : Log) (t' : Tx) (ts' : Log) → InOrder n top (t' ∷ ts') → the t.number (t ∷ ts) ≡ the t.number (t' ∷ ts') → t.number < t'.number → ⊥
head_in n top t ts t' ts' h e k =
    let x : the t.number (t' ∷ ts') ≡ None = the_low t.number top t.number (t' ∷ ts') (omega arith) (k, h.1) in
    let y : This t ≡ None = sym (the_head t ts) ∙ e ∙ x in
    let z : ◌≡◌ {A = ℕ} 0 1 = cc in omega arith

module _ (n top top' : ℕ) (t : Tx) (ts : Log) (t' : Tx) (ts' : Log) (h : InOrder n top (t ∷ ts)) (h' : InOrder n top' (t' ∷ ts')) (e : (k : ℕ) → the k (t ∷ ts) ≡ the k (t' ∷ ts')) where
  same_number : t.number ≡ t'.number
  same_number = go (ltb t.number t'.number) (ltb t'.number t.number) refl refl
    where
      go : (a b : Bool) → ltb t.number t'.number ≡ a → ltb t'.number t.number ≡ b → t.number ≡ t'.number
      go true b x y = absurd (head_in n top' t ts t' ts' h' (e t.number) (ltb-true t.number t'.number x))
      go false true x y = absurd (head_in n top t' ts' t ts h (sym (e t'.number)) (ltb-true t'.number t.number y))
      go false false x y =
          let j : t'.number ≤ t.number = ltb-false t.number t'.number x in
          let k : t.number ≤ t'.number = ltb-false t'.number t.number y in
          omega arith

  same_head : t ≡ t'
  same_head =
      let y : This t ≡ This t' = sym (the_head t ts) ∙ e t.number ∙ ap (λ (k : ℕ). the k (t' ∷ ts')) same_number ∙ the_head t' ts' in
      cc

  rises_behind : InOrder t.number top' ts'
  rises_behind = subst (λ (m : ℕ). InOrder m top' ts') (sym same_number) h'.1

  same_behind : (k : ℕ) → the k ts ≡ the k ts'
  same_behind k = go (ltb t.number k) refl
    where
      other : (s : Tx) (ss : Log) → s.number < k → the k (s ∷ ss) ≡ the k ss
      other s ss j = ap {B = Found} (λ (b : Bool). pick_the b s (the k ss)) (ne_eqb s.number k (λ z. omega arith))

      go : (b : Bool) → ltb t.number k ≡ b → the k ts ≡ the k ts'
      go true x =
          let j : t.number < k = ltb-true t.number k x in
          let j' : t'.number < k = subst (λ (m : ℕ). m < k) same_number j in
          sym (other t ts j) ∙ e k ∙ other t' ts' j'
      go false x =
          let j : k ≤ t.number = ltb-false t.number k x in
          the_low t.number top k ts j h.1 ∙ sym (the_low t.number top' k ts' j rises_behind)

same_log : (n top top' : ℕ) (l l' : Log) → InOrder n top l → InOrder n top' l' → ((k : ℕ) → the k l ≡ the k l') → l ≡ l'
same_log n top top' [] [] h h' e = refl
same_log n top top' [] (t ∷ ts) h h' e =
    let y : None ≡ This t = e t.number ∙ the_head t ts in
    let z : ◌≡◌ {A = ℕ} 0 1 = cc in absurd (omega arith)
same_log n top top' (t ∷ ts) [] h h' e =
    let y : This t ≡ None = sym (the_head t ts) ∙ e t.number in
    let z : ◌≡◌ {A = ℕ} 0 1 = cc in absurd (omega arith)
same_log n top top' (t ∷ ts) (t' ∷ ts') h h' e =
    let tails = same_log t.number top top' ts ts' h.1 (rises_behind n top top' t ts t' ts' h h' e) (same_behind n top top' t ts t' ts' h h' e) in
    λ i. same_head n top top' t ts t' ts' h h' e i ∷ tails i

-- What was asked for a number

abbrev born_by : ℕ → List Fragment → Decision → Found
born_by n [] d = None
born_by n (f ∷ fs) d = This (record { number = n; first = f; more = fs; decision = d })

-- what is found of n, with fragments and a decision that came since
abbrev grown_by : ℕ → Found → List Fragment → (Decision → Decision) → Found
grown_by n (This t) fs d = This (record { number = t.number; first = t.first; more = t.more ++ fs; decision = d t.decision })
grown_by n None fs d = born_by n fs (d Open)

abbrev grown : ℕ → Found → List Request → Found
grown n x qs = grown_by n x (fragments_of n qs) (λ (d : Decision). decision_from n d qs)

grown_none : (n : ℕ) (x : Found) → grown n x [] ≡ x
grown_none n (This t) = ap {B = Found} (λ (fs : List Fragment). This (record { number = t.number; first = t.first; more = fs; decision = t.decision })) (append-nil t.more)
grown_none n None = refl

-- what an accepted request is for: a decision for a number of the log, a fragment for such a one or for one above the largest
abbrev Apt : Engine → Request → Log → Type 0
Apt e (Arrive n f) l = is_logged n l ≡ false → e.largest < n
Apt e (Commit n) l = is_logged n l ≡ true
Apt e (Abort n) l = is_logged n l ≡ true

module _ (n m : ℕ) (l : Log) (qs : List Request) where
  arrive_grown : (f : Fragment) → grown n (the n (logged (Arrive m f) l)) qs ≡ grown n (the n l) (Arrive m f ∷ qs)
  arrive_grown f = go (eqb m n) refl
    where
      t : Tx
      t = record { number = m; first = f; more = []; decision = Open }

      mine : m ≡ n → (x : Found) → the n l ≡ x → (b : Bool) → b ≡ is_found x
          → grown n (the n (elim b as (λ _. Log) [ true ↦ at m (extended f) l | false ↦ l ++ t ∷ [] ])) qs ≡ grown_by n x (f ∷ fragments_of n qs) (λ (d : Decision). decision_from n d qs)
      mine e (This s) h true i =
          ap (λ (x : Found). grown n x qs) (ap (λ (k : ℕ). the n (at k (extended f) l)) e ∙ the_same n (extended f) (λ s. refl) l ∙ ap (changed (extended f)) h)
          ∙ ap {B = Found} (λ (fs : List Fragment). This (record { number = s.number; first = s.first; more = fs; decision = decision_from n s.decision qs })) (append_assoc s.more (f ∷ []) (fragments_of n qs))
      mine e (This s) h false i = absurd (true≢false (sym i))
      mine e None h true i = absurd (true≢false i)
      mine e None h false i =
          ap (λ (x : Found). grown n x qs) (the_more n l t ∙ ap {B = Found} (λ (x : Found). elim x [ This s ↦ This s | None ↦ pick_the (eqb m n) t None ]) h
          ∙ ap {B = Found} (λ (b : Bool). pick_the b t None) (eq-eqb m n e))
          ∙ (λ j. This (record { number = e j; first = f; more = fragments_of n qs; decision = decision_from n Open qs }))

      go : (b : Bool) → eqb m n ≡ b → grown n (the n (logged (Arrive m f) l)) qs
          ≡ grown_by n (the n l) (elim b as (λ _. List Fragment) [ true ↦ f ∷ fragments_of n qs | false ↦ fragments_of n qs ]) (λ (d : Decision). decision_from n d qs)
      go true e = mine (eqb-true m n e) (the n l) refl (is_logged m l) (ap (λ (k : ℕ). is_logged k l) (eqb-true m n e) ∙ the_logged n l)
      go false e = ap (λ (x : Found). grown n x qs) (other (is_logged m l))
        where
          other : (b : Bool) → the n (elim b as (λ _. Log) [ true ↦ at m (extended f) l | false ↦ l ++ t ∷ [] ]) ≡ the n l
          other true = the_other n m (extended f) (λ s. refl) e l
          other false = the_more n l t ∙ ap {B = Found} (λ (b : Bool). elim (the n l) [ This s ↦ This s | None ↦ pick_the b t None ]) e ∙ same (the n l)
            where
              same : (x : Found) → ◌≡◌ {A = Found} (elim x [ This s ↦ This s | None ↦ None ]) x
              same (This s) = refl
              same None = refl

  decide_grown : (d : Decision) → is_logged m l ≡ true
      → grown n (the n (at m (decided d) l)) qs ≡ grown_by n (the n l) (fragments_of n qs) (λ (c : Decision). decision_from n (elim (eqb m n) [ true ↦ d | false ↦ c ]) qs)
  decide_grown d k = go (eqb m n) refl
    where
      mine : m ≡ n → (x : Found) → the n l ≡ x → grown n (the n (at m (decided d) l)) qs ≡ grown_by n x (fragments_of n qs) (λ (c : Decision). decision_from n d qs)
      mine e (This s) h = ap (λ (x : Found). grown n x qs) (ap (λ (k : ℕ). the n (at k (decided d) l)) e ∙ the_same n (decided d) (λ s. refl) l ∙ ap (changed (decided d)) h)
      mine e None h = absurd (true≢false (sym k ∙ ap (λ (x : ℕ). is_logged x l) e ∙ the_logged n l ∙ ap is_found h))

      go : (b : Bool) → eqb m n ≡ b → grown n (the n (at m (decided d) l)) qs ≡ grown_by n (the n l) (fragments_of n qs) (λ (c : Decision). decision_from n (elim b [ true ↦ d | false ↦ c ]) qs)
      go true e = mine (eqb-true m n e) (the n l) refl
      go false e = ap (λ (x : Found). grown n x qs) (the_other n m (decided d) (λ s. refl) e l)

request_grown : (e : Engine) (n : ℕ) (q : Request) (l : Log) (qs : List Request) → Apt e q l → grown n (the n (logged q l)) qs ≡ grown n (the n l) (q ∷ qs)
request_grown e n (Arrive m f) l qs k = arrive_grown n m l qs f
request_grown e n (Commit m) l qs k = decide_grown n m l qs Committed k
request_grown e n (Abort m) l qs k = decide_grown n m l qs Aborted k

-- Calls

-- the front is in the log
front_logged : (cs : Cells) (top : ℕ) (l : Log) → InOrder 0 top l → (b : Cells) (us : List Uncommitted) (ws : List Waiting) → Inv cs l b us ws [] → (n : ℕ)
    → front (λ (u : Uncommitted). eqb u.number n) us ≡ true → is_logged n l ≡ true
front_logged cs top l h b [] ws i n e = absurd (true≢false (sym e))
front_logged cs top l h b (u ∷ us) ws i n e =
    subst (λ (m : ℕ). is_logged m l ≡ true) (eqb-true u.number n e)
    (ap (is_logged u.number) i.split ∙ known_at top (tx_of i.more u) (lives [] us ++ map as_tx ws) 0 i.past (rises_front cs top l h b ws [] u us i))

module _ (cs : Cells) (r : Run) (w : Whole cs r []) (c : Call) where
  is_logged_lem : is_front c.event.number r.engine ≡ true → is_logged c.event.number r.log ≡ true
  is_logged_lem e = front_logged cs r.engine.largest r.log w.rises r.cells r.engine.uncommitted r.engine.waiting w.inv c.event.number e

  apt : (step r.engine c).number ≡ 0 → Apt r.engine (request c.event) r.log
  apt z = request_cases (λ (q : Request). Apt r.engine q r.log) c.event (λ _ k. arrives k (is_front n r.engine) refl) (λ a. is_logged_lem (decides_front r.engine c a p)) (λ a. is_logged_lem (decides_front r.engine c a p))
    where
      n : ℕ
      n = c.event.number

      p : Passed r.engine c
      p = passed r.engine c (took r.engine c z)

      arrives : is_logged n r.log ≡ false → (b : Bool) → is_front n r.engine ≡ b → r.engine.largest < n
      arrives k true e = absurd (true≢false (sym (is_logged_lem e) ∙ k))
      arrives k false e = ltb-true r.engine.largest n (front_or_new (live n r.engine) (new n r.engine) (is_front n r.engine) p.six p.seven e)

  onward_grown : (n : ℕ) (qs : List Request) → grown n (the n (onward r c).log) qs ≡ grown n (the n r.log) (taken_by (step r.engine c).number (request c.event) ++ qs)
  onward_grown n qs = go (step r.engine c).number refl
    where
      go : (k : ℕ) → (step r.engine c).number ≡ k → grown n (the n (noticed k (request c.event) r.log)) qs ≡ grown n (the n r.log) (taken_by k (request c.event) ++ qs)
      go zero e = request_grown r.engine n (request c.event) r.log qs (apt e)
      go (suc k) e = refl

-- what the log has of n is what was asked for n
runs_grown : (cs : Cells) (n : ℕ) (r : Run) (calls : List Call) → AllLend r calls → Whole cs r [] → the n (runs r calls).log ≡ grown n (the n r.log) (taken_in r calls)
runs_grown cs n r [] d w = sym (grown_none n (the n r.log))
runs_grown cs n r (c ∷ calls) d w = runs_grown cs n (onward r c) calls d.1 (whole_next cs r c w d.0) ∙ onward_grown cs r w c n (taken_in (onward r c) calls)

pub asked : (cs : Cells) (n : ℕ) (calls : List Call) → AllLend (fresh cs) calls
    → the n (runs (fresh cs) calls).log ≡ born_by n (fragments_of n (taken_in (fresh cs) calls)) (decision_of n (taken_in (fresh cs) calls))
asked cs n calls d = runs_grown cs n (fresh cs) calls d (fresh_whole cs)

-- Two ways to merge

pub merged_log : (cs : Cells) (calls calls' : List Call) → Merged cs calls calls' → (runs (fresh cs) calls).log ≡ (runs (fresh cs) calls').log
merged_log cs calls calls' m =
    same_log 0 (runs (fresh cs) calls).engine.largest (runs (fresh cs) calls').engine.largest (runs (fresh cs) calls).log (runs (fresh cs) calls').log
    (reached cs calls m.lend).rises (reached cs calls' m.lend').rises
    (λ k. asked cs k calls m.lend ∙ (λ i. born_by k (m.fragments k i) (m.decisions k i)) ∙ sym (asked cs k calls' m.lend'))

merged_cells : (cs : Cells) (calls calls' : List Call) → Merged cs calls calls' → (runs (fresh cs) calls).cells ≡ (runs (fresh cs) calls').cells
merged_cells cs calls calls' m =
    whole_idle cs (runs (fresh cs) calls) (reached cs calls m.lend) m.idle ∙ ap (λ (l : Log). serial (settled_of l) cs) (merged_log cs calls calls' m)
    ∙ sym (whole_idle cs (runs (fresh cs) calls') (reached cs calls' m.lend') m.idle')

-- Answers of singles, by the log that is there at the end

abbrev is_single : Found → Bool
is_single x = elim x [ This t ↦ not (multi t.first) | None ↦ false ]

-- a number that was not accepted when a larger one was never is
quiet : (cs : Cells) (n : ℕ) (r : Run) (calls : List Call) → AllLend r calls → Whole cs r [] → n ≤ r.engine.largest → the n r.log ≡ None → the n (runs r calls).log ≡ None
quiet cs n r [] d w k e = e
quiet cs n r (c ∷ calls) d w k e = quiet cs n (onward r c) calls d.1 (whole_next cs r c w d.0) (omega (arith, largest_grows r.engine c)) (go (step r.engine c).number refl)
  where
    asks : (q : Request) → Apt r.engine q r.log → fragments_of n (q ∷ []) ≡ []
    asks (Arrive m f) a = other (eqb m n) refl
      where
        other : (b : Bool) → eqb m n ≡ b → ◌≡◌ {A = List Fragment} (elim b [ true ↦ f ∷ [] | false ↦ [] ]) []
        other true z =
            let y : r.engine.largest < m = a (ap (λ (x : ℕ). is_logged x r.log) (eqb-true m n z) ∙ the_logged n r.log ∙ ap is_found e) in
            let x : m ≡ n = eqb-true m n z in absurd (omega arith)
        other false z = refl
    asks (Commit m) a = refl
    asks (Abort m) a = refl

    go : (j : ℕ) → (step r.engine c).number ≡ j → the n (noticed j (request c.event) r.log) ≡ None
    go zero z =
        let a = apt cs r w c z in
        sym (grown_none n (the n (logged (request c.event) r.log))) ∙ request_grown r.engine n (request c.event) r.log [] a
        ∙ ap (λ (x : Found). grown n x (request c.event ∷ [])) e ∙ ap (λ (fs : List Fragment). born_by n fs (decision_of n (request c.event ∷ []))) (asks (request c.event) a)
    go (suc j) z = e

-- an accepted number is a single's or not, once and for all
single_stays : (cs : Cells) (n : ℕ) (r : Run) (calls : List Call) → AllLend r calls → Whole cs r [] → n ≤ r.engine.largest → single n r.log ≡ single n (runs r calls).log
single_stays cs n r calls d w k = go (the n r.log) refl
  where
    go : (x : Found) → the n r.log ≡ x → single n r.log ≡ single n (runs r calls).log
    go (This t) e = ap is_single e ∙ sym (ap is_single (runs_grown cs n r calls d w ∙ ap (λ (x : Found). grown n x (taken_in r calls)) e))
    go None e = ap is_single e ∙ sym (ap is_single (quiet cs n r calls d w k e))

singles_stay : (cs : Cells) (r : Run) (calls : List Call) → AllLend r calls → Whole cs r [] → (n : ℕ) (l : List Answer) → Rises n r.engine.largest (map (λ (a : Answer). a.number) l)
    → of_singles r.log l ≡ of_singles (runs r calls).log l
singles_stay cs r calls d w n [] h = refl
singles_stay cs r calls d w n (a ∷ l) h =
    let rest = singles_stay cs r calls d w a.number l h.1 in
    λ i. elim (single_stays cs a.number r calls d w (rises_top a.number r.engine.largest (map (λ (a : Answer). a.number) l) h.1) i) [ true ↦ attempts_aside a ∷ rest i | false ↦ rest i ]

all_answered : (cs : Cells) (r : Run) (calls : List Call) → AllLend r calls → Whole cs r []
    → replies (settled_of (runs r calls).log) cs ≡ replies (settled_of r.log) cs ++ of_singles (runs r calls).log (sent_in r calls)
all_answered cs r [] d w = sym (append-nil (replies (settled_of r.log) cs))
all_answered cs r (c ∷ calls) d w =
    let w' = whole_next cs r c w d.0 in
    all_answered cs (onward r c) calls d.1 w'
    ∙ ap (λ (x : List Answer). x ++ later) ((whole_onward cs r c [] w d.0 (λ _ _ _. refl)).went.singles ∙ ap (λ (x : List Answer). replies (settled_of r.log) cs ++ x) (singles_stay cs (onward r c) calls d.1 w' 0 (step r.engine c).answers (step_upto r.engine c)))
    ∙ append_assoc (replies (settled_of r.log) cs) (of_singles end (step r.engine c).answers) later
    ∙ ap (λ (x : List Answer). replies (settled_of r.log) cs ++ x) (sym (of_append end (step r.engine c).answers (sent_in (onward r c) calls)))
  where
    end : Log
    end = (runs (onward r c) calls).log

    later : List Answer
    later = of_singles end (sent_in (onward r c) calls)

pub fresh_answered : (cs : Cells) (calls : List Call) → AllLend (fresh cs) calls → of_singles (runs (fresh cs) calls).log (sent_in (fresh cs) calls) ≡ replies (settled_of (runs (fresh cs) calls).log) cs
fresh_answered cs calls d = sym (all_answered cs (fresh cs) calls d (fresh_whole cs))

-- New numbers

late : (cs : Cells) (calls : List Call) → AllLend (fresh cs) calls → (c : Call) (n m : ℕ) (f : Fragment) → request c.event ≡ Arrive n f
    → fragments_of n (taken_in (fresh cs) calls) ≡ [] → (fragments_of m (taken_in (fresh cs) calls) ≡ [] → ⊥) → n < m
    → (step (runs (fresh cs) calls).engine c).number ≡ 0 → ⊥
late cs calls d c n m f q none some k z = some (empty (fragments_of m (taken_in (fresh cs) calls)) (sym (asked cs m calls d) ∙ the_high 0 r.engine.largest m r.log (omega (arith, above)) w.rises))
  where
    r : Run
    r = runs (fresh cs) calls

    w : Whole cs (runs (fresh cs) calls) []
    w = reached cs calls d

    unknown : is_logged n r.log ≡ false
    unknown = the_logged n r.log ∙ ap is_found (asked cs n calls d ∙ ap (λ (fs : List Fragment). born_by n fs (decision_of n (taken_in (fresh cs) calls))) none)

    above : r.engine.largest < n
    above = subst (λ (x : Request). Apt r.engine x r.log) q (apt cs r w c z) unknown

    empty : (fs : List Fragment) → born_by m fs (decision_of m (taken_in (fresh cs) calls)) ≡ None → fs ≡ []
    empty [] h = refl
    empty (g ∷ fs) h = let y : ◌≡◌ {A = ℕ} 0 1 = cc in absurd (omega arith)

pub order_makes_no_odds : (cs : Cells) → OrderMakesNoOdds cs
order_makes_no_odds cs = record {
  cells = merged_cells cs;
  singles = λ calls calls' m. fresh_answered cs calls m.lend ∙ ap (λ (l : Log). replies (settled_of l) cs) (merged_log cs calls calls' m) ∙ sym (fresh_answered cs calls' m.lend');
  answered = fresh_answered cs;
  settling = λ calls calls' m. ap settled_of (merged_log cs calls calls' m);
  late = late cs;
}
