-- Laws of L6's release: it changes replies alone, and one walk that stops at the first multi of another coordinator does it.
use Prim.Native.Nat.{ℕ, suc, ◌≤◌}
use native.Mathlib.Omega.{arith}
use borrow.Author.Tests.{eqb-true, eq-eqb}
use mathlib.Core.Path.{◌≡◌, refl, sym, ap, ◌∙◌}
use mathlib.Core.Bool.{Bool, true, false, not, ◌&&◌, ◌||◌, true≢false}
use mathlib.Core.List.{List, [], ◌∷◌, ◌++◌, map}
use lib.Dec.{eqb}
use lib.ListN.{length, length-append, length-map}
use Rattle.model.specs.Operations.{multi}
use Rattle.model.specs.Transactions.{Uncommitted, Answer}
use Rattle.model.specs.Steps.{one_coordinator, nearest_by, nearest, nearest_attempt, held_with, held_by, sent, Place, released, settled}
use Rattle.model.specs.Parts.{All, released_from}
use Rattle.model.proofs.Branches.{released_cases, settled_cases, held_cases}

-- Replies alone

pub released_sent : (ahead us : List Uncommitted) → map sent (released ahead us).uncommitted ≡ map sent us
unfolding released
released_sent ahead [] = refl
released_sent ahead (u ∷ us) =
    let h = ap {B = List Uncommitted} (λ (l : List Uncommitted). sent u ∷ l) (released_sent (ahead ++ (u ∷ [])) us) in
    released_cases (λ (p : Place). map sent p.uncommitted ≡ sent u ∷ map sent us) ahead u us h (λ _. h)

-- so what does not ask the replies is as it was
pub released_keeps : {B : Type 0} (g : List Uncommitted → B) → ((us : List Uncommitted) → g (map sent us) ≡ g us) → (ahead us : List Uncommitted) → g (released ahead us).uncommitted ≡ g us
released_keeps g h ahead us = sym (h (released ahead us).uncommitted) ∙ ap g (released_sent ahead us) ∙ h us

pub released_length : (ahead us : List Uncommitted) → length (released ahead us).uncommitted ≡ length us
released_length ahead us = released_keeps length (λ vs. length-map vs sent) ahead us

-- what a multi keeps when its answer is sent, each of them keeps
pub released_all : (P : Uncommitted → Type 0) → ((u : Uncommitted) → multi u.first ≡ true → P u → P (sent u)) → (ahead us : List Uncommitted) → All P us → All P (released ahead us).uncommitted
unfolding released
released_all P f ahead [] h = tt
released_all P f ahead (u ∷ us) h =
    let t = released_all P f (ahead ++ (u ∷ [])) us h.1 in
    released_cases (λ (p : Place). All P p.uncommitted) ahead u us (h.0, t) (λ e. (f u e h.0, t))

pub held_one : (d b : ℕ) (u : Uncommitted) → length (held_with d b u) ≤ 1
held_one d b u = held_cases (λ (a : List Answer). length a ≤ 1) d b u (λ o _. omega arith) (λ _. omega arith)

-- at most one answer for each
pub released_most : (ahead us : List Uncommitted) → length (released ahead us).answers ≤ length us
unfolding released
released_most ahead [] = omega arith
released_most ahead (u ∷ us) =
    let t = released_most (ahead ++ (u ∷ [])) us in
    released_cases (λ (p : Place). length p.answers ≤ suc (length us)) ahead u us (omega (arith, t))
    (λ _. omega (arith, t, held_one (nearest 0 ahead) (nearest_attempt 0 ahead) u, length-append (held_with (nearest 0 ahead) (nearest_attempt 0 ahead) u) (released (ahead ++ (u ∷ [])) us).answers))

-- One walk

and_true : (a : Bool) → (a && true) ≡ a
and_true true = refl
and_true false = refl

and_false : (a : Bool) → (a && false) ≡ false
and_false true = refl
and_false false = refl

and_self : (a : Bool) → (a && a) ≡ a
and_self true = refl
and_self false = refl

and_assoc : (a b c : Bool) → (a && (b && c)) ≡ ((a && b) && c)
and_assoc true b c = refl
and_assoc false b c = refl

eqb_sym : (m n : ℕ) → eqb m n ≡ eqb n m
eqb_sym m n = go (eqb m n) refl (eqb n m) refl
  where
    go : (a : Bool) → eqb m n ≡ a → (b : Bool) → eqb n m ≡ b → a ≡ b
    go true e true f = refl
    go false e false f = refl
    go true e false f = sym (eq-eqb n m (sym (eqb-true m n e))) ∙ f
    go false e true f = sym e ∙ eq-eqb m n (sym (eqb-true n m f))

-- one more at the end
one_snoc : (c : ℕ) (ahead : List Uncommitted) (u : Uncommitted) → one_coordinator c (ahead ++ (u ∷ [])) ≡ (one_coordinator c ahead && (not (multi u.first) || eqb u.first.coordinator c))
one_snoc c [] u = and_true (not (multi u.first) || eqb u.first.coordinator c)
one_snoc c (x ∷ ahead) u =
    ap (λ (b : Bool). (not (multi x.first) || eqb x.first.coordinator c) && b) (one_snoc c ahead u)
    ∙ and_assoc (not (multi x.first) || eqb x.first.coordinator c) (one_coordinator c ahead) (not (multi u.first) || eqb u.first.coordinator c)

nearest_snoc : (f : Uncommitted → ℕ) (n : ℕ) (ahead : List Uncommitted) (u : Uncommitted) → nearest_by f n (ahead ++ (u ∷ [])) ≡ elim (multi u.first) [ true ↦ f u | false ↦ nearest_by f n ahead ]
nearest_snoc f n [] u = refl
nearest_snoc f n (x ∷ ahead) u = go (multi x.first) (nearest_snoc f (f x) ahead u) (nearest_snoc f n ahead u)
  where
    go : (b : Bool) → nearest_by f (f x) (ahead ++ (u ∷ [])) ≡ elim (multi u.first) [ true ↦ f u | false ↦ nearest_by f (f x) ahead ]
        → nearest_by f n (ahead ++ (u ∷ [])) ≡ elim (multi u.first) [ true ↦ f u | false ↦ nearest_by f n ahead ]
        → ◌≡◌ {A = ℕ} (elim b [ true ↦ nearest_by f (f x) (ahead ++ (u ∷ [])) | false ↦ nearest_by f n (ahead ++ (u ∷ [])) ])
        (elim (multi u.first) [ true ↦ f u | false ↦ elim b [ true ↦ nearest_by f (f x) ahead | false ↦ nearest_by f n ahead ] ])
    go true h k = h
    go false h k = k

-- where those ahead have two coordinators, nothing is released
pub released_none : (ahead us : List Uncommitted) → ((c : ℕ) → one_coordinator c ahead ≡ false) → released ahead us ≡ record { uncommitted = us; answers = []; settles = [] }
unfolding released
released_none ahead [] h = refl
released_none ahead (u ∷ us) h =
    let p : Place = released (ahead ++ (u ∷ [])) us in
    ap {B = Place} (λ (b : Bool). elim (multi u.first && b) [
      | false ↦ record { uncommitted = u ∷ p.uncommitted; answers = p.answers; settles = [] }
      | true ↦ record { uncommitted = sent u ∷ p.uncommitted; answers = held_with (nearest 0 ahead) (nearest_attempt 0 ahead) u ++ p.answers; settles = [] }
    ]) (h u.first.coordinator)
    ∙ ap {B = Place} (λ (b : Bool). elim b [
      | false ↦ record { uncommitted = u ∷ p.uncommitted; answers = p.answers; settles = [] }
      | true ↦ record { uncommitted = sent u ∷ p.uncommitted; answers = held_with (nearest 0 ahead) (nearest_attempt 0 ahead) u ++ p.answers; settles = [] }
    ]) (and_false (multi u.first))
    ∙ ap {B = Place} (λ (q : Place). record { uncommitted = u ∷ q.uncommitted; answers = q.answers; settles = [] })
    (released_none (ahead ++ (u ∷ [])) us (λ c. one_snoc c ahead u ∙ ap (λ (b : Bool). b && (not (multi u.first) || eqb u.first.coordinator c)) (h c)))

-- a multi is among these, and all of them have coordinator k: the test of one coordinator is true of k alone
abbrev pub Only : ℕ → List Uncommitted → Type 0
Only k ahead = (c : ℕ) → one_coordinator c ahead ≡ eqb c k

pub only_front : (u : Uncommitted) → multi u.first ≡ true → Only u.first.coordinator (u ∷ [])
only_front u e c = and_true (not (multi u.first) || eqb u.first.coordinator c) ∙ ap (λ (b : Bool). not b || eqb u.first.coordinator c) e ∙ eqb_sym u.first.coordinator c

pub released_from_lem : (k : ℕ) (ahead us : List Uncommitted) → Only k ahead → released ahead us ≡ released_from k (nearest 0 ahead) (nearest_attempt 0 ahead) us
unfolding released released_from
released_from_lem k ahead [] h = refl
released_from_lem k ahead (u ∷ us) h =
    ap {B = Place} (λ (b : Bool). elim (multi u.first && b) [
      | false ↦ record { uncommitted = u ∷ (released (ahead ++ (u ∷ [])) us).uncommitted; answers = (released (ahead ++ (u ∷ [])) us).answers; settles = [] }
      | true ↦ record { uncommitted = sent u ∷ (released (ahead ++ (u ∷ [])) us).uncommitted; answers = held_with (nearest 0 ahead) (nearest_attempt 0 ahead) u ++ (released (ahead ++ (u ∷ [])) us).answers; settles = [] }
    ]) (h u.first.coordinator)
    ∙ go (λ o. released_from_lem k (ahead ++ (u ∷ [])) us o) (multi u.first) (eqb u.first.coordinator k) refl refl
  where
    Further : Type 0
    Further = Only k (ahead ++ (u ∷ [])) → released (ahead ++ (u ∷ [])) us ≡ released_from k (nearest 0 (ahead ++ (u ∷ []))) (nearest_attempt 0 (ahead ++ (u ∷ []))) us

    snoc : (b : Bool) → multi u.first ≡ b → (c : ℕ) → one_coordinator c (ahead ++ (u ∷ [])) ≡ (eqb c k && (not b || eqb u.first.coordinator c))
    snoc b e c = one_snoc c ahead u ∙ (λ i. h c i && (not (e i) || eqb u.first.coordinator c))

    next : (f : Uncommitted → ℕ) (b : Bool) → multi u.first ≡ b → nearest_by f 0 (ahead ++ (u ∷ [])) ≡ elim b [ true ↦ f u | false ↦ nearest_by f 0 ahead ]
    next f b e = nearest_snoc f 0 ahead u ∙ ap {B = ℕ} (λ (x : Bool). elim x [ true ↦ f u | false ↦ nearest_by f 0 ahead ]) e

    -- the number and the attempt of the nearest multi
    both : (b : Bool) → multi u.first ≡ b → released_from k (nearest 0 (ahead ++ (u ∷ []))) (nearest_attempt 0 (ahead ++ (u ∷ []))) us
        ≡ released_from k (elim b [ true ↦ u.number | false ↦ nearest 0 ahead ]) (elim b [ true ↦ u.attempt | false ↦ nearest_attempt 0 ahead ]) us
    both b e = λ i. released_from k (next (λ (v : Uncommitted). v.number) b e i) (next (λ (v : Uncommitted). v.attempt) b e i) us

    single : Further → multi u.first ≡ false → released (ahead ++ (u ∷ [])) us ≡ released_from k (nearest 0 ahead) (nearest_attempt 0 ahead) us
    single r e = r (λ c. snoc false e c ∙ and_true (eqb c k)) ∙ both false e

    same : Further → multi u.first ≡ true → eqb u.first.coordinator k ≡ true → released (ahead ++ (u ∷ [])) us ≡ released_from k u.number u.attempt us
    same r e f =
        r (λ c. snoc true e c ∙ ap (λ (b : Bool). eqb c k && b) (ap (λ (n : ℕ). eqb n c) (eqb-true u.first.coordinator k f) ∙ eqb_sym k c) ∙ and_self (eqb c k))
        ∙ both true e

    other : multi u.first ≡ true → eqb u.first.coordinator k ≡ false → released (ahead ++ (u ∷ [])) us ≡ record { uncommitted = us; answers = []; settles = [] }
    other e f = released_none (ahead ++ (u ∷ [])) us (λ c. snoc true e c ∙ two c (eqb c k) refl (eqb u.first.coordinator c) refl)
      where
        two : (c : ℕ) (a : Bool) → eqb c k ≡ a → (b : Bool) → eqb u.first.coordinator c ≡ b → (a && b) ≡ false
        two c false x b y = refl
        two c true x false y = refl
        two c true x true y = sym (eq-eqb u.first.coordinator k (eqb-true u.first.coordinator c y ∙ eqb-true c k x)) ∙ f

    go : Further → (a b : Bool) → multi u.first ≡ a → eqb u.first.coordinator k ≡ b
        → ◌≡◌ {A = Place}
        (elim (a && b) [
          | false ↦ record { uncommitted = u ∷ (released (ahead ++ (u ∷ [])) us).uncommitted; answers = (released (ahead ++ (u ∷ [])) us).answers; settles = [] }
          | true ↦ record { uncommitted = sent u ∷ (released (ahead ++ (u ∷ [])) us).uncommitted; answers = held_with (nearest 0 ahead) (nearest_attempt 0 ahead) u ++ (released (ahead ++ (u ∷ [])) us).answers; settles = [] }
        ])
        (elim a [
          | false ↦ record { uncommitted = u ∷ (released_from k (nearest 0 ahead) (nearest_attempt 0 ahead) us).uncommitted; answers = (released_from k (nearest 0 ahead) (nearest_attempt 0 ahead) us).answers; settles = [] }
          | true ↦ elim b [
            | false ↦ record { uncommitted = u ∷ us; answers = []; settles = [] }
            | true ↦ record { uncommitted = sent u ∷ (released_from k u.number u.attempt us).uncommitted; answers = held_with (nearest 0 ahead) (nearest_attempt 0 ahead) u ++ (released_from k u.number u.attempt us).answers; settles = [] }
          ]
        ])
    go r false b e f = ap {B = Place} (λ (p : Place). record { uncommitted = u ∷ p.uncommitted; answers = p.answers; settles = [] }) (single r e)
    go r true false e f = ap {B = Place} (λ (p : Place). record { uncommitted = u ∷ p.uncommitted; answers = p.answers; settles = [] }) (other e f)
    go r true true e f = ap {B = Place} (λ (p : Place). record { uncommitted = sent u ∷ p.uncommitted; answers = held_with (nearest 0 ahead) (nearest_attempt 0 ahead) u ++ p.answers; settles = [] }) (same r e f)

-- "The front comes first, as before.": a multi that is first, and the walk behind it
pub settled_front : (u : Uncommitted) (us : List Uncommitted) → multi u.first ≡ true
    → settled (u ∷ us) ≡ record {
      uncommitted = sent u ∷ (released_from u.first.coordinator u.number u.attempt us).uncommitted;
      answers = held_by u ++ (released_from u.first.coordinator u.number u.attempt us).answers;
      settles = [];
    }
settled_front u us e = settled_cases (λ (p : Place). p ≡ to (released_from u.first.coordinator u.number u.attempt us)) u us
    (λ _. ap to (released_from_lem u.first.coordinator (u ∷ []) us (only_front u e) ∙ (λ i. released_from u.first.coordinator (near (λ (v : Uncommitted). v.number) i) (near (λ (v : Uncommitted). v.attempt) i) us))) (λ f. absurd (true≢false (sym e ∙ f)))
  where
    to : Place → Place
    to p = record { uncommitted = sent u ∷ p.uncommitted; answers = held_by u ++ p.answers; settles = [] }

    near : (f : Uncommitted → ℕ) → nearest_by f 0 (u ∷ []) ≡ f u
    near f = ap {B = ℕ} (λ (b : Bool). elim b [ true ↦ f u | false ↦ 0 ]) e

-- the walk's steps: past a single, past a multi of the same coordinator, and its end at another one
module _ (k near tried : ℕ) (u : Uncommitted) (us : List Uncommitted) where
  abbrev walk : Bool → Bool → Place
  walk a b =
      elim a [
        | false ↦ record { uncommitted = u ∷ (released_from k near tried us).uncommitted; answers = (released_from k near tried us).answers; settles = [] }
        | true ↦ elim b [
          | false ↦ record { uncommitted = u ∷ us; answers = []; settles = [] }
          | true ↦ record { uncommitted = sent u ∷ (released_from k u.number u.attempt us).uncommitted; answers = held_with near tried u ++ (released_from k u.number u.attempt us).answers; settles = [] }
        ]
      ]

  pub from_single : multi u.first ≡ false
      → released_from k near tried (u ∷ us) ≡ record { uncommitted = u ∷ (released_from k near tried us).uncommitted; answers = (released_from k near tried us).answers; settles = [] }
  unfolding released_from
  from_single e = ap {B = Place} (λ (b : Bool). walk b (eqb u.first.coordinator k)) e

  pub from_same : multi u.first ≡ true → eqb u.first.coordinator k ≡ true
      → released_from k near tried (u ∷ us) ≡ record { uncommitted = sent u ∷ (released_from k u.number u.attempt us).uncommitted; answers = held_with near tried u ++ (released_from k u.number u.attempt us).answers; settles = [] }
  unfolding released_from
  from_same e f = (λ i. walk (e i) (f i))

  pub from_other : multi u.first ≡ true → eqb u.first.coordinator k ≡ false → released_from k near tried (u ∷ us) ≡ record { uncommitted = u ∷ us; answers = []; settles = [] }
  unfolding released_from
  from_other e f = (λ i. walk (e i) (f i))
