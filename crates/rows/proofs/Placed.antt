-- Where one that ran goes, by the tests that the code makes on rows.
use Prim.Native.Nat.{ℕ, suc, ◌*◌}
use native.Mathlib.Omega.{arith}
use borrow.Author.Tests.{ne_eqb}
use mathlib.Core.Path.{◌≡◌, refl, sym, ap, ◌∙◌}
use mathlib.Core.Bool.{Bool, true, false, not, ◌&&◌, ◌||◌}
use mathlib.Core.List.{List, [], ◌∷◌, ◌++◌, map, foldl}
use lib.Dec.{eqb}
use lib.ListN.{length, length-map}
use Rattle.model.proofs.Chain.{all_left}
use Rattle.model.specs.Operations.{pick, multi}
use Rattle.model.specs.Transactions.{Held, Sent, Uncommitted, Waiting, answer}
use Rattle.model.specs.Refusals.{every}
use Rattle.model.specs.Steps.{begun, one_coordinator, nearest, nearest_attempt, Place, placed}
use Rattle.model.specs.Steps as Steps
use Rattle.record.specs.Words.{all_rows, row_of, live_rows, over}
use Rattle.record.specs.View.{waiting_of}
use Rattle.record.proofs.Back.{waiting_back}
use Rattle.std.specs.Prelude.{Option}
use Rattle.rows.specs.declared.Trial.{Trial}
use Rattle.rows.specs.declared.Reply.TheVariants as Reply
use Rattle.rows.specs.Rows.{one_rows, near_rows, answered_now, joins_queue}
use Rattle.rows.proofs.Reading.{same_one, trial_of, near_one, one_rows_lem, near_rows_lem}
use Rattle.model.specs.Parts.{All}
use Rattle.record.specs.Fitting.{Eight}
use Rattle.record.specs.Widths.{live_width}

-- what Drain's bullets do, by two tests

pub placed_by : (us : List Uncommitted) (w : Waiting) (r : Steps.Ran) (ans joins : Bool)
    → ans ≡ answered_now (length us) (multi w.fragment) (one_coordinator w.fragment.coordinator us) → joins ≡ joins_queue (length us) (multi w.fragment)
    → placed us w r ≡ record {
      uncommitted = pick joins (us ++ (begun w r (pick (not ans) (Held r.outcome) Sent) ∷ [])) us;
      answers = pick ans (answer w.number (nearest 0 us) w.attempt (nearest_attempt 0 us) r.outcome ∷ []) [];
      settles = pick joins [] (w.number ∷ []);
    }
unfolding placed
placed_by [] w r ans joins ea ej = go (multi w.fragment) ans joins ea ej
  where
    go : (m a j : Bool) → a ≡ true → j ≡ m → ◌≡◌ {A = Place} (elim m as (λ _. Place) [
      | false ↦ record { uncommitted = []; answers = answer w.number 0 w.attempt 0 r.outcome ∷ []; settles = w.number ∷ [] }
      | true ↦ record { uncommitted = begun w r Sent ∷ []; answers = answer w.number 0 w.attempt 0 r.outcome ∷ []; settles = [] }
    ]) (record { uncommitted = pick j (begun w r (pick (not a) (Held r.outcome) Sent) ∷ []) []; answers = pick a (answer w.number 0 w.attempt 0 r.outcome ∷ []) []; settles = pick j [] (w.number ∷ []) })
    go true a j ea ej = λ i. record { uncommitted = pick (sym ej i) (begun w r (pick (not (sym ea i)) (Held r.outcome) Sent) ∷ []) []; answers = pick (sym ea i) (answer w.number 0 w.attempt 0 r.outcome ∷ []) []; settles = pick (sym ej i) [] (w.number ∷ []) }
    go false a j ea ej = λ i. record { uncommitted = pick (sym ej i) (begun w r (pick (not (sym ea i)) (Held r.outcome) Sent) ∷ []) []; answers = pick (sym ea i) (answer w.number 0 w.attempt 0 r.outcome ∷ []) []; settles = pick (sym ej i) [] (w.number ∷ []) }
placed_by (u ∷ us) w r ans joins ea ej =
    go (multi w.fragment && one_coordinator w.fragment.coordinator (u ∷ us)) ans joins
    (ea ∙ ap (λ (b : Bool). b || (multi w.fragment && one_coordinator w.fragment.coordinator (u ∷ us))) some)
    (ej ∙ ap (λ (b : Bool). not b || multi w.fragment) some)
  where
    some : eqb (suc (length us)) 0 ≡ false
    some = ne_eqb (suc (length us)) 0 (λ e. omega arith)

    go : (m a j : Bool) → a ≡ m → j ≡ true → ◌≡◌ {A = Place} (elim m as (λ _. Place) [
      | false ↦ record { uncommitted = u ∷ us ++ (begun w r (Held r.outcome) ∷ []); answers = []; settles = [] }
      | true ↦ record { uncommitted = u ∷ us ++ (begun w r Sent ∷ []); answers = answer w.number (nearest 0 (u ∷ us)) w.attempt (nearest_attempt 0 (u ∷ us)) r.outcome ∷ []; settles = [] }
    ]) (record { uncommitted = pick j (u ∷ us ++ (begun w r (pick (not a) (Held r.outcome) Sent) ∷ [])) (u ∷ us); answers = pick a (answer w.number (nearest 0 (u ∷ us)) w.attempt (nearest_attempt 0 (u ∷ us)) r.outcome ∷ []) []; settles = pick j [] (w.number ∷ []) })
    go true a j ea ej = λ i. record { uncommitted = pick (sym ej i) (u ∷ us ++ (begun w r (pick (not (sym ea i)) (Held r.outcome) Sent) ∷ [])) (u ∷ us); answers = pick (sym ea i) (answer w.number (nearest 0 (u ∷ us)) w.attempt (nearest_attempt 0 (u ∷ us)) r.outcome ∷ []) []; settles = pick (sym ej i) [] (w.number ∷ []) }
    go false a j ea ej = λ i. record { uncommitted = pick (sym ej i) (u ∷ us ++ (begun w r (pick (not (sym ea i)) (Held r.outcome) Sent) ∷ [])) (u ∷ us); answers = pick (sym ea i) (answer w.number (nearest 0 (u ∷ us)) w.attempt (nearest_attempt 0 (u ∷ us)) r.outcome ∷ []) []; settles = pick (sym ej i) [] (w.number ∷ []) }

-- what a reply that was decided so is

pub sent_is : (h : Bool) (d e : Option Trial) → Reply.Sent e ≡ pick h (Reply.Sent d) Reply.Held → (h ≡ true) × (e ≡ d)
sent_is true d e p = (refl, cc)
sent_is false d e p = cc

pub held_is : (h : Bool) (d : Option Trial) → Reply.Held ≡ pick h (Reply.Sent d) Reply.Held → h ≡ false
held_is true d p = cc
held_is false d p = refl

-- The rows of the uncommitted ones

one_list : (k : ℕ) (us : List Uncommitted) → every (same_one k) (map row_of us) ≡ one_coordinator k us
one_list k [] = refl
one_list k (u ∷ us) = λ i. go (multi u.first) i && one_list k us i
  where
    go : (m : Bool) → pick m (eqb u.first.coordinator k) true ≡ (not m || eqb u.first.coordinator k)
    go true = refl
    go false = refl

-- the nearest multi among them, d where there is none
abbrev pub nearest_trial : Trial → List Uncommitted → Trial
nearest_trial d us = record { number = nearest d.number us; attempt = nearest_attempt d.attempt us }

near_list : (d : Trial) (us : List Uncommitted) → foldl near_one d (map row_of us) ≡ nearest_trial d us
near_list d [] = refl
near_list d (u ∷ us) = go (λ x. near_list x us) (multi u.first)
  where
    go : ((x : Trial) → foldl near_one x (map row_of us) ≡ nearest_trial x us) → (m : Bool)
        → foldl near_one (pick m (trial_of (row_of u)) d) (map row_of us) ≡ record {
          number = elim m as (λ _. ℕ) [ true ↦ nearest u.number us | false ↦ nearest d.number us ];
          attempt = elim m as (λ _. ℕ) [ true ↦ nearest_attempt u.attempt us | false ↦ nearest_attempt d.attempt us ];
        }
    go rest true = rest (trial_of (row_of u))
    go rest false = rest d

module _ (row : List ℕ) (ws A : List Waiting) (us : List Uncommitted) (b : ℕ) (ea : All Eight A) (el : All Eight (live_rows us ws)) (eb : live_width * length A ≡ b) where
  rows : waiting_of (over row (all_rows (A ++ live_rows us ws))) b (length us) ≡ map row_of us
  rows = ap (waiting_of (over row (all_rows (A ++ live_rows us ws))) b) (sym (length-map us row_of)) ∙ waiting_back row A (map row_of us) ws b ea (all_left Eight (map row_of us) ws el) eb

  pub one_back : (k : ℕ) → one_rows (over row (all_rows (A ++ live_rows us ws))) b (length us) k ≡ one_coordinator k us
  one_back k = one_rows_lem (over row (all_rows (A ++ live_rows us ws))) b (length us) k ∙ ap (every (same_one k)) rows ∙ one_list k us

  pub near_all : (d : Trial) → near_rows d (over row (all_rows (A ++ live_rows us ws))) b (length us) ≡ nearest_trial d us
  near_all d = near_rows_lem (over row (all_rows (A ++ live_rows us ws))) b (length us) d ∙ ap (foldl near_one d) rows ∙ near_list d us
