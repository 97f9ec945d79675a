-- Laws of rows that hold lists: what a run holds, one turn of the walks over live rows, and what they give.
use Prim.Native.Nat.{ℕ, zero, suc, ◌+◌, ◌*◌, ◌-◌, ◌≤◌, ◌<◌}
use native.Mathlib.Omega.{arith}
use native.Mathlib.Nat.{add_assoc}
use mathlib.Core.Path.{◌≡◌, refl, sym, ap, ◌∙◌}
use mathlib.Core.Bool.{Bool, true, false, ◌&&◌}
use mathlib.Core.List.{List, ◌∷◌, ◌++◌, map, foldl}
use lib.Dec.{eqb}
use lib.ListN.{length, get_or}
use lib.Seq.{sets}
use Rattle.model.specs.Operations.{pick, multi}
use Rattle.model.specs.Transactions.{Waiting}
use Rattle.model.specs.Refusals.{every}
use Rattle.record.specs.View.{fragment_at, multi_at, waiting_of, numbers_from}
use Rattle.model.specs.Parts.{All}
use Rattle.record.specs.Words.{all_rows, over}
use Rattle.record.specs.Fitting.{Eight}
use Rattle.record.proofs.Back.{number_back, attempt_back}
use Rattle.record.proofs.Rows.{numbers_whole}
use Rattle.record.proofs.Walks.{walk_on, walk_end}
use Rattle.rows.specs.declared.Trial.{Trial}
use Rattle.std.specs.Prelude.{Option, Some, None}
use Rattle.operations.specs.declared.Told.{Told}
use Rattle.std.specs.List.{list_all, range_with_len}
use Rattle.rows.specs.Rows.{trial_at, trial_or_none, told_row, held_row, held_told, same_row, one_rows, near_row, near_rows, nearer_row, nearest_rows}
use Rattle.record.specs.Widths.{live_width}

-- what a run at place b holds is told so
pub told_held : (t d : Trial) (l : List ℕ) (b : ℕ) → told_row t d (held_told l b) ≡ held_row l b t d
unfolding numbers_from
told_held t d l b = simp add_assoc

-- what was found held is what the run holds
pub held_is : (h : Bool) (t v : Told) → Some t ≡ pick h (Some v) None → (h ≡ true) × (t ≡ v)
held_is true t v e = (refl, cc)
held_is false t v e = cc

-- n numbers read one by one
pub numbers_by : (l : List ℕ) (b a n : ℕ) → map (λ (k : ℕ). get_or l (b + k) 0) (range_with_len a n) ≡ numbers_from l (b + a) n
unfolding numbers_from
numbers_by l b a zero = refl
numbers_by l b a (suc n) = ap {B = List ℕ} (λ (x : List ℕ). get_or l (b + a) 0 ∷ x) (numbers_by l b (a + 1) n ∙ ap (λ (p : ℕ). numbers_from l p n) (omega arith))

-- a test of each of n rows, by their numbers
pub one_rows_by : (l : List ℕ) (b k a n : ℕ) → list_all (λ (i : ℕ). same_row l (b + live_width * i) k) (range_with_len a n) ≡ one_rows l (b + live_width * a) n k
unfolding one_rows
one_rows_by l b k a zero = refl
one_rows_by l b k a (suc n) =
    let next : b + live_width * (a + 1) ≡ b + live_width * a + live_width = omega arith in
    ap (λ (x : Bool). same_row l (b + live_width * a) k && x) (one_rows_by l b k (a + 1) n ∙ ap (λ (p : ℕ). one_rows l p n k) next)

-- what is left of the walk from row i on is the whole
module _ (l : List ℕ) (b n i : ℕ) (d whole : Option Trial) (inv : nearest_rows d l (b + live_width * i) (n - i) ≡ whole) where
  abbrev near : List ℕ → Option Trial
  near = foldl (λ (x : Option Trial) (p : ℕ). nearer_row l p x) d

  pub near_on : i < n → nearest_rows (nearer_row l (b + live_width * i) d) l (b + live_width * (i + 1)) (n - (i + 1)) ≡ whole
  unfolding nearest_rows
  near_on h = walk_on (λ (p : ℕ). p + live_width) near (b + live_width * i) (n - i) whole inv (b + live_width * (i + 1)) (n - (i + 1)) (omega arith) (omega arith)

  pub near_end : n ≤ i → d ≡ whole
  unfolding nearest_rows
  near_end h = walk_end (λ (p : ℕ). p + live_width) near (b + live_width * i) (n - i) whole inv (omega arith)

-- the same by trials, none of which has number 0
pub near_by : (l : List ℕ) (b : ℕ) (d : Option Trial) → trial_or_none (nearer_row l b d) ≡ near_row l b (trial_or_none d)
near_by l b d = go (multi_at l b)
  where
    go : (m : Bool) → trial_or_none (pick m (Some (trial_at l b)) d) ≡ pick m (trial_at l b) (trial_or_none d)
    go true = refl
    go false = refl

pub near_rows_by : (l : List ℕ) (b n : ℕ) (d : Option Trial) → trial_or_none (nearest_rows d l b n) ≡ near_rows (trial_or_none d) l b n
unfolding nearest_rows near_rows
near_rows_by l b zero d = refl
near_rows_by l b (suc n) d = near_rows_by l (b + live_width) n (nearer_row l b d) ∙ ap (λ (x : Trial). near_rows x l (b + live_width) n) (near_by l b d)

-- what the walks give, by the transactions that stand in the rows
abbrev pub same_one : ℕ → Waiting → Bool
same_one k w = pick (multi w.fragment) (eqb w.fragment.coordinator k) true

pub one_rows_lem : (l : List ℕ) (b n k : ℕ) → one_rows l b n k ≡ every (same_one k) (waiting_of l b n)
unfolding one_rows waiting_of fragment_at multi
one_rows_lem l b zero k = refl
one_rows_lem l b (suc n) k = ap (λ (x : Bool). same_row l b k && x) (one_rows_lem l (b + live_width) n k)

abbrev pub trial_of : Waiting → Trial
trial_of w = record { number = w.number; attempt = w.attempt }

-- the transaction of a row, read back behind the rows of A and before those of B
pub trial_back : (row : List ℕ) (A : List Waiting) (t : Waiting) (B : List Waiting) (b : ℕ) → All Eight A → Eight t → live_width * length A ≡ b → trial_at (over row (all_rows (A ++ t ∷ B))) b ≡ trial_of t
trial_back row A t B b ea et eb = λ i. record { number = number_back row A t B b ea et eb i; attempt = attempt_back row A t B b ea et eb i }

abbrev pub near_one : Trial → Waiting → Trial
near_one d w = pick (multi w.fragment) (trial_of w) d

pub near_rows_lem : (l : List ℕ) (b n : ℕ) (d : Trial) → near_rows d l b n ≡ foldl near_one d (waiting_of l b n)
unfolding near_rows waiting_of fragment_at multi
near_rows_lem l b zero d = refl
near_rows_lem l b (suc n) d = near_rows_lem l (b + live_width) n (near_row l b d)

-- a row that is laid whole
pub laid_whole : (w : List ℕ) (n : ℕ) → length w ≡ n → numbers_from w 0 n ≡ w
laid_whole w n e = ap (numbers_from w 0) (sym e) ∙ numbers_whole w

pub laid_row : (row row' w v : List ℕ) (at n : ℕ) → row' ≡ sets row at (numbers_from w 0 n) → length w ≡ n → w ≡ v → row' ≡ sets row at v
laid_row row row' w v at n e l h = e ∙ ap (sets row at) (laid_whole w n l ∙ h)
