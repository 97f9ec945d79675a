-- Laws of decimal digits: they say the number, without a leading zero; how many there are, and how they are written from the last one on.
use Prim.Native.Nat.{ℕ, zero, suc, ◌+◌, ◌-◌, ◌*◌, ◌/◌, ◌%◌, ◌^◌, ◌≤◌, ◌<◌}
use native.Mathlib.Omega.{arith}
use native.Mathlib.Numerals.{add-one}
use native.Mathlib.Nat.{pow-suc}
use mathlib.Core.Path.{◌≡◌, refl, sym, ap, ◌∙◌}
use mathlib.Core.Bool.{Bool, true, false, ◌&&◌}
use mathlib.Core.List.{List, [], ◌∷◌, ◌++◌}
use lib.Dec.{leb, ltb}
use lib.ListN.{length, get_or, get_or-append}
use borrow.Author.Tests.{ltb-true, ltb-false, lt-ltb, le-ltb, le-leb}
use Rattle.model.specs.Refusals.{every}
use Rattle.trace.specs.Text.{decimal_by, decimal, value_after, value}

-- the two cases

small : (f n : ℕ) → n < 10 → decimal_by f n ≡ (48 + n % 10) ∷ []
unfolding decimal_by
small zero n h = refl
small (suc f) n h = rw (lt-ltb n 10 h)

large : (f n : ℕ) → 10 ≤ n → decimal_by (suc f) n ≡ decimal_by f (n / 10) ++ ((48 + n % 10) ∷ [])
unfolding decimal_by
large f n h = rw (le-ltb n 10 h)

length_snoc : (l : List ℕ) (d : ℕ) → length (l ++ (d ∷ [])) ≡ suc (length l)
length_snoc [] d = refl
length_snoc (a ∷ l) d = ap suc (length_snoc l d)

-- one digit and at most f more
pub length_by : (f n : ℕ) → (1 ≤ length (decimal_by f n)) × (length (decimal_by f n) ≤ suc f)
unfolding decimal_by
length_by zero n = (omega arith, omega arith)
length_by (suc f) n = go (length_by f (n / 10)) (ltb n 10) refl
  where
    go : (1 ≤ length (decimal_by f (n / 10))) × (length (decimal_by f (n / 10)) ≤ suc f) → (b : Bool) → ltb n 10 ≡ b → (1 ≤ length (decimal_by (suc f) n)) × (length (decimal_by (suc f) n) ≤ suc (suc f))
    go r true e = let s : length (decimal_by (suc f) n) ≡ 1 = ap length (small (suc f) n (ltb-true n 10 e)) in (omega arith, omega arith)
    go r false e =
        let s : length (decimal_by (suc f) n) ≡ suc (length (decimal_by f (n / 10))) = ap length (large f n (ltb-false n 10 e)) ∙ length_snoc (decimal_by f (n / 10)) (48 + n % 10) in
        (omega arith, omega (arith, r.1))

pub length-decimal : (n : ℕ) → length (decimal n) ≤ 10
unfolding decimal
length-decimal n = (length_by 9 n).1

-- the last k digits
unfoldable pub digits : ℕ → ℕ → List ℕ
digits zero n = []
digits (suc k) n = digits k (n / 10) ++ ((48 + n % 10) ∷ [])

pub length_digits : (k n : ℕ) → length (digits k n) ≡ k
unfolding digits
length_digits zero n = refl
length_digits (suc k) n = length_snoc (digits k (n / 10)) (48 + n % 10) ∙ ap suc (length_digits k (n / 10))

digits_suc : (k n : ℕ) → digits (suc k) n ≡ digits k (n / 10) ++ ((48 + n % 10) ∷ [])
unfolding digits
digits_suc k n = refl

digits_one : (n : ℕ) → digits 1 n ≡ (48 + n % 10) ∷ []
unfolding digits
digits_one n = refl

digits_by : (f n : ℕ) → decimal_by f n ≡ digits (length (decimal_by f n)) n
unfolding decimal_by
digits_by zero n = sym (digits_one n)
digits_by (suc f) n = go (digits_by f (n / 10)) (ltb n 10) refl
  where
    go : decimal_by f (n / 10) ≡ digits (length (decimal_by f (n / 10))) (n / 10) → (b : Bool) → ltb n 10 ≡ b → decimal_by (suc f) n ≡ digits (length (decimal_by (suc f) n)) n
    go r true e =
        let s : decimal_by (suc f) n ≡ (48 + n % 10) ∷ [] = small (suc f) n (ltb-true n 10 e) in
        s ∙ sym (digits_one n) ∙ ap (λ (x : List ℕ). digits (length x) n) (sym s)
    go r false e =
        let s : decimal_by (suc f) n ≡ decimal_by f (n / 10) ++ ((48 + n % 10) ∷ []) = large f n (ltb-false n 10 e) in
        s ∙ ap (λ (x : List ℕ). x ++ ((48 + n % 10) ∷ [])) r ∙ sym (digits_suc (length (decimal_by f (n / 10))) n)
        ∙ ap (λ (x : ℕ). digits x n) (sym (length_snoc (decimal_by f (n / 10)) (48 + n % 10))) ∙ ap (λ (x : List ℕ). digits (length x) n) (sym s)

pub digits_decimal : (n : ℕ) → decimal n ≡ digits (length (decimal n)) n
unfolding decimal
digits_decimal n = digits_by 9 n

-- Counting them: k - 1 are counted, and m is what is left of n

pub record Counting (n k m : ℕ) : Type 0 where
  pub fuel : ℕ
  pub sum : fuel + k ≡ 10
  pub below : m < 10 ^ suc fuel
  pub rest : length (decimal_by fuel m) + k ≡ suc (length (decimal n))

pub counting_start : (n : ℕ) → n < 4294967296 → Counting n 1 n
unfolding decimal
counting_start n h = record { fuel = 9; sum = refl; below = omega arith; rest = add-one (length (decimal_by 9 n)) }

pub counting_turn : (n k m : ℕ) → 10 ≤ m → Counting n k m → Counting n (k + 1) (m / 10)
counting_turn n k m h c = go c.fuel c.sum c.below c.rest
  where
    go : (f : ℕ) → f + k ≡ 10 → m < 10 ^ suc f → length (decimal_by f m) + k ≡ suc (length (decimal n)) → Counting n (k + 1) (m / 10)
    go zero s b r = absurd (omega arith)
    go (suc f) s b r =
        let x : ℕ = 10 ^ suc f in
        let p : 10 ^ suc (suc f) ≡ x * 10 = pow-suc 10 (suc f) in
        let l : length (decimal_by (suc f) m) ≡ suc (length (decimal_by f (m / 10))) = ap length (large f m h) ∙ length_snoc (decimal_by f (m / 10)) (48 + m % 10) in
        record { fuel = f; sum = omega arith; below = omega arith; rest = omega arith }

pub counting_end : (n k m : ℕ) → m < 10 → Counting n k m → k ≡ length (decimal n)
counting_end n k m h c =
    let s : length (decimal_by c.fuel m) ≡ 1 = ap length (small c.fuel m h) in
    let r : length (decimal_by c.fuel m) + k ≡ suc (length (decimal n)) = c.rest in
    omega arith

-- They are right: read back they say the number, each is a digit, and the first is no 0 unless the number is 0

value_snoc : (a : ℕ) (l : List ℕ) (d : ℕ) → value_after a (l ++ (d ∷ [])) ≡ 10 * value_after a l + (d - 48)
unfolding value_after
value_snoc a [] d = refl
value_snoc a (x ∷ l) d = value_snoc (10 * a + (x - 48)) l d

value_one : (d : ℕ) → value (d ∷ []) ≡ d - 48
unfolding value_after
value_one d = omega arith

value_by : (f n : ℕ) → n < 10 ^ suc f → value (decimal_by f n) ≡ n
value_by zero n h = ap value (small zero n (omega arith)) ∙ value_one (48 + n % 10) ∙ omega arith
value_by (suc f) n h =
    let x : ℕ = 10 ^ suc f in
    let p : 10 ^ suc (suc f) ≡ x * 10 = pow-suc 10 (suc f) in
    go (value_by f (n / 10) (omega arith)) (ltb n 10) refl
  where
    go : value (decimal_by f (n / 10)) ≡ n / 10 → (b : Bool) → ltb n 10 ≡ b → value (decimal_by (suc f) n) ≡ n
    go r true e =
        let m : n < 10 = ltb-true n 10 e in
        ap value (small (suc f) n m) ∙ value_one (48 + n % 10) ∙ omega arith
    go r false e =
        ap value (large f n (ltb-false n 10 e)) ∙ value_snoc 0 (decimal_by f (n / 10)) (48 + n % 10) ∙ omega arith

pub value_decimal : (n : ℕ) → n < 4294967296 → value (decimal n) ≡ n
unfolding decimal
value_decimal n h = value_by 9 n (omega arith)

leads_by : (f n : ℕ) → 1 ≤ n → n < 10 ^ suc f → 49 ≤ get_or (decimal_by f n) 0 0
leads_by zero n l h =
    let s : get_or (decimal_by zero n) 0 0 ≡ 48 + n % 10 = ap (λ (x : List ℕ). get_or x 0 0) (small zero n (omega arith)) in
    omega arith
leads_by (suc f) n l h =
    let x : ℕ = 10 ^ suc f in
    let p : 10 ^ suc (suc f) ≡ x * 10 = pow-suc 10 (suc f) in
    go (λ m. leads_by f (n / 10) m (omega arith)) (ltb n 10) refl
  where
    go : (1 ≤ n / 10 → 49 ≤ get_or (decimal_by f (n / 10)) 0 0) → (b : Bool) → ltb n 10 ≡ b → 49 ≤ get_or (decimal_by (suc f) n) 0 0
    go r true e =
        let m : n < 10 = ltb-true n 10 e in
        let s : get_or (decimal_by (suc f) n) 0 0 ≡ 48 + n % 10 = ap (λ (x : List ℕ). get_or x 0 0) (small (suc f) n m) in
        omega arith
    go r false e =
        let m : 10 ≤ n = ltb-false n 10 e in
        let s : get_or (decimal_by (suc f) n) 0 0 ≡ get_or (decimal_by f (n / 10)) 0 0 =
        ap (λ (y : List ℕ). get_or y 0 0) (large f n m) ∙ get_or-append (decimal_by f (n / 10)) ((48 + n % 10) ∷ []) 0 0 (length_by f (n / 10)).0 in
        let q : 49 ≤ get_or (decimal_by f (n / 10)) 0 0 = r (omega arith) in
        omega arith

pub no_leading_zero : (n : ℕ) → 1 ≤ n → n < 4294967296 → 49 ≤ get_or (decimal n) 0 0
unfolding decimal
no_leading_zero n l h = leads_by 9 n l (omega arith)

pub zero_alone : decimal 0 ≡ 48 ∷ []
unfolding decimal
zero_alone = small 9 0 (omega arith)

abbrev pub is_digit : ℕ → Bool
is_digit d = leb 48 d && leb d 57

every_snoc : (l : List ℕ) (d : ℕ) → every is_digit l ≡ true → is_digit d ≡ true → every is_digit (l ++ (d ∷ [])) ≡ true
every_snoc [] d h k = rw k
every_snoc (a ∷ l) d h k = go (λ g. every_snoc l d g k) (is_digit a) refl h
  where
    go : (every is_digit l ≡ true → every is_digit (l ++ (d ∷ [])) ≡ true) → (b : Bool) → is_digit a ≡ b → (b && every is_digit l) ≡ true → (is_digit a && every is_digit (l ++ (d ∷ []))) ≡ true
    go r true e h = rw e (r h)
    go r false e h = rw e h

digit_is : (n : ℕ) → is_digit (48 + n % 10) ≡ true
digit_is n = rw (le-leb 48 (48 + n % 10) (omega arith), le-leb (48 + n % 10) 57 (omega arith))

all_by : (f n : ℕ) → every is_digit (decimal_by f n) ≡ true
unfolding decimal_by
all_by zero n = every_snoc [] (48 + n % 10) refl (digit_is n)
all_by (suc f) n = go (all_by f (n / 10)) (ltb n 10) refl
  where
    go : every is_digit (decimal_by f (n / 10)) ≡ true → (b : Bool) → ltb n 10 ≡ b → every is_digit (decimal_by (suc f) n) ≡ true
    go r true e = ap (every is_digit) (small (suc f) n (ltb-true n 10 e)) ∙ every_snoc [] (48 + n % 10) refl (digit_is n)
    go r false e = ap (every is_digit) (large f n (ltb-false n 10 e)) ∙ every_snoc (decimal_by f (n / 10)) (48 + n % 10) r (digit_is n)

pub all_digits : (n : ℕ) → every is_digit (decimal n) ≡ true
unfolding decimal
all_digits n = all_by 9 n
