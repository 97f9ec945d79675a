-- Laws of runs of stores and of lines.
use Prim.Native.Nat.{ℕ, zero, suc, ◌+◌, ◌-◌, ◌*◌, ◌/◌, ◌%◌, ◌≤◌, ◌<◌, min}
use native.Mathlib.Omega.{arith}
use native.Mathlib.Numerals.{add-one}
use mathlib.Core.Path.{◌≡◌, refl, sym, ap, ◌∙◌}
use mathlib.Core.List.{List, [], ◌∷◌, ◌++◌}
use lib.ListN.{length, get_or, set, drop, length-append, drop_of_length-le}
use lib.Seq.{sets, set_comm, drop-cons}
use Rattle.model.specs.Limits.{most_operations, answer_words}
use Rattle.trace.specs.Format.{word_at, words_from}
use Rattle.trace.specs.Text.{decimal, fields_from, line_from, line_e, told_from, line_a, line_c}
use Rattle.trace.proofs.Digits.{digits, length_digits, digits_decimal, length-decimal}

-- two runs, one behind the other
pub sets_then : (l : List ℕ) (i : ℕ) (ws vs : List ℕ) → sets (sets l i ws) (i + length ws) vs ≡ sets l i (ws ++ vs)
sets_then l i [] vs = let z : i + 0 ≡ i = omega arith in ap (λ (x : ℕ). sets l x vs) z
sets_then l i (a ∷ ws) vs =
    let z : i + suc (length ws) ≡ suc i + length ws = omega arith in
    ap (λ (x : ℕ). sets (sets (set l i a) (suc i) ws) x vs) z ∙ sets_then (set l i a) (suc i) ws vs

-- a store behind a run may come before it
sets_late : (l : List ℕ) (i : ℕ) (ws : List ℕ) (j w : ℕ) → i + length ws ≤ j → sets (set l j w) i ws ≡ set (sets l i ws) j w
sets_late l i [] j w h = refl
sets_late l i (a ∷ ws) j w h = ap (λ (x : List ℕ). sets x (suc i) ws) (set_comm l j i w a (λ e. omega arith)) ∙ sets_late (set l i a) (suc i) ws j w (omega arith)

-- one turn of copying cells: i of n words are copied
pub copy_turn : (cells cells' bytes all : List ℕ) (n i w : ℕ) → i < n → w ≡ word_at bytes (4 + i) → cells' ≡ set cells i w → sets cells i (words_from bytes (4 + i) (n - i)) ≡ all
    → sets cells' (i + 1) (words_from bytes (4 + (i + 1)) (n - (i + 1))) ≡ all
unfolding words_from
copy_turn cells cells' bytes all n i w h ew es inv =
    let e : n - i ≡ suc (n - (i + 1)) = omega arith in
    let p : 4 + (i + 1) ≡ 4 + i + 1 = omega arith in
    let q : i + 1 ≡ suc i = omega arith in
    ap (λ (x : List ℕ). sets x (i + 1) (words_from bytes (4 + (i + 1)) (n - (i + 1)))) (es ∙ ap (set cells i) ew)
    ∙ (λ k. sets (set cells i (word_at bytes (4 + i))) (q k) (words_from bytes (p k) (n - (i + 1))))
    ∙ ap (λ (x : ℕ). sets cells i (words_from bytes (4 + i) x)) (sym e) ∙ inv

pub copy_start : (cells bytes : List ℕ) (n : ℕ) → sets cells 0 (words_from bytes (4 + 0) (n - 0)) ≡ sets cells 0 (words_from bytes 4 n)
copy_start cells bytes n = let z : n - 0 ≡ n = omega arith in ap (λ (x : ℕ). sets cells 0 (words_from bytes 4 x)) z

pub copy_end : (cells bytes all : List ℕ) (n i : ℕ) → n ≤ i → sets cells i (words_from bytes (4 + i) (n - i)) ≡ all → cells ≡ all
unfolding words_from
copy_end cells bytes all n i h inv =
    let e : n - i ≡ 0 = omega arith in
    sym (ap (λ (x : ℕ). sets cells i (words_from bytes (4 + i) x)) e) ∙ inv

-- one turn of writing a number: i digits are left, those of m
pub digits_turn : (b b' all : List ℕ) (at i m : ℕ) → 0 < i → b' ≡ set b (at + (i - 1)) (48 + m % 10) → sets b at (digits i m) ≡ all → sets b' at (digits (i - 1) (m / 10)) ≡ all
unfolding digits
digits_turn b b' all at i m h es inv =
    let j : ℕ = i - 1 in
    let e : suc j ≡ i = omega arith in
    let ws : List ℕ = digits j (m / 10) in
    let l : length ws ≡ j = length_digits j (m / 10) in
    ap (λ (x : List ℕ). sets x at ws) es ∙ sets_late b at ws (at + j) (48 + m % 10) (omega arith)
    ∙ ap (λ (x : ℕ). set (sets b at ws) (at + x) (48 + m % 10)) (sym l) ∙ sets_then b at ws ((48 + m % 10) ∷ [])
    ∙ ap (λ (x : ℕ). sets b at (digits x m)) e ∙ inv

pub digits_start : (b : List ℕ) (at k n : ℕ) → k ≡ length (decimal n) → sets b at (digits k n) ≡ sets b at (decimal n)
digits_start b at k n e = ap (λ (x : ℕ). sets b at (digits x n)) e ∙ ap (sets b at) (sym (digits_decimal n))

pub digits_end : (b all : List ℕ) (at i m : ℕ) → i ≡ 0 → sets b at (digits i m) ≡ all → b ≡ all
unfolding digits
digits_end b all at i m e inv = sym (ap (λ (x : ℕ). sets b at (digits x m)) e) ∙ inv

-- one turn of writing fields: j of n are written, and the next stands at p
module _ (row : List ℕ) (base n j p v : ℕ) (h : j < n) (ev : v ≡ get_or row (base + j) 0) where
  next : fields_from row (base + j) (n - j) ≡ (32 ∷ decimal v) ++ fields_from row (base + (j + 1)) (n - (j + 1))
  unfolding fields_from
  next =
      let e : n - j ≡ suc (n - (j + 1)) = omega arith in
      let q : base + j + 1 ≡ base + (j + 1) = omega arith in
      ap (fields_from row (base + j)) e ∙ (λ k. 32 ∷ (decimal (sym ev k) ++ fields_from row (q k) (n - (j + 1))))

  pub fields_place : (p' all : ℕ) → p' ≡ p + 1 + length (decimal v) → p + length (fields_from row (base + j) (n - j)) ≡ all → p' + length (fields_from row (base + (j + 1)) (n - (j + 1))) ≡ all
  fields_place p' all ep inv = omega (arith, ap length next, length-append (32 ∷ decimal v) (fields_from row (base + (j + 1)) (n - (j + 1))))

  pub fields_turn : (b b' b'' all : List ℕ) (p' : ℕ) → b' ≡ set b p 32 → b'' ≡ sets b' (p + 1) (decimal v) → p' ≡ p + 1 + length (decimal v) → sets b p (fields_from row (base + j) (n - j)) ≡ all
      → sets b'' p' (fields_from row (base + (j + 1)) (n - (j + 1))) ≡ all
  fields_turn b b' b'' all p' e1 e2 ep inv =
      let ws : List ℕ = 32 ∷ decimal v in
      let vs : List ℕ = fields_from row (base + (j + 1)) (n - (j + 1)) in
      let q : p' ≡ p + length ws = omega arith in
      let w : b'' ≡ sets b p ws = e2 ∙ ap (λ (x : List ℕ). sets x (p + 1) (decimal v)) e1 ∙ ap (λ (x : ℕ). sets (set b p 32) x (decimal v)) (add-one p) in
      (λ k. sets (w k) (q k) vs) ∙ sets_then b p ws vs ∙ ap (sets b p) (sym next) ∙ inv

pub fields_start : (row b : List ℕ) (base n p : ℕ) → sets b p (fields_from row (base + 0) (n - 0)) ≡ sets b p (fields_from row base n)
fields_start row b base n p =
    let a : base + 0 ≡ base = omega arith in
    let z : n - 0 ≡ n = omega arith in
    λ k. sets b p (fields_from row (a k) (z k))

pub fields_first : (row : List ℕ) (base n p : ℕ) → p + length (fields_from row (base + 0) (n - 0)) ≡ p + length (fields_from row base n)
fields_first row base n p =
    let a : base + 0 ≡ base = omega arith in
    let z : n - 0 ≡ n = omega arith in
    λ k. p + length (fields_from row (a k) (z k))

fields_none : (row : List ℕ) (base n j : ℕ) → n ≤ j → fields_from row (base + j) (n - j) ≡ []
unfolding fields_from
fields_none row base n j h = let e : n - j ≡ 0 = omega arith in ap (fields_from row (base + j)) e

pub fields_end : (row b all : List ℕ) (base n j p : ℕ) → n ≤ j → sets b p (fields_from row (base + j) (n - j)) ≡ all → b ≡ all
fields_end row b all base n j p h inv = sym (ap (sets b p) (fields_none row base n j h)) ∙ inv

pub fields_last : (row : List ℕ) (base n j p all : ℕ) → n ≤ j → p + length (fields_from row (base + j) (n - j)) ≡ all → p ≡ all
fields_last row base n j p all h inv = omega (arith, ap length (fields_none row base n j h))

-- a blank and at most ten digits a field
pub length_fields : (row : List ℕ) (b n : ℕ) → length (fields_from row b n) ≤ 11 * n
unfolding fields_from
length_fields row b zero = omega arith
length_fields row b (suc n) = omega (arith, length-append (decimal (get_or row b 0)) (fields_from row (b + 1) n), length-decimal (get_or row b 0), length_fields row (b + 1) n)

pub fields_near : (row : List ℕ) (b n p q : ℕ) → q ≡ p + length (fields_from row b n) → q ≤ p + 11 * n
fields_near row b n p q e = omega (arith, length_fields row b n)

-- two texts, one written behind the other
pub behind : (b b1 b2 x y : List ℕ) (at p q : ℕ) → p ≡ at + length x → b1 ≡ sets b at x → q ≡ p + length y → b2 ≡ sets b1 p y → (q ≡ at + length (x ++ y)) × (b2 ≡ sets b at (x ++ y))
behind b b1 b2 x y at p q ep e1 eq e2 = (omega (arith, length-append x y), e2 ∙ (λ k. sets (e1 k) (ep k) y) ∙ sets_then b at x y)

-- a letter, a text and the line's end
pub line_is : (letter : ℕ) (x b b1 b2 b3 : List ℕ) (at p : ℕ) → b1 ≡ set b at letter → p ≡ at + 1 + length x → b2 ≡ sets b1 (at + 1) x → b3 ≡ set b2 p 10
    → (p + 1 ≡ at + length (letter ∷ (x ++ (10 ∷ [])))) × (b3 ≡ sets b at (letter ∷ (x ++ (10 ∷ []))))
line_is letter x b b1 b2 b3 at p e1 ep e2 e3 =
    let f = behind b b1 b2 (letter ∷ []) x at (at + 1) p (omega arith) e1 ep e2 in
    behind b b2 b3 (letter ∷ x) (10 ∷ []) at p (p + 1) f.0 f.1 (omega arith) e3

pub length_line : (letter : ℕ) (row : List ℕ) (base n : ℕ) → length (line_from letter row base n) ≤ 11 * n + 2
unfolding line_from
length_line letter row base n = omega (arith, length-append (fields_from row base n) (10 ∷ []), length_fields row base n)

-- every line fits 160 bytes
pub length_e : (position number : ℕ) → length (line_e position number) ≤ 24
unfolding line_e
length_e position number = length_line 101 (position ∷ number ∷ []) 0 2

pub length_c : (cell content : ℕ) → length (line_c cell content) ≤ 24
unfolding line_c
length_c cell content = length_line 99 (cell ∷ content ∷ []) 0 2

-- an answer has two fields, two more and at most ten behind them
abbrev last_fields : List ℕ → ℕ → ℕ
last_fields room b = 2 + min (get_or room (b + 3) 0) most_operations

pub length-told : (room : List ℕ) (b : ℕ) → length (told_from room b) ≤ 154
unfolding told_from
length-told room b =
    omega (arith, length-append (fields_from room b 2) (fields_from room (b + 12) 2 ++ fields_from room (b + 2) (last_fields room b)), length-append (fields_from room (b + 12) 2) (fields_from room (b + 2) (last_fields room b)), length_fields room b 2, length_fields room (b + 12) 2, length_fields room (b + 2) (last_fields room b))

pub length_a : (room : List ℕ) (i : ℕ) → length (line_a room i) ≤ 156
unfolding line_a
length_a room i = omega (arith, length-append (told_from room (answer_words * i)) (10 ∷ []), length-told room (answer_words * i))

-- so does one that was written from a buffer's start, whichever answer it is of
pub fits_a : (room : List ℕ) (i n : ℕ) → n ≡ 0 + length (line_a room i) → n ≤ 156
fits_a room i n e = omega (arith, length_a room i)

-- one turn of writing a text: i of its bytes are written
pub text_turn : (b b' text all : List ℕ) (at i w : ℕ) → i < length text → w ≡ get_or text i 0 → b' ≡ set b (at + i) w → sets b (at + i) (drop i text) ≡ all → sets b' (at + (i + 1)) (drop (i + 1) text) ≡ all
text_turn b b' text all at i w h ew es inv =
    let p : at + (i + 1) ≡ suc (at + i) = omega arith in
    let q : i + 1 ≡ suc i = omega arith in
    (λ k. sets ((es ∙ ap (set b (at + i)) ew) k) (p k) (drop (q k) text)) ∙ ap (sets b (at + i)) (sym (drop-cons text i 0 h)) ∙ inv

pub text_start : (b text : List ℕ) (at : ℕ) → sets b (at + 0) (drop 0 text) ≡ sets b at text
text_start b text at = let z : at + 0 ≡ at = omega arith in ap (λ (x : ℕ). sets b x text) z

pub text_end : (b text all : List ℕ) (at i : ℕ) → length text ≤ i → sets b (at + i) (drop i text) ≡ all → b ≡ all
text_end b text all at i h inv = sym (ap (sets b (at + i)) (drop_of_length-le text h)) ∙ inv

-- the fields of an answer: with as many numbers as it says, at most eight
pub told_is : (room : List ℕ) (b at : ℕ) (l : List ℕ) {n p q r : ℕ} {l1 l2 l3 : List ℕ} → n ≡ last_fields room b
    → p ≡ at + length (fields_from room b 2) → l1 ≡ sets l at (fields_from room b 2)
    → q ≡ p + length (fields_from room (b + 12) 2) → l2 ≡ sets l1 p (fields_from room (b + 12) 2)
    → r ≡ q + length (fields_from room (b + 2) n) → l3 ≡ sets l2 q (fields_from room (b + 2) n)
    → (r ≡ at + length (told_from room b)) × (l3 ≡ sets l at (told_from room b))
unfolding told_from
told_is room b at l {n} {p} {q} {r} {l1} {l2} {l3} en ep e1 eq e2 er e3 =
    let z : fields_from room (b + 2) n ≡ fields_from room (b + 2) (last_fields room b) = ap (fields_from room (b + 2)) en in
    let f = behind l1 l2 l3 (fields_from room (b + 12) 2) (fields_from room (b + 2) (last_fields room b)) p q r eq e2 (er ∙ ap (λ (x : List ℕ). q + length x) z) (e3 ∙ ap (sets l2 q) z) in
    behind l l1 l3 (fields_from room b 2) (fields_from room (b + 12) 2 ++ fields_from room (b + 2) (last_fields room b)) at p r ep e1 f.0 f.1
