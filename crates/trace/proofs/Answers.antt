-- The line of an answer is read off the room that holds it.
use Prim.Native.Nat.{ℕ, ◌+◌, ◌-◌, ◌*◌, ◌≤◌, min}
use native.Mathlib.Omega.{arith}
use mathlib.Core.Path.{◌≡◌, refl, sym, ap, ◌∙◌}
use mathlib.Core.List.{List, [], ◌∷◌, ◌++◌, append_assoc}
use lib.ListN.{length, get_or, take, drop, replicate, length-append, length-take}
use lib.Seq.{get_or_at, get_or-append-add, take-append-add}
use Rattle.model.specs.Limits.{most_operations, answer_words}
use Rattle.model.specs.Transactions.{Answer, answer, words, all_words, filled}
use Rattle.trace.specs.Text.{decimal_by, decimal, fields_from, fields, line_from, line_e, told_from, line_a, answer_line, line_c}

-- the fields of a list that stands in a row
fields_at : (p ns r : List ℕ) (b : ℕ) → length p ≡ b → fields_from (p ++ (ns ++ r)) b (length ns) ≡ fields ns
unfolding fields_from fields
fields_at p [] r b e = refl
fields_at p (n ∷ ns) r b e =
    let here : get_or (p ++ n ∷ (ns ++ r)) b 0 ≡ n = get_or_at p n (ns ++ r) 0 b e in
    let whole : (p ++ (n ∷ [])) ++ (ns ++ r) ≡ p ++ n ∷ (ns ++ r) = append_assoc p (n ∷ []) (ns ++ r) in
    let more : length (p ++ (n ∷ [])) ≡ b + 1 = length-append p (n ∷ []) ∙ ap (λ (x : ℕ). x + 1) e in
    let rest : fields_from (p ++ n ∷ (ns ++ r)) (b + 1) (length ns) ≡ fields ns = ap (λ (x : List ℕ). fields_from x (b + 1) (length ns)) (sym whole) ∙ fields_at (p ++ (n ∷ [])) ns r (b + 1) more in
    λ i. 32 ∷ (decimal (here i) ++ rest i)

-- behind x, which stands behind p
fields_in : (p x ns r : List ℕ) (b k : ℕ) → length p ≡ b → length x ≡ k → fields_from (p ++ (x ++ (ns ++ r))) (b + k) (length ns) ≡ fields ns
fields_in p x ns r b k e f =
    let z : length (p ++ x) ≡ b + k = omega (arith, length-append p x) in
    ap (λ (y : List ℕ). fields_from y (b + k) (length ns)) (sym (append_assoc p x (ns ++ r))) ∙ fields_at (p ++ x) ns r (b + k) z

fields_both : (x y : List ℕ) → fields x ++ fields y ≡ fields (x ++ y)
unfolding fields
fields_both [] y = refl
fields_both (n ∷ x) y = ap {B = List ℕ} (λ (l : List ℕ). 32 ∷ l) (append_assoc (decimal n) (fields x) (fields y) ∙ ap (λ (l : List ℕ). decimal n ++ l) (fields_both x y))

length-words : (a : Answer) → length (words a) ≡ 16
unfolding words
length-words a =
    let ns : List ℕ = take 8 (a.outcome.numbers ++ replicate 8 0) in
    omega (arith, length-append ns (a.attempt ∷ a.dependence_attempt ∷ replicate 2 0), length-take 8 (a.outcome.numbers ++ replicate 8 0), length-append a.outcome.numbers (replicate {A = ℕ} 8 0))

length-all : (l : List Answer) → length (all_words l) ≡ answer_words * length l
unfolding all_words
length-all [] = omega arith
length-all (a ∷ l) = length-append (words a) (all_words l) ∙ omega (arith, length-words a, length-all l)

all_split : (l : List Answer) (a : Answer) (m : List Answer) → all_words (l ++ (a ∷ m)) ≡ all_words l ++ (words a ++ all_words m)
unfolding all_words
all_split [] a m = refl
all_split (x ∷ l) a m = ap (λ (y : List ℕ). words x ++ y) (all_split l a m) ∙ sym (append_assoc (words x) (all_words l) (words a ++ all_words m))

-- what is printed of an answer: the first two of its words, its attempts, and what it tells
abbrev whose : Answer → List ℕ
whose a = a.number ∷ a.dependence ∷ []

abbrev tries : Answer → List ℕ
tries a = a.attempt ∷ a.dependence_attempt ∷ []

abbrev tells : Answer → List ℕ
tells a = a.outcome.place ∷ length a.outcome.numbers ∷ a.outcome.numbers

module _ (a : Answer) (h : length a.outcome.numbers ≤ 8) where
  unused : List ℕ
  unused = take (8 - length a.outcome.numbers) (replicate 8 0)

  words_are : words a ≡ whose a ++ (tells a ++ (unused ++ (tries a ++ replicate 2 0)))
  unfolding words unused
  words_are =
      let ns : List ℕ = a.outcome.numbers in
      let k : ℕ = 8 - length ns in
      let e : 8 ≡ length ns + k = omega arith in
      let cut : take 8 (ns ++ replicate 8 0) ≡ ns ++ take k (replicate 8 0) = ap (λ (x : ℕ). take x (ns ++ replicate 8 0)) e ∙ take-append-add ns (replicate 8 0) k in
      ap {B = List ℕ} (λ (x : List ℕ). whose a ++ (a.outcome.place ∷ length ns ∷ x)) (ap (λ (x : List ℕ). x ++ (tries a ++ replicate 2 0)) cut ∙ append_assoc ns (take k (replicate 8 0)) (tries a ++ replicate 2 0))

  before_tries : length (whose a ++ (tells a ++ unused)) ≡ 12
  unfolding unused
  before_tries =
      let k : ℕ = 8 - length a.outcome.numbers in
      omega (arith, length-append a.outcome.numbers (take k (replicate {A = ℕ} 8 0)), length-take k (replicate {A = ℕ} 8 0))

  -- wherever it stands
  stands : (p r : List ℕ) (i : ℕ) → length p ≡ answer_words * i → line_a (p ++ (whose a ++ (tells a ++ (unused ++ (tries a ++ r))))) i ≡ answer_line a
  unfolding line_a told_from answer_line
  stands p r i e =
      let b : ℕ = answer_words * i in
      let room : List ℕ = p ++ (whose a ++ (tells a ++ (unused ++ (tries a ++ r)))) in
      let count : get_or room (b + 3) 0 ≡ length a.outcome.numbers = ap (λ (x : ℕ). get_or room (x + 3) 0) (sym e) ∙ get_or-append-add p (whose a ++ (tells a ++ (unused ++ (tries a ++ r)))) 3 0 in
      let n : 2 + min (get_or room (b + 3) 0) most_operations ≡ length (tells a) = omega arith in
      let first : fields_from room b 2 ≡ fields (whose a) = fields_at p (whose a) (tells a ++ (unused ++ (tries a ++ r))) b e in
      let split : whose a ++ (tells a ++ (unused ++ (tries a ++ r))) ≡ (whose a ++ (tells a ++ unused)) ++ (tries a ++ r) = ap (λ (x : List ℕ). whose a ++ x) (sym (append_assoc (tells a) unused (tries a ++ r))) in
      let second : fields_from room (b + 12) 2 ≡ fields (tries a) = ap (λ (x : List ℕ). fields_from (p ++ x) (b + 12) 2) split ∙ fields_in p (whose a ++ (tells a ++ unused)) (tries a) r b 12 e before_tries in
      let third : fields_from room (b + 2) (2 + min (get_or room (b + 3) 0) most_operations) ≡ fields (tells a) = ap (fields_from room (b + 2)) n ∙ fields_in p (whose a) (tells a) (unused ++ (tries a ++ r)) b 2 e refl in
      (λ k. 97 ∷ ((first k ++ (second k ++ third k)) ++ (10 ∷ [])))
      ∙ ap {B = List ℕ} (λ (x : List ℕ). 97 ∷ (x ++ (10 ∷ []))) (ap (λ (x : List ℕ). fields (whose a) ++ x) (fields_both (tries a) (tells a)) ∙ fields_both (whose a) (tries a ++ tells a))

  -- "they fill the lent answer room from its start": the answer behind l
  pub answer_line_lem : (l m : List Answer) (room : List ℕ) (i : ℕ) → length l ≡ i → line_a (filled (l ++ (a ∷ m)) room) i ≡ answer_line a
  answer_line_lem l m room i e =
      let rest : List ℕ = all_words m ++ drop (length (all_words (l ++ (a ∷ m)))) room in
      let split : filled (l ++ (a ∷ m)) room ≡ all_words l ++ (whose a ++ (tells a ++ (unused ++ (tries a ++ (replicate 2 0 ++ rest))))) =
      ap (λ (x : List ℕ). x ++ drop (length (all_words (l ++ (a ∷ m)))) room) (all_split l a m) ∙ append_assoc (all_words l) (words a ++ all_words m) _
      ∙ ap (λ (x : List ℕ). all_words l ++ x) (append_assoc (words a) (all_words m) _ ∙ ap (λ (x : List ℕ). x ++ rest) words_are
      ∙ ap (λ (x : List ℕ). whose a ++ x) (append_assoc (tells a) (unused ++ (tries a ++ replicate 2 0)) rest ∙ ap (λ (x : List ℕ). tells a ++ x) (append_assoc unused (tries a ++ replicate 2 0) rest))) in
      ap (λ (x : List ℕ). line_a x i) split ∙ stands (all_words l) (replicate 2 0 ++ rest) i (length-all l ∙ ap (λ (x : ℕ). answer_words * x) e)

-- Document 01's own lines, computed, with 02's attempts: `e 1 0`, `a 1 0 1 0 0 1 17`, `c 0 19`; and TOP's ten digits

pub first_line : line_e 1 0 ≡ 101 ∷ 32 ∷ 49 ∷ 32 ∷ 48 ∷ 10 ∷ []
unfolding line_e line_from fields_from decimal decimal_by
first_line = refl

pub answer_17 : answer_line (answer 1 0 1 0 (record { place = 0; numbers = 17 ∷ [] })) ≡ 97 ∷ 32 ∷ 49 ∷ 32 ∷ 48 ∷ 32 ∷ 49 ∷ 32 ∷ 48 ∷ 32 ∷ 48 ∷ 32 ∷ 49 ∷ 32 ∷ 49 ∷ 55 ∷ 10 ∷ []
unfolding answer_line fields decimal decimal_by
answer_17 = refl

pub last_line : line_c 0 19 ≡ 99 ∷ 32 ∷ 48 ∷ 32 ∷ 49 ∷ 57 ∷ 10 ∷ []
unfolding line_c line_from fields_from decimal decimal_by
last_line = refl

pub top_digits : decimal 4294967295 ≡ 52 ∷ 50 ∷ 57 ∷ 52 ∷ 57 ∷ 54 ∷ 55 ∷ 50 ∷ 57 ∷ 53 ∷ []
unfolding decimal decimal_by
top_digits = refl
