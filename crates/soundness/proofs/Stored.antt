-- A stored fragment asked where its words stand: its operations by threes, its unused places as words.
use Prim.Native.Nat.{ℕ, zero, suc, ◌+◌, ◌*◌, ◌-◌, ◌≤◌, ◌<◌}
use native.Mathlib.Omega.{arith}
use native.Mathlib.Nat.{add_assoc}
use native.Mathlib.Numerals.{add-one}
use mathlib.Core.Path.{◌≡◌, refl, sym, ap, ◌∙◌}
use mathlib.Core.Bool.{Bool, true, false, ◌&&◌, true≢false}
use mathlib.Core.List.{List, [], ◌∷◌, ◌++◌, map}
use borrow.Author.Tests.{eq-eqb, ne_eqb, eqb-true, lt-leb, leb-true, leb-false}
use lib.Dec.{leb, ltb, eqb}
use lib.Bits.{bit_and, bit_or, or_add_and, and_le_l, and_le_r}
use lib.ListN.{length, get_or, take, drop}
use lib.Seq.{take_at, drop_at}
use Rattle.model.specs.Operations.{operations, multi, last}
use Rattle.model.specs.Refusals.{every, formed_op, blank_op, formed_kind, formed, blank, inside, storable}
use Rattle.model.specs.declared.Op.{Op}
use Rattle.record.specs.View.{op_at, fragment_at, numbers_from}
use Rattle.record.proofs.Rows.{numbers_snoc}
use Rattle.record.proofs.Walks.{read_length, read_add, walk_on, walk_end}
use Rattle.soundness.specs.Groups.{is_zero, ops_from, storable_op}
use Rattle.operations.specs.Words.{formed_kind_of}
use Rattle.soundness.proofs.Turns.{on, off}
use Rattle.record.specs.Widths.{op_width, ops_width, ops_end}

-- the eight operations of a fragment, by threes
row_ops : (l : List ℕ) (at : ℕ) → (fragment_at l at).row ≡ ops_from l (at + 4) 8
unfolding fragment_at ops_from
row_ops l at = simp add_assoc

module _ (l : List ℕ) (b n m : ℕ) where
  cut : ops_from l b (n + m) ≡ ops_from l b n ++ ops_from l (b + op_width * n) m
  unfolding ops_from
  cut = read_add (op_at l) op_width b n m (b + op_width * n) refl

  many : length (ops_from l b n) ≡ n
  unfolding ops_from
  many = read_length (λ (p : ℕ). p + op_width) (op_at l) b n

  take_ops : take n (ops_from l b (n + m)) ≡ ops_from l b n
  take_ops = ap (take n) cut ∙ take_at (ops_from l b n) (ops_from l (b + op_width * n) m) n many

  drop_ops : drop n (ops_from l b (n + m)) ≡ ops_from l (b + op_width * n) m
  drop_ops = ap (drop n) cut ∙ drop_at (ops_from l b n) (ops_from l (b + op_width * n) m) n many

three : (a b c r : Bool) → ((a && b && c) && r) ≡ (a && (b && (c && r)))
three true true true r = refl
three true true false r = refl
three true false c r = refl
three false b c r = refl

-- places that are blank, as words that are zero
blank_words : (l : List ℕ) (b n : ℕ) → every blank_op (ops_from l b n) ≡ every is_zero (numbers_from l b (op_width * n))
unfolding ops_from numbers_from
blank_words l b zero = refl
blank_words l b (suc n) =
    let e : suc (suc (suc (op_width * n))) ≡ op_width * suc n = omega arith in
    let p : b + 1 + 1 ≡ b + 2 = omega arith in
    let q : b + op_width ≡ b + 1 + 1 + 1 = omega arith in
    three (is_zero (get_or l b 0)) (is_zero (get_or l (b + 1) 0)) (is_zero (get_or l (b + 2) 0)) (every blank_op (ops_from l (b + op_width) n))
    ∙ (λ i. is_zero (get_or l b 0) && (is_zero (get_or l (b + 1) 0) && (is_zero (get_or l (sym p i) 0) && (blank_words l (b + op_width) n ∙ ap (λ (x : ℕ). every is_zero (numbers_from l x (op_width * n))) q) i)))
    ∙ ap (λ (x : ℕ). every is_zero (numbers_from l b x)) e

-- the words of a fragment that is blank, behind its number: `stop - from` of them
pub blank_is : (l : List ℕ) (at from stop : ℕ) → from ≡ at + 1 → stop ≡ at + ops_end → every is_zero (numbers_from l from (stop - from)) ≡ blank (fragment_at l at)
unfolding blank fragment_at numbers_from
blank_is l at from stop ef es =
    let n : stop - from ≡ suc (suc (suc ops_width)) = omega arith in
    let p : from + 1 ≡ at + 2 = omega arith in
    let q : from + 1 + 1 ≡ at + 3 = omega arith in
    let r : from + 1 + 1 + 1 ≡ at + 4 = omega arith in
    ap (λ (x : ℕ). every is_zero (numbers_from l from x)) n
    ∙ (λ i. is_zero (get_or l (ef i) 0) && (is_zero (get_or l (p i) 0) && (is_zero (get_or l (q i) 0) && every is_zero (numbers_from l (r i) ops_width))))
    ∙ (λ i. is_zero (get_or l (at + 1) 0) && (is_zero (get_or l (at + 2) 0) && (is_zero (get_or l (at + 3) 0) && (sym (blank_words l (at + 4) 8) ∙ ap (every blank_op) (sym (row_ops l at))) i)))
    ∙ sym (three (is_zero (get_or l (at + 1) 0)) (is_zero (get_or l (at + 2) 0)) (is_zero (get_or l (at + 3) 0)) (every blank_op (fragment_at l at).row))

four : (a c r s : Bool) → ((a && c) && (r && s)) ≡ ((a && r) && (c && s))
four true true r s = refl
four true false true s = refl
four true false false s = refl
four false c r s = refl

both : (ct : ℕ) (os : List Op) → (every formed_op os && every (λ (o : Op). ltb o.cell ct) os) ≡ every (storable_op ct) os
both ct [] = refl
both ct (o ∷ os) = four (formed_op o) (every formed_op os) (ltb o.cell ct) (every (λ (o : Op). ltb o.cell ct) os) ∙ ap (λ (x : Bool). storable_op ct o && x) (both ct os)

shuffle : (p q a b f k i : Bool) → ((p && q && a && b && f && k) && i) ≡ (p && q && (a && i) && b && f && k)
shuffle false q a b f k i = refl
shuffle true false a b f k i = refl
shuffle true true false b f k i = refl
shuffle true true true true true true true = refl
shuffle true true true true true true false = refl
shuffle true true true true true false true = refl
shuffle true true true true true false false = refl
shuffle true true true true false k true = refl
shuffle true true true true false k false = refl
shuffle true true true false f k true = refl
shuffle true true true false f k false = refl

-- all that is asked of a stored fragment, where its words stand
pub stored_by : (l : List ℕ) (at ct n : ℕ) → get_or l (at + 3) 0 ≡ n → n ≤ 8
    → storable ct (fragment_at l at) ≡ (leb 1 n && leb n 8 && every (storable_op ct) (ops_from l (at + 4) n) && every is_zero (numbers_from l (at + 4 + op_width * n) (ops_width - op_width * n)) && leb (get_or l (at + 1) 0) 3 && formed_kind_of (get_or l (at + 1) 0) (get_or l (at + 2) 0))
unfolding formed inside operations fragment_at multi last
stored_by l at ct n e h =
    let m : n + (8 - n) ≡ 8 = omega arith in
    let w : op_width * (8 - n) ≡ ops_width - op_width * n = omega arith in
    let ops : (fragment_at l at).row ≡ ops_from l (at + 4) (n + (8 - n)) = row_ops l at ∙ ap (ops_from l (at + 4)) (sym m) in
    let used : take (get_or l (at + 3) 0) (fragment_at l at).row ≡ ops_from l (at + 4) n = (λ i. take (e i) (ops i)) ∙ take_ops l (at + 4) n (8 - n) in
    let rest : drop (get_or l (at + 3) 0) (fragment_at l at).row ≡ ops_from l (at + 4 + op_width * n) (8 - n) = (λ i. drop (e i) (ops i)) ∙ drop_ops l (at + 4) n (8 - n) in
    let blank : every blank_op (drop (get_or l (at + 3) 0) (fragment_at l at).row) ≡ every is_zero (numbers_from l (at + 4 + op_width * n) (ops_width - op_width * n)) =
    ap (every blank_op) rest ∙ blank_words l (at + 4 + op_width * n) (8 - n) ∙ ap (λ (x : ℕ). every is_zero (numbers_from l (at + 4 + op_width * n) x)) w in
    let k : Bool = formed_kind_of (get_or l (at + 1) 0) (get_or l (at + 2) 0) in
    let f : Bool = leb (get_or l (at + 1) 0) 3 in
    (λ i. (leb 1 (e i) && leb (e i) 8 && every formed_op (used i) && blank i && f && k) && every (λ (o : Op). ltb o.cell ct) (used i))
    ∙ shuffle (leb 1 n) (leb n 8) (every formed_op (ops_from l (at + 4) n)) (every is_zero (numbers_from l (at + 4 + op_width * n) (ops_width - op_width * n))) f k (every (λ (o : Op). ltb o.cell ct) (ops_from l (at + 4) n))
    ∙ ap (λ (x : Bool). leb 1 n && leb n 8 && x && every is_zero (numbers_from l (at + 4 + op_width * n) (ops_width - op_width * n)) && f && k) (both ct (ops_from l (at + 4) n))

swap : (p q : Bool) → (p && q) ≡ (q && p)
swap true true = refl
swap true false = refl
swap false true = refl
swap false false = refl

-- "operations not 1 to 8"
pub stored_many : (l : List ℕ) (at ct : ℕ) → 8 < get_or l (at + 3) 0 → false ≡ storable ct (fragment_at l at)
unfolding formed fragment_at
stored_many l at ct h = go (leb 1 (get_or l (at + 3) 0)) _ _ _ _ _ ∙ ap (λ (x : Bool). (leb 1 (get_or l (at + 3) 0) && x && every formed_op (operations (fragment_at l at)) && every blank_op (drop (get_or l (at + 3) 0) (fragment_at l at).row) && leb (get_or l (at + 1) 0) 3 && formed_kind (fragment_at l at)) && inside ct (fragment_at l at)) (sym (lt-leb (get_or l (at + 3) 0) 8 h))
  where
    go : (p a z f k i : Bool) → false ≡ ((p && false && a && z && f && k) && i)
    go true a z f k i = refl
    go false a z f k i = refl

-- the same of any count: of one above 8 both are false
module _ (ct : ℕ) (l : List ℕ) (at : ℕ) where
  abbrev count : ℕ
  count = get_or l (at + 3) 0

  abbrev first : ℕ
  first = at + 4 + op_width * count

  abbrev kind : Bool
  kind = formed_kind_of (get_or l (at + 1) 0) (get_or l (at + 2) 0)

  abbrev asked : Bool → Bool
  asked few = few && leb 1 count && every (storable_op ct) (ops_from l (at + 4) count) && every is_zero (numbers_from l first (at + ops_end - first)) && leb (get_or l (at + 1) 0) 3 && kind

  either_way : (few : Bool) → leb count 8 ≡ few → storable ct (fragment_at l at) ≡ asked (leb count 8)
  either_way true e =
      let h : count ≤ 8 = leb-true count 8 e in
      let w : ops_width - op_width * count ≡ at + ops_end - first = omega arith in
      stored_by l at ct count refl h
      ∙ (λ i. swap (leb 1 count) (leb count 8) i && every (storable_op ct) (ops_from l (at + 4) count) && every is_zero (numbers_from l first (w i)) && leb (get_or l (at + 1) 0) 3 && kind)
  either_way false e = sym (stored_many l at ct (leb-false count 8 e)) ∙ ap asked (sym e)

  pub stored : storable ct (fragment_at l at) ≡ asked (leb count 8)
  stored = either_way (leb count 8) refl

-- one turn of the walk over operations: i of n have been asked
module _ (ct : ℕ) (l : List ℕ) (b n i : ℕ) (whole : Bool) (inv : every (storable_op ct) (ops_from l (b + op_width * i) (n - i)) ≡ whole) where
  abbrev ops : List ℕ → Bool
  ops bs = every (storable_op ct) (map (op_at l) bs)

  module _ (more : i < n) where
    used_next : (storable_op ct (op_at l (b + op_width * i)) && every (storable_op ct) (ops_from l (b + op_width * (i + 1)) (n - (i + 1)))) ≡ whole
    unfolding ops_from
    used_next = walk_on (λ (p : ℕ). p + op_width) ops (b + op_width * i) (n - i) whole inv (b + op_width * (i + 1)) (n - (i + 1)) (omega arith) (omega arith)

    pub used_on : storable_op ct (op_at l (b + op_width * i)) ≡ true → every (storable_op ct) (ops_from l (b + op_width * (i + 1)) (n - (i + 1))) ≡ whole
    used_on t = on (storable_op ct (op_at l (b + op_width * i))) _ whole used_next t

    pub used_off : storable_op ct (op_at l (b + op_width * i)) ≡ false → false ≡ whole
    used_off t = off (storable_op ct (op_at l (b + op_width * i))) _ whole used_next t

  pub used_end : n ≤ i → true ≡ whole
  unfolding ops_from
  used_end h = walk_end (λ (p : ℕ). p + op_width) ops (b + op_width * i) (n - i) whole inv (omega arith)

-- one turn of the walk over words
every_snoc : (l : List ℕ) (w : ℕ) → every is_zero (l ++ (w ∷ [])) ≡ (is_zero w && every is_zero l)
every_snoc [] w = refl
every_snoc (x ∷ l) w = ap (λ (y : Bool). is_zero x && y) (every_snoc l w) ∙ swap (is_zero x) (is_zero w) (every is_zero l)
  where
    swap : (a b r : Bool) → (a && (b && r)) ≡ (b && (a && r))
    swap true b r = refl
    swap false true r = refl
    swap false false r = refl

clash : {n : ℕ} → eqb n 0 ≡ false → n ≡ 0 → ⊥
clash {n} f z = true≢false (sym (eq-eqb n 0 z) ∙ f)

-- the bits of two numbers together are 0 where both are
pub zero_or : (a w : ℕ) → is_zero (bit_or a w) ≡ (is_zero w && is_zero a)
zero_or a w = go (is_zero w) (is_zero a) refl refl
  where
    sum : bit_or a w + bit_and a w ≡ a + w
    sum = or_add_and a w

    go : (p q : Bool) → is_zero w ≡ p → is_zero a ≡ q → is_zero (bit_or a w) ≡ (p && q)
    go true true e f = eq-eqb (bit_or a w) 0 (omega (arith, sum, eqb-true w 0 e, eqb-true a 0 f))
    go true false e f = ne_eqb (bit_or a w) 0 (λ z. clash f (let y : a ≡ 0 = omega (arith, sum, and_le_r a w, eqb-true w 0 e) in y))
    go false q e f = ne_eqb (bit_or a w) 0 (λ z. clash e (let y : w ≡ 0 = omega (arith, sum, and_le_l a w) in y))

pub zeros_turn : (l : List ℕ) (from i most w most' : ℕ) → w ≡ get_or l (from + i) 0 → is_zero most ≡ every is_zero (numbers_from l from i) → is_zero most' ≡ (is_zero w && is_zero most) → is_zero most' ≡ every is_zero (numbers_from l from (i + 1))
zeros_turn l from i most w most' ew inv em =
    em ∙ (λ j. is_zero (ew j) && inv j) ∙ sym (every_snoc (numbers_from l from i) (get_or l (from + i) 0))
    ∙ ap (every is_zero) (sym (numbers_snoc l from i)) ∙ ap (λ (x : ℕ). every is_zero (numbers_from l from x)) (sym (add-one i))
