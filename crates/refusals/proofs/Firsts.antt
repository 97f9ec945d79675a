-- Laws of the first row that applies, of the numbers of live rows, and of an event's rows.
use Prim.Native.Nat.{ℕ, zero, suc, ◌+◌, ◌*◌, ◌≤◌, ◌<◌}
use native.Mathlib.Omega.{arith}
use mathlib.Core.Path.{◌≡◌, refl, sym, ap, ◌∙◌, subst}
use mathlib.Core.Bool.{Bool, true, false, not, ◌&&◌, ◌||◌, true≢false}
use mathlib.Core.List.{List, [], ◌∷◌, ◌++◌}
use lib.Dec.{leb, ltb, eqb}
use lib.ListN.{length, get_or}
use borrow.Author.Tests.{eqb-true, eq-eqb, ne_eqb, le-leb, lt-leb}
use Rattle.model.specs.Limits.{least_room, event_words}
use Rattle.model.specs.Operations.{Cells, pick}
use Rattle.model.specs.Transactions.{Engine, Running, Finished, Failed, NoState, finished, failed}
use Rattle.model.specs.Refusals.{Call, first_of, is_in, rows, refusal, sound, formed, blank, inside}
use Rattle.std.specs.Prelude.{Result}
use Rattle.std.specs.List.{list_any, range_with_len}
use Rattle.model.specs.Kinds.{kind_of}
use Rattle.model.specs.declared.Kind.{Kind}
use Rattle.model.specs.declared.UnknownKind.{UnknownKind}
use Rattle.model.specs.declared.Event.{Event}
use Rattle.model.specs.declared.Fragment.{Fragment}
use Rattle.record.specs.View.{state_of}
use Rattle.record.specs.Events.{event_of}
use Rattle.record.proofs.Events.{kind_by}
use Rattle.refusals.specs.Rest.{behind_first, row_numbers, arrival_rows, event_rows, shape_rows}
use Rattle.record.specs.Widths.{live_width}

-- rows in two parts: where the first part answers, and where it does not

abbrev pub Labelled : List (ℕ × Bool) → Type 0
Labelled [] = Unit
Labelled (r ∷ rs) = (1 ≤ r.0) × Labelled rs

pub first_miss : (xs ys : List (ℕ × Bool)) → Labelled xs → first_of xs ≡ 0 → first_of (xs ++ ys) ≡ first_of ys
first_miss [] ys h e = refl
first_miss (r ∷ rs) ys h e = go (first_miss rs ys h.1) r.1 e
  where
    go : (first_of rs ≡ 0 → first_of (rs ++ ys) ≡ first_of ys) → (b : Bool) → ◌≡◌ {A = ℕ} (elim b [ true ↦ r.0 | false ↦ first_of rs ]) 0 → ◌≡◌ {A = ℕ} (elim b [ true ↦ r.0 | false ↦ first_of (rs ++ ys) ]) (first_of ys)
    go more true e = absurd (omega (arith, h.0))
    go more false e = more e

pub first_hit : (xs ys : List (ℕ × Bool)) → (first_of xs ≡ 0 → ⊥) → first_of (xs ++ ys) ≡ first_of xs
first_hit [] ys h = absurd (h refl)
first_hit (r ∷ rs) ys h = go (first_hit rs ys) r.1 h
  where
    go : ((first_of rs ≡ 0 → ⊥) → first_of (rs ++ ys) ≡ first_of rs) → (b : Bool) → (◌≡◌ {A = ℕ} (elim b [ true ↦ r.0 | false ↦ first_of rs ]) 0 → ⊥) → ◌≡◌ {A = ℕ} (elim b [ true ↦ r.0 | false ↦ first_of (rs ++ ys) ]) (elim b [ true ↦ r.0 | false ↦ first_of rs ])
    go more true h = refl
    go more false h = more h

-- refusal 1 stands before the others
pub refused_sound : (e : Engine) (k : Call) → sound e ≡ true → first_of (behind_first (rows e k)) ≡ refusal e k
unfolding refusal rows
refused_sound e k h = ap {B = ℕ} (λ (b : Bool). elim (not b) [ true ↦ 1 | false ↦ first_of (behind_first (rows e k)) ]) (sym h)

pub refused_unsound : (e : Engine) (k : Call) → sound e ≡ false → 1 ≡ refusal e k
unfolding refusal rows
refused_unsound e k h = ap {B = ℕ} (λ (b : Bool). elim (not b) [ true ↦ 1 | false ↦ first_of (behind_first (rows e k)) ]) (sym h)

-- the numbers of rows that are asked one by one, from row i on
pub live_any : (l : List ℕ) (k i n : ℕ) → list_any (λ (x : ℕ). eqb (get_or l (live_width * x) 0) k) (range_with_len i n) ≡ is_in k (row_numbers l (live_width * i) n)
unfolding row_numbers
live_any l k i zero = refl
live_any l k i (suc n) =
    let e : live_width * (i + 1) ≡ live_width * i + live_width = omega arith in
    ap (λ (b : Bool). eqb (get_or l (live_width * i) 0) k || b) (live_any l k (i + 1) n ∙ ap (λ (p : ℕ). is_in k (row_numbers l p n)) e)

-- the words of a state that is finished, or failed
by_words : (x y : Bool) → finished (pick x Finished (pick y Failed NoState)) ≡ (x || y)
by_words true y = refl
by_words false true = refl
by_words false false = refl

pub finished_word : (n : ℕ) → finished (state_of n) ≡ (eqb n 1 || eqb n 2)
finished_word n = go (eqb n 0) refl
  where
    go : (b : Bool) → eqb n 0 ≡ b → finished (state_of n) ≡ (eqb n 1 || eqb n 2)
    go true e = subst (λ (x : ℕ). finished (state_of x) ≡ (eqb x 1 || eqb x 2)) (sym (eqb-true n 0 e)) refl
    go false e = ap (λ (b : Bool). finished (pick b Running (pick (eqb n 1) Finished (pick (eqb n 2) Failed NoState)))) e ∙ by_words (eqb n 1) (eqb n 2)

-- of a finished one
pub failed_word : (n : ℕ) → finished (state_of n) ≡ true → failed (state_of n) ≡ eqb n 2
failed_word n h = go (eqb n 1) (eqb n 2) refl refl (sym (finished_word n) ∙ h)
  where
    go : (x y : Bool) → eqb n 1 ≡ x → eqb n 2 ≡ y → (x || y) ≡ true → failed (state_of n) ≡ eqb n 2
    go true y e f t = subst (λ (x : ℕ). failed (state_of x) ≡ eqb x 2) (sym (eqb-true n 1 e)) refl
    go false true e f t = subst (λ (x : ℕ). failed (state_of x) ≡ eqb x 2) (sym (eqb-true n 2 f)) refl
    go false false e f t = absurd (mathlib.Core.Bool.true≢false (sym t))

-- rows 4 and 5 of an event, by its number and its kind
or_false : (a : Bool) → a ≡ (a || false)
or_false true = refl
or_false false = refl

module _ (count : ℕ) (v : Event) where
  abbrev f : Fragment
  f = v.fragment

  abbrev formed_by : Bool → Bool → Bool → ℕ
  formed_by one two three = first_of ((4, not (leb 1 v.number && (one && formed f || (two || three) && blank f))) ∷ (5, one && not (inside count f)) ∷ [])

  pub event_numberless : v.number < 1 → 4 ≡ first_of (event_rows count v)
  event_numberless h = rw (lt-leb 1 v.number h)

  pub event_unknown : (v.kind ≡ 1 → ⊥) → (v.kind ≡ 2 → ⊥) → (v.kind ≡ 3 → ⊥) → 4 ≡ first_of (event_rows count v)
  event_unknown e₁ e₂ e₃ = none (leb 1 v.number) ∙ (λ j. formed_by (sym (ne_eqb v.kind 1 e₁) j) (sym (ne_eqb v.kind 2 e₂) j) (sym (ne_eqb v.kind 3 e₃) j))
    where
      none : (b : Bool) → ◌≡◌ {A = ℕ} 4 (first_of ((4, not (b && false)) ∷ (5, false) ∷ []))
      none true = refl
      none false = refl

  module _ (h : 1 ≤ v.number) where
    pub event_arrives : v.kind ≡ 1 → first_of (arrival_rows count f) ≡ first_of (event_rows count v)
    event_arrives e =
        let k : eqb v.kind 1 ≡ true = eq-eqb v.kind 1 e in
        let two : eqb v.kind 2 ≡ false = ap (λ (x : ℕ). eqb x 2) e in
        let three : eqb v.kind 3 ≡ false = ap (λ (x : ℕ). eqb x 3) e in
        (λ j. first_of ((4, not (or_false (formed f) j)) ∷ (5, not (inside count f)) ∷ []))
        ∙ (λ j. first_of ((4, not (sym (le-leb 1 v.number h) j && (sym k j && formed f || (sym two j || sym three j) && blank f))) ∷ (5, sym k j && not (inside count f)) ∷ []))

    module _ (low : 2 ≤ v.kind) (high : v.kind ≤ 3) where
      decision : (b : Bool) → blank f ≡ b → first_of ((4, not b) ∷ []) ≡ first_of (event_rows count v)
      decision b e =
          let one : eqb v.kind 1 ≡ false = ne_eqb v.kind 1 (λ x. omega arith) in
          let either : (eqb v.kind 2 || eqb v.kind 3) ≡ true = go (eqb v.kind 2) refl in
          λ j. first_of ((4, not (sym (le-leb 1 v.number h) j && (sym one j && formed f || sym either j && sym e j))) ∷ (5, sym one j && not (inside count f)) ∷ [])
        where
          go : (t : Bool) → eqb v.kind 2 ≡ t → (t || eqb v.kind 3) ≡ true
          go true q = refl
          go false q = eq-eqb v.kind 3 (let n : v.kind ≡ 2 → ⊥ = λ x. true≢false (sym (eq-eqb v.kind 2 x) ∙ q) in three_of n)
            where
              three_of : (v.kind ≡ 2 → ⊥) → v.kind ≡ 3
              three_of n = omega arith

      pub event_decides : blank f ≡ true → 0 ≡ first_of (event_rows count v)
      event_decides e = decision true e

      pub event_more : blank f ≡ false → 4 ≡ first_of (event_rows count v)
      event_more e = decision false e

-- the kind of an event with all its words is that of its first one
pub kind_first : (l : List ℕ) (r : Result Kind UnknownKind) → length l ≡ event_words → r ≡ kind_of (get_or l 0 0) → kind_of (event_of l).kind ≡ r
kind_first l r h e = ap kind_of (sym (kind_by true l (eq-eqb (length l) event_words h))) ∙ sym e

-- an event that has not all its words, or none of its numbers
pub event_short : (count : ℕ) (l : List ℕ) → (length l ≡ event_words → ⊥) → 4 ≡ first_of (event_rows count (event_of l))
event_short count l h =
    let k : 0 ≡ (event_of l).kind = kind_by false l (ne_eqb (length l) event_words h) in
    event_unknown count (event_of l) (λ e. omega arith) (λ e. omega arith) (λ e. omega arith)

pub event_number_0 : (count : ℕ) (l : List ℕ) → get_or l 1 0 < 1 → 4 ≡ first_of (event_rows count (event_of l))
unfolding event_of
event_number_0 count l h = event_numberless count (event_of l) h

-- an event whose shape is right has all its words
pub shape_length : (count : ℕ) (l : List ℕ) (cells : Cells) (room : List ℕ) → 0 ≡ first_of (shape_rows count (event_of l) cells room) → length l ≡ event_words
shape_length count l cells room es = go (eqb (length l) event_words) refl
  where
    behind : (a b : Bool) (rs : List (ℕ × Bool)) → first_of ((2, a) ∷ (3, b) ∷ rs) ≡ 0 → first_of rs ≡ 0
    behind true b rs h = absurd (omega (arith, h))
    behind false true rs h = absurd (omega (arith, h))
    behind false false rs h = h

    go : (t : Bool) → eqb (length l) event_words ≡ t → length l ≡ event_words
    go true t = eqb-true (length l) event_words t
    go false t =
        let four = event_short count l (λ e. true≢false (sym (eq-eqb (length l) event_words e) ∙ t)) in
        absurd (omega (arith, four ∙ behind (ltb (length room) least_room) (eqb (length cells) 0 || not (eqb (length cells) count)) (event_rows count (event_of l)) (sym es)))
