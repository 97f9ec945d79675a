-- The table of refusals behind its first row, cut into the parts that the functions ask.
use Prim.Native.Nat.{ℕ, zero, suc, ◌+◌, ◌*◌}
use native.Mathlib.Omega.{arith}
use mathlib.Core.Path.{◌≡◌, refl, sym, ap, ◌∙◌}
use mathlib.Core.Bool.{Bool, false, not, ◌&&◌, ◌||◌}
use mathlib.Core.List.{List, [], ◌∷◌, ◌++◌, map, map-map}
use lib.Dec.{leb, ltb, eqb, eqb-suc-zero}
use lib.ListN.{length, get_or}
use borrow.Author.Tests.{eq-eqb, ne_eqb}
use Rattle.model.specs.Limits.{most_fragments, most_live}
use Rattle.model.specs.Operations.{Cells, multi}
use Rattle.model.specs.Transactions.{Uncommitted, Waiting, finished, failed, front, numbers}
use Rattle.model.specs.Refusals.{rows, first_of, is_in}
use Rattle.model.specs.declared.Event.{Event}
use Rattle.model.specs.declared.Scheme.{Scheme}
use Rattle.record.specs.Walk.{places}
use Rattle.record.specs.View.{fragment_at, row_at, member_at, uncommitted_of, waiting_of, view_of}
use Rattle.record.proofs.Queues.{length_waiting, length_uncommitted, rows_live, numbers_rows}
use Rattle.refusals.specs.Rest.{call_of, behind_first, row_numbers, front_is, foreign, shape_rows, known_rows, fragment_rows, decision_rows}
use Rattle.refusals.proofs.Firsts.{first_hit, first_miss}
use Rattle.record.specs.Widths.{live_width}

-- rows 8 to 14, from what they ask
abbrev last_rows : (arrives commits fresh ready other full ran unready broken : Bool) → List (ℕ × Bool)
last_rows arrives commits fresh ready other full ran unready broken =
    (8, arrives && ready)
    ∷ (9, arrives && other)
    ∷ (10, arrives && fresh && full)
    ∷ (11, arrives && ran)
    ∷ (12, not arrives && fresh)
    ∷ (13, commits && unready)
    ∷ (14, commits && broken)
    ∷ []

-- the numbers of the two queues, which stand one behind the other
waiting_numbers : (l : List ℕ) (b n : ℕ) → map (λ (w : Waiting). w.number) (waiting_of l b n) ≡ row_numbers l b n
unfolding waiting_of row_numbers
waiting_numbers l b n = map-map (λ (w : Waiting). w.number) (row_at l) (places b live_width n)

live_numbers : (live runs undo : List ℕ) (n m : ℕ) → numbers (uncommitted_of live 0 runs 0 undo 0 n) (waiting_of live (live_width * n) m) ≡ row_numbers live 0 (n + m)
live_numbers live runs undo n m =
    numbers_rows (uncommitted_of live 0 runs 0 undo 0 n) (waiting_of live (live_width * n) m)
    ∙ ap (map (λ (w : Waiting). w.number)) (rows_live live runs undo 0 0 0 n (live_width * n) m (omega arith)) ∙ waiting_numbers live 0 (n + m)

module _ (live runs undo : List ℕ) where
  front_number : (u n : ℕ) → front (λ (x : Uncommitted). eqb x.number n) (uncommitted_of live 0 runs 0 undo 0 u) ≡ front_is u live n
  unfolding uncommitted_of member_at
  front_number zero n = refl
  front_number (suc u) n = ap {B = Bool} (λ (b : Bool). not b && eqb (get_or live 0 0) n) (sym (eqb-suc-zero u))

  front_which : (u n : ℕ) (p : Uncommitted → Bool) → (front (λ (x : Uncommitted). eqb x.number n) (uncommitted_of live 0 runs 0 undo 0 u) && front p (uncommitted_of live 0 runs 0 undo 0 u)) ≡ (front_is u live n && p (member_at live 0 runs 0 undo 0))
  unfolding uncommitted_of member_at
  front_which zero n p = refl
  front_which (suc u) n p = ap {B = Bool} (λ (b : Bool). not b && eqb (get_or live 0 0) n && p (member_at live 0 runs 0 undo 0)) (sym (eqb-suc-zero u))

module _ (σ : Scheme) (count largest u w : ℕ) (live runs undo : List ℕ) (v : Event) (cells : Cells) (room : List ℕ) where
  abbrev lives : Bool
  lives = is_in v.number (row_numbers live 0 (u + w))

  abbrev fresh : Bool
  fresh = ltb largest v.number

  abbrev is_first : Bool
  is_first = front_is u live v.number

  abbrev whole : ℕ
  whole = first_of (behind_first (rows (view_of count largest u w live runs undo) (call_of σ v cells room)))

  abbrev of_kind : Bool → Bool → List (ℕ × Bool)
  of_kind arrives commits =
      last_rows arrives commits fresh (is_first && finished (member_at live 0 runs 0 undo 0).state) (is_first && foreign live v.fragment) (leb most_live (u + w))
      (is_first && leb most_fragments (member_at live 0 runs 0 undo 0).ran) (is_first && not (finished (member_at live 0 runs 0 undo 0).state)) (is_first && failed (member_at live 0 runs 0 undo 0).state)

  abbrev rest : List (ℕ × Bool)
  rest = of_kind (eqb v.kind 1) (eqb v.kind 2)

  cut : whole ≡ first_of (shape_rows count v cells room ++ (known_rows lives fresh is_first ++ rest))
  unfolding rows view_of member_at fragment_at
  cut =
      let n : ℕ = v.number in
      let ns = live_numbers live runs undo u w in
      let number = front_number live runs undo u n in
      let at = front_which live runs undo u n in
      let many : length (uncommitted_of live 0 runs 0 undo 0 u) + length (waiting_of live (live_width * u) w) ≡ u + w = omega (arith, length_uncommitted live runs undo 0 0 0 u, length_waiting live (live_width * u) w) in
      λ i. first_of
      (shape_rows count v cells room
      ++ (known_rows (is_in n (ns i)) fresh (number i)
      ++ last_rows (eqb v.kind 1) (eqb v.kind 2) fresh (at (λ x. finished x.state) i) (at (λ x. not (multi v.fragment) || not (eqb x.first.coordinator v.fragment.coordinator)) i) (leb most_live (many i))
      (at (λ x. leb most_fragments x.ran) i) (at (λ x. not (finished x.state)) i) (at (λ x. failed x.state) i)))

  pub by_shape : (s : ℕ) → s ≡ first_of (shape_rows count v cells room) → (s ≡ 0 → ⊥) → s ≡ whole
  by_shape s es h = es ∙ sym (first_hit (shape_rows count v cells room) (known_rows lives fresh is_first ++ rest) (λ z. h (es ∙ z))) ∙ sym cut

  module _ (shaped : 0 ≡ first_of (shape_rows count v cells room)) where
    behind : first_of (known_rows lives fresh is_first ++ rest) ≡ whole
    behind =
        sym (first_miss (shape_rows count v cells room) (known_rows lives fresh is_first ++ rest) (omega arith) (sym shaped))
        ∙ sym cut

    pub by_known : (k : ℕ) → k ≡ first_of (known_rows lives fresh is_first) → (k ≡ 0 → ⊥) → k ≡ whole
    by_known k ek h = ek ∙ sym (first_hit (known_rows lives fresh is_first) rest (λ z. h (ek ∙ z))) ∙ behind

    module _ (is_known : 0 ≡ first_of (known_rows lives fresh is_first)) where
      beyond : first_of rest ≡ whole
      beyond = sym (first_miss (known_rows lives fresh is_first) rest (omega arith) (sym is_known)) ∙ behind

      pub by_fragment : v.kind ≡ 1 → first_of (fragment_rows (u + w) fresh is_first live runs v.fragment) ≡ whole
      unfolding member_at
      by_fragment e =
          let two : eqb v.kind 2 ≡ false = ap (λ (x : ℕ). eqb x 2) e in
          let p : first_of rest ≡ first_of (fragment_rows (u + w) fresh is_first live runs v.fragment) = λ i. first_of (of_kind (eq-eqb v.kind 1 e i) (two i)) in
          sym p ∙ beyond

      pub by_decision : (v.kind ≡ 1 → ⊥) → first_of (decision_rows (eqb v.kind 2) fresh is_first runs) ≡ whole
      unfolding member_at
      by_decision e =
          let p : first_of rest ≡ first_of (decision_rows (eqb v.kind 2) fresh is_first runs) = λ i. first_of (of_kind (ne_eqb v.kind 1 e i) (eqb v.kind 2)) in
          sym p ∙ beyond
