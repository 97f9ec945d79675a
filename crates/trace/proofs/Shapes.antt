-- What is known of a good trace's shape.
use Prim.Native.Nat.{ℕ, ◌+◌, ◌*◌, ◌≤◌}
use native.Mathlib.Omega.{arith}
use mathlib.Core.Path.{◌≡◌, refl, sym, ap, ◌∙◌}
use mathlib.Core.Bool.{Bool, true, false, ◌&&◌}
use mathlib.Core.List.{List}
use lib.Dec.{leb, eqb}
use lib.ListN.{length}
use borrow.Author.Tests.{leb-true, eqb-true}
use Rattle.std.specs.Prelude.{Some, None}
use Rattle.model.specs.Limits.{most_cells}
use Rattle.model.specs.Operations.{pick}
use Rattle.trace.specs.declared.Shape.{Shape}
use Rattle.trace.specs.Format.{word_at, good, shape_of}

pub record TraceKnown (l : List ℕ) (s : Shape) : Type 0 where
  pub cells : s.cells ≡ word_at l 0
  pub events : s.events ≡ word_at l 2
  pub some : 1 ≤ s.cells
  pub most : s.cells ≤ most_cells
  pub few : s.events ≤ 256
  pub first : s.first ≡ 4 + s.cells
  pub whole : length l ≡ 4 * (4 + s.cells + 29 * s.events)

both : (a b : Bool) → a && b ≡ true → (a ≡ true) × (b ≡ true)
both true b h = (refl, h)
both false b h = absurd (false_true h)
  where
    false_true : false ≡ true → ⊥
    false_true e = let z : ◌≡◌ {A = ℕ} 0 1 = cc in omega arith

abbrev read : List ℕ → Shape
read l = record { cells = word_at l 0; events = word_at l 2; first = word_at l 3 }

pub trace_known : (l : List ℕ) (s : Shape) → shape_of l ≡ Some s → TraceKnown l s
unfolding shape_of good
trace_known l s h = go (good l) refl h
  where
    go : (b : Bool) → good l ≡ b → pick b (Some (read l)) None ≡ Some s → TraceKnown l s
    go false g h = absurd (let z : ◌≡◌ {A = ℕ} 0 1 = cc in omega arith)
    go true g h =
        let a0 : ℕ = word_at l 0 in
        let e0 : ℕ = word_at l 2 in
        let e : read l ≡ s = cc in
        let ea : s.cells ≡ a0 = sym (ap (λ (x : Shape). x.cells) e) in
        let ee : s.events ≡ e0 = sym (ap (λ (x : Shape). x.events) e) in
        let ef : s.first ≡ word_at l 3 = sym (ap (λ (x : Shape). x.first) e) in
        let g6 : (leb 1 a0 && leb a0 most_cells && eqb (word_at l 1) 4 && leb e0 256 && eqb (word_at l 3) (4 + a0) ≡ true) × (eqb (length l) (4 * (4 + a0 + 29 * e0)) ≡ true) = both _ _ g in
        let g5 : (leb 1 a0 && leb a0 most_cells && eqb (word_at l 1) 4 && leb e0 256 ≡ true) × (eqb (word_at l 3) (4 + a0) ≡ true) = both _ _ g6.0 in
        let g4 : (leb 1 a0 && leb a0 most_cells && eqb (word_at l 1) 4 ≡ true) × (leb e0 256 ≡ true) = both _ _ g5.0 in
        let g3 : (leb 1 a0 && leb a0 most_cells ≡ true) × (eqb (word_at l 1) 4 ≡ true) = both _ _ g4.0 in
        let g2 : (leb 1 a0 ≡ true) × (leb a0 most_cells ≡ true) = both _ _ g3.0 in
        record {
          cells = ea;
          events = ee;
          some = rw ea (leb-true 1 a0 g2.0);
          most = rw ea (leb-true a0 most_cells g2.1);
          few = rw ee (leb-true e0 256 g4.1);
          first = ef ∙ eqb-true (word_at l 3) (4 + a0) g5.1 ∙ rw ea;
          whole = eqb-true (length l) (4 * (4 + a0 + 29 * e0)) g6.1 ∙ rw (ea, ee);
        }
