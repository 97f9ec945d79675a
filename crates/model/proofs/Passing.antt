-- What an accepted call has passed: none of the fourteen rows applies.
use Prim.Native.Nat.{ℕ, zero, suc, ◌<◌}
use native.Mathlib.Omega.{arith}
use mathlib.Core.Path.{◌≡◌, refl, sym}
use mathlib.Core.Bool.{Bool, true, false, not, ◌&&◌, true≢false}
use mathlib.Core.List.{List, [], ◌∷◌}
use lib.Dec.{eqb}
use Rattle.model.specs.Transactions.{Engine}
use Rattle.model.specs.Refusals.{Call, live, new, is_front, rows, first_of, refusal, respond, step}
use Rattle.model.specs.Parts.{All, Passed}

none_applies : (rs : List (ℕ × Bool)) → All (λ (r : ℕ × Bool). 0 < r.0) rs → first_of rs ≡ 0 → All (λ (r : ℕ × Bool). r.1 ≡ false) rs
none_applies [] p h = tt
none_applies (r ∷ rs) p h = go r.1 refl (λ k. none_applies rs p.1 k) h
  where
    go : (b : Bool) → r.1 ≡ b → (first_of rs ≡ 0 → All (λ (r : ℕ × Bool). r.1 ≡ false) rs) → ◌≡◌ {A = ℕ} (elim b [ true ↦ r.0 | false ↦ first_of rs ]) 0 → (r.1 ≡ false) × All (λ (r : ℕ × Bool). r.1 ≡ false) rs
    go true e f k = let x : 0 < r.0 = p.0 in absurd (omega arith)
    go false e f k = (e, f k)

-- what the row of number n asks
abbrev row_of : ℕ → List (ℕ × Bool) → Bool
row_of n [] = false
row_of n (r ∷ rs) = elim (eqb r.0 n) [ true ↦ r.1 | false ↦ row_of n rs ]

row_none : (n : ℕ) (rs : List (ℕ × Bool)) → All (λ (r : ℕ × Bool). r.1 ≡ false) rs → row_of n rs ≡ false
row_none n [] h = refl
row_none n (r ∷ rs) h = go (eqb r.0 n) (row_none n rs h.1)
  where
    go : (b : Bool) → row_of n rs ≡ false → ◌≡◌ {A = Bool} (elim b [ true ↦ r.1 | false ↦ row_of n rs ]) false
    go true k = h.0
    go false k = k

-- a row by the number that it returns
row : (e : Engine) (c : Call) → refusal e c ≡ 0 → (n : ℕ) → row_of n (rows e c) ≡ false
unfolding refusal rows
row e c h n = row_none n (rows e c) (none_applies (rows e c) (omega arith) h)

pub passed : (e : Engine) (c : Call) → refusal e c ≡ 0 → Passed e c
unfolding rows
passed e c h = record {
  one = row e c h 1;
  two = row e c h 2;
  three = row e c h 3;
  four = row e c h 4;
  five = row e c h 5;
  six = row e c h 6;
  seven = row e c h 7;
  eight = row e c h 8;
  nine = row e c h 9;
  ten = row e c h 10;
  eleven = row e c h 11;
  twelve = row e c h 12;
  thirteen = row e c h 13;
  fourteen = row e c h 14;
}

-- a call that returned 0 was refused by none
pub took : (e : Engine) (c : Call) → (step e c).number ≡ 0 → refusal e c ≡ 0
unfolding step
took e c h = go (refusal e c) refl h
  where
    go : (k : ℕ) → refusal e c ≡ k → (respond k e c).number ≡ 0 → refusal e c ≡ 0
    go zero q x = q
    go (suc k) q x = absurd (omega arith)

-- neither 6 nor 7 applies: the front or a new one
pub front_or_new : (live new front : Bool) → (not live && not new) ≡ false → (live && not front) ≡ false → front ≡ false → new ≡ true
front_or_new true new true h k e = absurd (true≢false e)
front_or_new true new false h k e = absurd (true≢false k)
front_or_new false true front h k e = refl
front_or_new false false front h k e = absurd (true≢false h)

pub front_if_known : (live new front : Bool) → (not live && not new) ≡ false → (live && not front) ≡ false → new ≡ false → front ≡ true
front_if_known true new true h k e = refl
front_if_known true new false h k e = absurd (true≢false k)
front_if_known false true front h k e = absurd (true≢false e)
front_if_known false false front h k e = absurd (true≢false h)

pub and_if : (a b : Bool) → a ≡ true → (a && b) ≡ false → b ≡ false
and_if true b e h = h
and_if false b e h = absurd (true≢false (sym e))

pub and_unless : (a b : Bool) → a ≡ false → (not a && b) ≡ false → b ≡ false
and_unless true b e h = absurd (true≢false e)
and_unless false b e h = h

-- a decision that was accepted is for the front
pub decides_front : (e : Engine) (c : Call) → eqb c.event.kind 1 ≡ false → Passed e c → is_front c.event.number e ≡ true
decides_front e c a p =
    front_if_known (live c.event.number e) (new c.event.number e) (is_front c.event.number e) p.six p.seven (and_unless (eqb c.event.kind 1) _ a p.twelve)
