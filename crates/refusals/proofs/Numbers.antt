-- A refusal's number says which refusal it is, and that it is one.
use Prim.Native.Nat.{ℕ, ◌≤◌}
use native.Mathlib.Omega.{arith}
use mathlib.Core.Path.{◌≡◌, refl, sym, ap, ◌∙◌}
use lib.Dec.{eqb}
use Rattle.std.specs.Prelude.{Result, Ok, Err}
use Rattle.model.specs.Operations.{pick}
use Rattle.refusals.specs.Numbers.{number_of, returned}
use Rattle.refusals.specs.declared.Refusal.{Refusal}
use Rattle.refusals.specs.declared.Refusal.TheVariants.{UnsoundRecord, SmallRoom, WrongCells, NotWellFormed, CellOutside, NotLive, NotFront, FrontFinished, OtherCoordinator, TooManyLive, TooManyFragments, NotYetAccepted, NotFinished, Failed}

-- the refusal of a number
abbrev named : ℕ → Refusal
named n =
    pick (eqb n 1) UnsoundRecord (
    pick (eqb n 2) SmallRoom (
    pick (eqb n 3) WrongCells (
    pick (eqb n 4) NotWellFormed (
    pick (eqb n 5) CellOutside (
    pick (eqb n 6) NotLive (
    pick (eqb n 7) NotFront (
    pick (eqb n 8) FrontFinished (
    pick (eqb n 9) OtherCoordinator (
    pick (eqb n 10) TooManyLive (
    pick (eqb n 11) TooManyFragments (
    pick (eqb n 12) NotYetAccepted (
    pick (eqb n 13) NotFinished Failed))))))))))))

named_back : (e : Refusal) → named (number_of e) ≡ e
named_back UnsoundRecord = refl
named_back SmallRoom = refl
named_back WrongCells = refl
named_back NotWellFormed = refl
named_back CellOutside = refl
named_back NotLive = refl
named_back NotFront = refl
named_back FrontFinished = refl
named_back OtherCoordinator = refl
named_back TooManyLive = refl
named_back TooManyFragments = refl
named_back NotYetAccepted = refl
named_back NotFinished = refl
named_back Failed = refl

pub number_injective : (a b : Refusal) → number_of a ≡ number_of b → a ≡ b
number_injective a b e = sym (named_back a) ∙ ap named e ∙ named_back b

number_positive : (e : Refusal) → 1 ≤ number_of e
number_positive UnsoundRecord = omega arith
number_positive SmallRoom = omega arith
number_positive WrongCells = omega arith
number_positive NotWellFormed = omega arith
number_positive CellOutside = omega arith
number_positive NotLive = omega arith
number_positive NotFront = omega arith
number_positive FrontFinished = omega arith
number_positive OtherCoordinator = omega arith
number_positive TooManyLive = omega arith
number_positive TooManyFragments = omega arith
number_positive NotYetAccepted = omega arith
number_positive NotFinished = omega arith
number_positive Failed = omega arith

pub number_not_0 : (e : Refusal) → number_of e ≡ 0 → ⊥
number_not_0 e z = omega (arith, z, number_positive e)

-- "0 is accepted", and nothing else is
pub returned_injective : (a b : Result (Unit {0}) Refusal) → returned a ≡ returned b → a ≡ b
returned_injective (Ok _) (Ok _) e = refl
returned_injective (Ok _) (Err b) e = absurd (number_not_0 b (sym e))
returned_injective (Err a) (Ok _) e = absurd (number_not_0 a e)
returned_injective (Err a) (Err b) e = ap Err (number_injective a b e)
