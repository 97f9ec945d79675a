-- Laws of the command's word: what each choice needs.
use Prim.Native.Nat.{ℕ}
use native.Mathlib.Omega.{arith}
use mathlib.Core.Path.{◌≡◌, refl, sym, ap}
use mathlib.Core.Bool.{Bool, true, false}
use mathlib.Core.List.{List, [], ◌∷◌}
use lib.Dec.{eqb}
use lib.ListN.{length}
use lib.Pointwise.{bytes_decides}
use borrow.Author.Tests.{ne_eqb}
use Rattle.std.specs.Prelude.{Some, None}
use Rattle.std.specs.Str.{bytes_eq}
use Rattle.model.specs.declared.Scheme.TheVariants.{Speculation, Blocking}
use Rattle.listing.specs.Chosen.{speculation_word, blocking_word, scheme_of}

other_word : (w v : List ℕ) → (w ≡ v → ⊥) → bytes_eq w v ≡ false
other_word w v n = go (bytes_eq w v) refl
  where
    go : (b : Bool) → bytes_eq w v ≡ b → b ≡ false
    go true e = absurd (n ((bytes_decides w v).0 e))
    go false e = refl

-- no word, or `speculation`; `blocking`; any other
pub none_chosen : (w : List ℕ) → length w ≡ 0 → Some Speculation ≡ scheme_of w
unfolding scheme_of
none_chosen [] h = refl
none_chosen (b ∷ bs) h = absurd (omega arith)

pub speculation_chosen : (w : List ℕ) → w ≡ speculation_word → Some Speculation ≡ scheme_of w
unfolding scheme_of
speculation_chosen w e = ap scheme_of (sym e)

pub blocking_chosen : (w : List ℕ) → w ≡ blocking_word → Some Blocking ≡ scheme_of w
unfolding scheme_of
blocking_chosen w e = ap scheme_of (sym e)

pub none_known : (w : List ℕ) → (length w ≡ 0 → ⊥) → (w ≡ speculation_word → ⊥) → (w ≡ blocking_word → ⊥) → None ≡ scheme_of w
unfolding scheme_of
none_known w n s b =
    let e1 : eqb (length w) 0 ≡ false = ne_eqb (length w) 0 n in
    let e2 : bytes_eq w speculation_word ≡ false = other_word w speculation_word s in
    let e3 : bytes_eq w blocking_word ≡ false = other_word w blocking_word b in
    rw (e1, e2, e3)
