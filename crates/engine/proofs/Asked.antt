-- What the kind that a word stands for says of the word.
use Prim.Native.Nat.{ℕ}
use mathlib.Core.Path.{◌≡◌, refl, ap}
use mathlib.Core.Bool.{Bool, true, false}
use borrow.Author.Tests.{eqb-true}
use lib.Dec.{eqb}
use Rattle.std.specs.Prelude.{Result, Ok, Err}
use Rattle.model.specs.Kinds.{kind_of}
use Rattle.model.specs.Operations.{pick}
use Rattle.model.specs.declared.Kind.{Kind}
use Rattle.model.specs.declared.Kind.TheVariants.{Fragment, Commit, Abort}
use Rattle.model.specs.declared.UnknownKind.{UnknownKind}

abbrev pub is_fragment : Result Kind UnknownKind → Bool
is_fragment (Ok Fragment) = true
is_fragment (Ok Commit) = false
is_fragment (Ok Abort) = false
is_fragment (Err _) = false

abbrev pub is_commit : Result Kind UnknownKind → Bool
is_commit (Ok Fragment) = false
is_commit (Ok Commit) = true
is_commit (Ok Abort) = false
is_commit (Err _) = false

behind : ℕ → Bool → Bool → Result Kind UnknownKind
behind n c d = pick c (Ok Commit) (pick d (Ok Abort) (Err (record { 0 = n })))

no_fragment : (n : ℕ) (c d : Bool) → false ≡ is_fragment (behind n c d)
unfolding behind
no_fragment n true d = refl
no_fragment n false true = refl
no_fragment n false false = refl

some_commit : (n : ℕ) (c d : Bool) → c ≡ is_commit (behind n c d)
unfolding behind
some_commit n true d = refl
some_commit n false true = refl
some_commit n false false = refl

pub fragment_word : (n : ℕ) → eqb n 1 ≡ is_fragment (kind_of n)
unfolding behind
fragment_word n = go (eqb n 1)
  where
    go : (b : Bool) → b ≡ is_fragment (pick b (Ok Fragment) (behind n (eqb n 2) (eqb n 3)))
    go true = refl
    go false = no_fragment n (eqb n 2) (eqb n 3)

pub commit_word : (n : ℕ) → eqb n 2 ≡ is_commit (kind_of n)
unfolding behind
commit_word n = go (eqb n 1) refl
  where
    go : (b : Bool) → eqb n 1 ≡ b → eqb n 2 ≡ is_commit (pick b (Ok Fragment) (behind n (eqb n 2) (eqb n 3)))
    go true e = ap (λ (x : ℕ). eqb x 2) (eqb-true n 1 e)
    go false e = some_commit n (eqb n 2) (eqb n 3)

pub abort_no_fragment : (k : Kind) → k ≡ Abort → is_fragment (Ok k) ≡ false
abort_no_fragment k e = ap (λ (x : Kind). is_fragment (Ok x)) e

pub abort_no_commit : (k : Kind) → k ≡ Abort → is_commit (Ok k) ≡ false
abort_no_commit k e = ap (λ (x : Kind). is_commit (Ok x)) e
