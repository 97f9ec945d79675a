-- Which word each kind of an event is, read back from the kind.
use Prim.Native.Nat.{ℕ}
use mathlib.Core.Path.{◌≡◌, refl, sym, ap, ◌∙◌}
use mathlib.Core.Bool.{Bool, true, false}
use lib.Dec.{eqb}
use borrow.Author.Tests.{eqb-true}
use Rattle.std.specs.Prelude.{Result, Ok, Err}
use Rattle.model.specs.Kinds.{kind_of}
use Rattle.model.specs.Operations.{pick}
use Rattle.model.specs.declared.Kind.{Kind}
use Rattle.model.specs.declared.Kind.TheVariants.{Fragment, Commit, Abort}
use Rattle.model.specs.declared.UnknownKind.{UnknownKind}

abbrev pub word_of : Kind → ℕ
word_of Fragment = 1
word_of Commit = 2
word_of Abort = 3

pub kind_known : (k : Kind) → kind_of (word_of k) ≡ Ok k
kind_known Fragment = refl
kind_known Commit = refl
kind_known Abort = refl

pub kind_word : (n : ℕ) (k : Kind) → kind_of n ≡ Ok k → n ≡ word_of k
kind_word n k h = go (eqb n 1) (eqb n 2) (eqb n 3) refl refl refl h
  where
    go : (x y z : Bool) → eqb n 1 ≡ x → eqb n 2 ≡ y → eqb n 3 ≡ z → ◌≡◌ {A = Result Kind UnknownKind} (pick x (Ok Fragment) (pick y (Ok Commit) (pick z (Ok Abort) (Err (record { 0 = n }))))) (Ok k) → n ≡ word_of k
    go true y z a b c e = let q = eqb-true n 1 a in cc
    go false true z a b c e = let q = eqb-true n 2 b in cc
    go false false true a b c e = let q = eqb-true n 3 c in cc
    go false false false a b c e = cc

-- a word that is no kind is none of theirs
pub kind_unknown : (n : ℕ) (u : UnknownKind) → kind_of n ≡ Err u → (k : Kind) → n ≡ word_of k → ⊥
kind_unknown n u h k e = let p : Ok k ≡ Err u = sym (kind_known k) ∙ ap kind_of (sym e) ∙ h in cc
