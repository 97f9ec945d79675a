-- The three columns of flags say what the meanings do: what never fails, what only reads, what ignores v. What fails gives the number it found.
use Prim.Native.Nat.{ℕ, zero, suc, ◌+◌, ◌≤◌}
use native.Mathlib.Omega.{arith}
use borrow.Author.Tests.{leb-true}
use mathlib.Core.Path.{◌≡◌, refl, sym, subst}
use mathlib.Core.Bool.{Bool, true, false, true≢false}
use lib.Dec.{leb, ltb, eqb}
use lib.ListN.{length}
use mathlib.Core.List.{List, [], ◌∷◌, ◌++◌}
use Rattle.model.specs.Limits.{TOP}
use Rattle.model.specs.Operations.{Cells, Did, known, uses, writes, may_fail, meaning, content, operate, operations, put, pick, tells}
use Rattle.model.specs.Steps.{Ran, run_from, run, undone, noted}
use Rattle.model.specs.declared.Op.{Op}
use Rattle.model.specs.declared.Fragment.{Fragment}
use Rattle.model.specs.declared.Undo.{Undo}
use Rattle.std.specs.Prelude.{Ok, Err}
use Rattle.model.proofs.Tests.{and_right}

-- a property of the codes holds of every known one if it holds of each of the eight
pub each_code : (P : ℕ → Type 0) → P 1 → P 2 → P 3 → P 4 → P 5 → P 6 → P 7 → P 8 → (code : ℕ) → known code ≡ true → P code
each_code P a b c d e f g h zero k = absurd (true≢false (sym k))
each_code P a b c d e f g h (suc zero) k = a
each_code P a b c d e f g h (suc (suc zero)) k = b
each_code P a b c d e f g h (suc (suc (suc zero))) k = c
each_code P a b c d e f g h (suc (suc (suc (suc zero)))) k = d
each_code P a b c d e f g h (suc (suc (suc (suc (suc zero))))) k = e
each_code P a b c d e f g h (suc (suc (suc (suc (suc (suc zero)))))) k = f
each_code P a b c d e f g h (suc (suc (suc (suc (suc (suc (suc zero))))))) k = g
each_code P a b c d e f g h (suc (suc (suc (suc (suc (suc (suc (suc zero)))))))) k = h
each_code P a b c d e f g h (suc (suc (suc (suc (suc (suc (suc (suc (suc n))))))))) k =
    let c : ℕ = suc (suc (suc (suc (suc (suc (suc (suc (suc n)))))))) in
    let m : c ≤ 8 = leb-true c 8 (and_right (leb 1 c) (leb c 8) k) in
    absurd (omega arith)

not_number : (y z : ℕ) → Ok y ≡ Err z → ⊥
not_number y z e = let z : ◌≡◌ {A = ℕ} 0 1 = cc in omega arith

not-either : (b : Bool) (x y z : ℕ) → pick b (Ok x) (Ok y) ≡ Err z → ⊥
not-either true x y z e = not_number x z e
not-either false x y z e = not_number y z e

-- "may fail": no
pub never_fails : (code : ℕ) → known code ≡ true → (x v z : ℕ) → may_fail code ≡ false → meaning code x v ≡ Err z → ⊥
unfolding may_fail meaning
never_fails code k = each_code (λ (c : ℕ). (x v z : ℕ) → may_fail c ≡ false → meaning c x v ≡ Err z → ⊥)
    (λ x v z h e. not_number x z e)
    (λ x v z h e. not_number v z e)
    (λ x v z h e. true≢false h)
    (λ x v z h e. true≢false h)
    (λ x v z h e. true≢false h)
    (λ x v z h e. true≢false h)
    (λ x v z h e. not-either (ltb x v) v x z e)
    (λ x v z h e. not-either (ltb v x) v x z e)
    code k

same_number : (x y : ℕ) → ◌≡◌ {A = Did} (Ok x) (Ok y) → y ≡ x
same_number x y e = cc

unless : (b : Bool) (x y z : ℕ) → pick b (Err z) (Ok x) ≡ Ok y → y ≡ x
unless true x y z e = let z : ◌≡◌ {A = ℕ} 0 1 = cc in absurd (omega arith)
unless false x y z e = same_number x y e

when : (b : Bool) (x y z : ℕ) → pick b (Ok x) (Err z) ≡ Ok y → y ≡ x
when true x y z e = same_number x y e
when false x y z e = let z : ◌≡◌ {A = ℕ} 0 1 = cc in absurd (omega arith)

-- "writes": no
pub only_reads : (code : ℕ) → known code ≡ true → (x v y : ℕ) → writes code ≡ false → meaning code x v ≡ Ok y → y ≡ x
unfolding writes meaning
only_reads code k = each_code (λ (c : ℕ). (x v y : ℕ) → writes c ≡ false → meaning c x v ≡ Ok y → y ≡ x)
    (λ x v y h e. same_number x y e)
    (λ x v y h e. absurd (true≢false h))
    (λ x v y h e. absurd (true≢false h))
    (λ x v y h e. absurd (true≢false h))
    (λ x v y h e. unless (ltb x v) x y _ e)
    (λ x v y h e. when (eqb x v) x y _ e)
    (λ x v y h e. absurd (true≢false h))
    (λ x v y h e. absurd (true≢false h))
    code k

-- "v used": no
pub ignores_amount : (code : ℕ) → known code ≡ true → (x v w : ℕ) → uses code ≡ false → meaning code x v ≡ meaning code x w
unfolding uses meaning
ignores_amount code k = each_code (λ (c : ℕ). (x v w : ℕ) → uses c ≡ false → meaning c x v ≡ meaning c x w)
    (λ x v w h. refl)
    (λ x v w h. absurd (true≢false h))
    (λ x v w h. absurd (true≢false h))
    (λ x v w h. absurd (true≢false h))
    (λ x v w h. absurd (true≢false h))
    (λ x v w h. absurd (true≢false h))
    (λ x v w h. absurd (true≢false h))
    (λ x v w h. absurd (true≢false h))
    code k

-- "A failing operation now gives the number it found" (02, L4)
abbrev Found : ℕ → Did → Type 0
Found x (Ok y) = Unit {0}
Found x (Err z) = z ≡ x

either : (x : ℕ) (b : Bool) (d e : Did) → Found x d → Found x e → Found x (pick b d e)
either x true d e h k = h
either x false d e h k = k

meaning_found : (code x v : ℕ) → Found x (meaning code x v)
unfolding meaning
meaning_found code x v = either x (eqb code 1) _ _ tt
    (either x (eqb code 2) _ _ tt
    (either x (eqb code 3) _ _ (either x (ltb TOP (x + v)) _ _ refl tt)
    (either x (eqb code 4) _ _ (either x (ltb x v) _ _ refl tt)
    (either x (eqb code 5) _ _ (either x (ltb x v) _ _ refl tt)
    (either x (eqb code 6) _ _ (either x (eqb x v) _ _ tt refl)
    (either x (eqb code 7) _ _ (either x (ltb x v) _ _ tt tt)
    (either x (eqb code 8) _ _ (either x (ltb v x) _ _ tt tt) refl)))))))

pub fails_found : (o : Op) (cs : Cells) (z : ℕ) → operate o cs ≡ Err z → z ≡ content o cs
fails_found o cs z e = subst (Found (content o cs)) e (meaning_found o.code (content o cs) o.amount)

-- "the failed answer has count 1 and that number" (02, L4)
failed_from : (p : ℕ) (os : List Op) (cs : Cells) (ns : List ℕ) (us : List Undo) → ((run_from p os cs ns us).outcome.place ≡ 0 → ⊥) → length (run_from p os cs ns us).outcome.numbers ≡ 1
unfolding run_from
failed_from p [] cs ns us h = absurd (h refl)
failed_from p (o ∷ os) cs ns us h =
    elim (operate o cs)
    as (λ d. ((by d).outcome.place ≡ 0 → ⊥) → length (by d).outcome.numbers ≡ 1) [
      | Ok y ↦ failed_from (suc p) os (put o y cs) (ns ++ (y ∷ [])) (noted o cs us)
      | Err x ↦ λ k. refl
    ] h
  where
    by : Did → Ran
    by d = elim d [
      | Ok y ↦ run_from (suc p) os (put o y cs) (ns ++ (y ∷ [])) (noted o cs us)
      | Err x ↦ record { cells = undone us cs; outcome = tells p (Err x); undo = [] }
    ]

pub failed_one : (f : Fragment) (cs : Cells) (us : List Undo) → ((run f cs us).outcome.place ≡ 0 → ⊥) → length (run f cs us).outcome.numbers ≡ 1
failed_one f cs us h = failed_from 1 (operations f) cs [] us h

-- a fragment of one operation answers what the case of its answer tells
pub one_tells : (o : Op) (cs : Cells) → (run_from 1 (o ∷ []) cs [] []).outcome ≡ tells 1 (operate o cs)
unfolding run_from
one_tells o cs = go (operate o cs)
  where
    go : (d : Did) → (elim d as (λ _. Ran) [
      | Ok y ↦ run_from 2 [] (put o y cs) (y ∷ []) (noted o cs [])
      | Err x ↦ record { cells = undone [] cs; outcome = tells 1 (Err x); undo = [] }
    ]).outcome ≡ tells 1 d
    go (Ok y) = refl
    go (Err x) = refl
