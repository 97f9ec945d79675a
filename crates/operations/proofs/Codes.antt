-- What the table says of a number that is no code: no to each question, and that it fails with what it found.
use Prim.Native.Nat.{ℕ, zero, suc, ◌≤◌, ◌<◌}
use native.Mathlib.Omega.{arith}
use mathlib.Core.Path.{◌≡◌, refl, sym, ap, ◌∙◌}
use mathlib.Core.Bool.{Bool, true, false, ◌&&◌, true≢false}
use mathlib.Core.List.{List}
use lib.Dec.{leb, eqb}
use lib.ListN.{length, get_or, get_or-eq_default}
use borrow.Author.Tests.{le-leb, leb-false, ne_eqb}
use Rattle.std.specs.Prelude.{Result, Ok, Err}
use Rattle.operations.specs.declared.code.Code.{Code}
use Rattle.operations.specs.declared.code.Code.TheVariants.{Read, Set, Add, Take, Need, Match, Raise, Lower}
use Rattle.operations.specs.declared.code.UnknownCode.{UnknownCode}
use Rattle.operations.specs.Table.{number_of, Decodes}
use Rattle.model.specs.Operations.{pick, known, uses, writes, may_fail, meaning, uses_row, writes_row, fails_row}

no_row : (row : List Bool) (n : ℕ) → length row ≤ 9 → get_or row 0 false ≡ false → known n ≡ false → get_or row n false ≡ false
no_row row zero l z k = z
no_row row (suc n) l z k =
    let past : 8 < suc n = leb-false (suc n) 8 (ap (λ (b : Bool). b && leb (suc n) 8) (sym (le-leb 1 (suc n) (omega arith))) ∙ k) in
    get_or-eq_default row false (omega (arith, l))

module _ (n : ℕ) (k : known n ≡ false) where
  pub uses_none : uses n ≡ false
  unfolding uses
  uses_none = no_row uses_row n (omega arith) refl k

  pub writes_none : writes n ≡ false
  unfolding writes
  writes_none = no_row writes_row n (omega arith) refl k

  pub fails_none : may_fail n ≡ false
  unfolding may_fail
  fails_none = no_row fails_row n (omega arith) refl k

  not_code : (c : ℕ) → known c ≡ true → eqb n c ≡ false
  not_code c h = ne_eqb n c (λ e. true≢false (sym h ∙ ap known (sym e) ∙ k))

  pub no_meaning : (x v : ℕ) → meaning n x v ≡ Err x
  unfolding meaning
  no_meaning x v = simp (not_code 1 refl, not_code 2 refl, not_code 3 refl, not_code 4 refl, not_code 5 refl, not_code 6 refl, not_code 7 refl, not_code 8 refl)

-- No two codes have one number, and each number of one is known.
code_at : ℕ → Code
code_at n = pick (eqb n 1) Read (pick (eqb n 2) Set (pick (eqb n 3) Add (pick (eqb n 4) Take (pick (eqb n 5) Need (pick (eqb n 6) Match (pick (eqb n 7) Raise Lower))))))

code_back : (c : Code) → code_at (number_of c) ≡ c
unfolding code_at
code_back Read = refl
code_back Set = refl
code_back Add = refl
code_back Take = refl
code_back Need = refl
code_back Match = refl
code_back Raise = refl
code_back Lower = refl

code_known : (c : Code) → known (number_of c) ≡ true
code_known Read = refl
code_known Set = refl
code_known Add = refl
code_known Take = refl
code_known Need = refl
code_known Match = refl
code_known Raise = refl
code_known Lower = refl

-- what a number is read as is one
pub decodes_one : (n : ℕ) (r r' : Result Code UnknownCode) → Decodes n r → Decodes n r' → r ≡ r'
decodes_one n (Ok c) (Ok c') h h' = ap Ok (sym (code_back c) ∙ ap code_at (h ∙ sym h') ∙ code_back c')
decodes_one n (Ok c) (Err e) h h' = absurd (true≢false (sym (code_known c) ∙ ap known h ∙ h'.1))
decodes_one n (Err e) (Ok c) h h' = absurd (true≢false (sym (code_known c) ∙ ap known h' ∙ h.1))
decodes_one n (Err e) (Err e') h h' = λ i. Err (record { 0 = (h.0 ∙ sym h'.0) i })
