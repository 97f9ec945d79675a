-- The table of codes by the program's names: which number a code has, and what a number is read as.
use Rattle.std.specs.Prelude.{◌≡◌, ℕ, false, Result, MatchResult}
use Rattle.model.specs.Operations.{known}
use Rattle.operations.specs.declared.code.Code.{Code}
use Rattle.operations.specs.declared.code.Code.TheVariants.{Read, Set, Add, Take, Need, Match, Raise, Lower}
use Rattle.operations.specs.declared.code.UnknownCode.{UnknownCode}

-- column "code": "1 read, 2 set, 3 add, 4 take, 5 need, 6 match and 7 raise to 8 lower"
abbrev pub number_of : Code → ℕ
number_of Read = 1
number_of Set = 2
number_of Add = 3
number_of Take = 4
number_of Need = 5
number_of Match = 6
number_of Raise = 7
number_of Lower = 8

-- what a number is read as: the code that has it, or an error with the number where it is no code
abbrev pub Decodes : ℕ → Result Code UnknownCode → Type 0
Decodes n r = MatchResult r (λ code. number_of code ≡ n) (λ e. (e.0 ≡ n) × (known n ≡ false))
