-- Which scheme the command's word chooses.
use Rattle.std.specs.Prelude.{ℕ, ◌||◌, eqb, length, Option, None, Some, List, [], ◌∷◌}
use Rattle.std.specs.Str.{bytes_eq}
use Rattle.model.specs.Operations.{pick}
use Rattle.model.specs.declared.Scheme.{Scheme}
use Rattle.model.specs.declared.Scheme.TheVariants.{Speculation, Blocking}

-- `speculation`
abbrev pub speculation_word : List ℕ
speculation_word = 115 ∷ 112 ∷ 101 ∷ 99 ∷ 117 ∷ 108 ∷ 97 ∷ 116 ∷ 105 ∷ 111 ∷ 110 ∷ []

-- `blocking`
abbrev pub blocking_word : List ℕ
blocking_word = 98 ∷ 108 ∷ 111 ∷ 99 ∷ 107 ∷ 105 ∷ 110 ∷ 103 ∷ []

-- no word: document 01's scheme
unfoldable pub scheme_of : List ℕ → Option Scheme
scheme_of word = pick (eqb (length word) 0 || bytes_eq word speculation_word) (Some Speculation) (pick (bytes_eq word blocking_word) (Some Blocking) None)
