-- Document 01, "The trace program": the lines that it prints, as bytes. A number past a row's end is 0.
use Rattle.std.specs.Prelude.{ℕ, zero, suc, ◌+◌, ◌-◌, ◌*◌, ◌/◌, ◌%◌, min, List, [], ◌∷◌, ◌++◌, ltb, length, get_or}
use Rattle.model.specs.Limits.{most_operations, answer_words}
use Rattle.model.specs.Operations.{pick}
use Rattle.model.specs.Transactions.{Answer}

-- the decimal digits of n, one and at most f more
unfoldable pub decimal_by : ℕ → ℕ → List ℕ
decimal_by zero n = (48 + n % 10) ∷ []
decimal_by (suc f) n = pick (ltb n 10) ((48 + n % 10) ∷ []) (decimal_by f (n / 10) ++ ((48 + n % 10) ∷ []))

-- a number of 32 bits has at most ten
unfoldable pub decimal : ℕ → List ℕ
decimal n = decimal_by 9 n

-- what digits say, read after the number a
unfoldable pub value_after : ℕ → List ℕ → ℕ
value_after a [] = a
value_after a (d ∷ ds) = value_after (10 * a + (d - 48)) ds

abbrev pub value : List ℕ → ℕ
value l = value_after 0 l

-- "one blank between fields": n numbers of a row from place b on, a blank before each
unfoldable pub fields_from : List ℕ → ℕ → ℕ → List ℕ
fields_from row b zero = []
fields_from row b (suc n) = 32 ∷ (decimal (get_or row b 0) ++ fields_from row (b + 1) n)

-- the same of a list
unfoldable pub fields : List ℕ → List ℕ
fields [] = []
fields (n ∷ ns) = 32 ∷ (decimal n ++ fields ns)

-- a line: a letter, the fields, the line's end
unfoldable pub line_from : ℕ → List ℕ → ℕ → ℕ → List ℕ
line_from letter row b n = letter ∷ (fields_from row b n ++ (10 ∷ []))

-- "prints `e` position (from 1) and returned number for each event"
unfoldable pub line_e : ℕ → ℕ → List ℕ
line_e position number = line_from 101 (position ∷ number ∷ []) 0 2

-- "then `a` transaction, dependence, place, count and that many numbers for each answer"; of both attempts, which are the thirteenth and the
-- fourteenth word of an answer, 02, L2: "The trace program prints both after the dependence". The fields of the answer whose words start at b:
-- transaction and dependence, both attempts, place, count and at most eight numbers
unfoldable pub told_from : List ℕ → ℕ → List ℕ
told_from room b = fields_from room b 2 ++ (fields_from room (b + 12) 2 ++ fields_from room (b + 2) (2 + min (get_or room (b + 3) 0) most_operations))

-- the line of the answer whose 16 words start at 16 * i
unfoldable pub line_a : List ℕ → ℕ → List ℕ
line_a room i = 97 ∷ (told_from room (answer_words * i) ++ (10 ∷ []))

-- the same of an answer that is known
unfoldable pub answer_line : Answer → List ℕ
answer_line a =
    97 ∷ (fields (a.number ∷ a.dependence ∷ a.attempt ∷ a.dependence_attempt ∷ a.outcome.place ∷ length a.outcome.numbers ∷ a.outcome.numbers) ++ (10 ∷ []))

-- "and at the end `c` cell and content for each cell"
unfoldable pub line_c : ℕ → ℕ → List ℕ
line_c cell content = line_from 99 (cell ∷ content ∷ []) 0 2

-- "Else it prints `bad trace` alone."
abbrev pub bad_trace : List ℕ
bad_trace = 98 ∷ 97 ∷ 100 ∷ 32 ∷ 116 ∷ 114 ∷ 97 ∷ 99 ∷ 101 ∷ 10 ∷ []

-- `bad scheme` alone, where the command's word names none
abbrev pub bad_scheme : List ℕ
bad_scheme = 98 ∷ 97 ∷ 100 ∷ 32 ∷ 115 ∷ 99 ∷ 104 ∷ 101 ∷ 109 ∷ 101 ∷ 10 ∷ []
