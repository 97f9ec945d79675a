-- Document 01, "The trace program": what bytes mean as a trace. A byte past the end is 0.
use Rattle.std.specs.Prelude.{ℕ, zero, suc, ◌+◌, ◌*◌, Bool, ◌&&◌, Option, None, Some, List, [], ◌∷◌, leb, eqb, length, get_or}
use Rattle.model.specs.Limits.{most_cells}
use Rattle.model.specs.Operations.{pick}
use Rattle.model.specs.declared.Op.{Op}
use Rattle.model.specs.declared.Event.{Event}
use Rattle.trace.specs.declared.Shape.{Shape}

-- "32-bit little-endian words": the word number i
unfoldable pub word_at : List ℕ → ℕ → ℕ
word_at l i = get_or l (4 * i) 0 + 256 * get_or l (4 * i + 1) 0 + 65536 * get_or l (4 * i + 2) 0 + 16777216 * get_or l (4 * i + 3) 0

-- n words from word b on
unfoldable pub words_from : List ℕ → ℕ → ℕ → List ℕ
words_from l b zero = []
words_from l b (suc n) = word_at l b ∷ words_from l (b + 1) n

-- "a header of counts and offsets (cells, word offset of cells, events, word offset of events), the cells, then 29 words an event ..
-- Offsets are exactly 4 and 4 + cells; 1 to 4,096 cells, 0 to 256 events, nothing after."
unfoldable pub good : List ℕ → Bool
good l =
    leb 1 (word_at l 0) && leb (word_at l 0) most_cells
    && eqb (word_at l 1) 4
    && leb (word_at l 2) 256
    && eqb (word_at l 3) (4 + word_at l 0)
    && eqb (length l) (4 * (4 + word_at l 0 + 29 * word_at l 2))

-- "Else it prints `bad trace` alone."
unfoldable pub shape_of : List ℕ → Option Shape
shape_of l = pick (good l) (Some (record { cells = word_at l 0; events = word_at l 2; first = word_at l 3 })) None

-- "code, cell, amount": the operation whose words start at word b
abbrev pub op_from : List ℕ → ℕ → Op
op_from l b = record { code = word_at l b; cell = word_at l (b + 1); amount = word_at l (b + 2) }

-- "29 words an event: kind (1 fragment, 2 commit, 3 abort), number, flags (1 multi + 2 last), coordinator, operation count, eight times
-- code, cell, amount": the event whose words start at word b
unfoldable pub event_at : List ℕ → ℕ → Event
event_at l b = record {
  kind = word_at l b;
  number = word_at l (b + 1);
  fragment = record {
    flags = word_at l (b + 2);
    coordinator = word_at l (b + 3);
    count = word_at l (b + 4);
    row = op_from l (b + 5) ∷ op_from l (b + 8) ∷ op_from l (b + 11) ∷ op_from l (b + 14) ∷ op_from l (b + 17) ∷ op_from l (b + 20) ∷ op_from l (b + 23) ∷ op_from l (b + 26) ∷ [];
  };
}
