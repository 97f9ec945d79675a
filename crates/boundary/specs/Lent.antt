-- What starting and a call of the library leave in the record that was lent to them, as the engine has it by value.
use Rattle.std.specs.Prelude.{ℕ, ◌≡◌}
use Rattle.record.specs.declared.Record.{Record}
use Rattle.record.specs.Start.{fresh_of}
use Rattle.engine.specs.Called.{Called}

-- the number returned and the record left by starting
abbrev pub started : ℕ → ℕ → Record → Type 0
started cells number next = record { number = number; next = next } ≡ fresh_of cells

-- the number returned, the count of answers and the record left by a call
abbrev pub called_with : ℕ → ℕ → Record → Called
called_with number answers next = record { number = number; answers = answers; next = next }
