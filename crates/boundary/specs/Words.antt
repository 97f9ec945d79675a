-- The size of the record's words.
use Rattle.std.specs.Prelude.{ℕ, ◌+◌, ◌*◌}
use Rattle.record.specs.Widths.{live_length, runs_length, undo_length}

-- four counts and the record's three rows, in words of four bytes each
abbrev pub record_bytes : ℕ
record_bytes = 4 * (4 + live_length + runs_length + undo_length)
