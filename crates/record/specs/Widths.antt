-- The layout's widths, each under one name: the words of an operation, of a live transaction, of a run and of an undo entry, and of the record's
-- three rows.
use Rattle.std.specs.Prelude.{ℕ, ◌+◌, ◌*◌}
use Rattle.model.specs.Limits.{most_operations, most_live, depth, most_entries}

-- code, cell, amount
abbrev pub op_width : ℕ
op_width = 3

-- and those of eight operations
abbrev pub ops_width : ℕ
ops_width = op_width * most_operations

-- where they end in a row: behind number, flags, coordinator and count
abbrev pub ops_end : ℕ
ops_end = 4 + ops_width

-- number, flags, coordinator, count, eight times code, cell, amount, and the attempt (02, L2)
abbrev pub live_width : ℕ
live_width = 29

-- fragments run, state, reply, entries, held place and count, eight held numbers, two zeros
abbrev pub run_width : ℕ
run_width = 16

-- cell, old number
abbrev pub entry_width : ℕ
entry_width = 2

abbrev pub live_length : ℕ
live_length = live_width * most_live

abbrev pub runs_length : ℕ
runs_length = run_width * depth

abbrev pub undo_length : ℕ
undo_length = entry_width * most_entries
