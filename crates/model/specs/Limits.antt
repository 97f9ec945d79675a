-- The limits of document 01 that its rules test, each under one name.
use Rattle.std.specs.Prelude.{ℕ}

-- "each a whole number from 0 to 4,294,967,295 (called TOP)"
abbrev pub TOP : ℕ
TOP = 4294967295

-- "A partition is 1 to 4,096 cells"
abbrev pub most_cells : ℕ
most_cells = 4096

-- "A fragment holds 1 to 8 operations"
abbrev pub most_operations : ℕ
most_operations = 8

-- "up to 8 fragments"
abbrev pub most_fragments : ℕ
most_fragments = 8

-- "A multi has coordinator 1 to 255"
abbrev pub most_coordinator : ℕ
most_coordinator = 255

-- "uncommitted queue (at most 16)"
abbrev pub depth : ℕ
depth = 16

-- "Live transactions: at most 64."
abbrev pub most_live : ℕ
most_live = 64

-- "184 in all"
abbrev pub most_entries : ℕ
most_entries = 184

-- "answer room under 1,024 numbers"
abbrev pub least_room : ℕ
least_room = 1024

-- "An answer is 16 numbers of 32 bits"
abbrev pub answer_words : ℕ
answer_words = 16

-- "29 words an event"
abbrev pub event_words : ℕ
event_words = 29
