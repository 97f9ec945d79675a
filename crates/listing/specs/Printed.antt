-- Document 01, "The trace program": all lines that it prints for the word of its command and the bytes that it read, in order.
use Rattle.std.specs.Prelude.{ℕ, zero, suc, ◌+◌, ◌-◌, ◌*◌, ◌≡◌, Option, None, Some, List, [], ◌∷◌, ◌++◌, leb, length, get_or, set, replicate}
use Rattle.model.specs.Operations.{Cells, pick}
use Rattle.model.specs.declared.Scheme.{Scheme}
use Rattle.engine.specs.Called.{called, room_after}
use Rattle.trace.specs.declared.Shape.{Shape}
use Rattle.trace.specs.Format.{event_at, shape_of}
use Rattle.trace.specs.Text.{line_e, line_a, line_c, bad_trace, bad_scheme}
use Rattle.listing.specs.Chosen.{scheme_of}
use Rattle.listing.specs.Played.{Playing, played_one, played, started_trace}

abbrev pub Lines : Type 0
Lines = List (List ℕ)

-- n lines, from number i on
unfoldable pub lines_from : (ℕ → List ℕ) → ℕ → ℕ → Lines
lines_from line i zero = []
lines_from line i (suc n) = line i ∷ lines_from line (i + 1) n

-- the first n answers of a room
abbrev pub answer_lines : List ℕ → ℕ → Lines
answer_lines room n = lines_from (line_a room) 0 n

-- "prints `e` position (from 1) and returned number for each event, then `a` .. for each answer"
unfoldable pub event_lines : ℕ → ℕ → ℕ → List ℕ → Lines
event_lines position number answers room = line_e position number ∷ answer_lines room answers

-- n events in order, the first at word b, the line of which has this position
unfoldable pub events_lines : Scheme → List ℕ → ℕ → ℕ → ℕ → Playing → Lines
events_lines σ bytes position b zero k = []
events_lines σ bytes position b (suc n) k =
    let v = event_at bytes b in
    let d = called σ k.next v k.cells k.room in
    event_lines position d.number d.answers (room_after σ k.next v k.cells k.room) ++ events_lines σ bytes (position + 1) (b + 29) n (played_one σ v k)

-- "and at the end `c` cell and content for each cell": the first n
abbrev pub cell_lines : Cells → ℕ → Lines
cell_lines cells n = lines_from (λ (i : ℕ). line_c i (get_or cells i 0)) 0 n

-- a trace of this shape, from these cells and this room
unfoldable pub trace_lines : Scheme → List ℕ → Shape → Cells → List ℕ → Lines
trace_lines σ bytes s cells room =
    let k = started_trace bytes s.cells cells room in
    events_lines σ bytes 1 s.first s.events k ++ cell_lines (played σ bytes s.first s.events k).cells s.cells

-- "It starts from cells cleared to 0"; "Else it prints `bad trace` alone."
abbrev pub lines_as : Scheme → List ℕ → Option Shape → Lines
lines_as σ bytes None = bad_trace ∷ []
lines_as σ bytes (Some s) = trace_lines σ bytes s (replicate s.cells 0) (replicate 1024 0)

unfoldable pub lines_of : Scheme → List ℕ → Lines
lines_of σ bytes = lines_as σ bytes (shape_of bytes)

-- by what the command's word chooses; `bad scheme` alone where it names none, whatever was read
abbrev pub lines_by : Option Scheme → List ℕ → Lines
lines_by (Some σ) bytes = lines_of σ bytes
lines_by None bytes = bad_scheme ∷ []

unfoldable pub lines_for : List ℕ → List ℕ → Lines
lines_for word bytes = lines_by (scheme_of word) bytes

-- lines one behind the other
unfoldable pub together : Lines → List ℕ
together [] = []
together (l ∷ ls) = l ++ together ls

-- all that is printed for a word and for what was read, as bytes
unfoldable pub listing_of : List ℕ → List ℕ → List ℕ
listing_of word bytes = together (lines_for word bytes)

-- A buffer shows the text from one place on. Here is one byte of the text, at its place: one that stands before what the buffer shows, or behind
-- it, leaves no trace.
unfoldable pub seen : ℕ → List ℕ → ℕ → ℕ → List ℕ
seen from buffer at b = pick (leb from at) (set buffer (at - from) b) buffer

-- a part of the text, which stands at a place of it
unfoldable pub shown : ℕ → List ℕ → ℕ → List ℕ → List ℕ
shown from buffer at [] = buffer
shown from buffer at (b ∷ bs) = shown from (seen from buffer at b) (suc at) bs

-- what a function that puts a part of the text leaves: the place behind the part, and a buffer that shows it
pub record Put (from : ℕ) (old new : List ℕ) (at p : ℕ) (text : List ℕ) : Type 0 where
  pub place : p ≡ at + length text
  pub bytes : new ≡ shown from old at text

-- the most bytes of an event's lines: 24 for its own, 156 for each of its answers
abbrev pub most_of_event : ℕ
most_of_event = 24 + 156 * 64
