-- What replaying a trace does to the record, the cells and the answer room.
use Rattle.std.specs.Prelude.{ℕ, zero, suc, ◌+◌, List}
use Rattle.std.proofs.lemmas.List.Edits.{sets}
use Rattle.model.specs.Operations.{Cells}
use Rattle.model.specs.declared.Event.{Event}
use Rattle.model.specs.declared.Scheme.{Scheme}
use Rattle.record.specs.declared.Record.{Record}
use Rattle.record.specs.Start.{fresh_of}
use Rattle.engine.specs.Called.{called, cells_after, room_after}
use Rattle.trace.specs.Format.{words_from, event_at}

-- what is kept from event to event
pub record Playing : Type 0 where
  pub next : Record
  pub cells : Cells
  pub room : List ℕ

abbrev pub playing : Record → Cells → List ℕ → Playing
playing r cells room = record { next = r; cells = cells; room = room }

-- one event, by a scheme
unfoldable pub played_one : Scheme → Event → Playing → Playing
played_one σ v k = playing (called σ k.next v k.cells k.room).next (cells_after σ k.next v k.cells k.room) (room_after σ k.next v k.cells k.room)

-- n events in order, the first at word b
unfoldable pub played : Scheme → List ℕ → ℕ → ℕ → Playing → Playing
played σ bytes b zero k = k
played σ bytes b (suc n) k = played σ bytes (b + 29) n (played_one σ (event_at bytes b) k)

-- "copies the trace's numbers over them", and starts
unfoldable pub started_trace : List ℕ → ℕ → Cells → List ℕ → Playing
started_trace bytes count cells room = playing (fresh_of count).next (sets cells 0 (words_from bytes 4 count)) room
