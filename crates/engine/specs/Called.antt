-- What a call does, of every scheme, record, event, lent cells and lent answer room: the list engine's step at the record's view.
use Rattle.std.specs.Prelude.{ℕ, zero, suc, ◌+◌, ◌*◌, ◌≡◌, ◌&&◌, List, Result, Ok, Err, eqb, ltb, length}
use Rattle.model.specs.Operations.{Cells, pick}
use Rattle.model.specs.Refusals.{Stepped, step}
use Rattle.model.specs.declared.Event.{Event}
use Rattle.model.specs.declared.Scheme.{Scheme}
use Rattle.refusals.specs.Numbers.{number_of}
use Rattle.refusals.specs.Rest.{call_of}
use Rattle.refusals.specs.declared.Refusal.{Refusal}
use Rattle.record.specs.declared.Counts.{Counts}
use Rattle.record.specs.declared.Record.{Record}
use Rattle.record.specs.Ends.{largest_at, largest_by}
use Rattle.record.specs.Widths.{live_width, run_width, entry_width}
use Rattle.record.specs.Words.{cleared, pack_over}
use Rattle.record.specs.View.{entries_from, shifted, view}

-- what a call tells: the number, the count of answers, and the next record
pub record Called : Type 0 where
  pub number : ℕ
  pub answers : ℕ
  pub next : Record

unfoldable pub stepped : Scheme → Record → Event → Cells → List ℕ → Stepped
stepped σ r v cells room = step (view r) (call_of σ v cells room)

-- how many transactions stand in the live row at some time in a call: those that are there, and one that comes
abbrev pub reached : Record → Event → ℕ
reached r v = r.counts.uncommitted + r.counts.waiting + pick (eqb v.kind 1 && ltb r.counts.largest v.number) 1 0

-- "0 is accepted": then each row's places that were in use at any time in this call are cleared, and what is in use after it is laid over them; places
-- that no row reached stay as they came. A refusal gives the very record that came
abbrev pub next_of : Record → Event → Stepped → Record
next_of r v s = elim s.number [
  | zero ↦ pack_over (cleared (live_width * reached r v) r.live) (cleared (run_width * r.counts.uncommitted) r.runs) (cleared (entry_width * entries_from r.runs 0 r.counts.uncommitted) r.undo) s.engine
  | suc k ↦ r
]

-- the returned number, the count of answers and the next record
unfoldable pub called : Scheme → Record → Event → Cells → List ℕ → Called
called σ r v cells room =
    let s = stepped σ r v cells room in
    record { number = s.number; answers = length s.answers; next = next_of r v s }

-- the lent cells and the lent room afterwards
abbrev pub cells_after : Scheme → Record → Event → Cells → List ℕ → Cells
cells_after σ r v cells room = (stepped σ r v cells room).cells

abbrev pub room_after : Scheme → Record → Event → Cells → List ℕ → List ℕ
room_after σ r v cells room = (stepped σ r v cells room).room

-- what a call tells, and the cells and the room that it leaves
abbrev pub Leaves : Scheme → Record → Event → Cells → List ℕ → Called → Cells → List ℕ → Type 0
Leaves σ r v cells room d cells' room' = (d ≡ called σ r v cells room) × (cells' ≡ cells_after σ r v cells room) × (room' ≡ room_after σ r v cells room)

-- a record from its counts and its rows
abbrev pub record_by : Counts → List ℕ → List ℕ → List ℕ → Record
record_by c live runs undo = record { counts = c; live = live; runs = runs; undo = undo }

-- what a call on a lent record returned and the record that it left, as one record: a refusal sends no answer
abbrev pub told_by : Result ℕ Refusal → Record → Called
told_by (Ok n) r = record { number = 0; answers = n; next = r }
told_by (Err e) r = record { number = number_of e; answers = 0; next = r }

-- and what it tells of a single with number n that met nothing live: the largest number moves, and the first place of the live row is cleared
abbrev pub settled_alone : Record → ℕ → Called
settled_alone r n = told_by (Ok 1) (record r { counts = largest_at r.counts (largest_by 1 n r.counts.largest); live = shifted r.live live_width live_width })
