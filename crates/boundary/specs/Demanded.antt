-- Demand 3 of the library's own calls: an event is words, `event_of` them, and whatever the words are its row has eight places. So this is `RecordDemand3`
-- with no condition on events.
use Rattle.std.specs.Prelude.{ℕ, ◌≡◌, List, map}
use Rattle.model.specs.Operations.{Cells}
use Rattle.model.specs.Refusals.{Call}
use Rattle.model.specs.declared.Scheme.{Scheme}
use Rattle.carried.specs.Carried.{returned, RecordRun, onward_r, runs_r, fresh_r, LendsR, AllLendR, CellsHoldR, QueueOrderR, SettlingOrderR, PlainRightR, DependentRightR, sent_in_r, SeenRightR}
use Rattle.record.specs.Events.{event_of}

-- a call of the library: by speculation or by blocking, the words of its event, the cells and the room lent to it
pub record LibraryCall : Type 0 where
  pub scheme : Scheme
  pub words : List ℕ
  pub lent : Cells
  pub room : List ℕ

-- what its contract says that it does
abbrev pub as_call : LibraryCall → Call
as_call c = record { scheme = c.scheme; event = event_of c.words; lent = c.lent; room = c.room }

abbrev pub as_calls : List LibraryCall → List Call
as_calls calls = map as_call calls

-- from a start on cs, and lent the cells that the caller keeps
abbrev pub runs_l : Cells → List LibraryCall → RecordRun
runs_l cs calls = runs_r (fresh_r cs) (as_calls calls)

abbrev pub AllLendL : Cells → List LibraryCall → Type 0
AllLendL cs calls = AllLendR (fresh_r cs) (as_calls calls)

pub record LibraryDemand3 (cs : Cells) : Type 0 where
  pub cells : (calls : List LibraryCall) → AllLendL cs calls → CellsHoldR cs (runs_l cs calls)
  pub queues : (calls : List LibraryCall) → AllLendL cs calls → QueueOrderR (runs_l cs calls)
  pub settling : (calls : List LibraryCall) → AllLendL cs calls → (c : LibraryCall) → LendsR (runs_l cs calls) (as_call c) → SettlingOrderR (runs_l cs calls) (as_call c)
  pub plain : (calls : List LibraryCall) → AllLendL cs calls → (c : LibraryCall) → LendsR (runs_l cs calls) (as_call c) → PlainRightR cs (runs_l cs calls) (as_call c)
  pub dependent : (calls : List LibraryCall) → AllLendL cs calls → (c : LibraryCall) → LendsR (runs_l cs calls) (as_call c) → (between : List LibraryCall)
      → AllLendR (onward_r (runs_l cs calls) (as_call c)) (as_calls between) → (d : LibraryCall) → DependentRightR cs (runs_l cs calls) (as_call c) (as_calls between) (as_call d)
  pub seen : (calls : List LibraryCall) → AllLendL cs calls → (c : LibraryCall) → LendsR (runs_l cs calls) (as_call c) → (between : List LibraryCall)
      → AllLendR (onward_r (runs_l cs calls) (as_call c)) (as_calls between) → (d : LibraryCall)
      → SeenRightR cs (runs_l cs calls) (sent_in_r (fresh_r cs) (as_calls calls)) (as_call c) (as_calls between) (as_call d)
  pub never : (calls : List LibraryCall) (c : LibraryCall) → (returned (runs_l cs calls).kept (as_call c)).number ≡ 1 → ⊥
