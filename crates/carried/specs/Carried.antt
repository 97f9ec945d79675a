-- Demand 3 of runs on records, words and rooms: each call is given the record that the last one returned, and what it returns is what the
-- contract of `call` says, `called`, `cells_after` and `room_after`. The log is the model's: it is read off the events and the returned numbers.
use Rattle.std.specs.Prelude.{ℕ, zero, suc, ◌+◌, ◌*◌, ◌≤◌, ◌<◌, ◌≡◌, List, [], ◌∷◌, ◌++◌, length, take, get_or}
use Rattle.model.specs.Limits.{least_room, answer_words}
use Rattle.model.specs.Operations.{Cells}
use Rattle.model.specs.Transactions.{Answer, answer, numbers}
use Rattle.model.specs.Refusals.{Abort, Commit, request, Call, settles_by}
use Rattle.model.specs.Serial.{Tx, serial}
use Rattle.model.specs.Demand.{Log, noticed, settled_of, live_of, settled_by, numbers_of, Rises, Gives, front_attempt, last_attempt}
use Rattle.model.specs.Demand as Demand
use Rattle.model.specs.declared.Event.{Event}
use Rattle.record.specs.declared.Record.{Record}
use Rattle.record.specs.Words.{pack}
use Rattle.record.specs.View.{view, numbers_from}
use Rattle.record.specs.Start.{fresh_of}
use Rattle.engine.specs.Called.{Called, called, cells_after, room_after}

-- an event is 29 words: its row has eight places
abbrev pub Words : Event → Type 0
Words v = length v.fragment.row ≡ 8

abbrev pub AllWords : List Call → Type 0
AllWords [] = Unit {0}
AllWords (c ∷ calls) = Words c.event × AllWords calls

-- what a call returns, and its room afterwards
abbrev pub returned : Record → Call → Called
returned r c = called c.scheme r c.event c.lent c.room

abbrev pub room_of : Record → Call → List ℕ
room_of r c = room_after c.scheme r c.event c.lent c.room

-- the answer whose 16 words start at b: transaction, dependence, place, count, eight numbers, and the attempts of both (02, L2)
unfoldable pub answer_from : List ℕ → ℕ → Answer
answer_from l b = answer (get_or l b 0) (get_or l (b + 1) 0) (get_or l (b + 12) 0) (get_or l (b + 13) 0) (record { place = get_or l (b + 2) 0; numbers = numbers_from l (b + 4) (get_or l (b + 3) 0) })

abbrev pub answer_at : List ℕ → ℕ → Answer
answer_at room i = answer_from room (answer_words * i)

-- the i-th answer of a call, read from its room
abbrev pub answer_of : Record → Call → ℕ → Answer
answer_of r c i = answer_at (room_of r c) i

-- n answers of a room, from the i-th on
abbrev pub answers_from : List ℕ → ℕ → ℕ → List Answer
answers_from room i zero = []
answers_from room i (suc n) = answer_at room i ∷ answers_from room (i + 1) n

-- all answers of a call, read from its room
abbrev pub answers_of : Record → Call → List Answer
answers_of r c = answers_from (room_of r c) 0 (returned r c).answers

-- a sequence of calls: the record, the cells that the caller keeps, and the log
pub record RecordRun : Type 0 where
  pub kept : Record
  pub cells : Cells
  pub log : Log

abbrev pub onward_r : RecordRun → Call → RecordRun
onward_r r c = record {
  kept = (returned r.kept c).next;
  cells = Demand.kept (returned r.kept c).number r.cells (cells_after c.scheme r.kept c.event c.lent c.room);
  log = noticed (returned r.kept c).number (request c.event) r.log;
}

abbrev pub runs_r : RecordRun → List Call → RecordRun
runs_r r [] = r
runs_r r (c ∷ calls) = runs_r (onward_r r c) calls

-- started with n cells, whether or not that was refused
abbrev pub started_r : ℕ → Cells → RecordRun
started_r n cs = record { kept = (fresh_of n).next; cells = cs; log = [] }

abbrev pub fresh_r : Cells → RecordRun
fresh_r cs = started_r (length cs) cs

-- each accepted call is lent the same cells; a refused one may be lent any
abbrev pub LendsR : RecordRun → Call → Type 0
LendsR r c = (returned r.kept c).number ≡ 0 → c.lent ≡ r.cells

abbrev pub AllLendR : RecordRun → List Call → Type 0
AllLendR r [] = Unit {0}
AllLendR r (c ∷ calls) = LendsR r c × AllLendR (onward_r r c) calls

-- the uncommitted ones: as many of the live ones as the record counts
abbrev pub uncommitted_r : RecordRun → List Tx
uncommitted_r r = take r.kept.counts.uncommitted (live_of r.log)

abbrev pub CellsHoldR : Cells → RecordRun → Type 0
CellsHoldR cs r = r.cells ≡ serial (uncommitted_r r) (serial (settled_of r.log) cs)

abbrev pub QueueOrderR : RecordRun → Type 0
QueueOrderR r = numbers (view r.kept).uncommitted (view r.kept).waiting ≡ numbers_of (live_of r.log)

-- settled, by the record's own queues
abbrev pub settled_in_r : RecordRun → List Tx
settled_in_r r = settled_by (numbers (view r.kept).uncommitted (view r.kept).waiting) r.log

pub record SettlingOrderR (r : RecordRun) (c : Call) : Type 0 where
  pub accepted : Rises 0 r.kept.counts.largest (numbers_of r.log)
  pub rises : Rises 0 r.kept.counts.largest (numbers_of (settled_of r.log ++ live_of r.log))
  pub more : List Tx
  pub grows : settled_of (onward_r r c).log ≡ settled_of r.log ++ more
  pub named : numbers_of more ≡ settles_by (returned r.kept c).number (view r.kept) c

abbrev pub PlainRightR : Cells → RecordRun → Call → Type 0
PlainRightR cs r c =
    (i : ℕ) → i < (returned r.kept c).answers → (answer_of r.kept c i).dependence ≡ 0
    → Gives cs (answer_of r.kept c i).number (onward_r r c).log (answer_of r.kept c i).outcome

-- The last sentence, as 02's L2 has it: "right if D commits in that very attempt". c sends the answer, `between` are the calls after it, d commits what it
-- depends on. By the attempt that the record has of its front
abbrev pub DependentRightR : Cells → RecordRun → Call → List Call → Call → Type 0
DependentRightR cs r c between d =
    (i : ℕ) → i < (returned r.kept c).answers → ((answer_of r.kept c i).dependence ≡ 0 → ⊥)
    → request d.event ≡ Commit (answer_of r.kept c i).dependence
    → (returned (runs_r (onward_r r c) between).kept d).number ≡ 0
    → front_attempt (view (runs_r (onward_r r c) between).kept).uncommitted ≡ (answer_of r.kept c i).dependence_attempt
    → Gives cs (answer_of r.kept c i).number (onward_r (runs_r (onward_r r c) between) d).log (answer_of r.kept c i).outcome

-- and by the rooms alone: all answers that calls send, in the order in which they are sent, and past those before c
abbrev pub sent_in_r : RecordRun → List Call → List Answer
sent_in_r r [] = []
sent_in_r r (c ∷ calls) = answers_of r.kept c ++ sent_in_r (onward_r r c) calls

abbrev pub SeenRightR : Cells → RecordRun → List Answer → Call → List Call → Call → Type 0
SeenRightR cs r past c between d =
    (i : ℕ) → i < (returned r.kept c).answers → ((answer_of r.kept c i).dependence ≡ 0 → ⊥)
    → request d.event ≡ Commit (answer_of r.kept c i).dependence
    → (returned (runs_r (onward_r r c) between).kept d).number ≡ 0
    → last_attempt (answer_of r.kept c i).dependence 0 (past ++ sent_in_r r (c ∷ between)) ≡ (answer_of r.kept c i).dependence_attempt
    → Gives cs (answer_of r.kept c i).number (onward_r (runs_r (onward_r r c) between) d).log (answer_of r.kept c i).outcome

-- What 01 says of it holds too (`undisturbed_record`): no abort was accepted in between
abbrev pub NoAbortR : RecordRun → List Call → Type 0
NoAbortR r [] = Unit {0}
NoAbortR r (c ∷ calls) = ((returned r.kept c).number ≡ 0 → (n : ℕ) → request c.event ≡ Abort n → ⊥) × NoAbortR (onward_r r c) calls

abbrev pub UndisturbedRightR : Cells → RecordRun → Call → List Call → Call → Type 0
UndisturbedRightR cs r c between d =
    (i : ℕ) → i < (returned r.kept c).answers → ((answer_of r.kept c i).dependence ≡ 0 → ⊥)
    → NoAbortR (onward_r r c) between
    → request d.event ≡ Commit (answer_of r.kept c i).dependence
    → (returned (runs_r (onward_r r c) between).kept d).number ≡ 0
    → Gives cs (answer_of r.kept c i).number (onward_r (runs_r (onward_r r c) between) d).log (answer_of r.kept c i).outcome

-- Demand 3, a field for each sentence: after any calls from a fresh start on cs; and one more, that no call from a fresh start returns 1
pub record RecordDemand3 (cs : Cells) : Type 0 where
  pub cells : (calls : List Call) → AllWords calls → AllLendR (fresh_r cs) calls → CellsHoldR cs (runs_r (fresh_r cs) calls)
  pub queues : (calls : List Call) → AllWords calls → AllLendR (fresh_r cs) calls → QueueOrderR (runs_r (fresh_r cs) calls)
  pub settling : (calls : List Call) → AllWords calls → AllLendR (fresh_r cs) calls → (c : Call) → LendsR (runs_r (fresh_r cs) calls) c
      → SettlingOrderR (runs_r (fresh_r cs) calls) c
  pub plain : (calls : List Call) → AllWords calls → AllLendR (fresh_r cs) calls → (c : Call) → Words c.event → LendsR (runs_r (fresh_r cs) calls) c
      → PlainRightR cs (runs_r (fresh_r cs) calls) c
  pub dependent : (calls : List Call) → AllWords calls → AllLendR (fresh_r cs) calls → (c : Call) → Words c.event → LendsR (runs_r (fresh_r cs) calls) c
      → (between : List Call) → AllWords between → AllLendR (onward_r (runs_r (fresh_r cs) calls) c) between → (d : Call)
      → DependentRightR cs (runs_r (fresh_r cs) calls) c between d
  pub seen : (calls : List Call) → AllWords calls → AllLendR (fresh_r cs) calls → (c : Call) → Words c.event → LendsR (runs_r (fresh_r cs) calls) c
      → (between : List Call) → AllWords between → AllLendR (onward_r (runs_r (fresh_r cs) calls) c) between → (d : Call)
      → SeenRightR cs (runs_r (fresh_r cs) calls) (sent_in_r (fresh_r cs) calls) c between d
  pub never : (calls : List Call) → AllWords calls → (c : Call) → (returned (runs_r (fresh_r cs) calls).kept c).number ≡ 1 → ⊥

-- every unused place is zero
abbrev pub Plain : Record → Type 0
Plain r = r ≡ pack (view r)

-- "a record with 0 cells, which every later call with enough room refuses by 3": after a refused start with n cells and any calls, whatever they were lent
pub record NotStarted (n : ℕ) : Type 0 where
  pub none : (fresh_of n).next.counts.cells ≡ 0
  pub stays : (cs : Cells) (calls : List Call) → (runs_r (started_r n cs) calls).kept ≡ (fresh_of n).next
  pub refuses : (cs : Cells) (calls : List Call) (c : Call) → least_room ≤ length c.room → (returned (runs_r (started_r n cs) calls).kept c).number ≡ 3
