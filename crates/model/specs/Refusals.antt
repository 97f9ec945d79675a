-- Document 01, "Numbers a call returns": well-formedness, soundness, the ordered refusals, starting, and one call.
use Rattle.std.specs.Prelude.{ℕ, zero, suc, ◌+◌, ◌*◌, Bool, true, false, not, ◌&&◌, ◌||◌, List, [], ◌∷◌, leb, ltb, eqb, length, drop}
use Rattle.model.specs.Limits.{most_cells, most_operations, most_fragments, most_coordinator, depth, most_live, most_entries, least_room}
use Rattle.model.specs.Operations.{Cells, known, uses, multi, last, operations, pick}
use Rattle.model.specs.Transactions.{State, Running, Finished, Failed, NoState, finished, failed, Reply, Held, Sent, NoReply, holds, Uncommitted, Waiting, Engine, undo_list, numbers, attempts, front, Answer, filled}
use Rattle.model.specs.Steps.{Queues, arrived, committed, aborted}
use Rattle.model.specs.declared.Op.{Op}
use Rattle.model.specs.declared.Fragment.{Fragment}
use Rattle.model.specs.declared.Event.{Event}
use Rattle.model.specs.declared.Undo.{Undo}
use Rattle.model.specs.declared.Scheme.{Scheme}

abbrev pub every : {A : Type 0} → (A → Bool) → List A → Bool
every p [] = true
every p (a ∷ l) = p a && every p l

-- What an event asks for: "kind (1 fragment, 2 commit, 3 abort)"
pub data Request : Type 0 where
  Arrive : ℕ → Fragment → Request
  Commit : ℕ → Request
  Abort : ℕ → Request

abbrev pub request : Event → Request
request v = elim (eqb v.kind 1) [ true ↦ Arrive v.number v.fragment | false ↦ elim (eqb v.kind 2) [ true ↦ Commit v.number | false ↦ Abort v.number ] ]

-- Refusal 4, from the inside out

-- "unknown code, read with v above 0": a code that does not use v has v = 0
abbrev pub formed_op : Op → Bool
formed_op o = known o.code && (uses o.code || eqb o.amount 0)

-- "unused place not zero"
abbrev pub blank_op : Op → Bool
blank_op o = eqb o.code 0 && eqb o.cell 0 && eqb o.amount 0

-- "single not last, coordinator of the wrong range": "A single has one fragment, marked last, and coordinator 0. A multi has coordinator 1 to 255"
abbrev pub formed_kind : Fragment → Bool
formed_kind f = elim (multi f) [ true ↦ leb 1 f.coordinator && leb f.coordinator most_coordinator | false ↦ last f && eqb f.coordinator 0 ]

-- with "operations not 1 to 8" and "a flag other than multi and last"
unfoldable pub formed : Fragment → Bool
formed f =
    leb 1 f.count && leb f.count most_operations
    && every formed_op (operations f)
    && every blank_op (drop f.count f.row)
    && leb f.flags 3
    && formed_kind f

-- "a decision with more than its number"
unfoldable pub blank : Fragment → Bool
blank f = eqb f.flags 0 && eqb f.coordinator 0 && eqb f.count 0 && every blank_op f.row

-- with "event kind not 1 to 3, number 0"
abbrev pub formed_event : Event → Bool
formed_event v = leb 1 v.number && (eqb v.kind 1 && formed v.fragment || (eqb v.kind 2 || eqb v.kind 3) && blank v.fragment)

-- Refusal 5: "a cell at or beyond the count": none
unfoldable pub inside : ℕ → Fragment → Bool
inside ct f = every (λ (o : Op). ltb o.cell ct) (operations f)

-- Refusal 1, clause by clause: each line is what a sound record has, above it what the list calls unsound

-- "live numbers 0, not rising or above the largest accepted": they rise from above n to at most top
abbrev pub rising : ℕ → ℕ → List ℕ → Bool
rising n top [] = leb n top
rising n top (m ∷ ms) = ltb n m && rising m top ms

-- 02, L2: "in a sound record an attempt is at least 1, and attempt plus transactions ahead at most 64": i are ahead of the first of these
abbrev pub ahead_fits : ℕ → List ℕ → Bool
ahead_fits i [] = true
ahead_fits i (a ∷ as') = leb (a + i) most_live && ahead_fits (1 + i) as'

-- "a stored fragment that 4 or 5 would refuse"
abbrev pub storable : ℕ → Fragment → Bool
storable ct f = formed f && inside ct f

abbrev pub behind : List Uncommitted → List Uncommitted
behind [] = []
behind (u ∷ us) = us

-- all but the last are finished
abbrev pub ready : List Uncommitted → Bool
ready [] = true
ready (u ∷ []) = true
ready (u ∷ v ∷ us) = finished u.state && ready (v ∷ us)

abbrev pub fits : Reply → Bool
fits (Held o) = leb (length o.numbers) most_operations && leb o.place most_operations
fits Sent = true
fits NoReply = true

-- a word of the record that stands for nothing
abbrev pub is_state : State → Bool
is_state Running = true
is_state Finished = true
is_state Failed = true
is_state NoState = false

abbrev pub is_reply : Reply → Bool
is_reply (Held o) = true
is_reply Sent = true
is_reply NoReply = false

unfoldable pub clauses : Engine → List Bool
clauses e =
    -- "a cell count above 4,096"
    leb e.count most_cells
    -- "queues, undo entries or fragments run beyond the limits above"
    ∷ leb (length e.uncommitted) depth
    ∷ leb (length e.uncommitted + length e.waiting) most_live
    ∷ leb (length (undo_list e.uncommitted)) most_entries
    ∷ every (λ (u : Uncommitted). leb u.ran most_fragments) e.uncommitted
    -- "live numbers 0, not rising or above the largest accepted"
    ∷ rising 0 e.largest (numbers e.uncommitted e.waiting)
    -- "a stored fragment that 4 or 5 would refuse"
    ∷ every (λ (u : Uncommitted). storable e.count u.first) e.uncommitted
    ∷ every (λ (w : Waiting). storable e.count w.fragment) e.waiting
    -- "an uncommitted transaction with no fragment run"
    ∷ every (λ (u : Uncommitted). leb 1 u.ran) e.uncommitted
    -- "one behind the front with more than one run"
    ∷ every (λ (u : Uncommitted). leb u.ran 1) (behind e.uncommitted)
    -- "a front that is a single or holds its answer"
    ∷ not (front (λ (u : Uncommitted). not (multi u.first) || holds u.reply) e.uncommitted)
    -- "an uncommitted single whose answer is not held"
    ∷ every (λ (u : Uncommitted). multi u.first || holds u.reply) e.uncommitted
    -- "an unfinished one that is not the last"
    ∷ ready e.uncommitted
    -- "a held answer of more than 8 numbers or a place above 8"
    ∷ every (λ (u : Uncommitted). fits u.reply) e.uncommitted
    -- "an undo cell outside"
    ∷ every (λ (x : Undo). ltb x.cell e.count) (undo_list e.uncommitted)
    -- "undo entries beyond 8 for each fragment its owner ran"
    ∷ every (λ (u : Uncommitted). leb (length u.undo) (8 * u.ran)) e.uncommitted
    -- 02, L2: "in a sound record an attempt is at least 1, and attempt plus transactions ahead at most 64"
    ∷ every (λ (a : ℕ). leb 1 a) (attempts e.uncommitted e.waiting)
    ∷ ahead_fits 0 (attempts e.uncommitted e.waiting)
    -- a state or a reply whose word stands for nothing
    ∷ every (λ (u : Uncommitted). is_state u.state && is_reply u.reply) e.uncommitted
    ∷ []

unfoldable pub sound : Engine → Bool
sound e = every (λ (b : Bool). b) (clauses e)

-- A call: its scheme, the event, the cells lent and the answer room lent, with what they hold. No record keeps a scheme, and no refusal asks it.
pub record Call : Type 0 where
  pub scheme : Scheme
  pub event : Event
  pub lent : Cells
  pub room : List ℕ

abbrev pub is_in : ℕ → List ℕ → Bool
is_in n [] = false
is_in n (m ∷ ms) = eqb m n || is_in n ms

abbrev pub live : ℕ → Engine → Bool
live n e = is_in n (numbers e.uncommitted e.waiting)

-- "a new transaction's number is larger than every accepted one before"
abbrev pub new : ℕ → Engine → Bool
new n e = ltb e.largest n

abbrev pub is_front : ℕ → Engine → Bool
is_front n e = front (λ (u : Uncommitted). eqb u.number n) e.uncommitted

-- n is the front, and p holds of it
abbrev pub at_front : ℕ → (Uncommitted → Bool) → Engine → Bool
at_front n p e = is_front n e && front p e.uncommitted

-- The table of refusals, row by row. "Fragments use 1 to 11; decisions use 1 to 4, 6, 7, 12 to 14."
unfoldable pub rows : Engine → Call → List (ℕ × Bool)
rows e c =
    let n : ℕ = c.event.number in
    let f : Fragment = c.event.fragment in
    let arrives : Bool = eqb c.event.kind 1 in
    let commits : Bool = eqb c.event.kind 2 in
    -- "the record is not sound"
    (1, not (sound e))
    -- "answer room under 1,024 numbers"
    ∷ (2, ltb (length c.room) least_room)
    -- "cells lent: none, or not the count given at the start"
    ∷ (3, eqb (length c.lent) 0 || not (eqb (length c.lent) e.count))
    -- "not well formed"
    ∷ (4, not (formed_event c.event))
    -- "a cell at or beyond the count"
    ∷ (5, arrives && not (inside e.count f))
    -- "number not live and not above the largest accepted"
    ∷ (6, not (live n e) && not (new n e))
    -- "number live, but not the front"
    ∷ (7, live n e && not (is_front n e))
    -- "fragment for a front that is finished"
    ∷ (8, arrives && at_front n (λ u. finished u.state) e)
    -- "fragment for the front with another coordinator, or a single's"
    ∷ (9, arrives && at_front n (λ u. not (multi f) || not (eqb u.first.coordinator f.coordinator)) e)
    -- "new number, 64 live"
    ∷ (10, arrives && new n e && leb most_live (length e.uncommitted + length e.waiting))
    -- "front has run 8 fragments"
    ∷ (11, arrives && at_front n (λ u. leb most_fragments u.ran) e)
    -- "decision for a number above the largest accepted"
    ∷ (12, not arrives && new n e)
    -- "commit, front not finished"
    ∷ (13, commits && at_front n (λ u. not (finished u.state)) e)
    -- "commit, front failed"
    ∷ (14, commits && at_front n (λ u. failed u.state) e)
    ∷ []

-- "Checks run in this order and the first that applies is returned"; "0 is accepted"
abbrev pub first_of : List (ℕ × Bool) → ℕ
first_of [] = 0
first_of (r ∷ rs) = elim r.1 [ true ↦ r.0 | false ↦ first_of rs ]

unfoldable pub refusal : Engine → Call → ℕ
refusal e c = first_of (rows e c)

-- an accepted request: the steps, and the largest number accepted
abbrev pub taken : Scheme → Request → Engine → Cells → Queues
taken σ (Arrive n f) e cs = arrived σ n f cs e.uncommitted e.waiting
taken σ (Commit n) e cs = committed σ cs e.uncommitted e.waiting
taken σ (Abort n) e cs = aborted σ cs e.uncommitted e.waiting

abbrev pub largest_after : Request → Engine → ℕ
largest_after (Arrive n f) e = elim (new n e) [ true ↦ n | false ↦ e.largest ]
largest_after (Commit n) e = e.largest
largest_after (Abort n) e = e.largest

-- What a call gives back: the returned number, the record, the cells, the answers and the answer room
pub record Stepped : Type 0 where
  pub number : ℕ
  pub engine : Engine
  pub cells : Cells
  pub answers : List Answer
  pub room : List ℕ

-- "Every refusal leaves record, cells and answer room untouched and reports 0 answers."
abbrev pub respond : ℕ → Engine → Call → Stepped
respond zero e c =
    let q = taken c.scheme (request c.event) e c.lent in
    record {
      number = 0;
      engine = record { count = e.count; largest = largest_after (request c.event) e; uncommitted = q.uncommitted; waiting = q.waiting };
      cells = q.cells;
      answers = q.answers;
      room = filled q.answers c.room;
    }
respond (suc k) e c = record { number = suc k; engine = e; cells = c.lent; answers = []; room = c.room }

unfoldable pub step : Engine → Call → Stepped
step e c = respond (refusal e c) e c

-- the numbers of those that settle in a call, by the number that it returned: in a refused one nobody does
abbrev pub settles_by : ℕ → Engine → Call → List ℕ
settles_by zero e c = (taken c.scheme (request c.event) e c.lent).settles
settles_by (suc k) e c = []

abbrev pub settles_in : Engine → Call → List ℕ
settles_in e c = settles_by (step e c).number e c

-- "Starting with 0 or above 4,096 cells returns 3 and a record with 0 cells"
pub record Started : Type 0 where
  pub number : ℕ
  pub engine : Engine

abbrev pub empty : ℕ → Engine
empty n = record { count = n; largest = 0; uncommitted = []; waiting = [] }

unfoldable pub start : ℕ → Started
start n = pick (eqb n 0 || ltb most_cells n) (record { number = 3; engine = empty 0 }) (record { number = 0; engine = empty n })
