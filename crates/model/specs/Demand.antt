-- Demand 3, which document 01 names: "Between any two calls the cells hold what one gets by running the settled transactions one at a time in number
-- order, then the uncommitted ones in queue order, as far as their fragments have run. An aborted or failed transaction contributes nothing. An
-- answer without a dependence carries the numbers, or the place of failure, that its fragment gives directly after everything settled before it and
-- its own transaction's earlier fragments. An answer that depends on D carries what that same run gives if D commits and no abort was accepted
-- between the answer and that commit." By 02, L2: "Demand 3's last sentence then reads: right if D commits in that very attempt." First the log, a
-- function of the calls and the returned numbers alone.
use Rattle.std.specs.Prelude.{ℕ, zero, suc, ◌≤◌, ◌<◌, ◌≡◌, Bool, true, false, ◌||◌, ltb, eqb, length, take}
use mathlib.Core.List.{List, [], ◌∷◌, ◌++◌, map, Memᴰ}
use Rattle.model.specs.Operations.{Cells, Outcome, multi, told}
use Rattle.model.specs.Transactions.{Uncommitted, Engine, Answer, numbers}
use Rattle.model.specs.Refusals.{Request, Arrive, Commit, Abort, request, is_in, Call, step, settles_in, start}
use Rattle.model.specs.Serial.{Tx, Decision, Open, Committed, Aborted, attempt, serial}
use Rattle.model.specs.declared.Fragment.{Fragment}

-- The accepted transactions in the order of their arrival, each with its accepted fragments and its accepted decision.
abbrev pub Log : Type 0
Log = List Tx

abbrev pub is_logged : ℕ → Log → Bool
is_logged n [] = false
is_logged n (t ∷ ts) = elim (eqb t.number n) [ true ↦ true | false ↦ is_logged n ts ]

-- change transaction n
abbrev pub at : ℕ → (Tx → Tx) → Log → Log
at n g [] = []
at n g (t ∷ ts) = elim (eqb t.number n) [ true ↦ g t ∷ ts | false ↦ t ∷ at n g ts ]

abbrev pub extended : Fragment → Tx → Tx
extended f t = record { number = t.number; first = t.first; more = t.more ++ (f ∷ []); decision = t.decision }

abbrev pub decided : Decision → Tx → Tx
decided d t = record { number = t.number; first = t.first; more = t.more; decision = d }

-- an accepted request
abbrev pub logged : Request → Log → Log
logged (Arrive n f) l = elim (is_logged n l) [ true ↦ at n (extended f) l | false ↦ l ++ (record { number = n; first = f; more = []; decision = Open } ∷ []) ]
logged (Commit n) l = at n (decided Committed) l
logged (Abort n) l = at n (decided Aborted) l

-- a request and the number that its call returned: a refused one leaves no trace
abbrev pub noticed : ℕ → Request → Log → Log
noticed zero q l = logged q l
noticed (suc k) q l = l

-- a sequence of calls, each given the record that the last one returned: the record, the cells that the caller keeps, and the log
pub record Run : Type 0 where
  pub engine : Engine
  pub cells : Cells
  pub log : Log

-- what the caller keeps of a call: the cells that it lent, if the call was accepted
abbrev pub kept : ℕ → Cells → Cells → Cells
kept zero old new = new
kept (suc k) old new = old

abbrev pub onward : Run → Call → Run
onward r c =
    let s = step r.engine c in
    record { engine = s.engine; cells = kept s.number r.cells s.cells; log = noticed s.number (request c.event) r.log }

abbrev pub runs : Run → List Call → Run
runs r [] = r
runs r (c ∷ calls) = runs (onward r c) calls

-- "demand 3 from a fresh one": a record that was just started, and any cells
abbrev pub fresh : Cells → Run
fresh cs = record { engine = (start (length cs)).engine; cells = cs; log = [] }

-- each accepted call is lent the same cells; a refused one may be lent any
abbrev pub Lends : Run → Call → Type 0
Lends r c = (step r.engine c).number ≡ 0 → c.lent ≡ r.cells

abbrev pub AllLend : Run → List Call → Type 0
AllLend r [] = Unit {0}
AllLend r (c ∷ calls) = Lends r c × AllLend (onward r c) calls

-- Settled and live, read off the log: a multi settles by its commit, a single once no undecided multi is ahead of it.
pub data Standing : Type 0 where
  Settles : Standing
  Gone : Standing
  Undecided : Standing

abbrev pub standing : Tx → Standing
standing t = elim (multi t.first) [ false ↦ Settles | true ↦ elim t.decision [ Open ↦ Undecided | Committed ↦ Settles | Aborted ↦ Gone ] ]

-- up to the first undecided multi, without the aborted ones
abbrev pub settled_of : Log → List Tx
settled_of [] = []
settled_of (t ∷ ts) = elim (standing t) [ Settles ↦ t ∷ settled_of ts | Gone ↦ settled_of ts | Undecided ↦ [] ]

-- from the first undecided multi on
abbrev pub live_of : Log → List Tx
live_of [] = []
live_of (t ∷ ts) = elim (standing t) [ Settles ↦ live_of ts | Gone ↦ live_of ts | Undecided ↦ t ∷ ts ]

-- the uncommitted ones: as many of the live ones as the record's queue has
abbrev pub uncommitted_tx : Run → List Tx
uncommitted_tx r = take (length r.engine.uncommitted) (live_of r.log)

-- "Between any two calls the cells hold what one gets by running the settled transactions one at a time in number order, then the uncommitted ones in
-- queue order, as far as their fragments have run. An aborted or failed transaction contributes nothing."
abbrev pub CellsHold : Cells → Run → Type 0
CellsHold cs r = r.cells ≡ serial (uncommitted_tx r) (serial (settled_of r.log) cs)

abbrev pub numbers_of : List Tx → List ℕ
numbers_of ts = map (λ (t : Tx). t.number) ts

-- "in queue order": the record's queues hold the live ones of the log
abbrev pub QueueOrder : Run → Type 0
QueueOrder r = numbers r.engine.uncommitted r.engine.waiting ≡ numbers_of (live_of r.log)

-- Settled, by a record: "Live means accepted and not yet settled or aborted". So these are the accepted ones that are not among its live numbers and
-- were not aborted, in the order of the log.
abbrev pub was_aborted : Tx → Bool
was_aborted t = elim t.decision [ Open ↦ false | Committed ↦ false | Aborted ↦ true ]

abbrev pub settled_by : List ℕ → Log → List Tx
settled_by live [] = []
settled_by live (t ∷ ts) = elim (is_in t.number live || was_aborted t) [ true ↦ settled_by live ts | false ↦ t ∷ settled_by live ts ]

-- live by the record's own queues
abbrev pub settled_in : Run → List Tx
settled_in r = settled_by (numbers r.engine.uncommitted r.engine.waiting) r.log

-- numbers rise from above n to at most top
abbrev pub Rises : ℕ → ℕ → List ℕ → Type 0
Rises n top [] = n ≤ top
Rises n top (m ∷ ms) = (n < m) × Rises m top ms

-- "in number order": "the front door gives them in rising order, so a new transaction's number is larger than every accepted one before". All accepted
-- ones rise to the largest, without the aborted ones too; and what settles in a call settles behind all that was settled before it. It is what the
-- steps of that call name, in their order: the log and the steps say the same of who settles.
pub record SettlingOrder (r : Run) (c : Call) : Type 0 where
  pub accepted : Rises 0 r.engine.largest (numbers_of r.log)
  pub rises : Rises 0 r.engine.largest (numbers_of (settled_of r.log ++ live_of r.log))
  pub more : List Tx
  pub grows : settled_of (onward r c).log ≡ settled_of r.log ++ more
  pub named : numbers_of more ≡ settles_in r.engine c

-- the part of the log before number n
abbrev pub before : ℕ → Log → Log
before n [] = []
before n (t ∷ ts) = elim (ltb t.number n) [ true ↦ t ∷ before n ts | false ↦ [] ]

pub data Found : Type 0 where
  This : Tx → Found
  None : Found

abbrev pub the : ℕ → Log → Found
the n [] = None
the n (t ∷ ts) = elim (eqb t.number n) [ true ↦ This t | false ↦ the n ts ]

-- o is "the numbers, or the place of failure, that its fragment gives directly after everything settled before it and its own transaction's earlier
-- fragments"; with a place of failure also the number that was found there: "The one-at-a-time run says so too." (02, L4)
abbrev pub Gives : Cells → ℕ → Log → Outcome → Type 0
Gives cs n l o = (t : Tx) × (the n l ≡ This t) × (o ≡ told (attempt t (serial (settled_of (before n l)) cs)))

-- "An answer without a dependence carries" that: an answer of the call c, made at r
abbrev pub PlainRight : Cells → Run → Call → Type 0
PlainRight cs r c = (a : Answer) → Memᴰ a (step r.engine c).answers → a.dependence ≡ 0 → Gives cs a.number (onward r c).log a.outcome

-- The last sentence, as 02's L2 has it: "right if D commits in that very attempt", the one that the answer names. c sends the answer, `between` are the
-- calls after it, whatever they are, d commits D. In which attempt D commits is said in two ways.

-- By the record: who commits is the front, and this is the attempt that the record has of it
abbrev pub front_attempt : List Uncommitted → ℕ
front_attempt [] = 0
front_attempt (u ∷ us) = u.attempt

abbrev pub DependentRight : Cells → Run → Call → List Call → Call → Type 0
DependentRight cs r c between d =
    (a : Answer) → Memᴰ a (step r.engine c).answers → (a.dependence ≡ 0 → ⊥)
    → request d.event ≡ Commit a.dependence
    → (step (runs (onward r c) between).engine d).number ≡ 0
    → front_attempt (runs (onward r c) between).engine.uncommitted ≡ a.dependence_attempt
    → Gives cs a.number (onward (runs (onward r c) between) d).log a.outcome

-- By what was sent, which is all that a coordinator sees: the attempt that the last of these answers for n carries, k where none is for n
abbrev pub last_attempt : ℕ → ℕ → List Answer → ℕ
last_attempt n k [] = k
last_attempt n k (a ∷ as') = elim (eqb a.number n) [ true ↦ last_attempt n a.attempt as' | false ↦ last_attempt n k as' ]

-- all answers that calls send, in the order in which they are sent
abbrev pub sent_in : Run → List Call → List Answer
sent_in r [] = []
sent_in r (c ∷ calls) = (step r.engine c).answers ++ sent_in (onward r c) calls

-- past are the answers sent before c
abbrev pub SeenRight : Cells → Run → List Answer → Call → List Call → Call → Type 0
SeenRight cs r past c between d =
    (a : Answer) → Memᴰ a (step r.engine c).answers → (a.dependence ≡ 0 → ⊥)
    → request d.event ≡ Commit a.dependence
    → (step (runs (onward r c) between).engine d).number ≡ 0
    → last_attempt a.dependence 0 (past ++ sent_in r (c ∷ between)) ≡ a.dependence_attempt
    → Gives cs a.number (onward (runs (onward r c) between) d).log a.outcome

-- What 01 says of it: "if D commits and no abort was accepted between the answer and that commit". D then commits in the attempt that the answer names.

-- no abort was accepted in these calls
abbrev pub NoAbort : Run → List Call → Type 0
NoAbort r [] = Unit {0}
NoAbort r (c ∷ calls) = ((step r.engine c).number ≡ 0 → (n : ℕ) → request c.event ≡ Abort n → ⊥) × NoAbort (onward r c) calls

abbrev pub UndisturbedRight : Cells → Run → Call → List Call → Call → Type 0
UndisturbedRight cs r c between d =
    (a : Answer) → Memᴰ a (step r.engine c).answers → (a.dependence ≡ 0 → ⊥)
    → NoAbort (onward r c) between
    → request d.event ≡ Commit a.dependence
    → (step (runs (onward r c) between).engine d).number ≡ 0
    → Gives cs a.number (onward (runs (onward r c) between) d).log a.outcome

-- Demand 3, a field for each sentence: after any calls from a fresh start on cs
pub record Demand3 (cs : Cells) : Type 0 where
  pub cells : (calls : List Call) → AllLend (fresh cs) calls → CellsHold cs (runs (fresh cs) calls)
  pub queues : (calls : List Call) → AllLend (fresh cs) calls → QueueOrder (runs (fresh cs) calls)
  pub settling : (calls : List Call) → AllLend (fresh cs) calls → (c : Call) → Lends (runs (fresh cs) calls) c → SettlingOrder (runs (fresh cs) calls) c
  pub plain : (calls : List Call) → AllLend (fresh cs) calls → (c : Call) → Lends (runs (fresh cs) calls) c → PlainRight cs (runs (fresh cs) calls) c
  pub dependent : (calls : List Call) → AllLend (fresh cs) calls → (c : Call) → Lends (runs (fresh cs) calls) c → (between : List Call)
      → AllLend (onward (runs (fresh cs) calls) c) between → (d : Call) → DependentRight cs (runs (fresh cs) calls) c between d
  pub seen : (calls : List Call) → AllLend (fresh cs) calls → (c : Call) → Lends (runs (fresh cs) calls) c → (between : List Call)
      → AllLend (onward (runs (fresh cs) calls) c) between → (d : Call) → SeenRight cs (runs (fresh cs) calls) (sent_in (fresh cs) calls) c between d
