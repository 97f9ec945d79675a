-- An accepted call before its step: rows that hold a sound record, and an event that no row of the table refuses.
use Rattle.std.specs.Prelude.{ℕ, ◌+◌, ◌≡◌, ◌&&◌, List, [], eqb, length}
use Rattle.model.specs.Operations.{Cells, pick}
use Rattle.model.specs.Transactions.{Engine, Uncommitted, Waiting, Answer}
use Rattle.model.specs.Steps.{Queues, sending}
use Rattle.model.specs.Steps as Steps
use Rattle.model.specs.Refusals.{request, taken, new}
use Rattle.model.specs.declared.Event.{Event}
use Rattle.model.specs.declared.Scheme.{Scheme}
use Rattle.refusals.specs.Rest.{call_of}
use Rattle.engine.specs.Work.{Small, Ground, Within, total, Work}
use Rattle.engine.specs.declared.course.Course.{Course}
use Rattle.model.specs.Parts.{Passed, Sound}

pub record Ready (σ : Scheme) (live runs undo room : List ℕ) (cells : Cells) (c : Course) (v : Event) (e : Engine) (came : Ground) : Type 0 where
  pub work : Work live runs undo room c [] e.uncommitted e.waiting [] came
  pub within : Within came c
  pub passed : Passed e (call_of σ v cells room)
  pub words : length v.fragment.row ≡ 8

-- some state of the engine is ready so
abbrev pub Accepts : Scheme → List ℕ → List ℕ → List ℕ → List ℕ → Cells → Course → Event → Type 0
Accepts σ live runs undo room cells c v = (e : Engine) × ((came : Ground) × Ready σ live runs undo room cells c v e came)

-- the rows hold lists whose drain, with the answers sent so far, is q
pub record Begun (σ : Scheme) (live runs undo room : List ℕ) (cells : Cells) (c : Course) (came : Ground) (q : Queues) : Type 0 where
  pub ct : ℕ
  pub top : ℕ
  pub gone : List Waiting
  pub us : List Uncommitted
  pub ws : List Waiting
  pub sent : List Answer
  pub names : List ℕ
  pub work : Work live runs undo room c gone us ws sent came
  pub sound : Sound ct top us ws
  pub small : Small c
  pub rest : sending sent names (Steps.drain σ cells us ws) ≡ q

-- whichever was, the rows, the room and the cells hold what its step leaves before the drain, and one transaction more if the event brought one
pub record Stepped (σ : Scheme) (live runs undo room : List ℕ) (cells : Cells) (c d : Course) (v : Event) (e : Engine) (came : Ground) (q : Queues) : Type 0 where
  pub begun : Begun σ live runs undo room cells d came q
  pub comes : total d ≡ total c + pick (eqb v.kind 1 && new v.number e) 1 0

abbrev pub Entered : Scheme → List ℕ → List ℕ → List ℕ → List ℕ → Cells → Course → Event → List ℕ → List ℕ → List ℕ → List ℕ → Cells → Course → Type 0
Entered σ live runs undo room cells c v live' runs' undo' room' cells' d =
    (e : Engine) (came : Ground) → Ready σ live runs undo room cells c v e came → Stepped σ live' runs' undo' room' cells' c d v e came (taken σ (request v) e cells)
