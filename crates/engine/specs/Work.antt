-- The rows that a call works on, and the lists that they hold: what the functions of this crate do to the one, said of the other.
use Rattle.std.specs.Prelude.{ℕ, ◌+◌, ◌*◌, ◌-◌, ◌≤◌, ◌<◌, ◌≡◌, true, false, not, List, [], ◌∷◌, ◌++◌, map, length}
use Rattle.model.specs.Limits.{TOP, least_room}
use Rattle.model.specs.Operations.{Cells, multi, pick}
use Rattle.model.specs.Transactions.{Uncommitted, Waiting, Answer, answer, undo_list, filled, front}
use Rattle.model.specs.Steps.{run, requeued, may_take, placed, Queues, drain, again, held_with, held_by, sent, settled, undone}
use Rattle.model.specs.declared.Fragment.{Fragment}
use Rattle.model.specs.declared.Scheme.{Scheme}
use Rattle.operations.specs.Laid.{flat}
use Rattle.operations.specs.declared.Ran.{Ran}
use Rattle.rows.specs.declared.Trial.{Trial}
use Rattle.record.specs.Words.{all_rows, all_runs, row_of, live_rows, over, cleared}
use Rattle.record.specs.Ends.{ends_at}
use Rattle.engine.specs.declared.course.Course.{Course}
use Rattle.record.specs.Fitting.{Eight, Known}
use Rattle.model.specs.Parts.{All, Sound}
use Rattle.record.specs.Widths.{run_width, entry_width, live_length, runs_length, undo_length}

-- counts that fit: what keeps the arithmetic of a call in bounds
pub record Small (c : Course) : Type 0 where
  pub live : c.first + c.counts.uncommitted + c.counts.waiting ≤ 64
  pub answers : c.answers + c.counts.waiting ≤ 64
  pub depth : c.counts.uncommitted ≤ 16
  pub entries : c.entries + 8 * (16 - c.counts.uncommitted) ≤ 184

-- what came with a call: the record's rows and the room, how many are uncommitted and how many undo entries they own
pub record Ground : Type 0 where
  pub live : List ℕ
  pub runs : List ℕ
  pub undo : List ℕ
  pub room : List ℕ
  pub uncommitted : ℕ
  pub entries : ℕ
  pub long_live : length live ≡ live_length
  pub long_runs : length runs ≡ runs_length
  pub long_undo : length undo ≡ undo_length
  pub enough : least_room ≤ length room
  pub few : uncommitted ≤ 16
  pub few_entries : entries ≤ 184

-- the rows that runs and entries are laid over: what was in use when they came is cleared there
abbrev pub runs_ground : Ground → List ℕ
runs_ground came = cleared (run_width * came.uncommitted) came.runs

abbrev pub undo_ground : Ground → List ℕ
undo_ground came = cleared (entry_width * came.entries) came.undo

-- no more runs and entries than came
abbrev pub Within : Ground → Course → Type 0
Within came c = (c.counts.uncommitted ≤ came.uncommitted) × (c.entries ≤ came.entries)

-- the rows hold the transactions that are gone in this call, the uncommitted ones and the waiting ones; the room the answers so far
pub record Work (live runs undo room : List ℕ) (c : Course) (gone : List Waiting) (us : List Uncommitted) (ws : List Waiting) (sent : List Answer) (came : Ground) : Type 0 where
  pub at_live : live ≡ over came.live (all_rows (gone ++ live_rows us ws))
  pub at_runs : runs ≡ over (runs_ground came) (all_runs us)
  pub at_undo : undo ≡ over (undo_ground came) (flat (undo_list us))
  pub at_room : room ≡ filled sent came.room
  pub first : length gone ≡ c.first
  pub uncommitted : length us ≡ c.counts.uncommitted
  pub waiting : length ws ≡ c.counts.waiting
  pub entries : length (undo_list us) ≡ c.entries
  pub answers : length sent ≡ c.answers
  pub eights : All Eight (gone ++ live_rows us ws)

-- How far a call has come, after each move: one that ran has joined with its own entries, and one that settled at once joined with none and left;
-- one more has come; the first of the queue has left with its own entries; all uncommitted ones are back in the waiting queue; answers are sent.
abbrev pub joined_with : Course → ℕ → Course
joined_with c own = record { counts = ends_at c.counts (c.counts.uncommitted + 1) (c.counts.waiting - 1); first = c.first; entries = c.entries + own; answers = c.answers }

abbrev pub joined_by : Course → Ran → Course
joined_by c r = joined_with c r.entries

abbrev pub left_by : Course → ℕ → Course
left_by c own = record { counts = ends_at c.counts (c.counts.uncommitted - 1) c.counts.waiting; first = c.first + 1; entries = c.entries - own; answers = c.answers }

abbrev pub settled_at_once : Course → Course
settled_at_once c = left_by (joined_with c 0) 0

abbrev pub waiting_more : Course → Course
waiting_more c = record { counts = ends_at c.counts c.counts.uncommitted (c.counts.waiting + 1); first = c.first; entries = c.entries; answers = c.answers }

abbrev pub requeued_all : Course → Course
requeued_all c = record { counts = ends_at c.counts 0 (c.counts.uncommitted + c.counts.waiting); first = c.first; entries = 0; answers = c.answers }

abbrev pub with_answers : ℕ → Course → Course
with_answers a c = record { counts = c.counts; first = c.first; entries = c.entries; answers = a }

-- the transactions of a call, those that are gone with the others
abbrev pub total : Course → ℕ
total c = c.first + c.counts.uncommitted + c.counts.waiting

-- "cell count, largest number accepted": no step moves these
abbrev pub Same : Course → Course → Type 0
Same c d = (d.counts.cells ≡ c.counts.cells) × (d.counts.largest ≡ c.counts.largest)

-- and none but an arrival brings a transaction
abbrev pub Kept : Course → Course → Type 0
Kept c d = (d.counts.cells ≡ c.counts.cells) × (d.counts.largest ≡ c.counts.largest) × (total d ≡ total c)

-- the rows after a step hold what q has, with its answers behind those sent before
pub record Left (live runs undo room : List ℕ) (c : Course) (cells : Cells) (sent : List Answer) (came : Ground) (q : Queues) : Type 0 where
  pub gone : List Waiting
  pub work : Work live runs undo room c gone q.uncommitted q.waiting (sent ++ q.answers) came
  pub stands : cells ≡ q.cells

-- the drain took the first waiting one, whatever lists the rows hold
abbrev pub Took : List ℕ → List ℕ → List ℕ → List ℕ → Cells → Course → List ℕ → List ℕ → List ℕ → Cells → Course → Type 0
Took live runs undo room cells c runs' undo' room' cells' c' =
    (gone : List Waiting) (us : List Uncommitted) (w : Waiting) (ws : List Waiting) (sent : List Answer) (came : Ground) → Work live runs undo room c gone us (w ∷ ws) sent came
    → (ct top : ℕ) → Sound ct top us (w ∷ ws) → (σ : Scheme) → may_take σ us ≡ true
    → Left live runs' undo' room' c' cells' sent came
    (record { cells = (run w.fragment cells []).cells; uncommitted = (placed us w (run w.fragment cells [])).uncommitted; waiting = ws; answers = (placed us w (run w.fragment cells [])).answers; settles = (placed us w (run w.fragment cells [])).settles })

-- a whole drain
abbrev pub Drained : Scheme → List ℕ → List ℕ → List ℕ → List ℕ → Cells → Course → List ℕ → List ℕ → List ℕ → Cells → Course → Type 0
Drained σ live runs undo room cells c runs' undo' room' cells' c' =
    (gone : List Waiting) (us : List Uncommitted) (ws : List Waiting) (sent : List Answer) (came : Ground) → Work live runs undo room c gone us ws sent came
    → (ct top : ℕ) → Sound ct top us ws → Left live runs' undo' room' c' cells' sent came (drain σ cells us ws)

-- counts before anything has settled: room for an answer of each live one
pub record Fair (c : Course) : Type 0 where
  pub live : c.first + c.counts.uncommitted + c.counts.waiting ≤ 64
  pub answers : c.answers + c.counts.uncommitted + c.counts.waiting ≤ 64
  pub depth : c.counts.uncommitted ≤ 16
  pub entries : c.entries ≤ 184

-- P has settled in this call, and its rows, its runs and its entries still stand before those of us: the rows hold both
abbrev pub stood : Course → List Uncommitted → Course
stood c us = record { counts = ends_at c.counts (length us) c.counts.waiting; first = 0; entries = length (undo_list us); answers = c.answers }

pub record Standing (live runs undo room : List ℕ) (c : Course) (P us : List Uncommitted) (ws : List Waiting) (sent : List Answer) (came : Ground) : Type 0 where
  pub work : Work live runs undo room (stood c (P ++ us)) [] (P ++ us) ws sent came
  pub first : length P ≡ c.first
  pub uncommitted : length us ≡ c.counts.uncommitted
  pub entries : length (undo_list us) ≡ c.entries
  pub known : All Known (P ++ us)

-- the first of us settles, and the answer that it held is sent
abbrev pub SettledOne : List ℕ → List ℕ → List ℕ → Course → List ℕ → Course → Type 0
SettledOne live runs room c room' c' =
    (undo : List ℕ) (P : List Uncommitted) (u : Uncommitted) (us : List Uncommitted) (ws : List Waiting) (sent : List Answer) (came : Ground) → Standing live runs undo room c P (u ∷ us) ws sent came
    → Standing live runs undo room' c' (P ++ (u ∷ [])) us ws (sent ++ held_by u) came

-- some singles at the front have settled, and `left` is left
pub record SettledTo (live runs undo room : List ℕ) (c : Course) (P us : List Uncommitted) (ws : List Waiting) (sent : List Answer) (came : Ground) : Type 0 where
  pub settled_ones : List Uncommitted
  pub left : List Uncommitted
  pub more : List Answer
  pub names : List ℕ
  pub split : us ≡ settled_ones ++ left
  pub standing : Standing live runs undo room c (P ++ settled_ones) left ws (sent ++ more) came
  pub rest : settled us ≡ record { uncommitted = (settled left).uncommitted; answers = more ++ (settled left).answers; settles = names ++ (settled left).settles }

-- with no single first
abbrev pub Singles : List ℕ → List ℕ → List ℕ → Course → List ℕ → Course → Type 0
Singles live runs room c room' c' =
    (undo : List ℕ) (P us : List Uncommitted) (ws : List Waiting) (sent : List Answer) (came : Ground) → Standing live runs undo room c P us ws sent came
    → (s : SettledTo live runs undo room' c' P us ws sent came) × (front (λ (u : Uncommitted). not (multi u.first)) s.left ≡ false)

-- what u holds, with a dependence on d
abbrev pub held_under : Trial → Uncommitted → List Answer
held_under d u = held_with d.number d.attempt u

-- the one behind P is sent what it holds, if it is a multi
abbrev pub ReleasedOne : List ℕ → List ℕ → List ℕ → Course → ℕ → Trial → List ℕ → List ℕ → Course → Type 0
ReleasedOne live runs room c i near runs' room' c' =
    (undo : List ℕ) (gone : List Waiting) (P : List Uncommitted) (u : Uncommitted) (us : List Uncommitted) (ws : List Waiting) (sent' : List Answer) (came : Ground)
    → Work live runs undo room c gone (P ++ u ∷ us) ws sent' came → All Known (P ++ u ∷ us) → length P ≡ i
    → Work live runs' undo room' c' gone (P ++ pick (multi u.first) (sent u) u ∷ us) ws (sent' ++ pick (multi u.first) (held_under near u) []) came

-- a multi is first: it is answered, and what is released behind it
abbrev pub Fronted : List ℕ → List ℕ → List ℕ → Course → List ℕ → List ℕ → Course → Type 0
Fronted live runs room c runs' room' c' =
    (undo : List ℕ) (gone : List Waiting) (us : List Uncommitted) (ws : List Waiting) (sent : List Answer) (came : Ground) → Work live runs undo room c gone us ws sent came → All Known us
    → front (λ (u : Uncommitted). not (multi u.first)) us ≡ false → Work live runs' undo room' c' gone (settled us).uncommitted ws (sent ++ (settled us).answers) came

-- the front has settled, and the singles behind it
abbrev pub Committed : List ℕ → List ℕ → List ℕ → List ℕ → Course → List ℕ → List ℕ → List ℕ → Course → Type 0
Committed live runs undo room c runs' undo' room' c' =
    (u : Uncommitted) (us : List Uncommitted) (ws : List Waiting) (sent : List Answer) (came : Ground) → Work live runs undo room c [] (u ∷ us) ws sent came → All Known (u ∷ us) → Within came c
    → (gone : List Waiting) × Work live runs' undo' room' c' gone (settled us).uncommitted ws (sent ++ (settled us).answers) came

-- everything uncommitted is undone, and all but the front waits again
abbrev pub Aborted : List ℕ → List ℕ → List ℕ → Cells → Course → List ℕ → List ℕ → List ℕ → Cells → Course → Type 0
Aborted live runs undo cells c live' runs' undo' cells' c' =
    (room : List ℕ) (gone : List Waiting) (u : Uncommitted) (us : List Uncommitted) (ws : List Waiting) (sent : List Answer) (came : Ground) → Work live runs undo room c gone (u ∷ us) ws sent came → All Known (u ∷ us) → Within came c
    → All (λ (v : Uncommitted). v.attempt < TOP) us → Work live' runs' undo' room c' (gone ++ (row_of u ∷ [])) [] (map requeued us ++ ws) sent came × (cells' ≡ undone (undo_list (u ∷ us)) cells)

-- the front, alone, has run one more fragment
abbrev pub Continued : List ℕ → List ℕ → List ℕ → List ℕ → Cells → Course → Fragment → List ℕ → List ℕ → List ℕ → Cells → Course → Type 0
Continued live runs undo room cells c f runs' undo' room' cells' c' =
    (gone : List Waiting) (u : Uncommitted) (ws : List Waiting) (sent : List Answer) (came : Ground) → Work live runs undo room c gone (u ∷ []) ws sent came → Known u → Within came c → u.ran < 8
    → length f.row ≡ 8 → length u.undo ≤ 8 * u.ran
    → Work live runs' undo' room' c' gone (again u f (run f cells u.undo) ∷ []) ws (sent ++ (answer u.number 0 u.attempt 0 (run f cells u.undo).outcome ∷ [])) came
    × (cells' ≡ (run f cells u.undo).cells)
