-- Document 01, "Transactions": what the engine's record means, and what an answer is.
use Rattle.std.specs.Prelude.{ℕ, ◌<◌, Bool, true, false, List, [], ◌∷◌, ◌++◌, map, length, take, drop, replicate}
use Rattle.model.specs.Limits.{most_operations}
use Rattle.model.specs.Operations.{Outcome}
use Rattle.model.specs.declared.Fragment.{Fragment}
use Rattle.model.specs.declared.Undo.{Undo}

-- "whether it is finished or failed": one state of three. A record is words, and a word that stands for none of them is `NoState`.
pub data State : Type 0 where
  Running : State
  Finished : State
  Failed : State
  NoState : State

-- "finished locally when its last fragment has run or when it has failed"
abbrev pub finished : State → Bool
finished Running = false
finished Finished = true
finished Failed = true
finished NoState = false

abbrev pub failed : State → Bool
failed Running = false
failed Finished = false
failed Failed = true
failed NoState = false

-- "its held answer or that its answer was sent"; a word that says neither is `NoReply`
pub data Reply : Type 0 where
  Held : Outcome → Reply
  Sent : Reply
  NoReply : Reply

abbrev pub holds : Reply → Bool
holds (Held o) = true
holds Sent = false
holds NoReply = false

-- "for each uncommitted transaction also its first fragment, how many fragments ran, whether it is finished or failed, and its held answer
-- or that its answer was sent"; with the undo entries that are its own, oldest first. "the attempt of its transaction (first run is 1, one more after
-- each undoing)" (02, L2): of this run, and of a waiting one what its next run will be.
pub record Uncommitted : Type 0 where
  pub number : ℕ
  pub attempt : ℕ
  pub first : Fragment
  pub ran : ℕ
  pub state : State
  pub reply : Reply
  pub undo : List Undo

pub record Waiting : Type 0 where
  pub number : ℕ
  pub attempt : ℕ
  pub fragment : Fragment

-- "The engine's record goes into each call and comes back from it: cell count, largest number accepted, uncommitted queue (at most 16), waiting
-- queue, undo list"
pub record Engine : Type 0 where
  pub count : ℕ
  pub largest : ℕ
  pub uncommitted : List Uncommitted
  pub waiting : List Waiting

-- the undo list: the owners' entries in queue order, oldest first
abbrev pub undo_list : List Uncommitted → List Undo
undo_list [] = []
undo_list (u ∷ us) = u.undo ++ undo_list us

-- "Live means accepted and not yet settled or aborted: uncommitted or waiting."
abbrev pub numbers : List Uncommitted → List Waiting → List ℕ
numbers us ws = map (λ (u : Uncommitted). u.number) us ++ map (λ (w : Waiting). w.number) ws

-- their attempts (02, L2)
abbrev pub attempts : List Uncommitted → List Waiting → List ℕ
attempts us ws = map (λ (u : Uncommitted). u.attempt) us ++ map (λ (w : Waiting). w.attempt) ws

-- The first uncommitted one is the front. A test of it is false where nothing is uncommitted.
abbrev pub front : (Uncommitted → Bool) → List Uncommitted → Bool
front p [] = false
front p (u ∷ us) = p u

-- An answer: transaction, dependence (0 for none), "the attempt of its transaction" and "the attempt of the one it depends on, 0 if none" (02, L2), and
-- what it tells
pub record Answer : Type 0 where
  pub number : ℕ
  pub dependence : ℕ
  pub attempt : ℕ
  pub dependence_attempt : ℕ
  pub outcome : Outcome

abbrev pub answer : ℕ → ℕ → ℕ → ℕ → Outcome → Answer
answer n d a b o = record { number = n; dependence = d; attempt = a; dependence_attempt = b; outcome = o }

-- answers in rising number, from above n; no transaction has two
abbrev pub Rising : ℕ → List Answer → Type 0
Rising n [] = Unit {0}
Rising n (a ∷ l) = (n < a.number) × Rising a.number l

-- "An answer is 16 numbers of 32 bits: transaction, dependence (0 for none), place of failure (0 for none), count of numbers, eight numbers
-- (unused 0), four zeros." The first two of these four are 02's, L2: "The thirteenth word of an answer becomes the attempt of its transaction (first
-- run is 1, one more after each undoing), the fourteenth the attempt of the one it depends on, 0 if none."
unfoldable pub words : Answer → List ℕ
words a =
    a.number ∷ a.dependence ∷ a.outcome.place ∷ length a.outcome.numbers
    ∷ take most_operations (a.outcome.numbers ++ replicate most_operations 0) ++ a.attempt ∷ a.dependence_attempt ∷ replicate 2 0

unfoldable pub all_words : List Answer → List ℕ
all_words [] = []
all_words (a ∷ l) = words a ++ all_words l

-- "they fill the lent answer room from its start and the rest of the room stays untouched"
abbrev pub filled : List Answer → List ℕ → List ℕ
filled l room = all_words l ++ drop (length (all_words l)) room
