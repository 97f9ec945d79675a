-- How the record's lists stand in its rows of numbers: 29 words a live transaction, 16 a run, 2 an undo entry; and what stands in the places behind them.
use Rattle.std.specs.Prelude.{ℕ, List, [], ◌∷◌, ◌++◌, map, length, drop}
use Rattle.model.specs.Operations.{Outcome}
use Rattle.model.specs.Transactions.{State, Running, Finished, Failed, NoState, Reply, Held, Sent, NoReply, Uncommitted, Waiting, Engine, undo_list}
use Rattle.model.specs.declared.Op.{Op}
use Rattle.model.specs.declared.Fragment.{Fragment}
use Rattle.operations.specs.Laid.{padded, flat}
use Rattle.record.specs.declared.Record.{Record}
use Rattle.record.specs.View.{zeros}
use Rattle.record.specs.Widths.{live_length, runs_length, undo_length}

-- eight times code, cell, amount
abbrev pub ops_words : List Op → List ℕ
ops_words [] = []
ops_words (o ∷ os) = o.code ∷ o.cell ∷ o.amount ∷ ops_words os

-- a live transaction: number, flags, coordinator, count, operations, attempt
unfoldable pub row_words : ℕ → ℕ → Fragment → List ℕ
row_words n a f = n ∷ f.flags ∷ f.coordinator ∷ f.count ∷ ops_words f.row ++ (a ∷ [])

-- the words of all of a list, one row behind the other
abbrev pub rows_of : {A : Type 0} → (A → List ℕ) → List A → List ℕ
rows_of f [] = []
rows_of f (a ∷ l) = f a ++ rows_of f l

unfoldable pub all_rows : List Waiting → List ℕ
all_rows ws = rows_of (λ (w : Waiting). row_words w.number w.attempt w.fragment) ws

-- the numbers that stand for a state and a reply
abbrev pub state_word : State → ℕ
state_word Running = 0
state_word Finished = 1
state_word Failed = 2
state_word NoState = 3

abbrev pub reply_word : Reply → ℕ
reply_word Sent = 0
reply_word (Held o) = 1
reply_word NoReply = 2

-- what a reply holds
abbrev pub held_outcome : Reply → Outcome
held_outcome (Held o) = o
held_outcome Sent = record { place = 0; numbers = [] }
held_outcome NoReply = record { place = 0; numbers = [] }

-- place, count, eight numbers
abbrev pub outcome_words : Outcome → List ℕ
outcome_words o = o.place ∷ length o.numbers ∷ padded 8 o.numbers

-- an uncommitted one beside its row: fragments run, state, reply, how many entries are its own, what it holds, two zeros
unfoldable pub run_words : Uncommitted → List ℕ
run_words u = u.ran ∷ state_word u.state ∷ reply_word u.reply ∷ length u.undo ∷ outcome_words (held_outcome u.reply) ++ (0 ∷ 0 ∷ [])

unfoldable pub all_runs : List Uncommitted → List ℕ
all_runs us = rows_of run_words us

-- what stands in an uncommitted one's row: its number, its attempt and its first fragment
abbrev pub row_of : Uncommitted → Waiting
row_of u = record { number = u.number; attempt = u.attempt; fragment = u.first }

-- the live ones in number order, as they stand in rows: uncommitted, then waiting
abbrev pub live_rows : List Uncommitted → List Waiting → List Waiting
live_rows us ws = map row_of us ++ ws

-- words laid over the start of a row: what stands behind them stays
unfoldable pub over : List ℕ → List ℕ → List ℕ
over row ws = ws ++ drop (length ws) row

-- a row with its first n places cleared
abbrev pub cleared : ℕ → List ℕ → List ℕ
cleared n row = over row (zeros n)

-- a record that means e, laid over three rows
unfoldable pub pack_over : List ℕ → List ℕ → List ℕ → Engine → Record
pack_over live runs undo e = record {
  counts = record { cells = e.count; largest = e.largest; uncommitted = length e.uncommitted; waiting = length e.waiting };
  live = over live (all_rows (live_rows e.uncommitted e.waiting));
  runs = over runs (all_runs e.uncommitted);
  undo = over undo (flat (undo_list e.uncommitted));
}

-- a record that means e, every unused place zero
unfoldable pub pack : Engine → Record
pack e = record {
  counts = record { cells = e.count; largest = e.largest; uncommitted = length e.uncommitted; waiting = length e.waiting };
  live = padded live_length (all_rows (live_rows e.uncommitted e.waiting));
  runs = padded runs_length (all_runs e.uncommitted);
  undo = padded undo_length (flat (undo_list e.uncommitted));
}
