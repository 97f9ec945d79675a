-- What a record of any words means: `view` reads it as lists. A read past a row's end gives 0.
use Rattle.std.specs.Prelude.{ℕ, ◌+◌, ◌*◌, ◌%◌, Bool, eqb, get_or, replicate, take}
use mathlib.Core.List.{List, map, foldr}
use Rattle.std.proofs.lemmas.List.Edits.{sets}
use Rattle.model.specs.Operations.{Outcome, pick}
use Rattle.model.specs.Transactions.{State, Running, Finished, Failed, NoState, Reply, Held, Sent, NoReply, Uncommitted, Waiting, Engine}
use Rattle.operations.specs.Laid.{entries_of}
pub use Rattle.operations.specs.Words.{op_at}
unfoldable pub use Rattle.operations.specs.Words.{fragment_at}
use Rattle.record.specs.declared.Counts.{Counts}
use Rattle.record.specs.declared.Record.{Record}
use Rattle.record.specs.Widths.{live_width, run_width, entry_width}
use Rattle.record.specs.Walk.{walk, places}

-- the attempt of the transaction whose words start at b, the row's last word
abbrev pub attempt_at : List ℕ → ℕ → ℕ
attempt_at l b = get_or l (b + 28) 0

-- is that transaction a multi: the first of its flags
abbrev pub multi_at : List ℕ → ℕ → Bool
multi_at l b = eqb (get_or l (b + 1) 0 % 2) 1

-- what stands in the row that starts at b
abbrev pub row_at : List ℕ → ℕ → Waiting
row_at l b = record { number = get_or l b 0; attempt = attempt_at l b; fragment = fragment_at l b }

-- n waiting ones, the first of which starts at b
unfoldable pub waiting_of : List ℕ → ℕ → ℕ → List Waiting
waiting_of l b n = map (row_at l) (places b live_width n)

-- n numbers from b on
unfoldable pub numbers_from : List ℕ → ℕ → ℕ → List ℕ
numbers_from l b n = map (λ (p : ℕ). get_or l p 0) (places b 1 n)

-- a row whose first m words have moved k places to its start: 0 comes from past them
unfoldable pub shifted : List ℕ → ℕ → ℕ → List ℕ
shifted row k m = sets row 0 (numbers_from (take m row) k m)

-- n zeros
abbrev pub zeros : ℕ → List ℕ
zeros n = replicate n 0

-- the cases that the words of a state and of a reply stand for
abbrev pub state_of : ℕ → State
state_of n = pick (eqb n 0) Running (pick (eqb n 1) Finished (pick (eqb n 2) Failed NoState))

abbrev pub reply_of : ℕ → Outcome → Reply
reply_of n o = pick (eqb n 0) Sent (pick (eqb n 1) (Held o) NoReply)

-- the uncommitted one whose row starts at b, whose run at c and whose entries at d
unfoldable pub member_at : List ℕ → ℕ → List ℕ → ℕ → List ℕ → ℕ → Uncommitted
member_at live b runs c undo d = record {
  number = get_or live b 0;
  attempt = attempt_at live b;
  first = fragment_at live b;
  ran = get_or runs c 0;
  state = state_of (get_or runs (c + 1) 0);
  reply = reply_of (get_or runs (c + 2) 0) (record { place = get_or runs (c + 4) 0; numbers = numbers_from runs (c + 6) (get_or runs (c + 5) 0) });
  undo = entries_of undo d (get_or runs (c + 3) 0);
}

-- where an uncommitted one stands: the places of its row, its run and its entries
pub record Spot : Type 0 where
  pub row : ℕ
  pub run : ℕ
  pub entries : ℕ

-- where the next one stands, behind as many entries as the word of its run says
abbrev pub next_spot : List ℕ → Spot → Spot
next_spot runs s = record { row = s.row + live_width; run = s.run + run_width; entries = s.entries + entry_width * get_or runs (s.run + 3) 0 }

-- n uncommitted ones, the first of which is the one at b, c and d
unfoldable pub uncommitted_of : List ℕ → ℕ → List ℕ → ℕ → List ℕ → ℕ → ℕ → List Uncommitted
uncommitted_of live b runs c undo d n = map (λ (s : Spot). member_at live s.row runs s.run undo s.entries) (walk (next_spot runs) (record { row = b; run = c; entries = d }) n)

-- how many undo entries n runs own together, the first of which starts at c
unfoldable pub entries_from : List ℕ → ℕ → ℕ → ℕ
entries_from runs c n = foldr (λ (p m : ℕ). get_or runs (p + 3) 0 + m) 0 (places c run_width n)

-- what the words of a record mean
unfoldable pub view_of : ℕ → ℕ → ℕ → ℕ → List ℕ → List ℕ → List ℕ → Engine
view_of count largest uncommitted waiting live runs undo = record {
  count = count;
  largest = largest;
  uncommitted = uncommitted_of live 0 runs 0 undo 0 uncommitted;
  waiting = waiting_of live (live_width * uncommitted) waiting;
}

-- the same of a record's counts beside its rows, and of a record whole
abbrev pub view_by : Counts → List ℕ → List ℕ → List ℕ → Engine
view_by c live runs undo = view_of c.cells c.largest c.uncommitted c.waiting live runs undo

abbrev pub view : Record → Engine
view r = view_by r.counts r.live r.runs r.undo
