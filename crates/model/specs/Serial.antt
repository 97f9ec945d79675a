-- What demand 3 compares with: transactions run one at a time. No undo, no queue, no drain.
use Rattle.std.specs.Prelude.{ℕ, List, [], ◌∷◌}
use Rattle.model.specs.Operations.{Cells, Trial, Done, Broke, trial}
use Rattle.model.specs.declared.Fragment.{Fragment}

-- what was accepted of its coordinator
pub data Decision : Type 0 where
  Open : Decision
  Committed : Decision
  Aborted : Decision

-- a transaction as far as it was accepted: its first fragment, the later ones, its decision
pub record Tx : Type 0 where
  pub number : ℕ
  pub first : Fragment
  pub more : List Fragment
  pub decision : Decision

-- one more fragment, where nothing failed before
abbrev pub next : Trial → Fragment → Trial
next (Done cs ns) f = trial f cs
next (Broke p x) f = Broke p x

abbrev pub through : Trial → List Fragment → Trial
through r [] = r
through r (f ∷ fs) = through (next r f) fs

-- all of a transaction's fragments on cs: what the last of them gives
abbrev pub attempt : Tx → Cells → Trial
attempt t cs = through (trial t.first cs) t.more

-- the cells after an attempt that began at b: "all changes of that transaction (earlier fragments too) are taken back"
abbrev pub or_else : Cells → Trial → Cells
or_else b (Done cs ns) = cs
or_else b (Broke p x) = b

abbrev pub effect : Tx → Cells → Cells
effect t cs = or_else cs (attempt t cs)

-- one at a time, in the order of the list
abbrev pub serial : List Tx → Cells → Cells
serial [] cs = cs
serial (t ∷ ts) cs = serial ts (effect t cs)
