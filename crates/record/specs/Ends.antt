-- How a record's counts move: the queues' ends, and the largest number accepted.
use Rattle.std.specs.Prelude.{ℕ, min, eqb, ltb}
use Rattle.model.specs.Limits.{TOP}
use Rattle.model.specs.Operations.{pick}
use Rattle.record.specs.declared.Counts.{Counts}

-- the same cells and largest number, so many uncommitted and waiting
abbrev pub ends_at : Counts → ℕ → ℕ → Counts
ends_at c u w = record { cells = c.cells; largest = c.largest; uncommitted = u; waiting = w }

-- a count that does not fit a number of the record stays at TOP
abbrev pub capped : ℕ → ℕ
capped n = min n TOP

-- another largest number, and which it is after an accepted event, by its kind
abbrev pub largest_at : Counts → ℕ → Counts
largest_at c n = record { cells = c.cells; largest = n; uncommitted = c.uncommitted; waiting = c.waiting }

abbrev pub largest_by : ℕ → ℕ → ℕ → ℕ
largest_by kind number largest = pick (eqb kind 1) (pick (ltb largest number) number largest) largest
