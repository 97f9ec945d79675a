use Prim.Native.Nat.{◌+◌, ◌-◌}
use mathlib.Core.Path.{◌≡◌}
use lib.Seq.{sets}
use Rattle.record.specs.View.{numbers_from}
use Rattle.record.proofs.lay.Given as goal

abbrev pub invariant-loop-i : goal.invariant-loop-i
invariant-loop-i l = sets l.row (l.at + l.i) (numbers_from l.words l.i (l.n - l.i)) ≡ sets l.initial.row l.at (numbers_from l.words 0 l.n)
