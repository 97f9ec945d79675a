use Prim.Native.Nat.{◌+◌, ◌-◌}
use mathlib.Core.Path.{◌≡◌}
use lib.Seq.{sets}
use Rattle.trace.specs.Format.{words_from}
use Rattle.trace.proofs.copy_cells.Given as goal

abbrev pub invariant-loop-i : goal.invariant-loop-i
invariant-loop-i l = sets l.cells l.i (words_from l.bytes (4 + l.i) (l.count - l.i)) ≡ sets l.initial.cells 0 (words_from l.bytes 4 l.count)
