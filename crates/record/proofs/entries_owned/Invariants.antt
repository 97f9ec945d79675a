use Prim.Native.Nat.{◌+◌, ◌*◌, ◌-◌, ◌≤◌}
use mathlib.Core.Path.{◌≡◌}
use Rattle.record.specs.View.{entries_from}
use Rattle.record.specs.Widths.{run_width}
use Rattle.record.proofs.entries_owned.Given as goal

abbrev pub invariant-loop-i : goal.invariant-loop-i
invariant-loop-i l = (l.sum ≤ 4294967295 * l.i) × (l.sum + entries_from l.runs (run_width * l.i) (l.n - l.i) ≡ entries_from l.runs 0 l.n)
