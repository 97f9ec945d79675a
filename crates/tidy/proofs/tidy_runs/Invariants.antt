use Prim.Native.Nat.{◌*◌, ◌-◌}
use mathlib.Core.Path.{◌≡◌}
use Rattle.tidy.specs.Runs.{tidy_runs}
use Rattle.record.specs.Widths.{run_width}
use Rattle.tidy.proofs.tidy_runs.Given as goal

abbrev pub invariant-loop-i : goal.invariant-loop-i
invariant-loop-i l = tidy_runs l.runs (run_width * l.i) (l.n - l.i) ≡ tidy_runs l.initial.runs 0 l.n
