use Prim.Native.Nat.{◌+◌, ◌*◌, ◌-◌}
use mathlib.Core.Path.{◌≡◌}
use Rattle.record.specs.Widths.{live_width}
use Rattle.rows.specs.Rows.{raised_rows}
use Rattle.rows.proofs.raise_attempts.Given as goal

abbrev pub invariant-loop-i : goal.invariant-loop-i
invariant-loop-i l = raised_rows l.live (l.b + live_width * l.i) (l.n - l.i) ≡ raised_rows l.initial.live l.b l.n
