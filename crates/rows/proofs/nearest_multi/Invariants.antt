use Prim.Native.Nat.{◌+◌, ◌*◌, ◌-◌}
use mathlib.Core.Path.{◌≡◌}
use Rattle.std.specs.Prelude.{None}
use Rattle.rows.specs.Rows.{nearest_rows}
use Rattle.record.specs.Widths.{live_width}
use Rattle.rows.proofs.nearest_multi.Given as goal

abbrev pub invariant-loop-i : goal.invariant-loop-i
invariant-loop-i l = nearest_rows l.near l.live (l.b + live_width * l.i) (l.n - l.i) ≡ nearest_rows None l.live l.b l.n
