use Prim.Native.Nat.{◌+◌, ◌-◌, ◌*◌, ◌≤◌}
use mathlib.Core.Path.{◌≡◌}
use lib.ListN.{length}
use lib.Seq.{sets}
use Rattle.trace.specs.Text.{fields_from}
use Rattle.trace.proofs.put_fields.Given as goal

abbrev pub invariant-loop-j : goal.invariant-loop-j
invariant-loop-j l = (l.p ≤ l.at + 11 * l.j) × (l.p + length (fields_from l.row (l.from + l.j) (l.count - l.j)) ≡ l.at + length (fields_from l.row l.from l.count))
    × (sets l.buffer l.p (fields_from l.row (l.from + l.j) (l.count - l.j)) ≡ sets l.initial.buffer l.at (fields_from l.row l.from l.count))
