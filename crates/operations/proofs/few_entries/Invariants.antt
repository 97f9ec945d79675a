use Prim.Native.Nat.{◌*◌}
use mathlib.Core.Path.{◌≡◌}
use lib.ListN.{length, take}
use Rattle.operations.specs.Laid.{entries_of}
use Rattle.operations.proofs.few_entries.Given as goal

abbrev pub invariant-loop-i : goal.invariant-loop-i
invariant-loop-i l = (length l.few ≡ 8) × (take l.i l.few ≡ entries_of l.row (2 * l.from) l.i)
