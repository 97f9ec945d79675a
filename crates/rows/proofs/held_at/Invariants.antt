use Prim.Native.Nat.{ℕ, ◌+◌, ◌<◌}
use mathlib.Core.Path.{◌≡◌}
use lib.ListN.{length, get_or}
use Rattle.rows.proofs.held_at.Given as goal

abbrev pub invariant-loop-k : goal.invariant-loop-k
invariant-loop-k l = (length l.numbers ≡ 8) × ((k : ℕ) → k < l.k → get_or l.numbers k 0 ≡ get_or l.runs (l.b + 6 + k) 0)
