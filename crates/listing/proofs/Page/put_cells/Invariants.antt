use Prim.Native.Nat.{ℕ, ◌+◌, ◌*◌, ◌-◌, ◌≤◌}
use mathlib.Core.Path.{◌≡◌}
use lib.ListN.{get_or}
use Rattle.trace.specs.Text.{line_c}
use Rattle.listing.specs.Printed.{lines_from, together}
use Rattle.listing.proofs.Texts.{Left}
use Rattle.listing.proofs.Page.put_cells.Given as goal

abbrev pub invariant-loop-i : goal.invariant-loop-i
invariant-loop-i l = (l.self.buffer.ghost_name ≡ l.initial.self.buffer.ghost_name) × (l.self.from ≡ l.initial.self.from) × (l.self.at ≤ l.initial.self.at + 24 * l.i)
    × Left l.initial.self.from l.self.buffer.now l.initial.self.buffer.now l.self.at l.initial.self.at (together (lines_from (λ (j : ℕ). line_c j (get_or l.cells j 0)) l.i (l.count - l.i))) (together (lines_from (λ (j : ℕ). line_c j (get_or l.cells j 0)) 0 l.count))
