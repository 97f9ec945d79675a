use Prim.Native.Nat.{◌+◌, ◌*◌, ◌-◌, ◌≤◌}
use mathlib.Core.Path.{◌≡◌}
use Rattle.trace.specs.Text.{line_a}
use Rattle.listing.specs.Printed.{lines_from, together}
use Rattle.listing.proofs.Texts.{Left}
use Rattle.listing.proofs.Page.put_answers.Given as goal

abbrev pub invariant-loop-i : goal.invariant-loop-i
invariant-loop-i l = (l.self.buffer.ghost_name ≡ l.initial.self.buffer.ghost_name) × (l.self.from ≡ l.initial.self.from) × (l.self.at ≤ l.initial.self.at + 156 * l.i)
    × Left l.initial.self.from l.self.buffer.now l.initial.self.buffer.now l.self.at l.initial.self.at (together (lines_from (line_a l.room) l.i (l.count - l.i))) (together (lines_from (line_a l.room) 0 l.count))
