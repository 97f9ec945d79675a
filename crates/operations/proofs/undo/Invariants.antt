use Prim.Native.Nat.{◌≤◌}
use mathlib.Core.Path.{◌≡◌}
use Rattle.model.specs.Steps.{undone}
use Rattle.operations.specs.Laid.{entries_of}
use Rattle.operations.proofs.undo.Given as goal

-- so many entries are left
abbrev pub invariant-loop-left : goal.invariant-loop-left
invariant-loop-left l = (l.left ≤ l.count) × (undone (entries_of l.entries 0 l.left) l.cells ≡ undone (entries_of l.entries 0 l.count) l.initial.cells)

abbrev pub decreases-loop-left : goal.decreases-loop-left
decreases-loop-left l = l.left
