use mathlib.Core.Path.{◌≡◌}
use lib.ListN.{take}
use Rattle.model.specs.Steps.{undone}
use Rattle.operations.proofs.undo_entries.Given as goal

-- i entries are left
abbrev pub invariant-loop-i : goal.invariant-loop-i
invariant-loop-i l = undone (take l.i l.entries) l.cells ≡ undone l.entries l.initial.cells
