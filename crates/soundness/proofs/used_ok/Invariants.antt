use Rattle.std.proofs.Common.{◌≡◌, ◌+◌, ◌*◌, ◌-◌}
use Rattle.model.specs.Refusals.{every}
use Rattle.soundness.specs.Groups.{ops_from, storable_op}
use Rattle.soundness.proofs.used_ok.Given as goal

abbrev pub invariant-loop-i : goal.invariant-loop-i
invariant-loop-i l = every (storable_op l.cells) (ops_from l.row (l.b + 3 * l.i) (l.n - l.i)) ≡ every (storable_op l.cells) (ops_from l.row l.b l.n)
