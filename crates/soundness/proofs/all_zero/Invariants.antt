use Rattle.std.proofs.Common.{◌≡◌}
use Rattle.model.specs.Refusals.{every}
use Rattle.record.specs.View.{numbers_from}
use Rattle.soundness.specs.Groups.{is_zero}
use Rattle.soundness.proofs.all_zero.Given as goal

abbrev pub invariant-loop-w : goal.invariant-loop-w
invariant-loop-w l = is_zero l.all ≡ every is_zero (numbers_from l.row l.from l.w-index)
