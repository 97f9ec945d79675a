use native.Mathlib.Omega.{arith}
use Rattle.std.proofs.lemmas.Grind.{common_steps}
use Rattle.trace.specs.Format.{good, shape_of}
use Rattle.trace.proofs.shape_of.Goals as goal

pub returns : goal.returns
unfolding shape_of good
returns c = grind (arith, common_steps)
