use native.Mathlib.Omega.{arith}
use Rattle.std.proofs.lemmas.Grind.{common_steps}
use Rattle.operations.proofs.Codes.{writes_none}
use Rattle.operations.proofs.may_write.Goals as goal

pub returns : goal.returns
returns c = grind (arith, common_steps, writes_none)
