use native.Mathlib.Omega.{arith}
use Rattle.std.proofs.lemmas.Grind.{common_steps}
use Rattle.operations.proofs.Codes.{uses_none}
use Rattle.operations.proofs.uses_amount.Goals as goal

pub returns : goal.returns
returns c = grind (arith, common_steps, uses_none)
