use native.Mathlib.Omega.{arith}
use Rattle.std.proofs.lemmas.Grind.{common_steps}
use Rattle.operations.proofs.Codes.{no_meaning}
use Rattle.operations.proofs.apply.Goals as goal

pub returns-in_err-map_err : goal.returns-in_err-map_err
returns-in_err-map_err c = grind (arith, common_steps, no_meaning)
