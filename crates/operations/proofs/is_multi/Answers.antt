use mathlib.Core.Path.{refl}
use Rattle.model.specs.Operations.{multi}
use Rattle.operations.proofs.is_multi.Goals as goal

pub returns : goal.returns
unfolding multi
returns c = refl
