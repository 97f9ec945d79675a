use mathlib.Core.Path.{refl}
use Rattle.model.specs.Operations.{last}
use Rattle.operations.proofs.is_last.Goals as goal

pub returns : goal.returns
unfolding last
returns c = refl
