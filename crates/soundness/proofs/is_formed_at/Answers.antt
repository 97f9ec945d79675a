use mathlib.Core.Path.{ap, ◌∙◌}
use Rattle.model.specs.Refusals.{formed}
use Rattle.soundness.proofs.is_formed_at.Goals as goal

pub returns : goal.returns
returns c = c.is_formed.ensures ∙ ap formed c.fragment_at-f.ensures
