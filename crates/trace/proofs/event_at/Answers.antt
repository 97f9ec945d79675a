use Rattle.trace.specs.Format.{event_at}
use Rattle.trace.proofs.event_at.Goals as goal

pub returns : goal.returns
unfolding event_at
returns c = cc
