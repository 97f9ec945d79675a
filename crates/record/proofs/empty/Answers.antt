use Rattle.record.proofs.Starting.{empty_packed}
use Rattle.record.proofs.empty.Goals as goal

pub returns : goal.returns
returns c = empty_packed c.args.count
