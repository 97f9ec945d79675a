use Rattle.trace.specs.Text.{line_e}
use Rattle.trace.proofs.put_e.Goals as goal

pub returns : goal.returns
unfolding line_e
returns c = c.put_line.ensures
