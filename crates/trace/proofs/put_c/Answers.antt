use Rattle.trace.specs.Text.{line_c}
use Rattle.trace.proofs.put_c.Goals as goal

pub returns : goal.returns
unfolding line_c
returns c = c.put_line.ensures
