use native.Mathlib.Omega.{arith}
use Rattle.trace.specs.Format.{word_at}
use Rattle.trace.proofs.word_at.Goals as goal

pub returns : goal.returns
unfolding word_at
returns c = omega (arith, c.from_le_bytes.ensures)
