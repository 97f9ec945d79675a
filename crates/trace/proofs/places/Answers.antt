use native.Mathlib.Omega.{arith}
use Rattle.trace.proofs.Digits.{counting_start, counting_turn, counting_end}
use Rattle.trace.proofs.places.Goals as goal

pub loop-m-init : goal.loop-m-init
loop-m-init c = counting_start c.args.n (omega arith)

pub overflow_add-k : goal.overflow_add-k
overflow_add-k c = omega (arith, c.loop-m.invariant.sum)

pub loop-m-preserved : goal.loop-m-preserved
loop-m-preserved c = counting_turn c.args.n c.loop-m.k c.loop-m.m c.loop-m-test.true c.loop-m.invariant

pub returns : goal.returns
returns c = counting_end c.args.n c.loop-m.k c.loop-m.m c.loop-m-test.false c.loop-m.invariant
