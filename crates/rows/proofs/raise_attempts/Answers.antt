use native.Mathlib.Omega.{arith}
use Rattle.rows.proofs.Raised.{raised_on, raised_end}
use Rattle.rows.proofs.raise_attempts.Goals as goal

pub loop-i-preserved : goal.loop-i-preserved
loop-i-preserved c = let a = c.args in
    let l = c.loop-i in
    raised_on l.live a.b a.n l.i _ l.invariant c.loop-i-test.true _ c.raise_at.ensures

pub returns : goal.returns
returns c = let a = c.args in
    let l = c.loop-i in
    raised_end l.live a.b a.n l.i _ l.invariant (omega arith)
