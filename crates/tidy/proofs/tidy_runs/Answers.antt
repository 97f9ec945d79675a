use Rattle.tidy.proofs.Loops.{runs_turn, runs_end}
use native.Mathlib.Omega.{arith}
use Rattle.tidy.proofs.tidy_runs.Goals as goal

pub loop-i-preserved : goal.loop-i-preserved
loop-i-preserved c = let l = c.loop-i in runs_turn l.runs _ c.args.n l.i c.tidy_run.new.runs c.loop-i-test.true c.tidy_run.ensures l.invariant

pub returns : goal.returns
returns c = let l = c.loop-i in runs_end l.runs _ c.args.n l.i (omega arith) l.invariant
