use Prim.Native.Nat.{◌*◌}
use native.Mathlib.Omega.{arith}
use Rattle.record.specs.Widths.{run_width}
use Rattle.record.proofs.Queues.{entries_on, entries_end}
use Rattle.record.proofs.entries_owned.Goals as goal

pub loop-i-preserved : goal.loop-i-preserved
loop-i-preserved c = let l = c.loop-i in (omega arith, entries_on c.args.runs.now (run_width * l.i) _ l.sum _ l.invariant.1 _ _ _ (omega arith) (omega arith) c.number_at.ensures)

pub returns : goal.returns
returns c = let l = c.loop-i in entries_end c.args.runs.now (run_width * l.i) _ l.sum _ l.invariant.1 (omega arith)
