use native.Mathlib.Omega.{arith}
use Rattle.tidy.proofs.Loops.{many_runs, many_entries, not_tidied, all_tidied}
use Rattle.tidy.proofs.tidy.Goals as goal

pub returns-then-uncommitted-gt-DEPTH : goal.returns-then-uncommitted-gt-DEPTH
returns-then-uncommitted-gt-DEPTH c = let a = c.args in let all = not_tidied a.runs.now a.uncommitted (many_runs a.runs.now a.uncommitted c.if-uncommitted-gt-DEPTH.true) in record { value = all.0; runs_after = all.1 }

pub returns-then-n : goal.returns-then-n
returns-then-n c = let a = c.args in let all = not_tidied a.runs.now a.uncommitted (many_entries a.runs.now a.uncommitted (omega (arith, c.if-n.true, c.entries_owned-n.ensures))) in record { value = all.0; runs_after = all.1 }

pub returns : goal.returns
returns c = let a = c.args in let all = all_tidied a.runs.now a.uncommitted _ _ (omega (arith, c.if-uncommitted-gt-DEPTH.false)) (omega (arith, c.if-n.false)) c.entries_owned-n.ensures c.tidy_runs.ensures in record { value = all.0; runs_after = all.1 }
