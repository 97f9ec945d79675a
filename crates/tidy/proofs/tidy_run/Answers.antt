use Prim.Native.Nat.{ℕ, ◌+◌, ◌-◌}
use native.Mathlib.Omega.{arith}
use mathlib.Core.Path.{ap, ◌∙◌}
use lib.ListN.{replicate}
use lib.Seq.{sets}
use Rattle.record.specs.View.{numbers_from}
use Rattle.tidy.specs.Runs.{tidy_run}
use Rattle.tidy.proofs.Loops.{used_most}
use Rattle.record.specs.Widths.{run_width}
use Rattle.tidy.proofs.tidy_run.Goals as goal

pub overflow_add-at : goal.overflow_add-at
overflow_add-at c = omega (arith, c.requires, c.used_at-k.ensures, used_most c.args.runs.now c.args.at)

pub overflow_sub-k : goal.overflow_sub-k
overflow_sub-k c = omega (arith, c.used_at-k.ensures, used_most c.args.runs.now c.args.at)

pub returns : goal.returns
unfolding tidy_run
returns c = c.lay.ensures ∙ ap (λ (k : ℕ). sets c.args.runs.now (c.args.at + k) (numbers_from (replicate run_width 0) 0 (run_width - k))) c.used_at-k.ensures
