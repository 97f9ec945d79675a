use native.Mathlib.Omega.{arith}
use mathlib.Core.Path.{refl, ◌∙◌}
use lib.ListN.{length-set}
use Rattle.operations.specs.Laid.{entries_of}
use Rattle.operations.proofs.Turns.{copy_turn}
use Rattle.operations.proofs.few_entries.Goals as goal

pub loop-i-init : goal.loop-i-init
unfolding entries_of
loop-i-init c = (refl, refl)

pub loop-i-preserved : goal.loop-i-preserved
loop-i-preserved c = let a = c.args in
    let l = c.loop-i in (
      length-set l.few l.i _ ∙ l.invariant.0,
      copy_turn a.row.now a.from l.i l.few c.entry_at.result (omega arith) c.entry_at.ensures l.invariant.1,
    )
