use Rattle.engine.specs.Work.{requeued_all}
use mathlib.Core.Path.{ap, refl, ◌∙◌}
use Rattle.engine.proofs.Staying.{kept_at}
use native.Mathlib.Omega.{arith}
use Prim.Native.Nat.{◌*◌}
use mathlib.Core.Path.{refl}
use Rattle.engine.specs.declared.course.Course.{Course}
use Rattle.engine.proofs.Deciding.{aborted}
use Rattle.rows.specs.Rows.{raised_rows}
use Rattle.record.specs.Widths.{live_width}
use Rattle.engine.proofs.abort.abort.Goals as goal

pub returns : goal.returns
returns c = let a = c.args in
    let p = c.requires in
    let gone = c.requeues.ensures ∙ ap {B = Course} requeued_all c.leaves-d.ensures in
    record { aborted = aborted a.live.now a.runs.now a.undo.now c.raise_attempts.new.live c.shift.new.row c.shift-2.new.row a.cells.now c.undo.new.cells a.c _ p.fair c.undo.ensures c.shift.ensures c.shift-2.ensures (c.raise_attempts.ensures ∙ ap (λ (x : Course). raised_rows a.live.now (live_width * x.first) x.counts.uncommitted) c.leaves-d.ensures) gone; kept = kept_at a.c _ _ gone (refl, refl, omega (arith, p.some_uncommitted)) }
