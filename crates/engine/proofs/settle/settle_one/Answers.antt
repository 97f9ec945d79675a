use Prim.Native.Nat.{◌+◌, ◌*◌}
use mathlib.Core.Path.{◌≡◌, ap, refl}
use Rattle.model.specs.Operations.{pick}
use Rattle.record.specs.Widths.{run_width}
use Rattle.rows.specs.Rows.{holds_row}
use Rattle.engine.specs.declared.course.Course.{Course}
use Rattle.engine.proofs.Staying.{kept_both, kept_at, kept_leaving}
use Rattle.engine.proofs.Settling.{settled_one, settled_fair}
use Rattle.engine.proofs.settle.settle_one.Goals as goal

pub returns : goal.returns
returns c = let a = c.args in
    let p = c.requires in
    let h = c.put_held-held in
    let e = c.entries_at-entries in
    let d = c.leaves in
    let s = c.sends in
    let n = ap (λ (x : Course). x.answers) d.ensures in
    let a' = pick h.result (d.result.answers + 1) d.result.answers in
    let ea : a' ≡ pick (holds_row a.runs.now (run_width * a.c.first)) (a.c.answers + 1) a.c.answers = λ i. pick (h.ensures.value i) (n i + 1) (n i) in
    let f = settled_fair a.live.now a.runs.now a.room.now h.new.room a.c d.result s.result c.trial_at-own.result e.result a' p.fair p.some_uncommitted c.trial_at-own.ensures ea h.ensures.room_after e.ensures d.ensures s.ensures in record { still_fair = f.0; one_less = f.1.0; no_more_entries = f.1.1; settled_one = settled_one a.live.now a.runs.now a.room.now h.new.room a.c d.result s.result c.trial_at-own.result e.result a' p.fair p.some_uncommitted c.trial_at-own.ensures ea h.ensures.room_after e.ensures d.ensures s.ensures; kept = kept_both a.c d.result s.result (kept_leaving a.c d.result e.result p.some_uncommitted d.ensures) (kept_at d.result _ s.result s.ensures (refl, refl, refl)) }
