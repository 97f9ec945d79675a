use mathlib.Core.Path.{refl}
use Rattle.engine.proofs.Settling.{committed_all, left_fair}
use Rattle.engine.proofs.Staying.{kept_both, kept_at, kept_leaving}
use Rattle.engine.proofs.settle.commit.Goals as goal

pub settle_singles-d-requires : goal.settle_singles-d-requires
settle_singles-d-requires c = left_fair c.args.c c.leaves.result c.entries_at-entries.result c.requires.fair c.requires.some_uncommitted c.leaves.ensures

pub returns : goal.returns
returns c = let a = c.args in
    let p = c.requires in
    let e = c.entries_at-entries in
    let d = c.leaves in
    let s = c.settle_singles-d in
    let n = c.release in record { committed = committed_all a.live.now a.runs.now a.undo.now a.room.now s.new.room c.shift.new.row c.shift-2.new.row n.new.runs n.new.room a.c d.result s.result n.result e.result p.none_gone e.ensures d.ensures s.ensures.singles c.shift.ensures c.shift-2.ensures n.ensures.fronted; kept = kept_both a.c d.result n.result (kept_leaving a.c d.result e.result p.some_uncommitted d.ensures) (kept_both d.result s.result n.result s.ensures.kept (kept_at s.result _ n.result n.ensures.answers_alone (refl, refl, refl))) }
