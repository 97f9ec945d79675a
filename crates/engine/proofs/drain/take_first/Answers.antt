use native.Mathlib.Omega.{arith}
use Prim.Native.Nat.{◌*◌, ◌≤◌, ◌<◌}
use mathlib.Core.Path.{refl, sym, ap, ◌∙◌, subst}
use mathlib.Core.Bool.{true, not}
use lib.Seq.{sets}
use Rattle.std.specs.Prelude.{None}
use Rattle.model.specs.Limits.{answer_words}
use Rattle.record.specs.View.{numbers_from}
use Rattle.record.specs.Widths.{live_width, run_width}
use Rattle.rows.specs.declared.Placement.{Placement}
use Rattle.rows.specs.Rows.{trial_or_none, nearest_rows, told_row, begun_row}
use Rattle.rows.proofs.Placed.{sent_is, held_is}
use Rattle.engine.specs.Work.{joined_by, settled_at_once}
use Rattle.engine.specs.declared.course.Course.{Course}
use Rattle.engine.proofs.Placing.{took_by}
use Rattle.engine.proofs.Draining.{entries_few, small_taking}
use Rattle.engine.proofs.drain.take_first.Goals.{in-Sent, in-Held}
use Rattle.engine.proofs.drain.take_first.Goals as goal

pub join-requires : goal.join-requires
join-requires c = let p = c.requires in
    let few : c.run_fragment-r.result.entries ≤ 8 = entries_few c.args.live.now _ c.fragment_at-f.result c.args.cells.now c.run_fragment-r.result c.fragment_at-f.ensures c.run_fragment-r.ensures.value in
    subst (λ (d : Course). (d.entries ≤ 184) × (0 < d.counts.waiting) × (d.counts.uncommitted < 16) × (c.run_fragment-r.result.entries ≤ 8)) (sym c.sends-d.ensures) (omega (arith, p.small.entries, p.first_may_run, few))

pub returns-then-p-clause-still_small : goal.returns-then-p-clause-still_small
returns-then-p-clause-still_small c = let p = c.requires in
    let r = c.run_fragment-r in
    let few : r.result.entries ≤ 8 = entries_few c.args.live.now _ c.fragment_at-f.result c.args.cells.now r.result c.fragment_at-f.ensures r.ensures.value in
    (small_taking c.args.c c.join.result r.result _ c.match-p.sent true p.small p.first_may_run.0 p.first_may_run.1 few refl (c.join.ensures.value ∙ ap {B = Course} (λ (x : Course). joined_by x r.result) c.sends-d.ensures)).0

pub returns-then-p-clause-took : goal.returns-then-p-clause-took
returns-then-p-clause-took c = let a = c.args in
    let r = c.run_fragment-r in
    let f = c.fragment_at-f.result in
    let own = c.trial_at-own.result in
    let place = c.place_ran-p in
    let sent = c.match-p.sent in
    let ahead = nearest_rows None a.live.now (live_width * a.c.first) a.c.counts.uncommitted in
    let reply = ap (λ (x : Placement). x.reply) place.ensures in
    took_by a.live.now a.runs.now a.undo.now a.room.now a.cells.now a.c own f r.result place.result sent c.join.new.runs c.join.new.undo c.match-p.room r.new.cells c.join.result
    c.trial_at-own.ensures c.fragment_at-f.ensures r.ensures.value r.ensures.cells_after place.ensures
    (elim c.match-p.branch [
      | in-Sent w ↦ (let d = sent_is _ ahead _ (sym w.in-Sent.is ∙ reply) in
          (w.sent-is ∙ sym d.0, rw w.sent-is (w.room-is ∙ w.put_answer.ensures ∙ (λ i. sets a.room.now (answer_words * a.c.answers) (told_row own (trial_or_none (d.1 i)) r.result.told)))))
      | in-Held w ↦ (w.sent-is ∙ sym (held_is _ ahead (sym w.in-Held.is ∙ reply)), rw w.sent-is w.room-is)
    ])
    (rw c.if-p.true (c.join.ensures.runs_after ∙ (λ i. sets a.runs.now (run_width * (c.sends-d.ensures i).counts.uncommitted) (begun_row (not sent) (c.is_last.ensures i) r.result))))
    (rw c.if-p.true (c.join.ensures.undo_after ∙ (λ i. sets a.undo.now (2 * (c.sends-d.ensures i).entries) (numbers_from r.result.undo 0 (2 * r.result.entries)))))
    (rw c.if-p.true (c.join.ensures.value ∙ ap {B = Course} (λ (x : Course). joined_by x r.result) c.sends-d.ensures))
    c.requires.small

pub returns-else-p-clause-took : goal.returns-else-p-clause-took
returns-else-p-clause-took c = let a = c.args in
    let r = c.run_fragment-r in
    let f = c.fragment_at-f.result in
    let own = c.trial_at-own.result in
    let place = c.place_ran-p in
    let sent = c.match-p.sent in
    let ahead = nearest_rows None a.live.now (live_width * a.c.first) a.c.counts.uncommitted in
    let reply = ap (λ (x : Placement). x.reply) place.ensures in
    took_by a.live.now a.runs.now a.undo.now a.room.now a.cells.now a.c own f r.result place.result sent a.runs.now a.undo.now c.match-p.room r.new.cells c.settles.result
    c.trial_at-own.ensures c.fragment_at-f.ensures r.ensures.value r.ensures.cells_after place.ensures
    (elim c.match-p.branch [
      | in-Sent w ↦ (let d = sent_is _ ahead _ (sym w.in-Sent.is ∙ reply) in
          (w.sent-is ∙ sym d.0, rw w.sent-is (w.room-is ∙ w.put_answer.ensures ∙ (λ i. sets a.room.now (answer_words * a.c.answers) (told_row own (trial_or_none (d.1 i)) r.result.told)))))
      | in-Held w ↦ (w.sent-is ∙ sym (held_is _ ahead (sym w.in-Held.is ∙ reply)), rw w.sent-is w.room-is)
    ])
    (rw c.if-p.false) (rw c.if-p.false) (rw c.if-p.false (c.settles.ensures ∙ ap {B = Course} settled_at_once c.sends-d.ensures))
    c.requires.small
