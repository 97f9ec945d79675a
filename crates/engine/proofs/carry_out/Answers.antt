use lib.Dec.{eqb}
use lib.ListN.{length}
use mathlib.Core.Path.{◌≡◌, refl, ◌∙◌}
use mathlib.Core.Bool.{◌&&◌}
use Rattle.model.specs.Operations.{pick}
use Rattle.model.specs.Refusals.{new}
use Rattle.record.specs.View.{view}
use Rattle.record.specs.Widths.{live_length, runs_length, undo_length}
use Rattle.operations.proofs.Turns.{unmapped}
use Rattle.engine.proofs.Calling.{came, ready, entries_are, begins, accepted_call}
use Rattle.engine.proofs.Accepting.{drained_left}
use borrow.Author.Rules.{rules}
use Rattle.engine.proofs.carry_out.Goals as goal

pub enter-e-requires : goal.enter-e-requires
enter-e-requires c = let a = c.args in
    let t = c.tidy-entries in (
      a.scheme,
      (
        view a.r.now,
        (
          came a.scheme a.r.now a.event a.cells.now a.room.now t.result t.new.runs (search rules) (search rules) (search rules) c.requires t.ensures.value t.ensures.runs_after,
          ready a.scheme a.r.now a.event a.cells.now a.room.now t.result t.new.runs (search rules) (search rules) (search rules) c.requires t.ensures.value t.ensures.runs_after _ c.accepts.result (search (unmapped, rules)) c.accepts.ensures,
        ),
      ),
    )

pub drain-d-requires : goal.drain-d-requires
drain-d-requires c = let a = c.args in
    let t = c.tidy-entries in
    (c.enter-e.ensures.entered a.scheme (view a.r.now) _ (ready a.scheme a.r.now a.event a.cells.now a.room.now t.result t.new.runs (search rules) (search rules) (search rules) c.requires t.ensures.value t.ensures.runs_after _ c.accepts.result (search (unmapped, rules)) c.accepts.ensures)).begun.small

pub returns : goal.returns
returns c = let a = c.args in
    let r = a.r.now in
    let t = c.tidy-entries in
    let k = c.accepts in
    let s = c.enter-e in
    let d = c.drain-d in
    let hl : length r.live ≡ live_length = search rules in
    let hr : length r.runs ≡ runs_length = search rules in
    let hu : length r.undo ≡ undo_length = search rules in
    let g = came a.scheme r a.event a.cells.now a.room.now t.result t.new.runs hl hr hu c.requires t.ensures.value t.ensures.runs_after in
    let st = s.ensures.entered a.scheme (view r) g (ready a.scheme r a.event a.cells.now a.room.now t.result t.new.runs hl hr hu c.requires t.ensures.value t.ensures.runs_after _ k.result (search (unmapped, rules)) k.ensures) in
    accepted_call a.scheme r a.event a.cells.now a.room.now s.new.live c.shift.new.row d.new.runs d.new.undo d.new.room d.new.cells k.result d.result g
    c.requires refl refl refl refl refl (entries_are a.scheme r a.event a.cells.now a.room.now t.result t.new.runs hl hr hu c.requires t.ensures.value t.ensures.runs_after)
    (drained_left a.scheme s.new.live s.new.runs s.new.undo s.new.room d.new.runs d.new.undo d.new.room s.new.cells d.new.cells s.result d.result g _ st.begun d.ensures.drained)
    d.ensures.small.live (d.ensures.kept.2 ∙ st.comes ∙ begins k.result r.counts _ (pick (eqb a.event.kind 1 && new a.event.number (view r)) 1 0) k.ensures) c.shift.ensures k.ensures (d.ensures.kept.0 ∙ s.ensures.same.0) (d.ensures.kept.1 ∙ s.ensures.same.1)
