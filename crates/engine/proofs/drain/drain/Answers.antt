use Rattle.engine.proofs.Staying.{kept_both}
use native.Mathlib.Omega.{arith}
use mathlib.Core.Path.{refl, sym, ◌∙◌}
use mathlib.Core.Logic.{inl, inr}
use Rattle.engine.proofs.Draining.{midst_start, midst_turn, midst_end, room_under}
use Rattle.engine.proofs.drain.drain.Goals as goal

pub loop-c-init : goal.loop-c-init
loop-c-init c = let a = c.args in
    record { small = c.requires; midst = midst_start a.scheme a.live.now a.runs.now a.undo.now a.room.now a.cells.now a.from; kept = (refl, refl, refl) }

pub take_first-c-requires : goal.take_first-c-requires
take_first-c-requires c = let l = c.loop-c in
    record { small = l.invariant.small; first_may_run = (c.loop-c-test.true, room_under c.args.scheme l.runs l.c.counts.uncommitted (sym c.may_take.ensures ∙ c.if-may_take.true)) }

pub loop-c-preserved : goal.loop-c-preserved
loop-c-preserved c = let a = c.args in
    let l = c.loop-c in
    let t = c.take_first-c in record {
      small = t.ensures.still_small;
      midst = midst_turn a.scheme a.live.now a.runs.now a.undo.now a.room.now a.cells.now a.from l.runs l.undo l.room l.cells l.c l.invariant.midst c.loop-c-test.true (sym c.may_take.ensures ∙ c.if-may_take.true) t.new.runs t.new.undo t.new.room t.new.cells t.result t.ensures.took;
      kept = kept_both a.from l.c t.result l.invariant.kept t.ensures.kept;
    }

pub returns-else-may_take-clause-drained : goal.returns-else-may_take-clause-drained
returns-else-may_take-clause-drained c = let a = c.args in
    let l = c.loop-c in
    midst_end a.scheme a.live.now a.runs.now a.undo.now a.room.now a.cells.now a.from l.runs l.undo l.room l.cells l.c l.invariant.midst (inr (sym c.may_take.ensures ∙ c.if-may_take.false))

pub returns-after-loop-c-clause-drained : goal.returns-after-loop-c-clause-drained
returns-after-loop-c-clause-drained c = let a = c.args in
    let l = c.loop-c in
    midst_end a.scheme a.live.now a.runs.now a.undo.now a.room.now a.cells.now a.from l.runs l.undo l.room l.cells l.c l.invariant.midst (inl (omega arith))
