use native.Mathlib.Omega.{arith}
use mathlib.Core.Path.{refl, sym, ◌∙◌}
use mathlib.Core.Logic.{inl, inr}
use Rattle.engine.proofs.Staying.{kept_both}
use Rattle.engine.proofs.Settling.{midway_start, midway_turn, midway_end}
use Rattle.engine.proofs.settle.settle_singles.Goals as goal

pub loop-c-init : goal.loop-c-init
loop-c-init c = record { fair = c.requires; no_more_entries = omega arith; midway = midway_start c.args.live.now c.args.runs.now c.args.room.now c.args.from; kept = (refl, refl, refl) }

pub loop-c-preserved : goal.loop-c-preserved
loop-c-preserved c = let a = c.args in
    let l = c.loop-c in
    let s = c.settle_one-c in record {
      fair = s.ensures.still_fair;
      no_more_entries = omega arith;
      midway = midway_turn a.live.now a.runs.now a.room.now l.room a.from l.c l.invariant.midway c.loop-c-test.true (sym c.is_multi_at.ensures ∙ c.if-not-is_multi_at.true) s.new.room s.result s.ensures.settled_one;
      kept = kept_both a.from l.c s.result l.invariant.kept s.ensures.kept;
    }

pub returns-else-not-is_multi_at-clause-singles : goal.returns-else-not-is_multi_at-clause-singles
returns-else-not-is_multi_at-clause-singles c = let a = c.args in
    let l = c.loop-c in
    midway_end a.live.now a.runs.now a.room.now l.room a.from l.c l.invariant.midway (inr (sym c.is_multi_at.ensures ∙ c.if-not-is_multi_at.false))

pub returns-after-loop-c-clause-singles : goal.returns-after-loop-c-clause-singles
returns-after-loop-c-clause-singles c = let a = c.args in
    let l = c.loop-c in
    midway_end a.live.now a.runs.now a.room.now l.room a.from l.c l.invariant.midway (inl (omega arith))
