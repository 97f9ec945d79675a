use native.Mathlib.Omega.{arith}
use Prim.Native.Nat.{ℕ, ◌+◌, ◌*◌}
use mathlib.Core.Path.{◌≡◌, refl, sym, ap, ◌∙◌}
use mathlib.Core.Logic.{inl, inr}
use Rattle.rows.specs.Rows.{same_row, near_row, trial_or_none}
use Rattle.rows.proofs.Reading.{near_by}
use Rattle.record.specs.Widths.{live_width}
use Rattle.engine.specs.declared.course.Course.{Course}
use Rattle.engine.specs.Work.{with_answers}
use Rattle.engine.proofs.Releasing.{releasing_start, releasing_turn, releasing_end, released_front}
use Rattle.engine.proofs.settle.release.Goals as goal

pub loop-i-init : goal.loop-i-init
loop-i-init c = let a = c.args in record { answers_alone = refl; one_each = omega arith; releasing = releasing_start a.live.now a.runs.now a.room.now a.from c.number_at-k.result }

pub returns-then-not-same_coordinator : goal.returns-then-not-same_coordinator
returns-then-not-same_coordinator c = let a = c.args in
    let l = c.loop-i in
    let k = c.number_at-k.result in
    let here : l.c.first ≡ a.from.first = ap (λ (x : Course). x.first) l.invariant.answers_alone in record {
      answers_alone = l.invariant.answers_alone;
      fronted = released_front a.live.now a.runs.now a.room.now l.runs l.room a.from l.c k c.number_at-k.ensures
          (releasing_end a.live.now a.runs.now a.room.now l.runs l.room a.from l.c k (trial_or_none l.near) l.i l.invariant.releasing
          (inr (ap (λ (n : ℕ). same_row a.live.now (live_width * (n + l.i)) k) here ∙ sym c.same_coordinator.ensures ∙ c.if-not-same_coordinator.true)));
    }

pub loop-i-preserved : goal.loop-i-preserved
loop-i-preserved c = let a = c.args in
    let l = c.loop-i in
    let k = c.number_at-k.result in
    let here : l.c.first ≡ a.from.first = ap (λ (x : Course). x.first) l.invariant.answers_alone in
    let r = c.release_one-c in record {
      answers_alone = r.ensures.answers_alone ∙ ap {B = Course} (with_answers r.result.answers) l.invariant.answers_alone;
      one_each = omega arith;
      releasing = releasing_turn a.live.now a.runs.now a.room.now l.runs l.room a.from l.c k (trial_or_none l.near) l.i l.invariant.releasing (omega (arith, ap (λ (x : Course). x.counts.uncommitted) l.invariant.answers_alone, c.loop-i-test.true))
          (ap (λ (n : ℕ). same_row a.live.now (live_width * (n + l.i)) k) here ∙ sym c.same_coordinator.ensures ∙ c.if-not-same_coordinator.false) r.new.runs r.new.room r.result r.ensures.released_one
          (trial_or_none c.nearer-near.result)
          (ap trial_or_none c.nearer-near.ensures ∙ near_by a.live.now (live_width * (a.from.first + l.i)) l.near ∙ ap (λ (n : ℕ). near_row a.live.now (live_width * (n + l.i)) (trial_or_none l.near)) (sym here));
    }

pub returns : goal.returns
returns c = let a = c.args in
    let l = c.loop-i in
    let k = c.number_at-k.result in record {
      answers_alone = l.invariant.answers_alone;
      fronted = released_front a.live.now a.runs.now a.room.now l.runs l.room a.from l.c k c.number_at-k.ensures
          (releasing_end a.live.now a.runs.now a.room.now l.runs l.room a.from l.c k (trial_or_none l.near) l.i l.invariant.releasing
          (inl (omega (arith, ap (λ (x : Course). x.counts.uncommitted) l.invariant.answers_alone, c.loop-i-test.false))));
    }
