use native.Mathlib.Omega.{arith}
use Prim.Native.Nat.{ℕ, ◌+◌}
use mathlib.Core.Bool.{Bool}
use Rattle.model.specs.Operations.{pick}
use mathlib.Core.Path.{refl, sym, ap, ◌∙◌}
use Rattle.engine.specs.declared.course.Course.{Course}
use Rattle.engine.specs.Work.{with_answers}
use Rattle.rows.specs.Rows.{trial_or_none}
use Rattle.engine.proofs.Releasing.{one_single, one_empty, one_held}
use Rattle.engine.proofs.settle.release_one.Goals as goal

pub returns : goal.returns
returns c = let a = c.args in
    let h = c.put_held in
    let e = c.sends.ensures in
    let some = sym h.ensures.value ∙ c.if-not-put_held.false in record { answers_alone = e ∙ ap {B = Course} (λ (n : ℕ). with_answers n a.c) (sym (ap (λ (x : Course). x.answers) e)); one_at_most = omega (arith, ap (λ (x : Course). x.answers) e); released_one = one_held a.live.now a.runs.now a.room.now c.mark_sent.new.runs h.new.room a.c c.sends.result a.i c.trial_at-own.result (trial_or_none a.near) (a.c.answers + 1) c.requires.2 (sym c.is_multi_at.ensures ∙ c.if-not-is_multi_at.false) c.trial_at-own.ensures (sym (ap (λ (b : Bool). pick b (a.c.answers + 1) a.c.answers) some)) h.ensures.room_after c.mark_sent.ensures e }

pub returns-then-not-is_multi_at : goal.returns-then-not-is_multi_at
returns-then-not-is_multi_at c = let a = c.args in
    record { answers_alone = refl; one_at_most = omega arith; released_one = one_single a.live.now a.runs.now a.room.now a.c a.i (trial_or_none a.near) (sym c.is_multi_at.ensures ∙ c.if-not-is_multi_at.true) }

pub returns-then-not-put_held : goal.returns-then-not-put_held
returns-then-not-put_held c = let a = c.args in
    let h = c.put_held in record { answers_alone = refl; one_at_most = omega arith; released_one = one_empty a.live.now a.runs.now a.room.now h.new.room a.c a.i c.trial_at-own.result (trial_or_none a.near) (sym c.is_multi_at.ensures ∙ c.if-not-is_multi_at.false) (sym h.ensures.value ∙ c.if-not-put_held.true) h.ensures.room_after }
