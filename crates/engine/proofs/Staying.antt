-- No step moves the cell count, the largest number and how many transactions a call has: how that is carried from step to step.
use mathlib.Core.Path.{◌≡◌, refl, sym, ◌∙◌, subst}
use mathlib.Core.Bool.{Bool, true, false}
use Prim.Native.Nat.{ℕ, ◌<◌}
use native.Mathlib.Omega.{arith}
use Rattle.model.specs.Operations.{pick}
use Rattle.operations.specs.declared.Ran.{Ran}
use Rattle.engine.specs.declared.course.Course.{Course}
use Rattle.engine.specs.Work.{Kept, with_answers, joined_by, left_by, settled_at_once}

pub kept_both : (a b c : Course) → Kept a b → Kept b c → Kept a c
kept_both a b c p q = (q.0 ∙ p.0, q.1 ∙ p.1, q.2 ∙ p.2)

pub kept_at : (a b c : Course) → c ≡ b → Kept a b → Kept a c
kept_at a b c e k = subst (Kept a) (sym e) k

-- the first of the queue leaves it
pub kept_leaving : (c d : Course) (e : ℕ) → 0 < c.counts.uncommitted → d ≡ left_by c e → Kept c d
kept_leaving c d e h ed = kept_at c _ d ed (refl, refl, omega arith)

-- the drain took one, which joined or settled at once
pub kept_taking : (c c' : Course) (r : Ran) (a : ℕ) (joins : Bool) → 0 < c.counts.waiting → c' ≡ pick joins (joined_by (with_answers a c) r) (settled_at_once (with_answers a c)) → Kept c c'
kept_taking c c' r a true h e = kept_at c _ c' e (refl, refl, omega arith)
kept_taking c c' r a false h e = kept_at c _ c' e (refl, refl, omega arith)
