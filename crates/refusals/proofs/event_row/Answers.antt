use Prim.Native.Nat.{◌≤◌}
use native.Mathlib.Omega.{arith}
use mathlib.Core.Path.{◌≡◌, sym, ap, ◌∙◌}
use Rattle.record.specs.Events.{event_of}
use Rattle.std.proofs.lemmas.Result.{err_from_is_err_and}
use Rattle.model.proofs.KindWords.{word_of, kind_word, kind_unknown}
use Rattle.model.specs.declared.Kind.{Kind}
use Rattle.std.proofs.Common.{Ok, ◌⊎◌, inl, inr}
use Rattle.model.specs.declared.Kind.TheVariants.{Fragment, Commit, Abort}
use Rattle.refusals.proofs.Firsts.{kind_first, event_unknown, event_arrives, event_decides, event_more}
use Rattle.refusals.proofs.event_row.Goals as goal

-- the words of the two decisions
decides : (k : Kind) → (k ≡ Commit) ⊎ (k ≡ Abort) → (2 ≤ word_of k) × (word_of k ≤ 3)
decides Fragment e = elim e [ inl x ↦ cc | inr x ↦ cc ]
decides Commit e = (omega arith, omega arith)
decides Abort e = (omega arith, omega arith)

pub returns-else-not-is_blank_at : goal.returns-else-not-is_blank_at
unfolding event_of
returns-else-not-is_blank_at c = let a = c.args in
    let v = event_of a.event.now in
    let o = kind_first a.event.now c.try_from.result (omega arith) c.try_from.ensures ∙ c.in_ok-kind.was in
    let k = kind_word v.kind c.in_ok-kind.kind o in
    let d = decides c.in_ok-kind.kind c.in-Commit.is in
    record { row = event_decides a.count v c.if-event-lt1.false (omega arith) (omega arith) (sym c.if-not-is_blank_at.ensures); kind = o }

pub returns-in_err-kind-clause-row : goal.returns-in_err-kind-clause-row
unfolding event_of
returns-in_err-kind-clause-row c = let a = c.args in
    let v = event_of a.event.now in
    let none = kind_unknown v.kind c.in_err-kind.field-0.0 (kind_first a.event.now c.try_from.result (omega arith) c.try_from.ensures ∙ c.in_err-kind.was) in
    let p = err_from_is_err_and c.from_residual.result c.from_residual.ensures.1 in
    rw (p.1, p.2) (event_unknown a.count v (none Fragment) (none Commit) (none Abort))

pub returns-in_err-arrival_row-in-Fragment-clause-row : goal.returns-in_err-arrival_row-in-Fragment-clause-row
unfolding event_of
returns-in_err-arrival_row-in-Fragment-clause-row c = let a = c.args in
    let v = event_of a.event.now in
    let k = kind_word v.kind Fragment (kind_first a.event.now c.try_from.result (omega arith) c.try_from.ensures ∙ c.in_ok-kind.was ∙ ap Ok c.in-Fragment.is) in
    let p = err_from_is_err_and c.from_residual-in_err-arrival_row-in-Fragment.result c.from_residual-in_err-arrival_row-in-Fragment.ensures.1 in
    rw (p.1, p.2) (c.in_err-arrival_row-in-Fragment.ensures ∙ event_arrives a.count v c.if-event-lt1.false k)

pub returns-in_ok-arrival_row-in-Fragment-clause-row : goal.returns-in_ok-arrival_row-in-Fragment-clause-row
unfolding event_of
returns-in_ok-arrival_row-in-Fragment-clause-row c = let a = c.args in
    let v = event_of a.event.now in
    let k = kind_word v.kind Fragment (kind_first a.event.now c.try_from.result (omega arith) c.try_from.ensures ∙ c.in_ok-kind.was ∙ ap Ok c.in-Fragment.is) in
    c.in_ok-arrival_row-in-Fragment.ensures ∙ event_arrives a.count v c.if-event-lt1.false k

pub returns-in_ok-arrival_row-in-Fragment-clause-kind : goal.returns-in_ok-arrival_row-in-Fragment-clause-kind
returns-in_ok-arrival_row-in-Fragment-clause-kind c = let a = c.args in
    kind_first a.event.now c.try_from.result (omega arith) c.try_from.ensures ∙ c.in_ok-kind.was

pub returns-then-not-is_blank_at : goal.returns-then-not-is_blank_at
unfolding event_of
returns-then-not-is_blank_at c = let a = c.args in
    let v = event_of a.event.now in
    let k = kind_word v.kind c.in_ok-kind.kind (kind_first a.event.now c.try_from.result (omega arith) c.try_from.ensures ∙ c.in_ok-kind.was) in
    let d = decides c.in_ok-kind.kind c.in-Commit.is in
    record { row = event_more a.count v c.if-event-lt1.false (omega arith) (omega arith) (sym c.if-not-is_blank_at.ensures); kind = tt }
