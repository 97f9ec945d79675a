use Prim.Native.Nat.{◌+◌}
use native.Mathlib.Omega.{arith}
use mathlib.Core.Path.{◌≡◌, sym, ap, ◌∙◌}
use mathlib.Core.Bool.{Bool}
use lib.Dec.{ltb, eqb}
use Rattle.std.proofs.Common.{Ok}
use Rattle.std.proofs.lemmas.Result.{err_from_is_err_and}
use Rattle.model.specs.Refusals.{first_of, is_in}
use Rattle.model.specs.declared.Kind.TheVariants.{Fragment, Commit, Abort}
use Rattle.model.proofs.KindWords.{kind_word}
use Rattle.record.specs.Events.{event_of}
use Rattle.refusals.specs.Rest.{row_numbers, front_is, known_rows, fragment_rows, decision_rows}
use Rattle.refusals.specs.Numbers.{number_of}
use Rattle.refusals.proofs.Numbers.{number_not_0}
use Rattle.refusals.proofs.Firsts.{shape_length}
use Rattle.refusals.proofs.Tables.{by_shape, by_known, by_fragment, by_decision}
use Rattle.refusals.proofs.refused_row.Goals as goal

pub returns-in_err-kind : goal.returns-in_err-kind
returns-in_err-kind c σ = let a = c.args in
    let v = event_of a.event.now in
    let p = err_from_is_err_and c.from_residual.result c.from_residual.ensures.1 in
    rw (p.1, p.2) (by_shape σ a.counts.cells a.counts.largest a.counts.uncommitted a.counts.waiting a.live.now a.runs.now a.undo.now v a.cells.now a.room.now (number_of c.in_err-kind.field-0.0) c.in_err-kind.ensures.row (number_not_0 c.in_err-kind.field-0.0))

pub bounds-event-1 : goal.bounds-event-1
bounds-event-1 c = let a = c.args in
    let n = shape_length a.counts.cells a.event.now a.cells.now a.room.now c.in_ok-kind.ensures.row in
    omega arith

pub returns-in_err-known_row : goal.returns-in_err-known_row
unfolding event_of
returns-in_err-known_row c σ = let a = c.args in
    let v = event_of a.event.now in
    let p = err_from_is_err_and c.from_residual-in_err-known_row.result c.from_residual-in_err-known_row.ensures.1 in
    rw (p.1, p.2) (by_known σ a.counts.cells a.counts.largest a.counts.uncommitted a.counts.waiting a.live.now a.runs.now a.undo.now v a.cells.now a.room.now c.in_ok-kind.ensures.row (number_of c.in_err-known_row.field-0.0) (c.in_err-known_row.ensures ∙ (λ i. first_of (known_rows (c.is_live-lives.ensures i) (ltb a.counts.largest v.number) (c.is_front-front.ensures i)))) (number_not_0 c.in_err-known_row.field-0.0))

pub returns-in-Fragment : goal.returns-in-Fragment
unfolding event_of
returns-in-Fragment c σ = let a = c.args in
    let v = event_of a.event.now in
    let k : 0 ≡ first_of (known_rows (is_in v.number (row_numbers a.live.now 0 (a.counts.uncommitted + a.counts.waiting))) (ltb a.counts.largest v.number) (front_is a.counts.uncommitted a.live.now v.number)) = c.in_ok-known_row.ensures ∙ (λ i. first_of (known_rows (c.is_live-lives.ensures i) (ltb a.counts.largest v.number) (c.is_front-front.ensures i))) in
    let t : v.kind ≡ 1 = kind_word v.kind Fragment (c.in_ok-kind.ensures.kind ∙ ap Ok c.in-Fragment.is) in
    c.fragment_row.ensures ∙ ap (λ (x : Bool). first_of (fragment_rows (a.counts.uncommitted + a.counts.waiting) (ltb a.counts.largest v.number) x a.live.now a.runs.now v.fragment)) c.is_front-front.ensures
    ∙ by_fragment σ a.counts.cells a.counts.largest a.counts.uncommitted a.counts.waiting a.live.now a.runs.now a.undo.now v a.cells.now a.room.now c.in_ok-kind.ensures.row k t

pub returns-in-Commit : goal.returns-in-Commit
unfolding event_of
returns-in-Commit c σ = let a = c.args in
    let v = event_of a.event.now in
    let k : 0 ≡ first_of (known_rows (is_in v.number (row_numbers a.live.now 0 (a.counts.uncommitted + a.counts.waiting))) (ltb a.counts.largest v.number) (front_is a.counts.uncommitted a.live.now v.number)) = c.in_ok-known_row.ensures ∙ (λ i. first_of (known_rows (c.is_live-lives.ensures i) (ltb a.counts.largest v.number) (c.is_front-front.ensures i))) in
    let t : v.kind ≡ 2 = kind_word v.kind Commit (c.in_ok-kind.ensures.kind ∙ ap Ok c.in-Commit.is) in
    c.decision_row.ensures ∙ (λ i. first_of (decision_rows (eqb (sym t i) 2) (ltb a.counts.largest v.number) (c.is_front-front.ensures i) a.runs.now))
    ∙ by_decision σ a.counts.cells a.counts.largest a.counts.uncommitted a.counts.waiting a.live.now a.runs.now a.undo.now v a.cells.now a.room.now c.in_ok-kind.ensures.row k (λ e. omega arith)

pub returns-in-Abort : goal.returns-in-Abort
unfolding event_of
returns-in-Abort c σ = let a = c.args in
    let v = event_of a.event.now in
    let k : 0 ≡ first_of (known_rows (is_in v.number (row_numbers a.live.now 0 (a.counts.uncommitted + a.counts.waiting))) (ltb a.counts.largest v.number) (front_is a.counts.uncommitted a.live.now v.number)) = c.in_ok-known_row.ensures ∙ (λ i. first_of (known_rows (c.is_live-lives.ensures i) (ltb a.counts.largest v.number) (c.is_front-front.ensures i))) in
    let t : v.kind ≡ 3 = kind_word v.kind Abort (c.in_ok-kind.ensures.kind ∙ ap Ok c.in-Abort.is) in
    c.decision_row-in-Abort.ensures ∙ (λ i. first_of (decision_rows (eqb (sym t i) 2) (ltb a.counts.largest v.number) (c.is_front-front.ensures i) a.runs.now))
    ∙ by_decision σ a.counts.cells a.counts.largest a.counts.uncommitted a.counts.waiting a.live.now a.runs.now a.undo.now v a.cells.now a.room.now c.in_ok-kind.ensures.row k (λ e. omega arith)
