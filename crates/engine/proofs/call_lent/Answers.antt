use mathlib.Core.Path.{sym, ◌∙◌}
use borrow.Author.Rules.{rules}
use Rattle.std.specs.Prelude.{Ok}
use Rattle.std.proofs.lemmas.Result.{err_from_is_err_and}
use Rattle.record.specs.Events.{event_of}
use Rattle.refusals.specs.Numbers.{number_of}
use Rattle.refusals.proofs.Numbers.{number_not_0}
use Rattle.engine.specs.Called.{told_by}
use Rattle.engine.proofs.Calling.{refused_call}
use Rattle.engine.proofs.Alone.{idle_words}
use Rattle.engine.proofs.call_lent.Goals as goal

pub returns-in_err-refused : goal.returns-in_err-refused
returns-in_err-refused c = let a = c.args in
    let k = c.in_err-refused.field-0.0 in
    let p = err_from_is_err_and c.from_residual.result c.from_residual.ensures.1 in
    rw (p.1, p.2) (refused_call a.scheme a.r.now (event_of a.event.now) a.cells.now a.room.now (number_of k) (c.in_err-refused.ensures a.scheme) (number_not_0 k))

pub returns-then-is_alone : goal.returns-then-is_alone
returns-then-is_alone c = let a = c.args in
    let s = c.settle_alone in
    idle_words a.scheme a.r.now a.event.now a.cells.now a.room.now s.new.cells s.new.room (told_by (Ok s.result) s.new.r) (sym (c.in_ok-refused.ensures a.scheme)) (sym c.is_alone.ensures ∙ c.if-is_alone.true) (search rules) s.ensures.value s.ensures.cells_after s.ensures.room_after
