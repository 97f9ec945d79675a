use mathlib.Core.Path.{sym, ◌∙◌}
use borrow.Author.Tests.{eq-eqb}
use Rattle.engine.proofs.Accepting.{fair_of, continue_begun, join_begun}
use Rattle.engine.proofs.arrive.Goals as goal

pub continue_front-requires-clause-fair : goal.continue_front-requires-clause-fair
continue_front-requires-clause-fair c = let a = c.args in
    let p = c.requires.accepts in
    fair_of p.0 a.live.now a.runs.now a.undo.now a.room.now a.cells.now a.c a.event p.1.0 p.1.1.0 p.1.1.1

pub returns-then-is_front-clause-entered : goal.returns-then-is_front-clause-entered
returns-then-is_front-clause-entered c σ e came rd = let a = c.args in
    let s = c.continue_front in
    continue_begun σ a.live.now a.runs.now a.undo.now a.room.now a.cells.now a.c a.event e came rd (eq-eqb a.event.kind 1 c.requires.kind_value) (sym c.is_front.ensures ∙ c.if-is_front.true)
    s.new.runs s.new.undo s.new.room s.new.cells s.result s.ensures.continued s.ensures.kept.2

pub join_waiting-requires : goal.join_waiting-requires
join_waiting-requires c = let a = c.args in
    let p = c.requires.accepts in
    (fair_of p.0 a.live.now a.runs.now a.undo.now a.room.now a.cells.now a.c a.event p.1.0 p.1.1.0 p.1.1.1).live

pub returns-else-is_front-clause-entered : goal.returns-else-is_front-clause-entered
returns-else-is_front-clause-entered c σ e came rd = let a = c.args in
    let s = c.join_waiting in
    join_begun σ a.live.now a.runs.now a.undo.now a.room.now a.cells.now a.c a.event e came rd (eq-eqb a.event.kind 1 c.requires.kind_value) (sym c.is_front.ensures ∙ c.if-is_front.false)
    s.new.live s.result s.ensures.live_after s.ensures.value
