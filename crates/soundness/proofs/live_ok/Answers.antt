use mathlib.Core.Path.{sym, ◌∙◌}
use Rattle.soundness.proofs.Turns.{live_on, live_off, live_end}
use Rattle.soundness.proofs.live_ok.Goals as goal

pub loop-ahead-preserved : goal.loop-ahead-preserved
loop-ahead-preserved c = let a = c.args in
    let l = c.loop-ahead in
    live_on a.largest a.cells a.live.now a.n l.ahead l.low _ l.invariant c.loop-ahead-test.true _ c.number_at-low.ensures (sym c.row_ok.ensures ∙ c.if-not-row_ok.false)

pub returns-then-not-row_ok : goal.returns-then-not-row_ok
returns-then-not-row_ok c = let a = c.args in
    let l = c.loop-ahead in
    live_off a.largest a.cells a.live.now a.n l.ahead l.low _ l.invariant c.loop-ahead-test.true (sym c.row_ok.ensures ∙ c.if-not-row_ok.true)

pub returns : goal.returns
returns c = let a = c.args in
    let l = c.loop-ahead in
    live_end a.largest a.cells a.live.now a.n l.ahead l.low _ l.invariant c.loop-ahead-test.false
