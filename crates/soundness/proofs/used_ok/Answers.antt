use mathlib.Core.Path.{sym, ◌∙◌}
use Rattle.soundness.proofs.Stored.{used_on, used_off, used_end}
use Rattle.soundness.proofs.used_ok.Goals as goal

pub returns-then-not-op_ok : goal.returns-then-not-op_ok
returns-then-not-op_ok c = let l = c.loop-i in
    let a = c.args in
    used_off a.cells a.row.now a.b a.n l.i _ l.invariant c.loop-i-test.true (sym c.op_ok.ensures ∙ c.if-not-op_ok.true)

pub loop-i-preserved : goal.loop-i-preserved
loop-i-preserved c = let l = c.loop-i in
    let a = c.args in
    used_on a.cells a.row.now a.b a.n l.i _ l.invariant c.loop-i-test.true (sym c.op_ok.ensures ∙ c.if-not-op_ok.false)

pub returns : goal.returns
returns c = let l = c.loop-i in
    let a = c.args in
    used_end a.cells a.row.now a.b a.n l.i _ l.invariant c.loop-i-test.false
