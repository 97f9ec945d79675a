use Rattle.trace.proofs.Lines.{text_turn, text_start, text_end}
use mathlib.Core.Path.{refl}
use Rattle.trace.proofs.put_text.Goals as goal

pub loop-i-init : goal.loop-i-init
loop-i-init c = let a = c.args in text_start a.buffer.now a.text.now a.at

pub loop-i-preserved : goal.loop-i-preserved
loop-i-preserved c = let l = c.loop-i in
    let a = c.args in
    text_turn l.buffer c.put_at.new.s a.text.now _ a.at l.i _ c.loop-i-test.true refl c.put_at.ensures l.invariant

pub returns : goal.returns
returns c = let l = c.loop-i in
    let a = c.args in
    record { value = refl; buffer_after = text_end l.buffer a.text.now _ a.at l.i c.loop-i-test.false l.invariant }
