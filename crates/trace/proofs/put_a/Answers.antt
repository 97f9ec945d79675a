use Prim.Native.Nat.{◌*◌}
use native.Mathlib.Omega.{arith}
use Rattle.model.specs.Limits.{answer_words}
use Rattle.trace.specs.Text.{told_from, line_a}
use Rattle.trace.proofs.Lines.{length-told, line_is}
use Rattle.trace.proofs.put_a.Goals as goal

pub overflow_add-result : goal.overflow_add-result
overflow_add-result c = let a = c.args in
    omega (arith, c.ranges, c.put_told-p.ensures.value, length-told a.room.now (answer_words * a.i))

pub returns : goal.returns
unfolding line_a
returns c = let a = c.args in
    let f = c.put_told-p in let all = line_is 97 (told_from a.room.now (answer_words * a.i)) a.buffer.now c.put_at.new.s f.new.buffer c.put_at-2.new.s a.at f.result c.put_at.ensures f.ensures.value f.ensures.buffer_after c.put_at-2.ensures in record { value = all.0; buffer_after = all.1 }
