use native.Mathlib.Omega.{arith}
use Rattle.trace.specs.Text.{fields_from, line_from}
use Rattle.trace.proofs.Lines.{line_is, length_fields}
use Rattle.trace.proofs.put_line.Goals as goal

pub overflow_add-result : goal.overflow_add-result
overflow_add-result c = let a = c.args in omega (arith, c.put_fields-p.ensures.value, length_fields a.row.now a.from a.count, c.requires, c.ranges)

pub returns : goal.returns
unfolding line_from
returns c = let a = c.args in
    let f = c.put_fields-p in let all = line_is a.letter (fields_from a.row.now a.from a.count) a.buffer.now c.put_at.new.s f.new.buffer c.put_at-2.new.s a.at f.result c.put_at.ensures f.ensures.value f.ensures.buffer_after c.put_at-2.ensures in record { value = all.0; buffer_after = all.1 }
