use native.Mathlib.Omega.{arith}
use Rattle.trace.proofs.Digits.{length-decimal}
use Rattle.trace.proofs.Lines.{fields_start, fields_first, fields_place, fields_turn, fields_end, fields_last}
use Rattle.trace.proofs.put_fields.Goals as goal

pub loop-j-init : goal.loop-j-init
loop-j-init c = let a = c.args in
    (omega arith, fields_first a.row.now a.from a.count a.at, fields_start a.row.now a.buffer.now a.from a.count a.at)

pub overflow_add-p : goal.overflow_add-p
overflow_add-p c = omega (arith, c.requires, c.loop-j.invariant.0)

pub put_decimal-p-requires : goal.put_decimal-p-requires
put_decimal-p-requires c = omega (arith, c.requires, c.loop-j.invariant.0)

pub loop-j-preserved : goal.loop-j-preserved
loop-j-preserved c = let l = c.loop-j in
    let a = c.args in
    let v = c.number_at in
    let w = c.put_at in
    let d = c.put_decimal-p in
    let h = c.loop-j-test.true in (
      omega (arith, d.ensures.value, length-decimal v.result, l.invariant.0),
      fields_place a.row.now a.from a.count l.j l.p v.result h v.ensures d.result _ d.ensures.value l.invariant.1,
      fields_turn a.row.now a.from a.count l.j l.p v.result h v.ensures l.buffer w.new.s d.new.buffer _ d.result w.ensures d.ensures.buffer_after d.ensures.value l.invariant.2,
    )

pub returns : goal.returns
returns c = let l = c.loop-j in
    let a = c.args in
    record { value = fields_last a.row.now a.from a.count l.j l.p _ c.loop-j-test.false l.invariant.1; buffer_after = fields_end a.row.now l.buffer _ a.from a.count l.j l.p c.loop-j-test.false l.invariant.2 }
