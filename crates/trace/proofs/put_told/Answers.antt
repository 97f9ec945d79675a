use native.Mathlib.Omega.{arith}
use Rattle.trace.proofs.Lines.{fields_near, told_is}
use Rattle.trace.proofs.put_told.Goals as goal

pub put_fields-q-requires : goal.put_fields-q-requires
put_fields-q-requires c = omega (arith, c.requires, fields_near _ _ _ _ _ c.put_fields-p.ensures.value)

pub put_fields-requires : goal.put_fields-requires
put_fields-requires c =
    omega (arith, c.requires, c.min-count.ensures, fields_near _ _ _ _ _ c.put_fields-p.ensures.value, fields_near _ _ _ _ _ c.put_fields-q.ensures.value)

pub returns : goal.returns
returns c = let a = c.args in
    let p = c.put_fields-p.ensures in
    let q = c.put_fields-q.ensures in
    let r = c.put_fields.ensures in
    let all = told_is a.room.now a.b a.at a.buffer.now (omega (arith, c.number_at.ensures, c.min-count.ensures)) p.value p.buffer_after q.value q.buffer_after r.value r.buffer_after in
    record { value = all.0; buffer_after = all.1 }
