use native.Mathlib.Omega.{arith}
use mathlib.Core.Path.{refl, sym, ap, ◌∙◌}
use lib.ListN.{length, replicate}
use lib.Seq.{length-take-le}
use Rattle.trace.specs.Text.{line_e}
use Rattle.trace.proofs.Lines.{length_e}
use Rattle.listing.proofs.Events.{event_put}
use Rattle.listing.proofs.Texts.{line_written, put_moved, put_written}
use Rattle.listing.proofs.Page.put_event.Goals as goal

pub slice_bounds-line-end : goal.slice_bounds-line-end
slice_bounds-line-end c = omega (arith, c.put_e-n.auto.buffer, c.put_e-n.ensures.value, length_e c.args.position c.args.number)

pub slice_bounds-put_text-end : goal.slice_bounds-put_text-end
slice_bounds-put_text-end c = sym (length-take-le c.put_e-n.result c.put_e-n.new.buffer (omega (arith, c.put_e-n.auto.buffer, c.put_e-n.ensures.value, length_e c.args.position c.args.number)))

pub put_text-requires : goal.put_text-requires
put_text-requires c = let a = c.args in
    let d = c.put_e-n in
    omega (arith, ap length (line_written (replicate 160 0) d.new.buffer (line_e a.position a.number) d.result d.ensures.value d.ensures.buffer_after (omega (arith, length_e a.position a.number))), length_e a.position a.number, c.requires)

pub put_answers-requires : goal.put_answers-requires
put_answers-requires c = let a = c.args in
    let d = c.put_e-n in
    omega (arith, c.put_text.ensures.put.place, ap length (line_written (replicate 160 0) d.new.buffer (line_e a.position a.number) d.result d.ensures.value d.ensures.buffer_after (omega (arith, length_e a.position a.number))), length_e a.position a.number, c.requires)

pub returns : goal.returns
returns c = let a = c.args in
    let s = a.self.now in
    let d = c.put_e-n in
    let t = c.put_text in
    let r = c.put_answers in
    let put = put_written s.from s.buffer.now t.new.self.buffer.now (replicate 160 0) d.new.buffer (line_e a.position a.number) s.at d.result t.new.self.at d.ensures.value d.ensures.buffer_after (omega (arith, length_e a.position a.number)) t.ensures.put in
    record {
      same = r.ensures.same ∙ t.ensures.same;
      from = r.ensures.from ∙ t.ensures.from;
      put = event_put s.from a.position a.number a.answers a.room.now s.buffer.now t.new.self.buffer.now r.new.self.buffer.now s.at t.new.self.at _ put (put_moved s.from t.new.self.from _ _ _ _ _ _ t.ensures.from refl r.ensures.put);
    }
