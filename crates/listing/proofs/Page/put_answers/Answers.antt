use native.Mathlib.Omega.{arith}
use mathlib.Core.Path.{refl, sym, ◌∙◌}
use lib.Seq.{length-take-le}
use Rattle.trace.specs.Text.{line_a}
use Rattle.trace.proofs.Lines.{length_a, fits_a}
use Rattle.listing.proofs.Texts.{put_moved, put_written, lines_start, lines_turn, lines_end}
use Rattle.listing.proofs.Page.put_answers.Goals as goal

pub loop-i-init : goal.loop-i-init
loop-i-init c = let s = c.args.self.now in
    (refl, refl, omega arith, lines_start s.from (line_a c.args.room.now) c.args.count s.buffer.now s.at)

pub slice_bounds-line-end : goal.slice_bounds-line-end
slice_bounds-line-end c = omega (arith, c.put_a-n.auto.buffer, fits_a _ _ _ c.put_a-n.ensures.value)

pub slice_bounds-put_text-end : goal.slice_bounds-put_text-end
slice_bounds-put_text-end c = sym (length-take-le c.put_a-n.result c.put_a-n.new.buffer (omega (arith, c.put_a-n.auto.buffer, fits_a _ _ _ c.put_a-n.ensures.value)))

pub put_text-requires : goal.put_text-requires
put_text-requires c =
    let l = c.loop-i in
    let d = c.put_a-n in
    let few = fits_a _ _ _ d.ensures.value in
    omega (arith, length-take-le d.result d.new.buffer (omega (arith, d.auto.buffer, few)), few, l.invariant.2, c.requires)

pub loop-i-preserved : goal.loop-i-preserved
loop-i-preserved c = let a = c.args in
    let s = a.self.now in
    let l = c.loop-i in
    let d = c.put_a-n in
    let t = c.put_text in
    let put = put_moved s.from l.self.from l.self.buffer.now t.new.self.buffer.now l.self.at l.self.at t.new.self.at (line_a c.args.room.now c.loop-i.i) l.invariant.1 refl
    (put_written l.self.from l.self.buffer.now t.new.self.buffer.now l.line d.new.buffer (line_a c.args.room.now c.loop-i.i) l.self.at d.result t.new.self.at d.ensures.value d.ensures.buffer_after (omega (arith, length_a c.args.room.now c.loop-i.i)) t.ensures.put) in (
      t.ensures.same ∙ l.invariant.0,
      t.ensures.from ∙ l.invariant.1,
      omega (arith, put.place, length_a c.args.room.now c.loop-i.i, l.invariant.2),
      lines_turn s.from (line_a c.args.room.now) a.count l.self.buffer.now t.new.self.buffer.now s.buffer.now l.i l.self.at t.new.self.at s.at _ c.loop-i-test.true put l.invariant.3,
    )

pub returns : goal.returns
returns c = let s = c.args.self.now in
    let l = c.loop-i in
    record {
      same = l.invariant.0;
      from = l.invariant.1;
      put = lines_end s.from (line_a c.args.room.now) c.args.count l.self.buffer.now s.buffer.now l.i l.self.at s.at _ c.loop-i-test.false l.invariant.3;
    }
