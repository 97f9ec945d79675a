use Prim.Native.Nat.{ℕ}
use native.Mathlib.Omega.{arith}
use mathlib.Core.Path.{refl, sym, ap, ◌∙◌}
use lib.ListN.{length, get_or}
use lib.Seq.{length-take-le}
use Rattle.trace.specs.Text.{line_c}
use Rattle.trace.proofs.Lines.{length_c}
use Rattle.listing.proofs.Texts.{line_written, put_as, put_moved, put_written, lines_start, lines_turn, lines_end}
use Rattle.listing.proofs.Page.put_cells.Goals as goal

pub loop-i-init : goal.loop-i-init
loop-i-init c = let s = c.args.self.now in
    (refl, refl, omega arith, lines_start s.from (λ (j : ℕ). line_c j (get_or c.args.cells.now j 0)) c.args.count s.buffer.now s.at)

pub slice_bounds-line-end : goal.slice_bounds-line-end
slice_bounds-line-end c = omega (arith, c.put_c-n.auto.buffer, c.put_c-n.ensures.value, length_c c.loop-i.i c.number_at-content.result)

pub slice_bounds-put_text-end : goal.slice_bounds-put_text-end
slice_bounds-put_text-end c = sym (length-take-le c.put_c-n.result c.put_c-n.new.buffer (omega (arith, c.put_c-n.auto.buffer, c.put_c-n.ensures.value, length_c c.loop-i.i c.number_at-content.result)))

pub put_text-requires : goal.put_text-requires
put_text-requires c =
    let l = c.loop-i in
    let d = c.put_c-n in
    omega (arith, ap length (line_written l.line d.new.buffer (line_c c.loop-i.i c.number_at-content.result) d.result d.ensures.value d.ensures.buffer_after (omega (arith, length_c c.loop-i.i c.number_at-content.result))), length_c c.loop-i.i c.number_at-content.result, l.invariant.2, c.requires)

pub loop-i-preserved : goal.loop-i-preserved
loop-i-preserved c = let a = c.args in
    let s = a.self.now in
    let l = c.loop-i in
    let d = c.put_c-n in
    let t = c.put_text in
    let put = put_moved s.from l.self.from l.self.buffer.now t.new.self.buffer.now l.self.at l.self.at t.new.self.at (line_c c.loop-i.i c.number_at-content.result) l.invariant.1 refl
    (put_written l.self.from l.self.buffer.now t.new.self.buffer.now l.line d.new.buffer (line_c c.loop-i.i c.number_at-content.result) l.self.at d.result t.new.self.at d.ensures.value d.ensures.buffer_after (omega (arith, length_c c.loop-i.i c.number_at-content.result)) t.ensures.put) in (
      t.ensures.same ∙ l.invariant.0,
      t.ensures.from ∙ l.invariant.1,
      omega (arith, put.place, length_c c.loop-i.i c.number_at-content.result, l.invariant.2),
      lines_turn s.from (λ (j : ℕ). line_c j (get_or c.args.cells.now j 0)) a.count l.self.buffer.now t.new.self.buffer.now s.buffer.now l.i l.self.at t.new.self.at s.at _ c.loop-i-test.true (put_as s.from l.self.buffer.now t.new.self.buffer.now _ _ l.self.at t.new.self.at (ap (line_c l.i) c.number_at-content.ensures) put) l.invariant.3,
    )

pub returns : goal.returns
returns c = let s = c.args.self.now in
    let l = c.loop-i in
    record {
      same = l.invariant.0;
      from = l.invariant.1;
      put = lines_end s.from (λ (j : ℕ). line_c j (get_or c.args.cells.now j 0)) c.args.count l.self.buffer.now s.buffer.now l.i l.self.at s.at _ c.loop-i-test.false l.invariant.3;
    }
