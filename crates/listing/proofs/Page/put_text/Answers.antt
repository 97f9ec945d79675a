use Prim.Native.Nat.{◌+◌}
use native.Mathlib.Omega.{arith}
use mathlib.Core.Path.{◌≡◌, refl, ◌∙◌}
use lib.ListN.{get_or}
use Rattle.listing.specs.Printed.{seen}
use Rattle.listing.proofs.Texts.{text_turn, text_start, text_end}
use Rattle.listing.proofs.Page.put_text.Goals as goal

pub returns : goal.returns
returns c = let s = c.args.self.now in
    let l = c.loop-b in
    record {
      same = l.invariant.0;
      from = l.invariant.1;
      put = record { place = omega (arith, l.invariant.2); bytes = text_end s.from l.self.buffer.now c.args.text.now _ s.at l.b-index c.loop-b-test.false l.invariant.3 };
    }

pub loop-b-init : goal.loop-b-init
loop-b-init c = let s = c.args.self.now in
    (refl, refl, omega arith, text_start s.from s.buffer.now c.args.text.now s.at)

pub loop-b-preserved : goal.loop-b-preserved
loop-b-preserved c = let s = c.args.self.now in
    let l = c.loop-b in
    let d = c.put_byte in
    let n = c.args.text.now in
    let e : d.new.self.buffer.now ≡ seen s.from l.self.buffer.now (s.at + l.b-index) (get_or n l.b-index 0) =
    d.ensures.bytes ∙ (λ j. seen (l.invariant.1 j) l.self.buffer.now (l.invariant.2 j) (get_or n l.b-index 0)) in (
      d.ensures.same ∙ l.invariant.0,
      d.ensures.from ∙ l.invariant.1,
      omega (arith, d.ensures.place, l.invariant.2),
      text_turn s.from l.self.buffer.now d.new.self.buffer.now n _ s.at l.b-index _ c.loop-b-test.true refl e l.invariant.3,
    )
