use Prim.Native.Nat.{ℕ, ◌-◌}
use native.Mathlib.Omega.{arith}
use mathlib.Core.List.{List}
use lib.ListN.{drop, length-drop}
use Rattle.std.proofs.lemmas.Result.{on_ok_weaker}
use Rattle.listing.specs.Printed.{listing_of}
use Rattle.replay.proofs.Written.{shown_full, shown_last, written_start, written_turn, written_end}
use Rattle.replay.proofs.write_listing.Goals as goal

pub loop-output-init : goal.loop-output-init
loop-output-init g c = (omega arith, written_start _ (listing_of c.args.word.now c.args.bytes.now))

pub returns-then-left-le-BYTES : goal.returns-then-left-le-BYTES
returns-then-left-le-BYTES g c =
    let l = c.loop-output in
    let d = c.put_listing in
    let text : List ℕ = listing_of c.args.word.now c.args.bytes.now in
    let n : ℕ = d.result - l.from in
    let part = shown_last l.text d.new.buffer (drop l.from text) n (omega (arith, d.ensures.value, length-drop l.from text)) (omega arith) d.ensures.buffer_after in
    on_ok_weaker c.write_all.result (λ h. written_end _ _ _ text _ l.from part l.invariant.1 h) c.write_all.ensures.bytes

pub loop-output-preserved : goal.loop-output-preserved
loop-output-preserved g c =
    let l = c.loop-output in
    let d = c.put_listing in
    let text : List ℕ = listing_of c.args.word.now c.args.bytes.now in
    let part = shown_full l.text d.new.buffer (drop l.from text) 65536 (omega arith) (omega (arith, d.ensures.value, length-drop l.from text)) d.ensures.buffer_after in
    (omega (arith, d.ensures.value), written_turn _ _ _ text _ l.from 65536 part l.invariant.1 c.in_ok-write_all.ensures.bytes)
