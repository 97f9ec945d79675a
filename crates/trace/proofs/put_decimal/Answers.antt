use Prim.Native.Nat.{ℕ, ◌+◌}
use native.Mathlib.Omega.{arith}
use mathlib.Core.Path.{ap}
use Rattle.trace.proofs.Digits.{length-decimal}
use Rattle.trace.proofs.Lines.{digits_turn, digits_start, digits_end}
use Rattle.trace.proofs.put_decimal.Goals as goal

pub loop-i-init : goal.loop-i-init
loop-i-init c = let a = c.args in digits_start a.buffer.now a.at c.places-k.result a.n c.places-k.ensures

pub overflow_add-at : goal.overflow_add-at
overflow_add-at c = omega (arith, c.requires, c.places-k.ensures, length-decimal c.args.n)

pub loop-i-preserved : goal.loop-i-preserved
loop-i-preserved c = let l = c.loop-i in
    digits_turn l.buffer c.put_at.new.s _ c.args.at l.i l.m c.loop-i-test.true c.put_at.ensures l.invariant

pub overflow_add-result : goal.overflow_add-result
overflow_add-result c = omega (arith, c.places-k.ensures, length-decimal c.args.n)

pub returns : goal.returns
returns c = let l = c.loop-i in
    let a = c.args in
    record { value = ap (λ (x : ℕ). a.at + x) c.places-k.ensures; buffer_after = digits_end l.buffer _ a.at l.i l.m (omega arith) l.invariant }
