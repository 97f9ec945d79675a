use Rattle.std.proofs.Common.{ℕ, ◌≡◌, ◌+◌, ◌-◌, List, get_or, take, drop, refl, ◌∙◌, arith, length-take, get_or-take, get_or-drop}
use Rattle.record.specs.View.{numbers_from}
use Rattle.soundness.proofs.Stored.{zeros_turn, zero_or}
use Rattle.soundness.proofs.all_zero.Goals as goal

pub loop-w-init : goal.loop-w-init
unfolding numbers_from
loop-w-init c = refl

pub loop-w-preserved : goal.loop-w-preserved
loop-w-preserved c = let l = c.loop-w in
    let a = c.args in
    let row : List ℕ = a.row.now in
    let n : ℕ = a.to - a.from in
    let here : List ℕ = drop a.from row in
    let w : get_or (take n here) l.w-index 0 ≡ get_or row (a.from + l.w-index) 0 =
    get_or-take n here l.w-index 0 (omega (arith, c.loop-w-test.true, length-take n here)) ∙ get_or-drop a.from row l.w-index 0 in
    zeros_turn row a.from l.w-index l.all _ _ w l.invariant (zero_or l.all (get_or (take n here) l.w-index 0))
