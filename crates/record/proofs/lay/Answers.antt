use Prim.Native.Nat.{◌+◌, ◌-◌}
use native.Mathlib.Omega.{arith}
use mathlib.Core.Path.{ap, ◌∙◌}
use mathlib.Core.List.{List}
use Prim.Native.Nat.{ℕ}
use borrow.Rule.Slice.PartMut.{put_mid}
use Rattle.record.proofs.Rows.{lay_whole, lay_turn, lay_end}
use Rattle.record.proofs.lay.Goals as goal

pub returns-then-start-count : goal.returns-then-start-count
returns-then-start-count c = let a = c.args in
    ap (λ (w : List ℕ). put_mid a.at (a.at + a.n - a.at) a.row.now w) c.copy_from_slice.ensures.after ∙ lay_whole a.row.now a.words.now a.at a.n (omega arith) (omega arith)

pub loop-i-preserved : goal.loop-i-preserved
loop-i-preserved c = let l = c.loop-i in lay_turn l.row c.args.words.now _ c.args.at c.args.n l.i l.invariant _ _ c.loop-i-test.true c.number_at.ensures c.put_at.ensures

pub returns : goal.returns
returns c = let l = c.loop-i in lay_end l.row c.args.words.now _ c.args.at c.args.n l.i l.invariant (omega arith)
