use native.Mathlib.Omega.{arith}
use Prim.Native.Nat.{◌+◌, ◌*◌, ◌-◌}
use mathlib.Core.Path.{ap, ◌∙◌}
use Rattle.std.specs.Prelude.{Option}
use Rattle.record.specs.Widths.{live_width}
use Rattle.rows.specs.declared.Trial.{Trial}
use Rattle.rows.specs.Rows.{nearest_rows}
use Rattle.rows.proofs.Reading.{near_on, near_end}
use Rattle.rows.proofs.nearest_multi.Goals as goal

pub loop-i-preserved : goal.loop-i-preserved
loop-i-preserved c = let a = c.args in
    let l = c.loop-i in
    ap (λ (x : Option Trial). nearest_rows x a.live.now (a.b + live_width * (l.i + 1)) (a.n - (l.i + 1))) c.nearer-near.ensures
    ∙ near_on a.live.now a.b a.n l.i l.near _ l.invariant c.loop-i-test.true

pub returns : goal.returns
returns c = let a = c.args in
    let l = c.loop-i in
    near_end a.live.now a.b a.n l.i l.near _ l.invariant (omega arith)
