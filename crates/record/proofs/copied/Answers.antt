use Prim.Native.Nat.{ℕ, ◌-◌}
use native.Mathlib.Omega.{arith}
use mathlib.Core.Path.{◌≡◌, ap, ◌∙◌}
use mathlib.Core.List.{List, ◌++◌}
use lib.ListN.{length, take, drop, length-take, length-drop}
use Rattle.std.proofs.lemmas.List.{take-take}
use Rattle.record.specs.View.{zeros}
use Rattle.record.proofs.Rows.{copied_out}
use Rattle.record.proofs.copied.Goals as goal

pub returns : goal.returns
returns g c = let row = c.args.row.now in
    let n = c.min-n.result in
    let s = c.min.result in
    let w : c.copy_from_slice.new.self ≡ take n (drop s row) = c.copy_from_slice.ensures.after ∙ take-take n (length row - s) (drop s row) (omega (arith, c.min-n.ensures, length-drop s row, length-take (length row - s) (drop s row))) in
    ap (λ (x : List ℕ). x ++ drop n (zeros g.row.N)) w ∙ copied_out row c.args.at g.row.N s n c.min.ensures (omega (arith, c.min-n.ensures, length-drop s row, length-take (length row - s) (drop s row)))
