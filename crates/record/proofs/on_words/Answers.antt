use Prim.Native.Nat.{◌+◌, ◌-◌}
use native.Mathlib.Omega.{arith}
use mathlib.Core.Path.{◌∙◌}
use lib.ListN.{length, drop}
use Rattle.std.proofs.lemmas.List.{take-take}
use Rattle.record.specs.Widths.{ops_end}
use Rattle.record.proofs.Rows.{numbers_in}
use Rattle.record.proofs.on_words.Goals as goal

pub returns-in-Some : goal.returns-in-Some
returns-in-Some g c = let row = c.args.row.now in
    let b = c.args.b in
    (_, c.f.ensures, c.in-Some.ensures.cases.same ∙ take-take ops_end (b + ops_end - b) (drop b row) (omega arith) ∙ numbers_in row b ops_end b (length row) (omega arith) (omega arith) (omega arith))
