use borrow.Author.Rules.{rules}
use mathlib.Core.Path.{◌≡◌, ap, ◌∙◌}
use mathlib.Core.List.{List, []}
use lib.ListN.{length}
use Rattle.model.specs.declared.Op.{Op}
use Rattle.model.specs.Steps.{run_from}
use Rattle.model.specs.Steps as Steps
use Rattle.operations.specs.Laid.{laid}
use Rattle.operations.proofs.Turns.{unmapped, operations_of}
use Rattle.operations.proofs.run_fragment.Goals as goal

pub returns : goal.returns
returns c = let a = c.args in
    let eight : length a.f.row ≡ 8 = search (unmapped, rules) in
    let w = ap (λ (os : List Op). run_from 1 os a.cells.now [] []) (rw c.min-n.ensures (operations_of a.f eight)) in
    record { value = c.run.ensures.value ∙ ap laid w; cells_after = c.run.ensures.cells_after ∙ ap (λ (r : Steps.Ran). r.cells) w }
