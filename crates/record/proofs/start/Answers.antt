use mathlib.Core.Path.{◌≡◌, ap}
use mathlib.Core.Bool.{Bool, true, false, ◌||◌}
use borrow.Author.Tests.{eq-eqb}
use lib.Dec.{eqb, ltb}
use Rattle.model.specs.Limits.{most_cells}
use Rattle.record.proofs.Starting.{started_by, none_or_many}
use Rattle.record.proofs.start.Goals as goal
use Rattle.record.proofs.start.Goals.{then-count-eq0-via-then-count-eq0, then-count-eq0-via-else-count-eq0+then-count-gt-MOST_CELLS}

pub returns-then-count-eq0 : goal.returns-then-count-eq0
returns-then-count-eq0 c = let n = c.args.count in
    started_by true n c.empty.result
    (elim c.then-count-eq0.branch as (λ _. (eqb n 0 || ltb most_cells n) ≡ true) [
      | then-count-eq0-via-then-count-eq0 w ↦ ap (λ (b : Bool). b || ltb most_cells n) (eq-eqb n 0 w.if-count-eq0.true)
      | then-count-eq0-via-else-count-eq0+then-count-gt-MOST_CELLS w ↦ none_or_many n true w.if-count-eq0.false w.if-count-gt-MOST_CELLS.true-raw
    ]) c.empty.ensures

pub returns : goal.returns
returns c = let n = c.args.count in
    started_by false n c.empty-2.result (none_or_many n false c.if-count-eq0.false c.if-count-gt-MOST_CELLS.false-raw) c.empty-2.ensures
