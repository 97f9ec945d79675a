use mathlib.Core.Path.{◌∙◌, ap}
use Rattle.model.specs.Steps.{undone}
use Rattle.operations.specs.Laid.{entries_of}
use Rattle.operations.proofs.Turns.{later_fine, later_fails}
use Rattle.operations.proofs.continue_fragment.Goals as goal

pub returns-then-r-eq0 : goal.returns-then-r-eq0
returns-then-r-eq0 c = let a = c.args in
    let r = c.run_fragment-r in
    record { value = r.ensures.value; cells_after = later_fine a.f a.cells.now (entries_of a.earlier.now 0 a.count) r.result r.ensures.value c.if-r-eq0.true _ r.ensures.cells_after }

pub returns : goal.returns
returns c = let a = c.args in
    let r = c.run_fragment-r in
    let us = entries_of a.earlier.now 0 a.count in
    record { value = r.ensures.value; cells_after = later_fails a.f a.cells.now us r.result r.ensures.value c.if-r-eq0.false _ (c.undo.ensures ∙ ap (undone us) r.ensures.cells_after) }
