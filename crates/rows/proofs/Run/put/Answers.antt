use mathlib.Core.Path.{◌≡◌}
use lib.ListN.{length}
use Rattle.record.specs.Widths.{run_width}
use Rattle.rows.proofs.Reading.{laid_row}
use borrow.Author.Rules.{rules}
use Rattle.rows.proofs.Run.put.Goals as goal

pub returns : goal.returns
returns c = let a = c.args in
    let w = c.words in
    let e : length w.result ≡ run_width = search (w, rules) in
    laid_row a.runs.now _ w.result _ a.at run_width c.lay.ensures e w.ensures
