use mathlib.Core.Path.{◌≡◌}
use lib.ListN.{length}
use Rattle.rows.proofs.Reading.{laid_row}
use borrow.Author.Rules.{rules}
use Rattle.model.specs.Limits.{answer_words}
use Rattle.rows.proofs.put_answer.Goals as goal

pub returns : goal.returns
returns c = let a = c.args in
    let w = c.answer_row-w in
    let e : length w.result ≡ answer_words = search (w, rules) in
    laid_row a.room.now _ w.result _ a.at answer_words c.lay.ensures e w.ensures
