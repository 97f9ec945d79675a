use mathlib.Core.Path.{◌≡◌}
use lib.ListN.{length}
use Rattle.rows.specs.Rows.{answer_row}
use Rattle.record.proofs.Rows.{eight}
use borrow.Author.Rules.{rules}
use Rattle.rows.proofs.answer_row.Goals as goal

pub returns : goal.returns
returns c = let t = c.args.t in
    let e : length t.numbers ≡ 8 = search rules in
    (λ j. answer_row c.args.own (c.unwrap_or-near.ensures j) t.place t.count (eight 0 t.numbers e j))
