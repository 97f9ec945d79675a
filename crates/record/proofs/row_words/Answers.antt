use Rattle.operations.proofs.Turns.{unmapped}
use Rattle.record.proofs.Rows.{row_words_lem}
use borrow.Author.Rules.{rules}
use Rattle.record.proofs.row_words.Goals as goal

pub returns : goal.returns
returns c = row_words_lem c.args.number c.args.attempt c.args.f (search (unmapped, rules))
