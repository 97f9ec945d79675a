use mathlib.Core.Path.{◌≡◌, refl, ◌∙◌}
use mathlib.Core.Bool.{Bool, true, false}
use lib.ListN.{length}
use mir.Val.{bool_byte}
use Rattle.model.specs.Operations.{pick}
use Rattle.rows.specs.Rows.{run_row}
use Rattle.record.proofs.Rows.{eight}
use borrow.Author.Rules.{rules}
use Rattle.rows.proofs.Run.words.Goals as goal

pub returns : goal.returns
returns c = let r = c.args.self in
    let t = c.unwrap_or-t.result in
    let e : length t.numbers ≡ 8 = search (c.unwrap_or-t, rules) in
    (λ j. run_row r.ran r.state (word c.is_some-reply.result j) r.entries t.place t.count (eight 0 t.numbers e j))
    ∙ (λ j. run_row r.ran r.state (pick (c.is_some-reply.ensures j) 1 0) r.entries (c.unwrap_or-t.ensures j).place (c.unwrap_or-t.ensures j).count (c.unwrap_or-t.ensures j).numbers)
  where
    word : (b : Bool) → bool_byte b ≡ pick b 1 0
    word true = refl
    word false = refl
