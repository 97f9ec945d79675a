use Prim.Native.Nat.{◌+◌, ◌*◌}
use mathlib.Core.Path.{◌≡◌, ap, ◌∙◌}
use lib.ListN.{length}
use lib.Seq.{sets}
use Rattle.rows.proofs.Reading.{laid_whole}
use borrow.Author.Rules.{rules}
use Rattle.record.specs.Widths.{live_width}
use Rattle.engine.proofs.join_waiting.Goals as goal

pub returns-clause-live_after : goal.returns-clause-live_after
returns-clause-live_after c = let a = c.args in
    let w = c.row_words.result in
    let e : length w ≡ live_width = search (c.row_words, rules) in
    c.lay.ensures ∙ ap (sets a.live.now (live_width * (a.c.first + a.c.counts.uncommitted + a.c.counts.waiting))) (laid_whole w live_width e ∙ c.row_words.ensures)
