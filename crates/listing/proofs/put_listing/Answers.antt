use native.Mathlib.Omega.{arith}
use mathlib.Core.Path.{◌≡◌, ◌∙◌}
use lib.ListN.{drop}
use lib.Seq.{sets}
use borrow.Author.Rules.{rules}
use Rattle.listing.specs.Printed.{listing_of}
use Rattle.listing.proofs.Texts.{shown_whole}
use Rattle.listing.proofs.put_listing.Goals as goal

pub returns-clause-value : goal.returns-clause-value
returns-clause-value c = omega (arith, c.put_all.ensures.put.place)

pub returns-clause-buffer_after : goal.returns-clause-buffer_after
returns-clause-buffer_after c = let a = c.args in
    let text = listing_of a.word.now a.bytes.now in
    let e : c.put_all.new.self.buffer.now ≡ sets a.buffer.now 0 (drop a.from text) = c.put_all.ensures.put.bytes ∙ shown_whole a.from a.buffer.now text in
    search rules
