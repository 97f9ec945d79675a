use native.Mathlib.Omega.{arith}
use mathlib.Core.Path.{sym, ◌∙◌}
use lib.Pointwise.{bytes_decides}
use Rattle.std.proofs.lemmas.Grind.{common_steps}
use Rattle.listing.specs.Chosen.{scheme_of}
use Rattle.listing.proofs.Chosen.{blocking_chosen}
use Rattle.listing.proofs.scheme_of.Goals as goal

pub returns-then-eq : goal.returns-then-eq
unfolding scheme_of
returns-then-eq c = grind (arith, common_steps)

pub returns-then-eq-2 : goal.returns-then-eq-2
returns-then-eq-2 c =
    let w = c.args.word.now in
    let b = c.as_slice-else-eq in
    blocking_chosen w ((bytes_decides w b.result.now).0 (sym c.eq-else-eq.ensures ∙ c.if-eq-2.true) ∙ b.ensures)

pub returns-else-eq-2 : goal.returns-else-eq-2
unfolding scheme_of
returns-else-eq-2 c = grind (arith, common_steps)
