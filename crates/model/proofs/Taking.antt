-- What the proofs use of the drain's condition, whatever the scheme: it holds of the empty queue, by its first line, and where it holds of
-- another, fewer than 16 are uncommitted and the last of them is finished. A third scheme that has both needs no other proof.
use mathlib.Core.Path.{◌≡◌, sym}
use mathlib.Core.Bool.{true, true≢false}
use mathlib.Core.List.{List, ◌∷◌}
use lib.Dec.{ltb}
use lib.ListN.{length}
use Rattle.model.specs.Limits.{depth}
use Rattle.model.specs.Transactions.{Uncommitted}
use Rattle.model.specs.Steps.{last_finished, may_take}
use Rattle.model.specs.declared.Scheme.{Scheme}
use Rattle.model.specs.declared.Scheme.TheVariants.{Speculation, Blocking}
use Rattle.model.proofs.Tests.{and_left, and_right}

pub may_less : (σ : Scheme) (u : Uncommitted) (us : List Uncommitted) → may_take σ (u ∷ us) ≡ true → ltb (length (u ∷ us)) depth ≡ true
may_less Speculation u us m = and_left (ltb (length (u ∷ us)) depth) (last_finished (u ∷ us)) m
may_less Blocking u us m = absurd (true≢false (sym m))

pub may_finished : (σ : Scheme) (u : Uncommitted) (us : List Uncommitted) → may_take σ (u ∷ us) ≡ true → last_finished (u ∷ us) ≡ true
may_finished Speculation u us m = and_right (ltb (length (u ∷ us)) depth) (last_finished (u ∷ us)) m
may_finished Blocking u us m = absurd (true≢false (sym m))
