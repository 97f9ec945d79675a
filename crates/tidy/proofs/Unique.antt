-- Any two outcomes that the contract of `tidy` allows are equal: what it returns and leaves in the runs lent to it.
use mathlib.Core.Path.{◌≡◌}
use Rattle.model.proofs.Unique.{Unique}
use Rattle.tidy.proofs.tidy.Kinds as tidy-kinds
use Rattle.tidy.proofs.tidy.Reads as tidy

pub tidy_unique : Unique tidy-kinds.ps tidy-kinds.r tidy.Learnt
tidy_unique κs a z z' ws ws' p q =
    let b : ws.0 ≡ ws'.0 = cc in
    (cc, λ j. (b j, ws.1))
