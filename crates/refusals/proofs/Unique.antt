-- Any two outcomes that the contracts of this crate's public functions allow are equal: what each returns and leaves in what was lent to it.
use mathlib.Core.Path.{refl, sym, ◌∙◌}
use Rattle.model.specs.declared.Scheme.TheVariants.{Speculation}
use Rattle.model.proofs.Unique.{Unique}
use Rattle.refusals.proofs.Numbers.{returned_injective}
use Rattle.refusals.proofs.U32FromRefusal.from.Kinds as number-kinds
use Rattle.refusals.proofs.U32FromRefusal.from.Reads as number
use Rattle.refusals.proofs.RefusalFromUnknownKind.from.Kinds as of-kind-kinds
use Rattle.refusals.proofs.RefusalFromUnknownKind.from.Reads as of-kind
use Rattle.refusals.proofs.is_front.Kinds as is-front-kinds
use Rattle.refusals.proofs.is_front.Reads as is_front
use Rattle.refusals.proofs.refused.Kinds as refused-kinds
use Rattle.refusals.proofs.refused.Reads as refused

pub is_front_unique : Unique is-front-kinds.ps is-front-kinds.r is_front.Learnt
is_front_unique κs a z z' ws ws' p q = (cc, refl)

pub refused_unique : Unique refused-kinds.ps refused-kinds.r refused.Learnt
refused_unique κs a z z' ws ws' p q = (returned_injective z z' (p Speculation ∙ sym (q Speculation)), refl)

-- the number of a refusal, and the refusal of an unknown kind
pub number_unique : Unique number-kinds.ps number-kinds.r number.Learnt
number_unique κs a z z' ws ws' p q = (p ∙ sym q, refl)

pub of_kind_unique : Unique of-kind-kinds.ps of-kind-kinds.r of-kind.Learnt
of_kind_unique κs a z z' ws ws' p q = (p ∙ sym q, refl)
