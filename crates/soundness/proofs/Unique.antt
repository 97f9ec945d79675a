-- Any two outcomes that the contracts of this crate's public functions allow are equal: what each returns and leaves in what was lent to it.
use mathlib.Core.Path.{refl}
use Rattle.model.proofs.Unique.{Unique}
use Rattle.soundness.proofs.is_storable.Kinds as is-storable-kinds
use Rattle.soundness.proofs.is_storable.Reads as is-storable
use Rattle.soundness.proofs.is_formed_at.Kinds as is-formed-at-kinds
use Rattle.soundness.proofs.is_formed_at.Reads as is-formed-at
use Rattle.soundness.proofs.is_blank_at.Kinds as is-blank-at-kinds
use Rattle.soundness.proofs.is_blank_at.Reads as is-blank-at
use Rattle.soundness.proofs.is_sound.Kinds as is-sound-kinds
use Rattle.soundness.proofs.is_sound.Reads as is-sound

pub is_storable_unique : Unique is-storable-kinds.ps is-storable-kinds.r is-storable.Learnt
is_storable_unique κs a z z' ws ws' p q = (cc, refl)

pub is_formed_at_unique : Unique is-formed-at-kinds.ps is-formed-at-kinds.r is-formed-at.Learnt
is_formed_at_unique κs a z z' ws ws' p q = (cc, refl)

pub is_blank_at_unique : Unique is-blank-at-kinds.ps is-blank-at-kinds.r is-blank-at.Learnt
is_blank_at_unique κs a z z' ws ws' p q = (cc, refl)

pub is_sound_unique : Unique is-sound-kinds.ps is-sound-kinds.r is-sound.Learnt
is_sound_unique κs a z z' ws ws' p q = (cc, refl)
