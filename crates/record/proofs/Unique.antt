-- Any two outcomes that the contracts of this crate's public functions allow are equal: what each returns and leaves in what was lent to it.
use mathlib.Core.Path.{◌≡◌, refl}
use Rattle.model.proofs.Unique.{Unique}
use Rattle.record.proofs.fragment_at.Kinds as fragment-at-kinds
use Rattle.record.proofs.fragment_at.Reads as fragment-at
use Rattle.record.proofs.words_from.Kinds as words-from-kinds
use Rattle.record.proofs.words_from.Reads as words-from
use Rattle.record.proofs.row_words.Kinds as row-words-kinds
use Rattle.record.proofs.row_words.Reads as row_words
use Rattle.record.proofs.event_of.Kinds as event-of-kinds
use Rattle.record.proofs.event_of.Reads as event-of
use Rattle.record.proofs.event_words.Kinds as event-words-kinds
use Rattle.record.proofs.event_words.Reads as event-words
use Rattle.record.proofs.lay.Kinds as lay-kinds
use Rattle.record.proofs.lay.Reads as lay
use Rattle.record.proofs.shift.Kinds as shift_kinds
use Rattle.record.proofs.shift.Reads as shift
use Rattle.record.proofs.Counts.accepts.Kinds as accepts-kinds
use Rattle.record.proofs.Counts.accepts.Reads as accepts
use Rattle.record.proofs.Counts.waits.Kinds as waits-kinds
use Rattle.record.proofs.Counts.waits.Reads as waits
use Rattle.record.proofs.Counts.joins.Kinds as joins-kinds
use Rattle.record.proofs.Counts.joins.Reads as joins
use Rattle.record.proofs.Counts.leaves.Kinds as leaves-kinds
use Rattle.record.proofs.Counts.leaves.Reads as leaves
use Rattle.record.proofs.Counts.requeues.Kinds as requeues-kinds
use Rattle.record.proofs.Counts.requeues.Reads as requeues
use Rattle.record.proofs.attempt_at.Kinds as attempt-at-kinds
use Rattle.record.proofs.attempt_at.Reads as attempt-at
use Rattle.record.proofs.is_multi_at.Kinds as is-multi-at-kinds
use Rattle.record.proofs.is_multi_at.Reads as is-multi-at
use Rattle.record.proofs.is_finished.Kinds as is-finished-kinds
use Rattle.record.proofs.is_finished.Reads as is-finished
use Rattle.record.proofs.entries_owned.Kinds as entries-owned-kinds
use Rattle.record.proofs.entries_owned.Reads as entries-owned
use Rattle.record.proofs.start.Kinds as start-kinds
use Rattle.record.proofs.start.Reads as start

pub fragment_at_unique : Unique fragment-at-kinds.ps fragment-at-kinds.r fragment-at.Learnt
fragment_at_unique κs a z z' ws ws' p q = (cc, refl)

pub words_from_unique : Unique words-from-kinds.ps words-from-kinds.r words-from.Learnt
words_from_unique κs a z z' ws ws' p q = (cc, refl)

pub row_words_unique : Unique row-words-kinds.ps row-words-kinds.r row_words.Learnt
row_words_unique κs a z z' ws ws' p q = (cc, refl)

pub event_of_unique : Unique event-of-kinds.ps event-of-kinds.r event-of.Learnt
event_of_unique κs a z z' ws ws' p q = (cc, refl)

pub event_words_unique : Unique event-words-kinds.ps event-words-kinds.r event-words.Learnt
event_words_unique κs a z z' ws ws' p q = (cc, refl)

pub lay_unique : Unique lay-kinds.ps lay-kinds.r lay.Learnt
lay_unique κs a z z' ws ws' p q =
    let b : ws.0 ≡ ws'.0 = cc in
    (refl, λ j. (b j, ws.1))

pub shift_unique : Unique shift_kinds.ps shift_kinds.r shift.Learnt
shift_unique κs a z z' ws ws' p q =
    let b : ws.0 ≡ ws'.0 = cc in
    (refl, λ j. (b j, ws.1))

pub accepts_unique : Unique accepts-kinds.ps accepts-kinds.r accepts.Learnt
accepts_unique κs a z z' ws ws' p q = (cc, refl)

pub waits_unique : Unique waits-kinds.ps waits-kinds.r waits.Learnt
waits_unique κs a z z' ws ws' p q = (cc, refl)

pub joins_unique : Unique joins-kinds.ps joins-kinds.r joins.Learnt
joins_unique κs a z z' ws ws' p q = (cc, refl)

pub leaves_unique : Unique leaves-kinds.ps leaves-kinds.r leaves.Learnt
leaves_unique κs a z z' ws ws' p q = (cc, refl)

pub requeues_unique : Unique requeues-kinds.ps requeues-kinds.r requeues.Learnt
requeues_unique κs a z z' ws ws' p q = (cc, refl)

pub attempt_at_unique : Unique attempt-at-kinds.ps attempt-at-kinds.r attempt-at.Learnt
attempt_at_unique κs a z z' ws ws' p q = (cc, refl)

pub is_multi_at_unique : Unique is-multi-at-kinds.ps is-multi-at-kinds.r is-multi-at.Learnt
is_multi_at_unique κs a z z' ws ws' p q = (cc, refl)

pub start_unique : Unique start-kinds.ps start-kinds.r start.Learnt
start_unique κs a z z' ws ws' p q = (cc, refl)

pub is_finished_unique : Unique is-finished-kinds.ps is-finished-kinds.r is-finished.Learnt
is_finished_unique κs a z z' ws ws' p q = (cc, refl)

pub entries_owned_unique : Unique entries-owned-kinds.ps entries-owned-kinds.r entries-owned.Learnt
entries_owned_unique κs a z z' ws ws' p q = (cc, refl)
