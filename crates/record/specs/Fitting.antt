-- What fits a row's places: a fragment of eight places, a run that holds at most eight numbers and whose words stand for a state and a reply.
use Rattle.std.specs.Prelude.{◌≤◌, ◌≡◌, true, length}
use Rattle.model.specs.Transactions.{Uncommitted, Waiting}
use Rattle.model.specs.Refusals.{is_state, is_reply}
use Rattle.record.specs.Words.{held_outcome}

abbrev pub Eight : Waiting → Type 0
Eight w = length w.fragment.row ≡ 8

abbrev pub Fit : Uncommitted → Type 0
Fit u = length (held_outcome u.reply).numbers ≤ 8

abbrev pub Known : Uncommitted → Type 0
Known u = Fit u × (is_state u.state ≡ true) × (is_reply u.reply ≡ true)
