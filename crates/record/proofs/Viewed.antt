-- Any record's view: eight places a row, and as many transactions as it counts.
use Prim.Native.Nat.{◌*◌}
use mathlib.Core.Path.{◌≡◌, refl}
use lib.ListN.{length}
use Rattle.model.specs.Transactions.{Uncommitted}
use Rattle.record.specs.declared.Record.{Record}
use Rattle.record.specs.View.{view_of, view}
use Rattle.record.proofs.Queues.{length_waiting, eight_waiting, length_uncommitted, eight_uncommitted}
use Rattle.model.specs.Parts.{All}
use Rattle.record.specs.Fitting.{Eight}
use Rattle.record.specs.Widths.{live_width}

abbrev pub First : Uncommitted → Type 0
First u = length u.first.row ≡ 8

module _ (r : Record) where
  pub view_count : length (view r).uncommitted ≡ r.counts.uncommitted
  unfolding view_of
  view_count = length_uncommitted r.live r.runs r.undo 0 0 0 r.counts.uncommitted

  pub view_largest : (view r).largest ≡ r.counts.largest
  unfolding view_of
  view_largest = refl

  pub view_first : All First (view r).uncommitted
  unfolding view_of
  view_first = eight_uncommitted r.live r.runs r.undo 0 0 0 r.counts.uncommitted

  pub view_waiting : All Eight (view r).waiting
  unfolding view_of
  view_waiting = eight_waiting r.live (live_width * r.counts.uncommitted) r.counts.waiting

  pub view_waits : length (view r).waiting ≡ r.counts.waiting
  unfolding view_of
  view_waits = length_waiting r.live (live_width * r.counts.uncommitted) r.counts.waiting
