use Prim.Native.Nat.{◌+◌, ◌-◌, ◌*◌, ◌≤◌}
use mathlib.Core.Path.{◌≡◌}
use Rattle.listing.specs.Played.{playing, played}
use Rattle.listing.specs.Printed.{events_lines, together, most_of_event}
use Rattle.listing.proofs.Texts.{Left}
use Rattle.listing.proofs.Events.{rest}
use Rattle.listing.proofs.Page.put_events.Given as goal

abbrev pub invariant-loop-i : goal.invariant-loop-i
invariant-loop-i l = (l.self.buffer.ghost_name ≡ l.initial.self.buffer.ghost_name) × (l.self.from ≡ l.initial.self.from) × (l.self.at ≤ most_of_event * l.i)
    × (played l.scheme l.bytes (l.shape.first + 29 * l.i) (l.shape.events - l.i) (playing l.record l.cells l.room) ≡ played l.scheme l.bytes l.shape.first l.shape.events (playing l.initial.record l.initial.cells l.initial.room))
    × Left l.initial.self.from l.self.buffer.now l.initial.self.buffer.now l.self.at 0 (rest l.scheme l.bytes l.shape.first l.shape.events l.i (playing l.record l.cells l.room)) (together (events_lines l.scheme l.bytes 1 l.shape.first l.shape.events (playing l.initial.record l.initial.cells l.initial.room)))
