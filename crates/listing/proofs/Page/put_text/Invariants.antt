use Prim.Native.Nat.{◌+◌}
use mathlib.Core.Path.{◌≡◌}
use lib.ListN.{drop}
use Rattle.listing.specs.Printed.{shown}
use Rattle.listing.proofs.Page.put_text.Given as goal

abbrev pub invariant-loop-b : goal.invariant-loop-b
invariant-loop-b l = (l.self.buffer.ghost_name ≡ l.initial.self.buffer.ghost_name) × (l.self.from ≡ l.initial.self.from) × (l.self.at ≡ l.initial.self.at + l.b-index)
    × (shown l.initial.self.from l.self.buffer.now (l.initial.self.at + l.b-index) (drop l.b-index l.text) ≡ shown l.initial.self.from l.initial.self.buffer.now l.initial.self.at l.text)
