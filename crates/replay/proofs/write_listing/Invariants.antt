use Prim.Native.Nat.{◌-◌, ◌≤◌}
use lib.ListN.{length, take}
use Rattle.std.specs.Io.KnownBytes.{Appends}
use Rattle.listing.specs.Printed.{listing_of}
use Rattle.replay.proofs.write_listing.Given as goal

abbrev pub invariant-loop-output : goal.invariant-loop-output
invariant-loop-output g l =
    (l.from ≤ length (listing_of l.word l.bytes)) × Appends (g.W.Write.contents l.initial.output) (g.W.Write.contents l.output) (take l.from (listing_of l.word l.bytes))

abbrev pub decreases-loop-output : goal.decreases-loop-output
decreases-loop-output g l = length (listing_of l.word l.bytes) - l.from
