use Prim.Native.Nat.{◌≤◌}
use Rattle.engine.specs.Work.{Kept, Fair}
use Rattle.engine.proofs.Settling.{Midway}
use Rattle.engine.proofs.settle.settle_singles.Given as goal

abbrev pub invariant-loop-c : goal.invariant-loop-c
invariant-loop-c l = record {
  fair : Fair l.c;
  no_more_entries : l.c.entries ≤ l.initial.c.entries;
  midway : Midway l.live l.runs l.initial.room l.initial.c l.room l.c;
  kept : Kept l.initial.c l.c;
}

abbrev pub decreases-loop-c : goal.decreases-loop-c
decreases-loop-c l = l.c.counts.uncommitted
