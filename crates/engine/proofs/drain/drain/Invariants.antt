use Rattle.engine.specs.Work.{Kept, Small}
use Rattle.engine.proofs.Draining.{Midst}
use Rattle.engine.proofs.drain.drain.Given as goal

abbrev pub invariant-loop-c : goal.invariant-loop-c
invariant-loop-c l = record {
  small : Small l.c;
  midst : Midst l.scheme l.live l.initial.runs l.initial.undo l.initial.room l.initial.cells l.initial.c l.runs l.undo l.room l.cells l.c;
  kept : Kept l.initial.c l.c;
}

abbrev pub decreases-loop-c : goal.decreases-loop-c
decreases-loop-c l = l.c.counts.waiting
