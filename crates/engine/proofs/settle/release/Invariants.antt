use Prim.Native.Nat.{◌+◌, ◌≤◌}
use mathlib.Core.Path.{◌≡◌}
use Rattle.engine.specs.Work.{with_answers}
use Rattle.rows.specs.Rows.{trial_or_none}
use Rattle.engine.proofs.Releasing.{Releasing}
use Rattle.engine.proofs.settle.release.Given as goal

abbrev pub invariant-loop-i : goal.invariant-loop-i
invariant-loop-i l = record {
  answers_alone : l.c ≡ with_answers l.c.answers l.from;
  one_each : l.c.answers ≤ l.from.answers + l.i;
  releasing : Releasing l.live l.initial.runs l.initial.room l.from l.k l.runs l.room l.c (trial_or_none l.near) l.i;
}
