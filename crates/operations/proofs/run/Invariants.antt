use Rattle.operations.proofs.Turns.{Going}
use Rattle.operations.proofs.run.Given as goal

abbrev pub invariant-loop-i : goal.invariant-loop-i
invariant-loop-i g l = Going (g.L.Listed.operations l.list) l.initial.cells l.cells l.numbers l.own l.entries l.i
