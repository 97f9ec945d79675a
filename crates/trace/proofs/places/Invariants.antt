use Rattle.trace.proofs.Digits.{Counting}
use Rattle.trace.proofs.places.Given as goal

abbrev pub invariant-loop-m : goal.invariant-loop-m
invariant-loop-m l = Counting l.n l.k l.m

abbrev pub decreases-loop-m : goal.decreases-loop-m
decreases-loop-m l = l.m
