use mathlib.Core.Path.{◌≡◌}
use lib.Seq.{sets}
use Rattle.trace.specs.Text.{decimal}
use Rattle.trace.proofs.Digits.{digits}
use Rattle.trace.proofs.put_decimal.Given as goal

abbrev pub invariant-loop-i : goal.invariant-loop-i
invariant-loop-i l = sets l.buffer l.at (digits l.i l.m) ≡ sets l.initial.buffer l.at (decimal l.n)
