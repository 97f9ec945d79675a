use Rattle.std.proofs.Common.{◌≡◌, ◌*◌, ◌-◌}
use Rattle.record.specs.Widths.{live_width}
use Rattle.soundness.specs.Groups.{live_from}
use Rattle.soundness.proofs.live_ok.Given as goal

abbrev pub invariant-loop-ahead : goal.invariant-loop-ahead
invariant-loop-ahead l = live_from l.largest l.cells l.live (live_width * l.ahead) (l.n - l.ahead) l.low l.ahead ≡ live_from l.largest l.cells l.live 0 l.n 0 0
