use Rattle.std.proofs.Common.{◌≡◌, ◌*◌, ◌-◌}
use Rattle.record.specs.Widths.{live_width, run_width}
use Rattle.soundness.specs.Groups.{behind_from}
use Rattle.soundness.proofs.behind_ok.Given as goal

abbrev pub invariant-loop-ahead : goal.invariant-loop-ahead
invariant-loop-ahead l = behind_from l.live (live_width * l.ahead) l.runs (run_width * l.ahead) (l.n - l.ahead) ≡ behind_from l.live 0 l.runs 0 l.n
