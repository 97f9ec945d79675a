use Prim.Native.Nat.{◌*◌}
use mathlib.Core.Path.{sym, ap, ◌∙◌}
use lib.Seq.{sets}
use Rattle.operations.specs.declared.Told.{Told}
use Rattle.record.specs.Widths.{run_width}
use Rattle.rows.specs.Rows.{holds_row, held_told, told_row, trial_or_none}
use Rattle.rows.proofs.Reading.{held_is, told_held}
use Rattle.rows.proofs.put_held.Goals as goal

pub returns-clause-room_after : goal.returns-clause-room_after
returns-clause-room_after c = let a = c.args in
    let near = trial_or_none a.near in
    let h = held_is (holds_row a.runs.now (run_width * a.i)) c.in-Some.t (held_told a.runs.now (run_width * a.i)) (sym c.in-Some.is ∙ c.held_at.ensures) in
    rw h.0 (c.put_answer.ensures ∙ ap (λ (t : Told). sets a.room.now a.at (told_row a.own near t)) h.1 ∙ ap (sets a.room.now a.at) (told_held a.own near a.runs.now (run_width * a.i)))
