use mathlib.Core.Path.{sym, ◌∙◌}
use Rattle.refusals.proofs.Firsts.{refused_sound, refused_unsound}
use Rattle.refusals.proofs.refused.Goals as goal

pub returns-then-not-is_sound : goal.returns-then-not-is_sound
returns-then-not-is_sound c σ = refused_unsound _ _ (sym c.if-not-is_sound.ensures)

pub returns : goal.returns
returns c σ = c.refused_row.ensures σ ∙ refused_sound _ _ (sym c.if-not-is_sound.ensures)
