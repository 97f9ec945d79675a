use mathlib.Core.Path.{◌∙◌}
use Rattle.engine.proofs.Draining.{all_laid}
use borrow.Author.Tests.{eq-eqb, ne_eqb}
use Rattle.engine.proofs.front.note_entries.Goals as goal

pub returns-then-r-eq0 : goal.returns-then-r-eq0
returns-then-r-eq0 c = let e = eq-eqb c.args.r.told.place 0 c.if-r-eq0.true in record { value = rw e; undo_after = rw e (c.put_entries.ensures ∙ all_laid c.args.undo.now c.args.r.undo _ c.args.r.entries c.requires.1) }

pub returns-else-r-eq0 : goal.returns-else-r-eq0
returns-else-r-eq0 c = let e = ne_eqb c.args.r.told.place 0 c.if-r-eq0.false in record { value = rw e; undo_after = rw e c.shift.ensures }
