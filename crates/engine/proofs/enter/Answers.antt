use mathlib.Core.Bool.{false}
use mathlib.Core.Path.{◌≡◌, sym, ap, ◌∙◌}
use lib.Dec.{eqb}
use Rattle.std.specs.Prelude.{Ok}
use Rattle.engine.proofs.Accepting.{fair_of, commit_begun, abort_begun}
use Rattle.engine.proofs.Asked.{is_fragment, is_commit, fragment_word, commit_word, abort_no_fragment, abort_no_commit}
use Rattle.engine.proofs.enter.Goals.{in_default-via-in-Ok+in_default, in_default-via-in_default}
use Rattle.engine.proofs.enter.Goals as goal

pub commit-requires-clause-fair : goal.commit-requires-clause-fair
commit-requires-clause-fair c = let a = c.args in
    let p = c.requires in
    fair_of p.0 a.live.now a.runs.now a.undo.now a.room.now a.cells.now a.c a.event p.1.0 p.1.1.0 p.1.1.1

pub returns-in-Ok-Commit-clause-entered : goal.returns-in-Ok-Commit-clause-entered
returns-in-Ok-Commit-clause-entered c σ e came rd = let a = c.args in
    let s = c.commit in
    let commits = sym c.in-Ok-Commit.ensures ∙ ap Ok c.in-Ok-Commit.field-0-is in
    commit_begun σ a.live.now a.runs.now a.undo.now a.room.now a.cells.now a.c a.event e came rd (fragment_word a.event.kind ∙ ap is_fragment commits) (commit_word a.event.kind ∙ ap is_commit commits) s.new.runs s.new.undo s.new.room s.result s.ensures.committed s.ensures.kept.2

pub abort-requires-clause-fair : goal.abort-requires-clause-fair
abort-requires-clause-fair c = let a = c.args in
    let p = c.requires in
    fair_of p.0 a.live.now a.runs.now a.undo.now a.room.now a.cells.now a.c a.event p.1.0 p.1.1.0 p.1.1.1

pub returns-in_default-clause-entered : goal.returns-in_default-clause-entered
returns-in_default-clause-entered c σ e came rd = let a = c.args in
    let s = c.abort in
    let no_fragment : eqb a.event.kind 1 ≡ false = elim c.in_default.branch [
      | in_default-via-in-Ok+in_default w ↦ fragment_word a.event.kind ∙ ap is_fragment (sym w.in_default.ensures) ∙ search abort_no_fragment
      | in_default-via-in_default w ↦ fragment_word a.event.kind ∙ ap is_fragment (sym c.try_from.ensures ∙ w.in_default.is)
    ] in
    let no_commit : eqb a.event.kind 2 ≡ false = elim c.in_default.branch [
      | in_default-via-in-Ok+in_default w ↦ commit_word a.event.kind ∙ ap is_commit (sym w.in_default.ensures) ∙ search abort_no_commit
      | in_default-via-in_default w ↦ commit_word a.event.kind ∙ ap is_commit (sym c.try_from.ensures ∙ w.in_default.is)
    ] in
    abort_begun σ a.live.now a.runs.now a.undo.now a.room.now a.cells.now a.c a.event e came rd no_fragment no_commit s.new.live s.new.runs s.new.undo s.new.cells s.result s.ensures.aborted s.ensures.kept.2
