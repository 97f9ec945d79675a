use mathlib.Core.Path.{sym, ◌∙◌}
use Rattle.soundness.proofs.Turns.{is_open, is_done, behind_on, behind_off, behind_end}
use Rattle.soundness.proofs.behind_ok.Goals.{then-run_word-via-then-run_word, then-run_word-via-else-run_word+then-not-next_ok}
use Rattle.soundness.proofs.behind_ok.Goals as goal

pub returns-then-run_word : goal.returns-then-run_word
returns-then-run_word c = let a = c.args in
    let l = c.loop-ahead in
    let off = behind_off a.live.now a.runs.now a.n l.ahead _ l.invariant c.loop-ahead-test.true in
    elim c.then-run_word.branch [
      | then-run_word-via-then-run_word w ↦ off (is_open a.live.now a.runs.now a.n l.ahead _ l.invariant c.run_word.result c.run_word.ensures w.if-run_word.true)
      | then-run_word-via-else-run_word+then-not-next_ok w ↦ off (is_done a.live.now a.runs.now a.n l.ahead _ l.invariant c.run_word.result c.run_word.ensures w.if-run_word.false ∙ sym w.next_ok.ensures ∙ w.if-not-next_ok.true)
    ]

pub loop-ahead-preserved : goal.loop-ahead-preserved
loop-ahead-preserved c = let a = c.args in
    let l = c.loop-ahead in
    behind_on a.live.now a.runs.now a.n l.ahead _ l.invariant c.loop-ahead-test.true (is_done a.live.now a.runs.now a.n l.ahead _ l.invariant c.run_word.result c.run_word.ensures c.if-run_word.false ∙ sym c.next_ok.ensures ∙ c.if-not-next_ok.false)

pub returns : goal.returns
returns c = let a = c.args in
    let l = c.loop-ahead in
    behind_end a.live.now a.runs.now a.n l.ahead _ l.invariant c.loop-ahead-test.false
