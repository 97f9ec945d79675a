use Prim.Native.Nat.{ℕ, ◌*◌, ◌+◌}
use mathlib.Core.Path.{◌≡◌, ap, ◌∙◌}
use mathlib.Core.Bool.{true}
use borrow.Author.Tests.{eq-eqb}
use native.Mathlib.Omega.{arith}
use lib.ListN.{get_or, set, length-set}
use Rattle.std.proofs.lemmas.List.FromFn.{fill_by_all}
use Rattle.std.proofs.lemmas.List.Edits.{fill_by_more}
use Rattle.std.specs.Prelude.{Some}
use Rattle.record.specs.View.{numbers_from}
use Rattle.record.specs.Widths.{run_width}
use Rattle.rows.specs.Rows.{holds_row}
use Rattle.rows.proofs.Reading.{numbers_by}
use Rattle.rows.proofs.held_at.Goals as goal

pub loop-k-preserved : goal.loop-k-preserved
loop-k-preserved c = let l = c.loop-k in
    let n = c.number_at-in-loop-k in
    let f = λ (k : ℕ). get_or c.args.runs.now (run_width * c.args.i + 6 + k) 0 in (
      length-set l.numbers l.k n.result ∙ l.invariant.0,
      λ k h. ap (λ (x : ℕ). get_or (set l.numbers l.k x) k 0) n.ensures ∙ fill_by_more f l.numbers l.k 0 (omega arith) l.invariant.1 k h,
    )

pub returns : goal.returns
returns c = let a = c.args in
    let l = c.loop-k in
    let holds : holds_row a.runs.now (run_width * a.i) ≡ true = eq-eqb _ 1 (omega (arith, c.number_at.ensures, c.if-number_at-ne-HELD.false)) in
    let first : run_width * a.i + 6 + 0 ≡ run_width * a.i + 6 = omega arith in
    rw holds (λ j. Some (record {
      place = c.number_at-2.ensures j;
      count = c.number_at-3.ensures j;
      numbers = (fill_by_all (λ (k : ℕ). get_or a.runs.now (run_width * a.i + 6 + k) 0) l.numbers 8 0 l.invariant.0 (λ k h. l.invariant.1 k (omega arith)) ∙ numbers_by a.runs.now (run_width * a.i + 6) 0 8 ∙ ap (λ (p : ℕ). numbers_from a.runs.now p 8) first) j;
    }))
