use Prim.Native.Nat.{ℕ, ◌+◌, ◌-◌}
use native.Mathlib.Omega.{arith}
use mathlib.Core.Path.{refl, ap, ◌∙◌}
use mathlib.Core.List.{List}
use Rattle.model.specs.Refusals.{every, blank}
use Rattle.record.specs.Widths.{ops_end}
use Rattle.record.specs.View.{numbers_from}
use Rattle.record.proofs.Rows.{fragment_words}
use Rattle.soundness.specs.Groups.{is_zero}
use Rattle.soundness.proofs.Stored.{blank_is}
use Rattle.soundness.proofs.is_blank_at.Goals as goal

pub returns-then-at-row : goal.returns-then-at-row
returns-then-at-row c = let a = c.args in
    c.all_zero.ensures ∙ blank_is a.row.now a.b (a.b + 1) (a.b + ops_end) refl refl

pub returns : goal.returns
returns c = let a = c.args in
    c.all_zero-2.ensures ∙ ap (λ (l : List ℕ). every is_zero (numbers_from l 1 (ops_end - 1))) c.words_from-words.ensures
    ∙ blank_is _ 0 1 ops_end (omega arith) (omega arith) ∙ ap blank (fragment_words a.row.now a.b)
