use Prim.Native.Nat.{ℕ}
use mathlib.Core.Path.{ap, ◌∙◌}
use mathlib.Core.List.{List}
use Rattle.std.specs.List.{copy_within}
use Rattle.std.specs.Prelude.{slice_set}
use Rattle.operations.proofs.Turns.{unmapped}
use Rattle.record.specs.Widths.{ops_end}
use Rattle.record.proofs.Events.{event_laid}
use borrow.Author.Rules.{rules}
use Rattle.record.proofs.event_words.Goals as goal

pub returns : goal.returns
returns c = let v = c.args.v in
    ap (λ (l : List ℕ). slice_set l 0 v.kind) c.copy_within.ensures.after ∙ ap (λ (l : List ℕ). slice_set (copy_within l 0 ops_end 1) 0 v.kind) c.row_words-words.ensures ∙ event_laid v (search (unmapped, rules))
