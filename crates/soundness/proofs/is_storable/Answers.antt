use Prim.Native.Nat.{ℕ}
use mathlib.Core.Path.{ap, ◌∙◌}
use mathlib.Core.List.{List}
use Rattle.model.specs.Refusals.{storable}
use Rattle.model.specs.declared.Fragment.{Fragment}
use Rattle.record.specs.View.{fragment_at}
use Rattle.record.proofs.Rows.{fragment_words}
use Rattle.soundness.proofs.is_storable.Goals as goal

pub returns : goal.returns
returns c = let a = c.args in
    c.storable_in-2.ensures ∙ ap (λ (l : List ℕ). storable a.cells (fragment_at l 0)) c.words_from-words.ensures ∙ ap (λ (f : Fragment). storable a.cells f) (fragment_words a.row.now a.b)
