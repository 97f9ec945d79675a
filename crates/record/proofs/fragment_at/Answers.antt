use Prim.Native.Nat.{ℕ}
use mathlib.Core.Path.{◌≡◌, ap, ◌∙◌}
use mathlib.Core.List.{List}
use borrow.Author.Rules.{rules}
use Rattle.record.specs.View.{fragment_at}
use Rattle.record.proofs.Rows.{fragment_ops}
use Rattle.record.proofs.fragment_at.Goals as goal

pub returns : goal.returns
returns c = let a = c.args in
    let e = c.on_words.ensures in
    let f : c.on_words.result ≡ fragment_at e.0.now 0 = search rules in
    f ∙ ap (λ (l : List ℕ). fragment_at l 0) e.2 ∙ fragment_ops a.row.now a.b
