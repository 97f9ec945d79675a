use Rattle.std.proofs.Common.{rules, ℕ, ◌*◌, Bool, nat_lt, get_or, ◌∙◌, refl, arith}
use Rattle.std.proofs.lemmas.Iterator.{YieldsList-from_range}
use Rattle.std.proofs.lemmas.Iterator.Search.{all_from_yields_List}
use Rattle.soundness.proofs.Turns.{undo_asked}
use Rattle.soundness.proofs.undo_ok.Goals as goal

pub returns : goal.returns
returns c = let a = c.args in
    let inside : ℕ → Bool = λ k. nat_lt (get_or a.undo.now (2 * k) 0) a.cells in
    all_from_yields_List inside _ _ c.all.result c.all.ensures.ran (YieldsList-from_range 0 a.n a.n refl (omega arith)) (λ x b q h. search rules)
    ∙ undo_asked a.cells a.undo.now 0 a.n
