use mathlib.Core.Path.{refl, ap, ◌∙◌}
use Prim.Native.Nat.{ℕ, ◌+◌, ◌*◌}
use native.Mathlib.Omega.{arith}
use Rattle.std.proofs.lemmas.Iterator.{YieldsList-from_range}
use Rattle.std.proofs.lemmas.Iterator.Search.{all_from_yields_List}
use Rattle.rows.specs.Rows.{same_row, one_rows}
use Rattle.record.specs.Widths.{live_width}
use Rattle.rows.proofs.Reading.{one_rows_by}
use borrow.Author.Rules.{rules}
use Rattle.rows.proofs.one_coordinator.Goals as goal

pub returns : goal.returns
returns c = let a = c.args in
    all_from_yields_List (λ (i : ℕ). same_row a.live.now (a.b + live_width * i) a.k) _ _ c.all.result c.all.ensures.ran (YieldsList-from_range 0 a.n a.n refl (omega arith)) (λ x b q h. search rules)
    ∙ one_rows_by a.live.now a.b a.k 0 a.n ∙ ap (λ (p : ℕ). one_rows a.live.now p a.n a.k) (omega arith)
