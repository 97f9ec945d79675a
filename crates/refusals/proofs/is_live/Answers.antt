use Prim.Native.Nat.{ℕ, ◌+◌, ◌*◌}
use native.Mathlib.Omega.{arith}
use mathlib.Core.Path.{refl, ◌∙◌}
use lib.Dec.{eqb}
use lib.ListN.{get_or}
use borrow.Author.Rules.{rules}
use borrow.Author.Tests.{tests}
use Rattle.std.proofs.lemmas.Iterator.{YieldsList-from_range}
use Rattle.std.proofs.lemmas.Iterator.Search.{any_from_yields_List}
use Rattle.record.specs.Widths.{live_width}
use Rattle.refusals.proofs.Firsts.{live_any}
use Rattle.refusals.proofs.is_live.Goals as goal

pub returns : goal.returns
returns c = let a = c.args in
    let n = a.uncommitted + a.waiting in
    any_from_yields_List (λ (x : ℕ). eqb (get_or a.live.now (live_width * x) 0) a.number) _ _ c.any.result c.any.ensures.ran (YieldsList-from_range 0 n n refl (omega arith)) (λ x b q k. search (rules, tests)) ∙ live_any a.live.now a.number 0 n
