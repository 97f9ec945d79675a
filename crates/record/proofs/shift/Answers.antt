use Prim.Native.Nat.{ℕ, ◌-◌}
use mathlib.Core.Path.{◌≡◌, sym, ap, ◌∙◌}
use borrow.Author.Rules.{rules}
use borrow.Rule.Slice.PartMut.{put_mid}
use Rattle.record.specs.View.{shifted, zeros}
use Rattle.record.proofs.Rows.{shifted_none, shift_moved}
use Rattle.record.proofs.shift.Goals as goal

pub returns-then-k-eq0 : goal.returns-then-k-eq0
returns-then-k-eq0 c = let a = c.args in
    shifted_none a.row.now a.m ∙ ap (λ (x : ℕ). shifted a.row.now x a.m) (sym c.if-k-eq0.true)

pub returns : goal.returns
returns c = let a = c.args in
    let stop = c.min-stop.result in
    let n = c.saturating_sub-n.result in
    let f : c.fill.new.self ≡ zeros (stop - n) = search rules in
    (λ i. put_mid n (stop - n) (c.copy_within.ensures.after i) (f i))
    ∙ shift_moved a.row.now a.k a.m n stop c.min.result c.min-stop.ensures c.saturating_sub-n.ensures c.min.ensures
