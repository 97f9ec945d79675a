use mathlib.Core.Path.{sym, ap, ◌∙◌}
use Prim.Native.Nat.{ℕ, min}
use Rattle.operations.proofs.Turns.{words_many}
use Rattle.operations.proofs.InWordsListed.count.Goals as goal

pub returns : goal.returns
returns c = let s = c.args.self.now in
    c.min.ensures ∙ ap (λ (n : ℕ). min n 8) c.number_at.ensures ∙ sym (words_many s.words.now s.b)
