use native.Mathlib.Omega.{arith}
use Rattle.operations.proofs.Turns.{words_many, words_next}
use Rattle.operations.proofs.InWordsListed.operation.Goals as goal

pub overflow_mul-at : goal.overflow_mul-at
overflow_mul-at c = let s = c.args.self.now in omega (arith, words_many s.words.now s.b)

pub overflow_add-at-2 : goal.overflow_add-at-2
overflow_add-at-2 c = let s = c.args.self.now in omega (arith, words_many s.words.now s.b)

pub overflow_add-at-3 : goal.overflow_add-at-3
overflow_add-at-3 c = let s = c.args.self.now in omega (arith, words_many s.words.now s.b)

pub overflow_add-at-4 : goal.overflow_add-at-4
overflow_add-at-4 c = let s = c.args.self.now in omega (arith, words_many s.words.now s.b)

pub returns : goal.returns
returns c = let s = c.args.self.now in
    words_next s.words.now s.b c.args.i _ c.requires (λ j. record { code = c.number_at.ensures j; cell = c.number_at-2.ensures j; amount = c.number_at-3.ensures j })
