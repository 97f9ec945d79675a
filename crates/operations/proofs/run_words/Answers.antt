use native.Mathlib.Omega.{arith}
use Rattle.operations.proofs.Turns.{words_many, told_of}
use Rattle.operations.proofs.run_words.Goals as goal

pub run-requires : goal.run-requires
run-requires c = omega (arith, words_many c.args.words.now c.args.b)

pub returns-clause-value : goal.returns-clause-value
returns-clause-value c = told_of _ _ c.run.ensures.value
