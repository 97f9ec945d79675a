-- What a call with the record by value tells, by what it returns: a refusal sends no answer.
use Rattle.engine.specs.Called.{Called, told_by}
use Rattle.carried.specs.declared.Answered.{Answered}

abbrev pub reported : Answered → Called
reported d = told_by d.answers d.next
