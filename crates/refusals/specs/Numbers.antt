-- The number that a call returns for each refusal, and for a result: "the first that applies is returned"; "0 is accepted".
use Rattle.std.specs.Prelude.{ℕ, Result, Ok, Err}
use Rattle.refusals.specs.declared.Refusal.{Refusal}
use Rattle.refusals.specs.declared.Refusal.TheVariants.{UnsoundRecord, SmallRoom, WrongCells, NotWellFormed, CellOutside, NotLive, NotFront, FrontFinished, OtherCoordinator, TooManyLive, TooManyFragments, NotYetAccepted, NotFinished, Failed}

abbrev pub number_of : Refusal → ℕ
-- "the record is not sound"
number_of UnsoundRecord = 1
-- "answer room under 1,024 numbers"
number_of SmallRoom = 2
-- "cells lent: none, or not the count given at the start"
number_of WrongCells = 3
-- "not well formed"
number_of NotWellFormed = 4
-- "a cell at or beyond the count"
number_of CellOutside = 5
-- "number not live and not above the largest accepted"
number_of NotLive = 6
-- "number live, but not the front"
number_of NotFront = 7
-- "fragment for a front that is finished"
number_of FrontFinished = 8
-- "fragment for the front with another coordinator, or a single's"
number_of OtherCoordinator = 9
-- "new number, 64 live"
number_of TooManyLive = 10
-- "front has run 8 fragments"
number_of TooManyFragments = 11
-- "decision for a number above the largest accepted"
number_of NotYetAccepted = 12
-- "commit, front not finished"
number_of NotFinished = 13
-- "commit, front failed"
number_of Failed = 14

abbrev pub returned : {T : Type 0} → Result T Refusal → ℕ
returned (Ok _) = 0
returned (Err e) = number_of e
