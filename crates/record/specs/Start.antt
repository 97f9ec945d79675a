-- "Starting with 0 or above 4,096 cells returns 3 and a record with 0 cells": the list engine's start, as a number and a record.
use Rattle.std.specs.Prelude.{ℕ}
use Rattle.model.specs.Refusals.{start}
use Rattle.record.specs.declared.Fresh.{Fresh}
use Rattle.record.specs.Words.{pack}

unfoldable pub fresh_of : ℕ → Fresh
fresh_of n = record { number = (start n).number; next = pack (start n).engine }
