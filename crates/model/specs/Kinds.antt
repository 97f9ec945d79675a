-- The kind that a word stands for.
use Rattle.std.specs.Prelude.{ℕ, Result, Ok, Err, eqb}
use Rattle.model.specs.Operations.{pick}
use Rattle.model.specs.declared.Kind.{Kind}
use Rattle.model.specs.declared.Kind.TheVariants.{Fragment, Commit, Abort}
use Rattle.model.specs.declared.UnknownKind.{UnknownKind}

-- "kind (1 fragment, 2 commit, 3 abort)", and any other word is unknown
abbrev pub kind_of : ℕ → Result Kind UnknownKind
kind_of n = pick (eqb n 1) (Ok Fragment) (pick (eqb n 2) (Ok Commit) (pick (eqb n 3) (Ok Abort) (Err (record { 0 = n }))))
