use native.Mathlib.Omega.{arith}
use lib.Seq.{set_out}
use Rattle.std.proofs.lemmas.Grind.{common_steps}
use Rattle.listing.proofs.Texts.{seen_before, seen_from}
use Rattle.listing.proofs.Page.put_byte.Goals as goal

pub returns-clause-bytes : goal.returns-clause-bytes
returns-clause-bytes c = grind (arith, common_steps, seen_before, seen_from, set_out)
