-- Any two outcomes that the contracts of this crate's public functions allow are equal: what each returns and leaves in what was lent to it.
use mathlib.Core.Path.{◌≡◌, sym, ◌∙◌}
use Rattle.model.proofs.Unique.{Unique}
use Rattle.engine.proofs.Unique.{told_injective}
use Rattle.carried.specs.Reported.{reported}
use Rattle.carried.specs.declared.Answered.{Answered}
use Rattle.carried.proofs.call_by.Kinds as call-by-kinds
use Rattle.carried.proofs.call_by.Reads as call_by
use Rattle.carried.proofs.call.Kinds as call-kinds
use Rattle.carried.proofs.call.Reads as call

-- what is told of a call says what was returned
pub reported_injective : (d d' : Answered) → reported d ≡ reported d' → d ≡ d'
reported_injective d d' e =
    let x = told_injective d.answers d'.answers d.next d'.next e in
    λ j. record { answers = x.0 j; next = x.1 j }

pub call_by_unique : Unique call-by-kinds.ps call-by-kinds.r call_by.Learnt
call_by_unique κs a z z' ws ws' p q =
    let cells : ws.1.1.0 ≡ ws'.1.1.0 = cc in
    let room : ws.1.1.1.1.0 ≡ ws'.1.1.1.1.0 = cc in
    (reported_injective z z' (p.0 ∙ sym q.0), λ j. (ws.0, (ws.1.0, (cells j, (ws.1.1.1.0, (room j, ws.1.1.1.1.1))))))

pub call_unique : Unique call-kinds.ps call-kinds.r call.Learnt
call_unique κs a z z' ws ws' p q =
    let cells : ws.1.0 ≡ ws'.1.0 = cc in
    let room : ws.1.1.1.0 ≡ ws'.1.1.1.0 = cc in
    (reported_injective z z' (p.0 ∙ sym q.0), λ j. (ws.0, (cells j, (ws.1.1.0, (room j, ws.1.1.1.1)))))
