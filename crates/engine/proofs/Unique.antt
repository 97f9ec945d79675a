-- Any two outcomes that the contracts of this crate's public functions allow are equal: what each returns and leaves in what was lent to it.
use Prim.Native.Nat.{ℕ}
use mathlib.Core.Path.{◌≡◌, sym, ap, ◌∙◌}
use Rattle.std.specs.Prelude.{Result, Ok, Err}
use Rattle.model.proofs.Unique.{Unique}
use Rattle.record.specs.declared.Record.{Record}
use Rattle.refusals.specs.declared.Refusal.{Refusal}
use Rattle.refusals.proofs.Numbers.{number_injective, number_not_0}
use Rattle.engine.specs.Called.{Called, told_by}
use Rattle.engine.proofs.call_lent.Kinds as call-lent-kinds
use Rattle.engine.proofs.call_lent.Reads as call-lent

-- what `call_lent` returns and the record that was lent are together what the call tells
pub told_injective : (d d' : Result ℕ Refusal) (r r' : Record) → told_by d r ≡ told_by d' r' → (d ≡ d') × (r ≡ r')
told_injective (Ok n) (Ok n') r r' e = (ap Ok (ap (λ (x : Called). x.answers) e), ap (λ (x : Called). x.next) e)
told_injective (Ok n) (Err k') r r' e = absurd (number_not_0 k' (sym (ap (λ (x : Called). x.number) e)))
told_injective (Err k) (Ok n') r r' e = absurd (number_not_0 k (ap (λ (x : Called). x.number) e))
told_injective (Err k) (Err k') r r' e = (ap Err (number_injective k k' (ap (λ (x : Called). x.number) e)), ap (λ (x : Called). x.next) e)

pub call_lent_unique : Unique call-lent-kinds.ps call-lent-kinds.r call-lent.Learnt
call_lent_unique κs a z z' ws ws' p q =
    let x = told_injective z z' ws.1.0 ws'.1.0 (p.0 ∙ sym q.0) in
    let cells : ws.1.1.0 ≡ ws'.1.1.0 = p.1 ∙ sym q.1 in
    let room : ws.1.1.1.1.0 ≡ ws'.1.1.1.1.0 = p.2 ∙ sym q.2 in
    (x.0, λ j. (ws.0, (x.1 j, (cells j, (ws.1.1.1.0, (room j, ws.1.1.1.1.1))))))
