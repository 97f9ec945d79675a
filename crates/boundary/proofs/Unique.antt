-- Any two outcomes that the contracts of this crate's public functions allow are equal: what each returns and leaves in what was lent to it.
use Prim.Native.Nat.{ℕ}
use mathlib.Core.Path.{◌≡◌, refl, sym, ◌∙◌}
use mathlib.Core.List.{List}
use seplogic.Ra.Ura.{Ura}
use prog.Memory.{Memory}
use prog.Routine.{Routine}
use types.Logic.{Logic}
use base.Logic.{SProp}
use contract.Monad.{Fun}
use Rattle.model.specs.Operations.{Cells}
use Rattle.model.specs.declared.Event.{Event}
use Rattle.model.specs.declared.Scheme.{Scheme}
use Rattle.model.proofs.Unique.{Unique, UniqueBy, both_facts}
use Rattle.record.specs.declared.Record.{Record}
use Rattle.engine.specs.Called.{Leaves}
use Rattle.boundary.specs.Lent.{called_with}
use Rattle.boundary.specs.contracts.harukdalis_start as start
use Rattle.boundary.specs.contracts.harukdalis_call as call
use Rattle.boundary.specs.contracts.harukdalis_call_blocking as call-blocking
use Rattle.boundary.proofs.harukdalis_record_bytes.Kinds as record-bytes-kinds
use Rattle.boundary.proofs.harukdalis_record_bytes.Reads as record-bytes
use Rattle.boundary.proofs.harukdalis_event_words.Kinds as event-words-kinds
use Rattle.boundary.proofs.harukdalis_event_words.Reads as event-words
use Rattle.boundary.proofs.harukdalis_answer_words.Kinds as answer-words-kinds
use Rattle.boundary.proofs.harukdalis_answer_words.Reads as answer-words
use Rattle.boundary.proofs.harukdalis_least_room.Kinds as least-room-kinds
use Rattle.boundary.proofs.harukdalis_least_room.Reads as least-room
use Rattle.boundary.proofs.harukdalis_most_cells.Kinds as most-cells-kinds
use Rattle.boundary.proofs.harukdalis_most_cells.Reads as most-cells

pub record_bytes_unique : Unique record-bytes-kinds.ps record-bytes-kinds.r record-bytes.Learnt
record_bytes_unique κs a z z' ws ws' p q = (cc, refl)

pub event_words_unique : Unique event-words-kinds.ps event-words-kinds.r event-words.Learnt
event_words_unique κs a z z' ws ws' p q = (cc, refl)

pub answer_words_unique : Unique answer-words-kinds.ps answer-words-kinds.r answer-words.Learnt
answer_words_unique κs a z z' ws ws' p q = (cc, refl)

pub least_room_unique : Unique least-room-kinds.ps least-room-kinds.r least-room.Learnt
least_room_unique κs a z z' ws ws' p q = (cc, refl)

pub most_cells_unique : Unique most-cells-kinds.ps most-cells-kinds.r most-cells.Learnt
most_cells_unique κs a z z' ws ws' p q = (cc, refl)

-- two outcomes of a call by one scheme
same_call : (σ : Scheme) (r : Record) (v : Event) (cells : Cells) (room : List ℕ) (n n' k k' : ℕ) (s s' : Record) (cs cs' : Cells) (x x' : List ℕ)
    → Leaves σ r v cells room (called_with n k s) cs x → Leaves σ r v cells room (called_with n' k' s') cs' x' → (n ≡ n') × (s ≡ s') × (cs ≡ cs') × (x ≡ x') × (k ≡ k')
same_call σ r v cells room n n' k k' s s' cs cs' x x' p q =
    let e = p.0 ∙ sym q.0 in
    ((λ i. (e i).number), (λ i. (e i).next), p.1 ∙ sym q.1, p.2 ∙ sym q.2, (λ i. (e i).answers))

module _ {M : Type 1} {𝓤 : Ura M} (𝓛 : Logic 𝓤) (mem : Memory → SProp 𝓤) (run : Routine → Fun 𝓤) where
  pub start_unique : UniqueBy 𝓤 start.ended (start.clauses 𝓛 mem run)
  start_unique κs a g z z' ws ws' = both_facts 𝓤 _ _ _ (λ p q. let e = p ∙ sym q in ((λ i. (e i).number), λ i. ((e i).next, ws.1)))

  pub call_unique : UniqueBy 𝓤 call.ended (call.clauses 𝓛 mem run)
  call_unique κs a g z z' ws ws' = both_facts 𝓤 _ _ _ (λ p q.
      let x = same_call _ _ _ _ _ z z' _ _ ws.0 ws'.0 _ _ _ _ p q in
      (x.0, λ i. (x.1 i, (x.2 i, (ws.1.1.0, (x.3 i, (x.4 i, ws.1.1.1.1.1)))))))

  pub call_blocking_unique : UniqueBy 𝓤 call-blocking.ended (call-blocking.clauses 𝓛 mem run)
  call_blocking_unique κs a g z z' ws ws' = both_facts 𝓤 _ _ _ (λ p q.
      let x = same_call _ _ _ _ _ z z' _ _ ws.0 ws'.0 _ _ _ _ p q in
      (x.0, λ i. (x.1 i, (x.2 i, (ws.1.1.0, (x.3 i, (x.4 i, ws.1.1.1.1.1)))))))
