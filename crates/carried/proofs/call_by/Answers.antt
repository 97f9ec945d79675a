use mathlib.Core.Path.{◌≡◌, ap, ◌∙◌, subst}
use borrow.Author.Rules.{rules}
use Rattle.model.specs.declared.Event.{Event}
use Rattle.operations.proofs.Turns.{unmapped}
use Rattle.record.specs.Events.{event_of}
use Rattle.record.proofs.Events.{event_back}
use Rattle.engine.specs.Called.{Leaves, told_by}
use Rattle.carried.proofs.call_by.Goals as goal

-- the words that are lent mean the event that came
pub returns : goal.returns
returns c = let a = c.args in
    let d = c.call_lent-answers in
    let e : event_of c.event_words.result ≡ a.event = ap event_of c.event_words.ensures ∙ event_back a.event (search (unmapped, rules)) in
    let l = subst (λ (v : Event). Leaves a.scheme a.r v a.cells.now a.room.now (told_by d.result d.new.r) d.new.cells d.new.room) e d.ensures in
    record { value = l.0; cells_after = l.1; room_after = l.2 }
