-- What the words of an event mean, and the words that mean an event.
use Rattle.std.specs.Prelude.{ℕ, List, ◌∷◌, eqb, length, get_or}
use Rattle.model.specs.Limits.{event_words}
use Rattle.model.specs.Operations.{pick}
use Rattle.model.specs.declared.Event.{Event}
use Rattle.record.specs.View.{fragment_at}
use Rattle.record.specs.Words.{ops_words}

-- "29 words an event: kind (1 fragment, 2 commit, 3 abort), number, flags (1 multi + 2 last), coordinator, operation count, eight times
-- code, cell, amount". More or fewer words are "not well formed": kind 0 stands for nothing.
unfoldable pub event_of : List ℕ → Event
event_of l = record { kind = pick (eqb (length l) event_words) (get_or l 0 0) 0; number = get_or l 1 0; fragment = fragment_at l 1 }

-- the words of an event, which mean it where its row has eight places (`event_back`)
unfoldable pub words_of : Event → List ℕ
words_of v = v.kind ∷ v.number ∷ v.fragment.flags ∷ v.fragment.coordinator ∷ v.fragment.count ∷ ops_words v.fragment.row
