-- Rows 2 to 14 of the table of refusals, and the same rows as the words of a record give them.
use Rattle.std.specs.Prelude.{ℕ, Bool, not, ◌&&◌, ◌||◌, List, [], ◌∷◌, map, leb, ltb, eqb, length, get_or}
use Rattle.model.specs.Limits.{most_fragments, most_live, least_room}
use Rattle.model.specs.Operations.{Cells, multi}
use Rattle.model.specs.Transactions.{finished, failed}
use Rattle.model.specs.Refusals.{Call, formed, formed_event, inside}
use Rattle.model.specs.declared.Fragment.{Fragment}
use Rattle.model.specs.declared.Event.{Event}
use Rattle.model.specs.declared.Scheme.{Scheme}
use Rattle.record.specs.Walk.{places}
use Rattle.record.specs.View.{state_of}
use Rattle.record.specs.Widths.{live_width}

abbrev pub call_of : Scheme → Event → Cells → List ℕ → Call
call_of σ v cells room = record { scheme = σ; event = v; lent = cells; room = room }

-- row 1, soundness, is asked by another
abbrev pub behind_first : List (ℕ × Bool) → List (ℕ × Bool)
behind_first [] = []
behind_first (r ∷ rs) = rs

-- the numbers of n rows of live transactions, the first of which starts at b
unfoldable pub row_numbers : List ℕ → ℕ → ℕ → List ℕ
row_numbers l b n = map (λ (p : ℕ). get_or l p 0) (places b live_width n)

-- is the front, the first of u uncommitted ones, the transaction n
abbrev pub front_is : ℕ → List ℕ → ℕ → Bool
front_is u live n = not (eqb u 0) && eqb (get_or live 0 0) n

-- is a fragment of another coordinator than the front's, or a single's
abbrev pub foreign : List ℕ → Fragment → Bool
foreign live f = not (multi f) || not (eqb (get_or live 2 0) f.coordinator)

-- rows 4 and 5, of an event, and as they are of an arrival's fragment
abbrev pub event_rows : ℕ → Event → List (ℕ × Bool)
event_rows count v =
    (4, not (formed_event v))
    ∷ (5, eqb v.kind 1 && not (inside count v.fragment))
    ∷ []

abbrev pub arrival_rows : ℕ → Fragment → List (ℕ × Bool)
arrival_rows count f = (4, not (formed f)) ∷ (5, not (inside count f)) ∷ []

-- rows 2 to 5
abbrev pub shape_rows : ℕ → Event → Cells → List ℕ → List (ℕ × Bool)
shape_rows count v cells room =
    (2, ltb (length room) least_room)
    ∷ (3, eqb (length cells) 0 || not (eqb (length cells) count))
    ∷ event_rows count v

-- rows 6 and 7: is the number live, is it new, is it the front's
abbrev pub known_rows : Bool → Bool → Bool → List (ℕ × Bool)
known_rows lives fresh front = (6, not lives && not fresh) ∷ (7, lives && not front) ∷ []

-- rows 8 to 11, of a fragment, where `total` are live
abbrev pub fragment_rows : ℕ → Bool → Bool → List ℕ → List ℕ → Fragment → List (ℕ × Bool)
fragment_rows total fresh front live runs f =
    (8, front && finished (state_of (get_or runs 1 0)))
    ∷ (9, front && foreign live f)
    ∷ (10, fresh && leb most_live total)
    ∷ (11, front && leb most_fragments (get_or runs 0 0))
    ∷ []

-- rows 12 to 14, of a decision
abbrev pub decision_rows : Bool → Bool → Bool → List ℕ → List (ℕ × Bool)
decision_rows commits fresh front runs =
    (12, fresh)
    ∷ (13, commits && (front && not (finished (state_of (get_or runs 1 0)))))
    ∷ (14, commits && (front && failed (state_of (get_or runs 1 0))))
    ∷ []
