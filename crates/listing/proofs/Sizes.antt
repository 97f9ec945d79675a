-- How long the lines of a trace's events are at most.
use Prim.Native.Nat.{ℕ, zero, suc, ◌+◌, ◌*◌, ◌≤◌}
use native.Mathlib.Omega.{arith}
use native.Mathlib.Nat.{mul-suc}
use mathlib.Core.Path.{◌≡◌, sym, ap, subst}
use mathlib.Core.List.{List}
use lib.ListN.{length, length-append}
use Rattle.model.specs.Operations.{Cells}
use Rattle.model.specs.declared.Scheme.{Scheme}
use Rattle.model.specs.declared.Event.{Event}
use Rattle.model.proofs.Kept.{answers_most}
use Rattle.refusals.specs.Rest.{call_of}
use Rattle.record.specs.declared.Record.{Record}
use Rattle.record.specs.View.{view}
use Rattle.engine.specs.Called.{Called, called, stepped, room_after}
use Rattle.trace.specs.Format.{event_at}
use Rattle.trace.specs.Text.{line_e, line_a}
use Rattle.trace.proofs.Lines.{length_e, length_a}
use Rattle.listing.specs.Played.{Playing, played_one}
use Rattle.listing.specs.Printed.{Lines, lines_from, answer_lines, event_lines, events_lines, together, most_of_event}
use Rattle.listing.proofs.Texts.{together_append}

-- "One call sends at most 64"
pub few_answers : (σ : Scheme) (r : Record) (v : Event) (cells : Cells) (room : List ℕ) → (called σ r v cells room).answers ≤ 64
unfolding called stepped
few_answers σ r v cells room = answers_most (view r) (call_of σ v cells room)

pub few_called : (σ : Scheme) (r : Record) (v : Event) (cells : Cells) (room : List ℕ) (d : Called) → d ≡ called σ r v cells room → d.answers ≤ 64
few_called σ r v cells room d e = subst (λ (x : Called). x.answers ≤ 64) (sym e) (few_answers σ r v cells room)

pub length_lines : (line : ℕ → List ℕ) (k : ℕ) → ((i : ℕ) → length (line i) ≤ k) → (i n : ℕ) → length (together (lines_from line i n)) ≤ k * n
unfolding lines_from together
length_lines line k h i zero = omega arith
length_lines line k h i (suc n) =
    omega (arith, mul-suc k n, length-append (line i) (together (lines_from line (i + 1) n)), h i, length_lines line k h (i + 1) n)

pub length-event : (position number answers : ℕ) (room : List ℕ) → length (together (event_lines position number answers room)) ≤ 24 + 156 * answers
unfolding event_lines together
length-event position number answers room =
    omega (arith, length-append (line_e position number) (together (answer_lines room answers)), length_e position number, length_lines (line_a room) 156 (length_a room) 0 answers)

pub length_events : (σ : Scheme) (bytes : List ℕ) (position b n : ℕ) (k : Playing) → length (together (events_lines σ bytes position b n k)) ≤ most_of_event * n
unfolding events_lines together
length_events σ bytes position b zero k = omega arith
length_events σ bytes position b (suc n) k =
    let v : Event = event_at bytes b in
    let d = called σ k.next v k.cells k.room in
    let here : Lines = event_lines position d.number d.answers (room_after σ k.next v k.cells k.room) in
    let rest : Lines = events_lines σ bytes (position + 1) (b + 29) n (played_one σ v k) in
    omega (arith, ap length (together_append here rest), length-append (together here) (together rest), length-event position d.number d.answers (room_after σ k.next v k.cells k.room), few_answers σ k.next v k.cells k.room, length_events σ bytes (position + 1) (b + 29) n (played_one σ v k))
