-- Laws of the loop over a trace's events, of which i of n are taken, and of what stands around it.
use Prim.Native.Nat.{ℕ, zero, suc, ◌+◌, ◌-◌, ◌*◌, ◌≤◌, ◌<◌}
use native.Mathlib.Omega.{arith}
use mathlib.Core.Path.{◌≡◌, refl, sym, ap, ◌∙◌}
use mathlib.Core.List.{List, [], ◌∷◌, ◌++◌}
use lib.ListN.{take, replicate}
use lib.Seq.{sets}
use Rattle.std.specs.Prelude.{Option, None, Some}
use Rattle.model.specs.declared.Scheme.{Scheme}
use Rattle.model.specs.declared.Event.{Event}
use Rattle.record.specs.declared.Record.{Record}
use Rattle.record.specs.declared.Fresh.{Fresh}
use Rattle.record.specs.Start.{fresh_of}
use Rattle.engine.specs.Called.{Called, called, cells_after, room_after}
use Rattle.trace.specs.declared.Shape.{Shape}
use Rattle.trace.specs.Format.{words_from, event_at, shape_of}
use Rattle.trace.specs.Text.{line_e, bad_trace, bad_scheme}
use Rattle.listing.specs.Chosen.{scheme_of}
use Rattle.listing.specs.Played.{Playing, playing, played_one, played, started_trace}
use Rattle.listing.specs.Printed.{Lines, answer_lines, event_lines, events_lines, cell_lines, trace_lines, lines_as, lines_of, lines_by, lines_for, together, listing_of, Put}
use Rattle.listing.proofs.Texts.{together_append, put_then, put_as, Left, left_turn, left_end}

-- the lines of an event
pub event_put : (from position number answers : ℕ) (room b b1 b2 : List ℕ) (at p q : ℕ) → Put from b b1 at p (line_e position number)
    → Put from b1 b2 p q (together (answer_lines room answers)) → Put from b b2 at q (together (event_lines position number answers room))
unfolding event_lines together
event_put from position number answers room b b1 b2 at p q e h = put_then from b b1 b2 (line_e position number) (together (answer_lines room answers)) at p q e h

-- what is left of a trace's events, as text
module _ (σ : Scheme) (bytes : List ℕ) (first n : ℕ) where
  abbrev pub rest : ℕ → Playing → List ℕ
  rest i k = together (events_lines σ bytes (i + 1) (first + 29 * i) (n - i) k)

  module _ (i : ℕ) where
    -- a call and what it leaves
    module _ (r : Record) (cells room : List ℕ) (v : Event) (d : Called) (cells' room' : List ℕ) (h : i < n) (ev : v ≡ event_at bytes (first + 29 * i)) (ed : d ≡ called σ r v cells room)
        (ec : cells' ≡ cells_after σ r v cells room) (er : room' ≡ room_after σ r v cells room) where
      pub play_turn : (all : Playing) → played σ bytes (first + 29 * i) (n - i) (playing r cells room) ≡ all → played σ bytes (first + 29 * (i + 1)) (n - (i + 1)) (playing d.next cells' room') ≡ all
      unfolding played played_one
      play_turn all inv =
          let e : n - i ≡ suc (n - (i + 1)) = omega arith in
          let p : first + 29 * (i + 1) ≡ first + 29 * i + 29 = omega arith in
          (λ j. played σ bytes (p j) (n - (i + 1)) (playing (ed j).next (ec j) (er j)))
          ∙ ap (λ (x : Event). played σ bytes (first + 29 * i + 29) (n - (i + 1)) (played_one σ x (playing r cells room))) ev
          ∙ ap (λ (x : ℕ). played σ bytes (first + 29 * i) x (playing r cells room)) (sym e) ∙ inv

      rest_next : rest i (playing r cells room) ≡ together (event_lines (i + 1) d.number d.answers room') ++ rest (i + 1) (playing d.next cells' room')
      unfolding events_lines played_one
      rest_next =
          let e : n - i ≡ suc (n - (i + 1)) = omega arith in
          let p : first + 29 * (i + 1) ≡ first + 29 * i + 29 = omega arith in
          let here : Event → Lines = λ x. event_lines (i + 1) (called σ r x cells room).number (called σ r x cells room).answers (room_after σ r x cells room) in
          let later : Event → Lines = λ x. events_lines σ bytes (i + 1 + 1) (first + 29 * i + 29) (n - (i + 1)) (played_one σ x (playing r cells room)) in
          ap (λ (x : ℕ). together (events_lines σ bytes (i + 1) (first + 29 * i) x (playing r cells room))) e
          ∙ ap (λ (x : Event). together (here x ++ later x)) (sym ev)
          ∙ together_append (here v) (later v)
          ∙ sym (λ j. together (event_lines (i + 1) (ed j).number (ed j).answers (er j)) ++ together (events_lines σ bytes (i + 1 + 1) (p j) (n - (i + 1)) (playing (ed j).next (ec j) (er j))))

      pub events_turn : (from : ℕ) (b b' b₀ : List ℕ) (p p' : ℕ) (whole : List ℕ) → Put from b b' p p' (together (event_lines (i + 1) d.number d.answers room')) → Left from b b₀ p 0 (rest i (playing r cells room)) whole
          → Left from b' b₀ p' 0 (rest (i + 1) (playing d.next cells' room')) whole
      events_turn from b b' b₀ p p' whole put l = left_turn from b b' b₀ p p' 0 _ (rest i (playing r cells room)) (rest (i + 1) (playing d.next cells' room')) whole rest_next put l

    module _ (h : n ≤ i) where
      pub play_end : (r : Record) (cells room : List ℕ) (all : Playing) → played σ bytes (first + 29 * i) (n - i) (playing r cells room) ≡ all → cells ≡ all.cells
      unfolding played
      play_end r cells room all inv =
          let e : n - i ≡ 0 = omega arith in
          ap (λ (x : ℕ). (played σ bytes (first + 29 * i) x (playing r cells room)).cells) (sym e) ∙ ap (λ (k : Playing). k.cells) inv

      pub events_end : (from : ℕ) (k : Playing) (b b₀ : List ℕ) (p : ℕ) (whole : List ℕ) → Left from b b₀ p 0 (rest i k) whole → Put from b₀ b 0 p whole
      unfolding events_lines together
      events_end from k b b₀ p whole l =
          let e : n - i ≡ 0 = omega arith in
          left_end from b b₀ p 0 (rest i k) whole (ap (λ (x : ℕ). together (events_lines σ bytes (i + 1) (first + 29 * i) x k)) e) l

-- all lines of a trace: its events' and its cells'
pub trace_put : (from : ℕ) (σ : Scheme) (bytes : List ℕ) (s : Shape) (cells cells1 cells2 room b b1 b2 : List ℕ) (p q : ℕ) (f : Fresh) → f ≡ fresh_of s.cells → cells1 ≡ sets cells 0 (words_from bytes 4 s.cells)
    → cells2 ≡ (played σ bytes s.first s.events (playing f.next cells1 room)).cells → Put from b b1 0 p (together (events_lines σ bytes 1 s.first s.events (playing f.next cells1 room))) → Put from b1 b2 p q (together (cell_lines cells2 s.cells))
    → Put from b b2 0 q (together (trace_lines σ bytes s cells room))
unfolding trace_lines started_trace
trace_put from σ bytes s cells cells1 cells2 room b b1 b2 p q f ef e1 e2 h k =
    let n : ℕ = s.events in
    put_as from b b2 _ _ 0 q
    ((λ j. together (events_lines σ bytes 1 s.first n (playing f.next cells1 room)) ++ together (cell_lines (e2 j) s.cells))
    ∙ (λ j. together (events_lines σ bytes 1 s.first n (playing (ef j).next (e1 j) room)) ++ together (cell_lines (played σ bytes s.first n (playing (ef j).next (e1 j) room)).cells s.cells))
    ∙ sym (together_append (events_lines σ bytes 1 s.first n (started_trace bytes s.cells cells room)) (cell_lines (played σ bytes s.first n (started_trace bytes s.cells cells room)).cells s.cells)))
    (put_then from b b1 b2 (together (events_lines σ bytes 1 s.first n (playing f.next cells1 room))) (together (cell_lines cells2 s.cells)) 0 p q h k)

take-zeros : (m n : ℕ) → n ≤ m → take {A = ℕ} n (replicate m 0) ≡ replicate n 0
take-zeros m zero h = refl
take-zeros zero (suc n) h = absurd (omega arith)
take-zeros (suc m) (suc n) h = ap (λ (x : List ℕ). 0 ∷ x) (take-zeros m n (omega arith))

-- "It starts from cells cleared to 0": of 4,096 as many as the trace has are lent
pub cleared_put : (from : ℕ) (σ : Scheme) (bytes : List ℕ) (s : Shape) (b b' : List ℕ) (p : ℕ) → s.cells ≤ 4096
    → Put from b b' 0 p (together (trace_lines σ bytes s (take s.cells (replicate 4096 0)) (replicate 1024 0))) → Put from b b' 0 p (together (trace_lines σ bytes s (replicate s.cells 0) (replicate 1024 0)))
cleared_put from σ bytes s b b' p h k = put_as from b b' _ _ 0 p (ap (λ (x : List ℕ). together (trace_lines σ bytes s x (replicate 1024 0))) (take-zeros 4096 s.cells h)) k

-- all that is printed, by the shape of what was read
module _ (from : ℕ) (σ : Scheme) (bytes b b' : List ℕ) (p : ℕ) where
  pub bad_put : None ≡ shape_of bytes → Put from b b' 0 p (bad_trace ++ []) → Put from b b' 0 p (together (lines_of σ bytes))
  unfolding lines_of together
  bad_put es h = put_as from b b' _ _ 0 p (ap (λ (s : Option Shape). together (lines_as σ bytes s)) es) h

  pub good_put : (s : Shape) → Some s ≡ shape_of bytes → Put from b b' 0 p (together (trace_lines σ bytes s (replicate s.cells 0) (replicate 1024 0)))
      → Put from b b' 0 p (together (lines_of σ bytes))
  unfolding lines_of
  good_put s es h = put_as from b b' _ _ 0 p (ap (λ (x : Option Shape). together (lines_as σ bytes x)) es) h

-- the same, by what the command's word chooses
module _ (from : ℕ) (word bytes b b' : List ℕ) (p : ℕ) where
  pub scheme_put : (σ : Scheme) → Some σ ≡ scheme_of word → Put from b b' 0 p (together (lines_of σ bytes)) → Put from b b' 0 p (listing_of word bytes)
  unfolding lines_for listing_of
  scheme_put σ ec h = put_as from b b' _ _ 0 p (ap (λ (c : Option Scheme). together (lines_by c bytes)) ec) h

  pub unknown_put : None ≡ scheme_of word → Put from b b' 0 p (bad_scheme ++ []) → Put from b b' 0 p (listing_of word bytes)
  unfolding lines_for listing_of together
  unknown_put ec h = put_as from b b' _ _ 0 p (ap (λ (c : Option Scheme). together (lines_by c bytes)) ec) h
