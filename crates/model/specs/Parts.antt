-- Soundness part by part, the rows of the refusals that an accepted call has passed, and L6's release as one walk: what inner functions promise
-- each other. The test of soundness and these parts are proved to say the same (proofs/Sound), and that an accepted call has passed every row
-- (proofs/Passing), and that the walk releases what the step does (proofs/Releasing).
use Rattle.std.specs.Prelude.{ℕ, ◌+◌, ◌*◌, ◌≤◌, ◌≡◌, Bool, true, false, not, ◌&&◌, ◌||◌, List, [], ◌∷◌, ◌++◌, leb, ltb, eqb, length}
use Rattle.model.specs.Limits.{most_cells, most_fragments, depth, most_live, least_room}
use Rattle.model.specs.Operations.{multi}
use Rattle.model.specs.Transactions.{finished, failed, holds, Uncommitted, Waiting, Engine, numbers, attempts, front}
use Rattle.model.specs.Steps.{held_with, sent, Place}
use Rattle.model.specs.Refusals.{every, storable, behind, ready, fits, is_state, is_reply, sound, formed_event, inside, Call, live, new, is_front, at_front}
use Rattle.model.specs.Demand.{Rises}
use Rattle.model.specs.declared.Undo.{Undo}

-- of each of a list
abbrev pub All : {A : Type 0} → (A → Type 0) → List A → Type 0
All P [] = Unit {0}
All P (a ∷ l) = P a × All P l

abbrev pub cell_inside : ℕ → Undo → Bool
cell_inside ct x = ltb x.cell ct

-- the clauses that speak of one uncommitted transaction
pub record SoundOne (ct : ℕ) (u : Uncommitted) : Type 0 where
  pub eight : u.ran ≤ most_fragments
  pub stored : storable ct u.first ≡ true
  pub some : 1 ≤ u.ran
  pub held : (multi u.first || holds u.reply) ≡ true
  pub fits : fits u.reply ≡ true
  pub inside : every (cell_inside ct) u.undo ≡ true
  pub few : length u.undo ≤ 8 * u.ran
  pub read : (is_state u.state && is_reply u.reply) ≡ true

abbrev pub Stored : ℕ → Waiting → Type 0
Stored ct w = storable ct w.fragment ≡ true

-- "a front that is a single or holds its answer"
abbrev pub bad_front : Uncommitted → Bool
bad_front u = not (multi u.first) || holds u.reply

-- "attempt plus transactions ahead at most 64" (02, L2): i are ahead of the first of these
abbrev pub Ahead : ℕ → List ℕ → Type 0
Ahead i [] = Unit {0}
Ahead i (a ∷ as') = (a + i ≤ most_live) × Ahead (1 + i) as'

pub record Sound (ct top : ℕ) (us : List Uncommitted) (ws : List Waiting) : Type 0 where
  pub cells : ct ≤ most_cells
  pub sixteen : length us ≤ depth
  pub sixty_four : length us + length ws ≤ most_live
  pub rises : Rises 0 top (numbers us ws)
  pub tried : All (λ (a : ℕ). 1 ≤ a) (attempts us ws)
  pub ahead : Ahead 0 (attempts us ws)
  pub each : All (SoundOne ct) us
  pub waiting : All (Stored ct) ws
  pub ones : All (λ (u : Uncommitted). u.ran ≤ 1) (behind us)
  pub front : front bad_front us ≡ false
  pub ready : ready us ≡ true

abbrev pub SoundEngine : Engine → Type 0
SoundEngine e = Sound e.count e.largest e.uncommitted e.waiting

-- no row of the table applies
pub record Passed (e : Engine) (c : Call) : Type 0 where
  pub one : not (sound e) ≡ false
  pub two : ltb (length c.room) least_room ≡ false
  pub three : (eqb (length c.lent) 0 || not (eqb (length c.lent) e.count)) ≡ false
  pub four : not (formed_event c.event) ≡ false
  pub five : (eqb c.event.kind 1 && not (inside e.count c.event.fragment)) ≡ false
  pub six : (not (live c.event.number e) && not (new c.event.number e)) ≡ false
  pub seven : (live c.event.number e && not (is_front c.event.number e)) ≡ false
  pub eight : (eqb c.event.kind 1 && at_front c.event.number (λ u. finished u.state) e) ≡ false
  pub nine :
      (eqb c.event.kind 1 && at_front c.event.number (λ u. not (multi c.event.fragment) || not (eqb u.first.coordinator c.event.fragment.coordinator)) e) ≡ false
  pub ten : (eqb c.event.kind 1 && new c.event.number e && leb most_live (length e.uncommitted + length e.waiting)) ≡ false
  pub eleven : (eqb c.event.kind 1 && at_front c.event.number (λ u. leb most_fragments u.ran) e) ≡ false
  pub twelve : (not (eqb c.event.kind 1) && new c.event.number e) ≡ false
  pub thirteen : (eqb c.event.kind 2 && at_front c.event.number (λ u. not (finished u.state)) e) ≡ false
  pub fourteen : (eqb c.event.kind 2 && at_front c.event.number (λ u. failed u.state) e) ≡ false

-- `released` as one walk over those behind the front: k is the coordinator of all multis so far, near the last of them and tried its attempt.
-- Behind a multi with another coordinator nothing is released.
unfoldable pub released_from : ℕ → ℕ → ℕ → List Uncommitted → Place
released_from k near tried [] = record { uncommitted = []; answers = []; settles = [] }
released_from k near tried (u ∷ us) =
    elim (multi u.first) [
      | false ↦ record { uncommitted = u ∷ (released_from k near tried us).uncommitted; answers = (released_from k near tried us).answers; settles = [] }
      | true ↦ elim (eqb u.first.coordinator k) [
        | false ↦ record { uncommitted = u ∷ us; answers = []; settles = [] }
        | true ↦ record { uncommitted = sent u ∷ (released_from k u.number u.attempt us).uncommitted; answers = held_with near tried u ++ (released_from k u.number u.attempt us).answers; settles = [] }
      ]
    ]
