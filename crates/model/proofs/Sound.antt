-- Refusal 1 by parts: a sound record, member by member, and the test of it both ways.
use Prim.Native.Nat.{ℕ, ◌+◌, ◌*◌, ◌-◌, ◌≤◌}
use native.Mathlib.Omega.{arith}
use borrow.Author.Tests.{ltb-true, leb-true, lt-ltb, le-leb, not-true}
use mathlib.Core.Path.{◌≡◌, refl, ap}
use mathlib.Core.Bool.{Bool, true, not, ◌&&◌, ◌||◌}
use mathlib.Core.List.{List, [], ◌∷◌}
use lib.Dec.{leb, ltb}
use lib.ListN.{length, length-append}
use Rattle.model.specs.Limits.{most_cells, most_fragments, depth, most_live, most_entries}
use Rattle.model.specs.Operations.{multi}
use Rattle.model.specs.Transactions.{holds, Uncommitted, Waiting, Engine, undo_list, numbers, attempts, front}
use Rattle.model.specs.Refusals.{every, rising, ahead_fits, storable, behind, fits, is_state, is_reply, clauses, sound}
use Rattle.model.specs.Demand.{Rises}
use Rattle.model.proofs.Chain.{all_map}
use Rattle.model.proofs.Tests.{both, and_left, and_right, every-all, all-every, every_append, every_first, every_rest}
use Rattle.model.specs.Parts.{All, cell_inside, SoundOne, bad_front, Ahead, Sound, SoundEngine}

-- From the test

rising_rises : (n top : ℕ) (l : List ℕ) → rising n top l ≡ true → Rises n top l
rising_rises n top [] h = leb-true n top h
rising_rises n top (m ∷ l) h = (ltb-true n m (and_left (ltb n m) (rising m top l) h), rising_rises m top l (and_right (ltb n m) (rising m top l) h))

rises_rising : (n top : ℕ) (l : List ℕ) → Rises n top l → rising n top l ≡ true
rises_rising n top [] h = le-leb n top h
rises_rising n top (m ∷ l) h = both (ltb n m) (rising m top l) (lt-ltb n m h.0) (rises_rising m top l h.1)

fits_ahead : (i : ℕ) (l : List ℕ) → ahead_fits i l ≡ true → Ahead i l
fits_ahead i [] h = tt
fits_ahead i (a ∷ l) h = (leb-true (a + i) most_live (and_left (leb (a + i) most_live) (ahead_fits (1 + i) l) h), fits_ahead (1 + i) l (and_right (leb (a + i) most_live) (ahead_fits (1 + i) l) h))

ahead_fits_lem : (i : ℕ) (l : List ℕ) → Ahead i l → ahead_fits i l ≡ true
ahead_fits_lem i [] h = refl
ahead_fits_lem i (a ∷ l) h = both (leb (a + i) most_live) (ahead_fits (1 + i) l) (le-leb (a + i) most_live h.0) (ahead_fits_lem (1 + i) l h.1)

module _ (ct : ℕ) where
  each_of : (us : List Uncommitted)
      → All (λ (u : Uncommitted). leb u.ran most_fragments ≡ true) us
      → All (λ (u : Uncommitted). storable ct u.first ≡ true) us
      → All (λ (u : Uncommitted). leb 1 u.ran ≡ true) us
      → All (λ (u : Uncommitted). (multi u.first || holds u.reply) ≡ true) us
      → All (λ (u : Uncommitted). fits u.reply ≡ true) us
      → every (cell_inside ct) (undo_list us) ≡ true
      → All (λ (u : Uncommitted). leb (length u.undo) (8 * u.ran) ≡ true) us
      → All (λ (u : Uncommitted). (is_state u.state && is_reply u.reply) ≡ true) us
      → All (SoundOne ct) us
  each_of [] a b c d e f g h = tt
  each_of (u ∷ us) a b c d e f g h = (
    record {
      eight = leb-true u.ran most_fragments a.0;
      stored = b.0;
      some = leb-true 1 u.ran c.0;
      held = d.0;
      fits = e.0;
      inside = every_first (cell_inside ct) u.undo (undo_list us) f;
      few = leb-true (length u.undo) (8 * u.ran) g.0;
      read = h.0;
    },
    each_of us a.1 b.1 c.1 d.1 e.1 (every_rest (cell_inside ct) u.undo (undo_list us) f) g.1 h.1,
  )

  inside_all : (us : List Uncommitted) → All (SoundOne ct) us → every (cell_inside ct) (undo_list us) ≡ true
  inside_all [] h = refl
  inside_all (u ∷ us) h = every_append (cell_inside ct) u.undo (undo_list us) h.0.inside (inside_all us h.1)

  -- a clause for all, from a field of each
  clause : (p : Uncommitted → Bool) → ((u : Uncommitted) → SoundOne ct u → p u ≡ true) → (us : List Uncommitted) → All (SoundOne ct) us → every p us ≡ true
  clause p f us h = all-every p us (all_map (SoundOne ct) (λ (u : Uncommitted). p u ≡ true) f us h)

  -- "at most 64 for the front and 8 for each other, 184 in all"
  entries_behind : (us : List Uncommitted) → All (SoundOne ct) us → All (λ (u : Uncommitted). u.ran ≤ 1) us → length (undo_list us) ≤ 8 * length us
  entries_behind [] h k = omega arith
  entries_behind (u ∷ us) h k = omega (arith, length-append u.undo (undo_list us), entries_behind us h.1 k.1, h.0.few, k.0)

  pub entries_most : (us : List Uncommitted) → length us ≤ depth → All (SoundOne ct) us → All (λ (u : Uncommitted). u.ran ≤ 1) (behind us) → length (undo_list us) ≤ most_entries
  entries_most [] l h k = omega arith
  entries_most (u ∷ us) l h k = omega (arith, length-append u.undo (undo_list us), entries_behind us h.1 k, h.0.few, h.0.eight)

-- each uncommitted one that is still to come may bring eight more
pub entries_depth : (ct top : ℕ) (us : List Uncommitted) (ws : List Waiting) → Sound ct top us ws → length (undo_list us) + 8 * (16 - length us) ≤ most_entries
entries_depth ct top [] ws s = omega arith
entries_depth ct top (u ∷ us) ws s = omega (arith, length-append u.undo (undo_list us), entries_behind ct us s.each.1 s.ones, s.each.0.few, s.each.0.eight, s.sixteen)

-- a clause is found among them by what it says
pub sound_parts : (e : Engine) → sound e ≡ true → SoundEngine e
unfolding sound clauses
sound_parts e h =
    let c = every-all (λ (b : Bool). b) (clauses e) h in
    record {
      cells = leb-true e.count most_cells (search c);
      sixteen = leb-true (length e.uncommitted) depth (search c);
      sixty_four = leb-true (length e.uncommitted + length e.waiting) most_live (search c);
      rises = rising_rises 0 e.largest (numbers e.uncommitted e.waiting) (search c);
      tried = all_map (λ (a : ℕ). leb 1 a ≡ true) (λ (a : ℕ). 1 ≤ a) (λ a k. leb-true 1 a k) (attempts e.uncommitted e.waiting) (every-all _ (attempts e.uncommitted e.waiting) (search c));
      ahead = fits_ahead 0 (attempts e.uncommitted e.waiting) (search c);
      each = each_of e.count e.uncommitted
          (every-all _ e.uncommitted (search c))
          (every-all _ e.uncommitted (search c))
          (every-all _ e.uncommitted (search c))
          (every-all _ e.uncommitted (search c))
          (every-all _ e.uncommitted (search c))
          (search c)
          (every-all _ e.uncommitted (search c))
          (every-all _ e.uncommitted (search c));
      waiting = every-all _ e.waiting (search c);
      ones = all_map (λ (u : Uncommitted). leb u.ran 1 ≡ true) (λ (u : Uncommitted). u.ran ≤ 1) (λ u k. leb-true u.ran 1 k) (behind e.uncommitted)
          (every-all _ (behind e.uncommitted) (search c));
      front = not-true (front bad_front e.uncommitted) (search c);
      ready = search c;
    }

-- To the test: the clauses in their order, one below the other

infixr 5 ◌also◌
◌also◌ : {a b : Bool} → a ≡ true → b ≡ true → (a && b) ≡ true
◌also◌ {a} {b} h k = both a b h k

pub parts_sound : (e : Engine) → SoundEngine e → sound e ≡ true
unfolding sound clauses
parts_sound e s =
    le-leb e.count most_cells s.cells
    also le-leb (length e.uncommitted) depth s.sixteen
    also le-leb (length e.uncommitted + length e.waiting) most_live s.sixty_four
    also le-leb (length (undo_list e.uncommitted)) most_entries (entries_most e.count e.uncommitted s.sixteen s.each s.ones)
    also clause e.count (λ (u : Uncommitted). leb u.ran most_fragments) (λ u o. le-leb u.ran most_fragments o.eight) e.uncommitted s.each
    also rises_rising 0 e.largest (numbers e.uncommitted e.waiting) s.rises
    also clause e.count (λ (u : Uncommitted). storable e.count u.first) (λ u o. o.stored) e.uncommitted s.each
    also all-every (λ (w : Waiting). storable e.count w.fragment) e.waiting s.waiting
    also clause e.count (λ (u : Uncommitted). leb 1 u.ran) (λ u o. le-leb 1 u.ran o.some) e.uncommitted s.each
    also all-every (λ (u : Uncommitted). leb u.ran 1) (behind e.uncommitted) (all_map (λ (u : Uncommitted). u.ran ≤ 1) (λ (u : Uncommitted). leb u.ran 1 ≡ true) (λ u k. le-leb u.ran 1 k) (behind e.uncommitted) s.ones)
    also ap not s.front
    also clause e.count (λ (u : Uncommitted). multi u.first || holds u.reply) (λ u o. o.held) e.uncommitted s.each
    also s.ready
    also clause e.count (λ (u : Uncommitted). fits u.reply) (λ u o. o.fits) e.uncommitted s.each
    also inside_all e.count e.uncommitted s.each
    also clause e.count (λ (u : Uncommitted). leb (length u.undo) (8 * u.ran)) (λ u o. le-leb (length u.undo) (8 * u.ran) o.few) e.uncommitted s.each
    also all-every (λ (a : ℕ). leb 1 a) (attempts e.uncommitted e.waiting) (all_map (λ (a : ℕ). 1 ≤ a) (λ (a : ℕ). leb 1 a ≡ true) (λ a k. le-leb 1 a k) (attempts e.uncommitted e.waiting) s.tried)
    also ahead_fits_lem 0 (attempts e.uncommitted e.waiting) s.ahead
    also clause e.count (λ (u : Uncommitted). is_state u.state && is_reply u.reply) (λ u o. o.read) e.uncommitted s.each
    also refl
