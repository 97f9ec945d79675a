-- The groups of tests that the walks ask are refusal 1's.
use Prim.Native.Nat.{ℕ, zero, suc, ◌+◌, ◌*◌, ◌≤◌}
use native.Mathlib.Omega.{arith}
use borrow.Author.Tests.{leb-true, le-leb, ltb-true, lt-ltb}
use mathlib.Core.Path.{◌≡◌, refl, sym, ap, ◌∙◌, subst}
use mathlib.Core.Bool.{Bool, true, false, ◌&&◌}
use mathlib.Core.List.{List, [], ◌∷◌, map}
use lib.Dec.{leb, ltb}
use lib.ListN.{length, get_or}
use Rattle.model.specs.Limits.{most_live}
use Rattle.model.specs.Transactions.{finished, Uncommitted, Waiting, undo_list, numbers, attempts, front}
use Rattle.model.specs.Refusals.{every, storable, behind, ready, sound}
use Rattle.model.specs.Demand.{Rises}
use Rattle.model.proofs.Chain.{all_map}
use Rattle.model.proofs.Tests.{both, and_left, and_right, every_append, every_first, every_rest}
use Rattle.model.proofs.Sound.{sound_parts, parts_sound}
use Rattle.record.specs.Words.{live_rows}
use Rattle.record.specs.View.{fragment_at, attempt_at, waiting_of, member_at, state_of, uncommitted_of, view_of, entries_from}
use Rattle.record.proofs.Queues.{length_waiting, length_uncommitted, rows_live, entries_all, numbers_rows, attempts_rows, all-rows, rows_all}
use Rattle.soundness.specs.Groups.{row_ok, live_from, front_ok, next_ok, follows_ok, behind_from, members_ok, undo_ok, groups}
use Rattle.soundness.proofs.Words.{same, finished_words, Run, member_state, next_one, one_next, next_run, next_ran, front_run, front_good, front_one, one_front}
use Rattle.model.specs.Parts.{All, cell_inside, SoundOne, Stored, bad_front, Ahead, Sound}
use Rattle.record.specs.Widths.{live_width, run_width}

abbrev Kept : ℕ → Uncommitted → Type 0
Kept ct u = storable ct u.first ≡ true

abbrev Tried : ℕ → Type 0
Tried a = 1 ≤ a

abbrev Ones : Uncommitted → Type 0
Ones u = u.ran ≤ 1

-- The live rows

module _ (live : List ℕ) (top ct : ℕ) where
  abbrev tries : ℕ → ℕ → List ℕ
  tries b n = map (λ (w : Waiting). w.attempt) (waiting_of live b n)

  abbrev rest : ℕ → ℕ → ℕ → Bool
  rest n b i = live_from top ct live (b + live_width) n (get_or live b 0) (1 + i)

  abbrev above : ℕ → ℕ → Bool
  above b low = ltb low (get_or live b 0)

  abbrev least : ℕ → Bool
  least b = leb 1 (attempt_at live b)

  abbrev most : ℕ → ℕ → Bool
  most b i = leb (attempt_at live b + i) most_live

  abbrev kept : ℕ → Bool
  kept b = storable ct (fragment_at live b)

  waiting_parts : (n b low i : ℕ) → live_from top ct live b n low i ≡ true
      → Rises low top (map (λ (w : Waiting). w.number) (waiting_of live b n)) × All (Stored ct) (waiting_of live b n) × All Tried (tries b n) × Ahead i (tries b n)
  unfolding live_from row_ok waiting_of
  waiting_parts zero b low i h = (leb-true low top h, tt, tt, tt)
  waiting_parts (suc n) b low i h =
      let r : ((above b low && (least b && most b i)) && kept b) ≡ true = and_left (row_ok ct live b low i) (rest n b i) h in
      let q : (above b low && (least b && most b i)) ≡ true = and_left (above b low && (least b && most b i)) (kept b) r in
      let t : (least b && most b i) ≡ true = and_right (above b low) (least b && most b i) q in
      let p = waiting_parts n (b + live_width) (get_or live b 0) (1 + i) (and_right (row_ok ct live b low i) (rest n b i) h) in (
        (ltb-true low (get_or live b 0) (and_left (above b low) (least b && most b i) q), p.0),
        (and_right (above b low && (least b && most b i)) (kept b) r, p.1),
        (leb-true 1 (attempt_at live b) (and_left (least b) (most b i) t), p.2),
        (leb-true (attempt_at live b + i) most_live (and_right (least b) (most b i) t), p.3),
      )

  parts_waiting : (n b low i : ℕ) → Rises low top (map (λ (w : Waiting). w.number) (waiting_of live b n)) → All (Stored ct) (waiting_of live b n) → All Tried (tries b n) → Ahead i (tries b n)
      → live_from top ct live b n low i ≡ true
  unfolding live_from row_ok waiting_of
  parts_waiting zero b low i h k t a = le-leb low top h
  parts_waiting (suc n) b low i h k t a =
      both (row_ok ct live b low i) (rest n b i)
      (both (above b low && (least b && most b i)) (kept b)
      (both (above b low) (least b && most b i) (lt-ltb low (get_or live b 0) h.0) (both (least b) (most b i) (le-leb 1 (attempt_at live b) t.0) (le-leb (attempt_at live b + i) most_live a.0))) k.0)
      (parts_waiting n (b + live_width) (get_or live b 0) (1 + i) h.1 k.1 t.1 a.1)

-- The uncommitted ones

module _ (live runs undo : List ℕ) (ct : ℕ) where
  behind_parts : (n b c d : ℕ) → behind_from live b runs c n ≡ true → leb (get_or runs (c + 1) 0) 2 ≡ true
      → All (Kept ct) (uncommitted_of live (b + live_width) runs (c + run_width) undo d n)
      → every (cell_inside ct) (undo_list (uncommitted_of live (b + live_width) runs (c + run_width) undo d n)) ≡ true
      → All (SoundOne ct) (uncommitted_of live (b + live_width) runs (c + run_width) undo d n)
      × All Ones (uncommitted_of live (b + live_width) runs (c + run_width) undo d n)
      × ((u : Uncommitted) → u.state ≡ state_of (get_or runs (c + 1) 0) → ready (u ∷ uncommitted_of live (b + live_width) runs (c + run_width) undo d n) ≡ true)
  unfolding behind_from uncommitted_of
  behind_parts zero b c d h s k m = (tt, tt, λ u e. refl)
  behind_parts (suc n) b c d h s k m =
      let b' : ℕ = b + live_width in
      let c' : ℕ = c + run_width in
      let d' : ℕ = d + 2 * get_or runs (c + run_width + 3) 0 in
      let one : Uncommitted = member_at live b' runs c' undo d in
      let more : List Uncommitted = uncommitted_of live (b' + live_width) runs (c' + run_width) undo d' n in
      let g : follows_ok live b runs c ≡ true = and_left (follows_ok live b runs c) (behind_from live b' runs c' n) h in
      let f : leb 1 (get_or runs (c + 1) 0) ≡ true = and_left (leb 1 (get_or runs (c + 1) 0)) (next_ok live b' runs c') g in
      let x : next_ok live b' runs c' ≡ true = and_right (leb 1 (get_or runs (c + 1) 0)) (next_ok live b' runs c') g in
      let r : Run 1 runs c' = next_run live b' runs c' undo d x in
      let here = next_one live b' runs c' undo d ct x k.0 (every_first (cell_inside ct) one.undo (undo_list more) m) in
      let p = behind_parts n b' c' d' (and_right (follows_ok live b runs c) (behind_from live b' runs c' n) h) r.state k.1 (every_rest (cell_inside ct) one.undo (undo_list more) m) in (
        (here, p.0),
        (next_ran live b' runs c' undo d x, p.1),
        λ u e. both (finished u.state) (ready (one ∷ more)) (ap finished e ∙ finished_words (get_or runs (c + 1) 0) ∙ both (leb 1 (get_or runs (c + 1) 0)) (leb (get_or runs (c + 1) 0) 2) f s) (p.2 one (member_state live b' runs c' undo d)),
      )

  parts_behind : (n b c d : ℕ)
      → All (SoundOne ct) (uncommitted_of live (b + live_width) runs (c + run_width) undo d n)
      → All Ones (uncommitted_of live (b + live_width) runs (c + run_width) undo d n)
      → (u : Uncommitted) → u.state ≡ state_of (get_or runs (c + 1) 0) → ready (u ∷ uncommitted_of live (b + live_width) runs (c + run_width) undo d n) ≡ true
      → behind_from live b runs c n ≡ true
  unfolding behind_from uncommitted_of
  parts_behind zero b c d s o u e h = refl
  parts_behind (suc n) b c d s o u e h =
      let b' : ℕ = b + live_width in
      let c' : ℕ = c + run_width in
      let d' : ℕ = d + 2 * get_or runs (c + run_width + 3) 0 in
      let one : Uncommitted = member_at live b' runs c' undo d in
      let more : List Uncommitted = uncommitted_of live (b' + live_width) runs (c' + run_width) undo d' n in
      let f : (leb 1 (get_or runs (c + 1) 0) && leb (get_or runs (c + 1) 0) 2) ≡ true = sym (finished_words (get_or runs (c + 1) 0)) ∙ sym (ap finished e) ∙ and_left (finished u.state) (ready (one ∷ more)) h in
      both (follows_ok live b runs c) (behind_from live b' runs c' n)
      (both (leb 1 (get_or runs (c + 1) 0)) (next_ok live b' runs c') (and_left (leb 1 (get_or runs (c + 1) 0)) (leb (get_or runs (c + 1) 0) 2) f) (one_next live b' runs c' undo d ct s.0 o.0))
      (parts_behind n b' c' d' s.1 o.1 one (member_state live b' runs c' undo d) (and_right (finished u.state) (ready (one ∷ more)) h))

  members_parts : (n : ℕ) → members_ok live runs n ≡ true
      → All (Kept ct) (uncommitted_of live 0 runs 0 undo 0 n)
      → every (cell_inside ct) (undo_list (uncommitted_of live 0 runs 0 undo 0 n)) ≡ true
      → All (SoundOne ct) (uncommitted_of live 0 runs 0 undo 0 n)
      × All Ones (behind (uncommitted_of live 0 runs 0 undo 0 n))
      × (front bad_front (uncommitted_of live 0 runs 0 undo 0 n) ≡ false)
      × (ready (uncommitted_of live 0 runs 0 undo 0 n) ≡ true)
  unfolding members_ok uncommitted_of
  members_parts zero h k m = (tt, tt, refl, refl)
  members_parts (suc n) h k m =
      let d' : ℕ = 0 + 2 * get_or runs 3 0 in
      let one : Uncommitted = member_at live 0 runs 0 undo 0 in
      let more : List Uncommitted = uncommitted_of live live_width runs run_width undo d' n in
      let f : front_ok live runs ≡ true = and_left (front_ok live runs) (behind_from live 0 runs 0 n) h in
      let p = behind_parts n 0 0 d' (and_right (front_ok live runs) (behind_from live 0 runs 0 n) h) (front_run live runs undo f).state k.1 (every_rest (cell_inside ct) one.undo (undo_list more) m) in
      ((front_one live runs undo ct f k.0 (every_first (cell_inside ct) one.undo (undo_list more) m), p.0), p.1, front_good live runs undo f, p.2 one (member_state live 0 runs 0 undo 0))

  parts_members : (n : ℕ)
      → All (SoundOne ct) (uncommitted_of live 0 runs 0 undo 0 n)
      → All Ones (behind (uncommitted_of live 0 runs 0 undo 0 n))
      → front bad_front (uncommitted_of live 0 runs 0 undo 0 n) ≡ false
      → ready (uncommitted_of live 0 runs 0 undo 0 n) ≡ true
      → members_ok live runs n ≡ true
  unfolding members_ok uncommitted_of
  parts_members zero s o f r = refl
  parts_members (suc n) s o f r =
      both (front_ok live runs) (behind_from live 0 runs 0 n) (one_front live runs undo ct s.0 f)
      (parts_behind n 0 0 (0 + 2 * get_or runs 3 0) s.1 o (member_at live 0 runs 0 undo 0) (member_state live 0 runs 0 undo 0) r)

  inside_each : (us : List Uncommitted) → All (SoundOne ct) us → every (cell_inside ct) (undo_list us) ≡ true
  inside_each [] h = refl
  inside_each (u ∷ us) h = every_append (cell_inside ct) u.undo (undo_list us) h.0.inside (inside_each us h.1)

-- The whole

module _ (count largest uncommitted waiting : ℕ) (live runs undo : List ℕ) where
  abbrev us : List Uncommitted
  us = uncommitted_of live 0 runs 0 undo 0 uncommitted

  abbrev ws : List Waiting
  ws = waiting_of live (live_width * uncommitted) waiting

  abbrev a1 : Bool
  a1 = leb count 4096

  abbrev a2 : Bool
  a2 = leb uncommitted 16

  abbrev a3 : Bool
  a3 = leb (uncommitted + waiting) 64

  abbrev a4 : Bool
  a4 = live_from largest count live 0 (uncommitted + waiting) 0 0

  abbrev a5 : Bool
  a5 = members_ok live runs uncommitted

  abbrev a6 : Bool
  a6 = undo_ok count undo 0 (entries_from runs 0 uncommitted)

  -- both queues are one list of rows
  rows : live_rows us ws ≡ waiting_of live 0 (uncommitted + waiting)
  rows = rows_live live runs undo 0 0 0 uncommitted (live_width * uncommitted) waiting (omega arith)

  numbered : numbers us ws ≡ map (λ (x : Waiting). x.number) (waiting_of live 0 (uncommitted + waiting))
  numbered = numbers_rows us ws ∙ ap (map (λ (x : Waiting). x.number)) rows

  tried : attempts us ws ≡ map (λ (x : Waiting). x.attempt) (waiting_of live 0 (uncommitted + waiting))
  tried = attempts_rows us ws ∙ ap (map (λ (x : Waiting). x.attempt)) rows

  live_parts : a4 ≡ true → Rises 0 largest (numbers us ws) × All (Kept count) us × All (Stored count) ws × All Tried (attempts us ws) × Ahead 0 (attempts us ws)
  live_parts h =
      let p = waiting_parts live largest count (uncommitted + waiting) 0 0 0 h in
      let q = all-rows (Stored count) us ws (subst (All (Stored count)) (sym rows) p.1) in
      (subst (Rises 0 largest) (sym numbered) p.0, q.0, q.1, subst (All Tried) (sym tried) p.2, subst (Ahead 0) (sym tried) p.3)

  parts_live : Rises 0 largest (numbers us ws) → All (Kept count) us → All (Stored count) ws → All Tried (attempts us ws) → Ahead 0 (attempts us ws) → a4 ≡ true
  parts_live h k m t a =
      parts_waiting live largest count (uncommitted + waiting) 0 0 0 (subst (Rises 0 largest) numbered h) (subst (All (Stored count)) rows (rows_all (Stored count) us ws k m)) (subst (All Tried) tried t) (subst (Ahead 0) tried a)

  to_sound : groups count largest uncommitted waiting live runs undo ≡ true → Sound count largest us ws
  unfolding groups undo_ok
  to_sound h =
      let h5 : ((((a1 && a2) && a3) && a4) && a5) ≡ true = and_left ((((a1 && a2) && a3) && a4) && a5) a6 h in
      let h4 : (((a1 && a2) && a3) && a4) ≡ true = and_left (((a1 && a2) && a3) && a4) a5 h5 in
      let h3 : ((a1 && a2) && a3) ≡ true = and_left ((a1 && a2) && a3) a4 h4 in
      let h2 : (a1 && a2) ≡ true = and_left (a1 && a2) a3 h3 in
      let l = live_parts (and_right ((a1 && a2) && a3) a4 h4) in
      let u : every (cell_inside count) (undo_list us) ≡ true = ap (every (cell_inside count)) (entries_all live runs undo 0 0 0 uncommitted) ∙ and_right ((((a1 && a2) && a3) && a4) && a5) a6 h in
      let m = members_parts live runs undo count uncommitted (and_right (((a1 && a2) && a3) && a4) a5 h5) l.1 u in
      let lu : length us ≡ uncommitted = length_uncommitted live runs undo 0 0 0 uncommitted in
      let lw : length ws ≡ waiting = length_waiting live (live_width * uncommitted) waiting in
      record {
        cells = leb-true count 4096 (and_left a1 a2 h2);
        sixteen = omega (arith, leb-true uncommitted 16 (and_right a1 a2 h2));
        sixty_four = omega (arith, leb-true (uncommitted + waiting) 64 (and_right (a1 && a2) a3 h3));
        rises = l.0;
        tried = l.3;
        ahead = l.4;
        each = m.0;
        waiting = l.2;
        ones = m.1;
        front = m.2;
        ready = m.3;
      }

  of_sound : Sound count largest us ws → groups count largest uncommitted waiting live runs undo ≡ true
  unfolding groups undo_ok
  of_sound s =
      let lu : length us ≡ uncommitted = length_uncommitted live runs undo 0 0 0 uncommitted in
      let lw : length ws ≡ waiting = length_waiting live (live_width * uncommitted) waiting in
      let kept : All (Kept count) us = all_map (SoundOne count) (Kept count) (λ u o. o.stored) us s.each in
      both ((((a1 && a2) && a3) && a4) && a5) a6
      (both (((a1 && a2) && a3) && a4) a5
      (both ((a1 && a2) && a3) a4
      (both (a1 && a2) a3
      (both a1 a2 (le-leb count 4096 s.cells) (le-leb uncommitted 16 (omega (arith, s.sixteen))))
      (le-leb (uncommitted + waiting) 64 (omega (arith, s.sixty_four))))
      (parts_live s.rises kept s.waiting s.tried s.ahead))
      (parts_members live runs undo count uncommitted s.each s.ones s.front s.ready))
      (sym (ap (every (cell_inside count)) (entries_all live runs undo 0 0 0 uncommitted)) ∙ inside_each live runs undo count us s.each)

  pub sound_groups : sound (view_of count largest uncommitted waiting live runs undo) ≡ groups count largest uncommitted waiting live runs undo
  unfolding view_of
  sound_groups =
      same (sound (view_of count largest uncommitted waiting live runs undo)) (groups count largest uncommitted waiting live runs undo)
      (λ h. of_sound (sound_parts (view_of count largest uncommitted waiting live runs undo) h))
      (λ h. parts_sound (view_of count largest uncommitted waiting live runs undo) (to_sound h))

  -- the same from the groups
  pub groups_sound : groups count largest uncommitted waiting live runs undo ≡ sound (view_of count largest uncommitted waiting live runs undo)
  groups_sound = sym sound_groups
