-- Laws of a sound record's rows: what tidying leaves is what its members mean.
use Prim.Native.Nat.{ℕ, zero, suc, ◌+◌, ◌*◌, ◌-◌, min, ◌≤◌, ◌<◌}
use native.Mathlib.Omega.{arith}
use native.Mathlib.Nat.{add_assoc}
use borrow.Author.Tests.{leb-true, le-leb, eqb-true}
use mathlib.Core.Path.{◌≡◌, refl, sym, ap, ◌∙◌}
use mathlib.Core.Bool.{Bool, true, false, ◌&&◌, true≢false}
use mathlib.Core.List.{List, [], ◌∷◌, ◌++◌, append_assoc}
use lib.Dec.{eqb, leb}
use lib.ListN.{length, get_or, set, take, replicate, length-replicate, length-set, replicate-append-replicate}
use lib.Seq.{sets, length-sets, get_or-set_same, ext_get_or, get_or-take, length-take-le}
use Rattle.model.specs.Operations.{Outcome, pick}
use Rattle.model.specs.Transactions.{Running, Finished, Failed, NoState, Reply, Held, Sent, NoReply, Uncommitted, Waiting, undo_list}
use Rattle.model.specs.Refusals.{is_state, is_reply, fits, sound}
use Rattle.model.proofs.Tests.{and_left, and_right}
use Rattle.model.proofs.Sound.{sound_parts, entries_most}
use Rattle.operations.specs.Laid.{padded, flat, entries_of}
use Rattle.record.specs.Words.{row_words, all_rows, state_word, reply_word, held_outcome, outcome_words, run_words, all_runs, live_rows, over, cleared}
use Rattle.record.specs.View.{fragment_at, attempt_at, waiting_of, numbers_from, zeros, state_of, reply_of, member_at, uncommitted_of, view_of}
use Rattle.record.proofs.Rows.{length-numbers, numbers_add, numbers_same, get_or-numbers, get_d_sets_before, get_or-sets_after, get_or-padded, get_or-behind, over_of, over_own, over_twice, length-cleared}
use Rattle.record.proofs.Back.{length-flat}
use Rattle.record.proofs.Queues.{length_waiting, length_entries, length_uncommitted, rows_live, entries_all}
use Rattle.tidy.specs.Runs.{used, tidy_run, tidy_runs, entries_from, few_runs}
use Rattle.tidy.specs.Tidied.{Canonical}
use Rattle.tidy.proofs.Loops.{used_sent, used_held, used_most}
use Rattle.model.specs.Parts.{All, SoundOne, Sound}
use Rattle.record.specs.Widths.{live_width, run_width, live_length, runs_length, undo_length}

-- Numbers of a row

numbers_take : (l : List ℕ) (n : ℕ) → n ≤ length l → take n l ≡ numbers_from l 0 n
numbers_take l n h =
    ext_get_or 0 (take n l) (numbers_from l 0 n) (length-take-le n l h ∙ sym (length-numbers l 0 n))
    (λ x k. (let y : x < n = omega (arith, length-take-le n l h) in let z : x ≡ 0 + x = omega arith in
    get_or-take n l x 0 y ∙ ap (λ (q : ℕ). get_or l q 0) z ∙ sym (get_or-numbers l 0 n x y)))

-- The live row

row_at_lem : (l : List ℕ) (b : ℕ) → row_words (get_or l b 0) (attempt_at l b) (fragment_at l b) ≡ numbers_from l b live_width
unfolding row_words fragment_at numbers_from
row_at_lem l b = simp add_assoc

rows_at : (l : List ℕ) (b n : ℕ) → all_rows (waiting_of l b n) ≡ numbers_from l b (live_width * n)
unfolding all_rows waiting_of numbers_from
rows_at l b zero = let z : 0 ≡ live_width * 0 = omega arith in ap (numbers_from l b) z
rows_at l b (suc n) =
    let z : live_width * suc n ≡ live_width + live_width * n = omega arith in
    (λ i. row_at_lem l b i ++ rows_at l (b + live_width) n i) ∙ sym (numbers_add l b live_width (live_width * n)) ∙ ap (numbers_from l b) (sym z)

-- Entries

flat_at : (l : List ℕ) (b n : ℕ) → flat (entries_of l b n) ≡ numbers_from l b (2 * n)
unfolding entries_of numbers_from
flat_at l b zero = let z : 0 ≡ 2 * 0 = omega arith in ap (numbers_from l b) z
flat_at l b (suc n) =
    let z : suc (suc (2 * n)) ≡ 2 * suc n = omega arith in
    let y : b + 2 ≡ b + 1 + 1 = omega arith in
    ap {B = List ℕ} (λ (x : List ℕ). get_or l b 0 ∷ get_or l (b + 1) 0 ∷ x) (flat_at l (b + 2) n ∙ ap (λ (x : ℕ). numbers_from l x (2 * n)) y) ∙ ap (numbers_from l b) z

-- Stores into a row

numbers_sets : (l : List ℕ) (i : ℕ) (ws : List ℕ) → i + length ws ≤ length l → numbers_from (sets l i ws) i (length ws) ≡ ws
unfolding numbers_from
numbers_sets l i [] h = refl
numbers_sets l i (a ∷ ws) h =
    let row : List ℕ = sets (set l i a) (suc i) ws in
    let first : get_or row i 0 ≡ a = get_d_sets_before (set l i a) (suc i) ws i (omega arith) ∙ get_or-set_same l i a 0 (omega arith) in
    let s : i + 1 ≡ suc i = omega arith in
    let rest : numbers_from row (i + 1) (length ws) ≡ ws = ap (λ (x : ℕ). numbers_from row x (length ws)) s ∙ numbers_sets (set l i a) (suc i) ws (omega (arith, length-set l i a)) in
    λ j. first j ∷ rest j

zeros_at : (b n : ℕ) → numbers_from (replicate run_width 0) b n ≡ zeros n
unfolding numbers_from padded
zeros_at b zero = refl
zeros_at b (suc n) = λ j. get_or-padded run_width [] b j ∷ zeros_at (b + 1) n j

-- One run tidied

module _ (row : List ℕ) (c : ℕ) where
  blanks_length : length (numbers_from (replicate run_width 0) 0 (run_width - used row c)) ≡ run_width - used row c
  blanks_length = length-numbers (replicate run_width 0) 0 (run_width - used row c)

  run_length : length (tidy_run row c) ≡ length row
  unfolding tidy_run
  run_length = length-sets row (c + used row c) (numbers_from (replicate run_width 0) 0 (run_width - used row c))

  run_before : (x : ℕ) → x < c → get_or (tidy_run row c) x 0 ≡ get_or row x 0
  unfolding tidy_run
  run_before x h = get_d_sets_before row (c + used row c) (numbers_from (replicate run_width 0) 0 (run_width - used row c)) x (omega arith)

  run_after : (x : ℕ) → c + run_width ≤ x → get_or (tidy_run row c) x 0 ≡ get_or row x 0
  unfolding tidy_run
  run_after x h = get_or-sets_after row (c + used row c) (numbers_from (replicate run_width 0) 0 (run_width - used row c)) x (omega (arith, blanks_length, used_most row c))

  run_numbers : c + run_width ≤ length row → numbers_from (tidy_run row c) c run_width ≡ numbers_from row c (used row c) ++ zeros (run_width - used row c)
  unfolding tidy_run
  run_numbers h =
      let k : ℕ = used row c in
      let z : List ℕ = numbers_from (replicate run_width 0) 0 (run_width - k) in
      let new : List ℕ = sets row (c + k) z in
      let s : run_width ≡ k + (run_width - k) = omega (arith, used_most row c) in
      let first : numbers_from new c k ≡ numbers_from row c k = numbers_same new row c c k (λ x hx. get_d_sets_before row (c + k) z (c + x) (omega arith)) in
      let rest : numbers_from new (c + k) (run_width - k) ≡ zeros (run_width - k) =
      ap (numbers_from new (c + k)) (sym blanks_length) ∙ numbers_sets row (c + k) z (omega (arith, blanks_length, used_most row c)) ∙ zeros_at 0 (run_width - k) in
      ap (numbers_from new c) s ∙ numbers_add new c k (run_width - k) ∙ (λ j. first j ++ rest j)

-- What a sound member's run holds

state_word_lem : (n : ℕ) → is_state (state_of n) ≡ true → state_word (state_of n) ≡ n
state_word_lem n = go (eqb n 0) (eqb n 1) (eqb n 2) refl refl refl
  where
    go : (a b c : Bool) → eqb n 0 ≡ a → eqb n 1 ≡ b → eqb n 2 ≡ c → is_state (pick a Running (pick b Finished (pick c Failed NoState))) ≡ true → state_word (pick a Running (pick b Finished (pick c Failed NoState))) ≡ n
    go true b c ea eb ec h = sym (eqb-true n 0 ea)
    go false true c ea eb ec h = sym (eqb-true n 1 eb)
    go false false true ea eb ec h = sym (eqb-true n 2 ec)
    go false false false ea eb ec h = absurd (true≢false (sym h))

-- numbers in eight places, and two zeros
numbers_end : (ns : List ℕ) (n : ℕ) → length ns ≡ n → n ≤ 8 → padded 8 ns ++ (0 ∷ 0 ∷ []) ≡ ns ++ zeros (run_width - (6 + n))
unfolding padded
numbers_end ns n l h =
    let m : 8 - length ns + 2 ≡ run_width - (6 + n) = omega arith in
    append_assoc ns (zeros (8 - length ns)) (zeros 2) ∙ ap (λ (x : List ℕ). ns ++ x) (replicate-append-replicate (8 - length ns) 2 0 ∙ ap zeros m)

module _ (live : List ℕ) (b : ℕ) (runs : List ℕ) (c : ℕ) (undo : List ℕ) (d : ℕ) where
  abbrev held : Outcome
  held = record { place = get_or runs (c + 4) 0; numbers = numbers_from runs (c + 6) (get_or runs (c + 5) 0) }

  abbrev before : Reply → List ℕ
  before r = get_or runs c 0 ∷ state_word (state_of (get_or runs (c + 1) 0)) ∷ reply_word r ∷ length (entries_of undo d (get_or runs (c + 3) 0)) ∷ outcome_words (held_outcome r) ++ (0 ∷ 0 ∷ [])

  abbrev after : ℕ → List ℕ
  after k = numbers_from runs c k ++ zeros (run_width - k)

  two : c + 2 ≡ c + 1 + 1
  two = omega arith

  three : c + 3 ≡ c + 1 + 1 + 1
  three = omega arith

  four : c + 4 ≡ c + 1 + 1 + 1 + 1
  four = omega arith

  five : c + 5 ≡ c + 1 + 1 + 1 + 1 + 1
  five = omega arith

  entries : length (entries_of undo d (get_or runs (c + 3) 0)) ≡ get_or runs (c + 1 + 1 + 1) 0
  entries = length_entries undo d (get_or runs (c + 3) 0) ∙ ap (λ (x : ℕ). get_or runs x 0) three

  sent_words : is_state (state_of (get_or runs (c + 1) 0)) ≡ true → get_or runs (c + 2) 0 ≡ 0 → before Sent ≡ after (used runs c)
  unfolding numbers_from padded
  sent_words hs e =
      let s : state_word (state_of (get_or runs (c + 1) 0)) ≡ get_or runs (c + 1) 0 = state_word_lem (get_or runs (c + 1) 0) hs in
      let r : 0 ≡ get_or runs (c + 1 + 1) 0 = sym e ∙ ap (λ (x : ℕ). get_or runs x 0) two in
      (λ j. get_or runs c 0 ∷ s j ∷ r j ∷ entries j ∷ zeros (run_width - 4)) ∙ ap after (sym (used_sent runs c (λ h. omega arith)))

  held_words : is_state (state_of (get_or runs (c + 1) 0)) ≡ true → get_or runs (c + 2) 0 ≡ 1 → get_or runs (c + 5) 0 ≤ 8 → before (Held held) ≡ after (used runs c)
  unfolding numbers_from padded
  held_words hs e h =
      let n : ℕ = get_or runs (c + 5) 0 in
      let ns : List ℕ = numbers_from runs (c + 6) n in
      let l : length ns ≡ n = length-numbers runs (c + 6) n in
      let s : state_word (state_of (get_or runs (c + 1) 0)) ≡ get_or runs (c + 1) 0 = state_word_lem (get_or runs (c + 1) 0) hs in
      let r : 1 ≡ get_or runs (c + 1 + 1) 0 = sym e ∙ ap (λ (x : ℕ). get_or runs x 0) two in
      let p : get_or runs (c + 4) 0 ≡ get_or runs (c + 1 + 1 + 1 + 1) 0 = ap (λ (x : ℕ). get_or runs x 0) four in
      let q : length ns ≡ get_or runs (c + 1 + 1 + 1 + 1 + 1) 0 = l ∙ ap (λ (x : ℕ). get_or runs x 0) five in
      let t : padded 8 ns ++ (0 ∷ 0 ∷ []) ≡ ns ++ zeros (run_width - (6 + n)) = numbers_end ns n l h in
      let u : used runs c ≡ 6 + n = used_held runs c e ∙ omega arith in
      let split : numbers_from runs c 6 ++ (ns ++ zeros (run_width - (6 + n))) ≡ after (6 + n) =
      sym (append_assoc (numbers_from runs c 6) ns (zeros (run_width - (6 + n)))) ∙ ap (λ (x : List ℕ). x ++ zeros (run_width - (6 + n))) (sym (numbers_add runs c 6 n)) in
      (λ j. get_or runs c 0 ∷ s j ∷ r j ∷ entries j ∷ p j ∷ q j ∷ t j) ∙ split ∙ ap after (sym u)

  member_words : (ct : ℕ) → SoundOne ct (member_at live b runs c undo d) → run_words (member_at live b runs c undo d) ≡ numbers_from runs c (used runs c) ++ zeros (run_width - used runs c)
  unfolding run_words member_at
  member_words ct o = go (eqb w 0) (eqb w 1) refl refl (and_right (is_state (state_of (get_or runs (c + 1) 0))) (is_reply (reply_of w held)) o.read) o.fits
    where
      w : ℕ
      w = get_or runs (c + 2) 0

      hs : is_state (state_of (get_or runs (c + 1) 0)) ≡ true
      hs = and_left (is_state (state_of (get_or runs (c + 1) 0))) (is_reply (reply_of w held)) o.read

      go : (x y : Bool) → eqb w 0 ≡ x → eqb w 1 ≡ y → is_reply (pick x Sent (pick y (Held held) NoReply)) ≡ true → fits (pick x Sent (pick y (Held held) NoReply)) ≡ true
          → before (pick x Sent (pick y (Held held) NoReply)) ≡ after (used runs c)
      go true y ex ey hr hf = sent_words hs (eqb-true w 0 ex)
      go false true ex ey hr hf =
          let k : length (numbers_from runs (c + 6) (get_or runs (c + 5) 0)) ≤ 8 = leb-true _ 8 (and_left (leb (length (numbers_from runs (c + 6) (get_or runs (c + 5) 0))) 8) (leb (get_or runs (c + 4) 0) 8) hf) in
          held_words hs (eqb-true w 1 ey) (omega (arith, k, length-numbers runs (c + 6) (get_or runs (c + 5) 0)))
      go false false ex ey hr hf = absurd (true≢false (sym hr))

-- All runs tidied

runs_before : (row : List ℕ) (c n x : ℕ) → x < c → get_or (tidy_runs row c n) x 0 ≡ get_or row x 0
unfolding tidy_runs
runs_before row c zero x h = refl
runs_before row c (suc n) x h = runs_before (tidy_run row c) (c + run_width) n x (omega arith) ∙ run_before row c x h

runs_after : (row : List ℕ) (c n x : ℕ) → c + run_width * n ≤ x → get_or (tidy_runs row c n) x 0 ≡ get_or row x 0
unfolding tidy_runs
runs_after row c zero x h = refl
runs_after row c (suc n) x h = runs_after (tidy_run row c) (c + run_width) n x (omega arith) ∙ run_after row c x (omega arith)

runs_length_lem : (row : List ℕ) (c n : ℕ) → length (tidy_runs row c n) ≡ length row
unfolding tidy_runs
runs_length_lem row c zero = refl
runs_length_lem row c (suc n) = runs_length_lem (tidy_run row c) (c + run_width) n ∙ run_length row c

-- they agree from c on
abbrev Same : List ℕ → List ℕ → ℕ → Type 0
Same row runs c = (x : ℕ) → c ≤ x → get_or row x 0 ≡ get_or runs x 0

used-same : (row runs : List ℕ) (c : ℕ) → Same row runs c → used row c ≡ used runs c
unfolding used
used-same row runs c f =
    let a : get_or row (c + 2) 0 ≡ get_or runs (c + 2) 0 = f (c + 2) (omega arith) in
    let b : get_or row (c + 5) 0 ≡ get_or runs (c + 5) 0 = f (c + 5) (omega arith) in
    λ j. pick (eqb (a j) 1) (6 + min (b j) 8) 4

module _ (ct : ℕ) (live runs undo : List ℕ) where
  runs_at_lem : (row : List ℕ) (b c d n : ℕ) → Same row runs c → c + run_width * n ≤ length row → All (SoundOne ct) (uncommitted_of live b runs c undo d n)
      → numbers_from (tidy_runs row c n) c (run_width * n) ≡ all_runs (uncommitted_of live b runs c undo d n)
  unfolding tidy_runs numbers_from all_runs uncommitted_of
  runs_at_lem row b c d zero f h s = let z : run_width * 0 ≡ 0 = omega arith in ap (numbers_from row c) z
  runs_at_lem row b c d (suc n) f h s =
      let z : run_width * suc n ≡ run_width + run_width * n = omega arith in
      let new : List ℕ = tidy_run row c in
      let all : List ℕ = tidy_runs new (c + run_width) n in
      let k : ℕ = used runs c in
      let same : numbers_from row c k ≡ numbers_from runs c k = numbers_same row runs c c k (λ x hx. f (c + x) (omega arith)) in
      let first : numbers_from all c run_width ≡ run_words (member_at live b runs c undo d) =
      numbers_same all new c c run_width (λ x hx. runs_before new (c + run_width) n (c + x) (omega arith)) ∙ run_numbers row c (omega arith)
      ∙ ap (λ (x : ℕ). numbers_from row c x ++ zeros (run_width - x)) (used-same row runs c f) ∙ ap (λ (x : List ℕ). x ++ zeros (run_width - k)) same ∙ sym (member_words live b runs c undo d ct s.0) in
      let rest : numbers_from all (c + run_width) (run_width * n) ≡ all_runs (uncommitted_of live (b + live_width) runs (c + run_width) undo (d + 2 * get_or runs (c + 3) 0) n) =
      runs_at_lem new (b + live_width) (c + run_width) (d + 2 * get_or runs (c + 3) 0) n (λ x hx. run_after row c x hx ∙ f x (omega arith)) (omega (arith, run_length row c)) s.1 in
      ap (numbers_from all c) z ∙ numbers_add all c run_width (run_width * n) ∙ (λ j. first j ++ rest j)

-- The whole record

module _ (count largest u w : ℕ) (live runs undo : List ℕ) where
  abbrev us : List Uncommitted
  us = uncommitted_of live 0 runs 0 undo 0 u

  abbrev ws : List Waiting
  ws = waiting_of live (live_width * u) w

  entries_are : entries_from runs 0 u ≡ length (undo_list us)
  entries_are = sym (ap length (entries_all live runs undo 0 0 0 u) ∙ length_entries undo 0 (entries_from runs 0 u))

  module _ (s : sound (view_of count largest u w live runs undo) ≡ true) where
    parts : Sound count largest us ws
    unfolding view_of
    parts = sound_parts (view_of count largest u w live runs undo) s

    pub few_uncommitted : u ≤ 16
    few_uncommitted = omega (arith, length_uncommitted live runs undo 0 0 0 u, parts.sixteen)

    pub few_live : u + w ≤ 64
    few_live = omega (arith, length_uncommitted live runs undo 0 0 0 u, length_waiting live (live_width * u) w, parts.sixty_four)

    pub few_entries : entries_from runs 0 u ≤ 184
    few_entries = omega (arith, entries_are, entries_most count us parts.sixteen parts.each parts.ones)

    pub few_runs_lem : few_runs runs u ≡ true
    few_runs_lem = λ j. le-leb u 16 few_uncommitted j && le-leb (entries_from runs 0 u) 184 few_entries j

    live_rows_lem : live_width * (u + w) ≤ length live → take (live_width * (u + w)) live ≡ all_rows (live_rows us ws)
    live_rows_lem h =
        numbers_take live (live_width * (u + w)) h ∙ sym (ap all_rows (rows_live live runs undo 0 0 0 u (live_width * u) w (omega arith)) ∙ rows_at live 0 (u + w))

    run_rows : run_width * u ≤ length runs → take (run_width * u) (tidy_runs runs 0 u) ≡ all_runs us
    run_rows h = numbers_take (tidy_runs runs 0 u) (run_width * u) (omega (arith, runs_length_lem runs 0 u)) ∙ runs_at_lem count live runs undo runs 0 0 0 u (λ x k. refl) (omega arith) parts.each

    undo_rows : 2 * entries_from runs 0 u ≤ length undo → take (2 * entries_from runs 0 u) undo ≡ flat (undo_list us)
    undo_rows h = numbers_take undo (2 * entries_from runs 0 u) h ∙ sym (flat_at undo 0 (entries_from runs 0 u)) ∙ ap flat (sym (entries_all live runs undo 0 0 0 u))

    module _ (hl : length live ≡ live_length) (hr : length runs ≡ runs_length) (hu : length undo ≡ undo_length) where
      n_runs : run_width * u ≤ length runs
      n_runs = omega (arith, few_uncommitted)

      pub canonical : (n : ℕ) (r : List ℕ) → n ≡ pick (few_runs runs u) (entries_from runs 0 u) 0 → r ≡ pick (few_runs runs u) (tidy_runs runs 0 u) runs → Canonical us ws live runs undo n r
      canonical n r en er = record {
        at_live = over_own live (live_width * (u + w)) (omega (arith, few_live)) ∙ ap (over live) (live_rows_lem (omega (arith, few_live)));
        at_runs = er ∙ ap (λ (b : Bool). pick b (tidy_runs runs 0 u) runs) few_runs_lem
            ∙ over_of (tidy_runs runs 0 u) (cleared (run_width * length us) runs) (all_runs us) (runs_length_lem runs 0 u ∙ sym lc) (omega (arith, lr, lc, n_runs))
            (λ x hx. sym (get_or-take (run_width * u) (tidy_runs runs 0 u) x 0 (omega (arith, lr))) ∙ ap (λ (l : List ℕ). get_or l x 0) (run_rows n_runs))
            (λ x hx. runs_after runs 0 u x (omega (arith, lr)) ∙ sym (get_or-behind runs (zeros (run_width * length us)) x (omega (arith, lr, lu, lz))));
        at_undo = over_own undo (2 * entries_from runs 0 u) two ∙ ap (over undo) (undo_rows two) ∙ sym (over_twice undo (zeros (2 * n)) (flat (undo_list us)) (omega (arith, ly, lf, is, entries_are)) (omega (arith, lf, entries_are, few_entries)));
        entries = sym entries_are ∙ sym is;
      }
        where
          is : n ≡ entries_from runs 0 u
          is = en ∙ ap (λ (b : Bool). pick b (entries_from runs 0 u) 0) few_runs_lem

          two : 2 * entries_from runs 0 u ≤ length undo
          two = omega (arith, few_entries)

          lu : length us ≡ u
          lu = length_uncommitted live runs undo 0 0 0 u

          lf : length (flat (undo_list us)) ≡ 2 * length (undo_list us)
          lf = length-flat (undo_list us)

          lr : length (all_runs us) ≡ run_width * u
          lr = ap length (sym (run_rows n_runs)) ∙ length-take-le (run_width * u) (tidy_runs runs 0 u) (omega (arith, runs_length_lem runs 0 u, n_runs))

          lz : length (zeros (run_width * length us)) ≡ run_width * length us
          lz = length-replicate (run_width * length us) 0

          ly : length (zeros (2 * n)) ≡ 2 * n
          ly = length-replicate (2 * n) 0

          lc : length (cleared (run_width * length us) runs) ≡ length runs
          lc = length-cleared (run_width * length us) runs (omega (arith, n_runs, lu))
