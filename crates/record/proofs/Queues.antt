-- Laws of the two queues of any record's words: how many there are, eight places in each row, the rows one behind the other, and whose the undo
-- entries are.
use Prim.Native.Nat.{ℕ, zero, suc, ◌+◌, ◌*◌}
use native.Mathlib.Omega.{arith}
use mathlib.Core.Path.{◌≡◌, refl, sym, ap, ◌∙◌}
use mathlib.Core.List.{List, [], ◌∷◌, ◌++◌, map, foldr}
use lib.ListN.{length, get_or}
use Rattle.model.specs.Transactions.{Uncommitted, Waiting, undo_list, numbers, attempts}
use Rattle.model.specs.declared.Undo.{Undo}
use Rattle.model.specs.Parts.{All}
use Rattle.operations.specs.Laid.{entries_of}
use Rattle.operations.proofs.Turns.{entries_append}
use Rattle.record.specs.Widths.{live_width, run_width}
use Rattle.record.specs.Words.{row_of, live_rows}
use Rattle.record.specs.View.{row_at, fragment_at, waiting_of, member_at, Spot, next_spot, uncommitted_of, entries_from}
use Rattle.record.specs.Fitting.{Eight}
use Rattle.record.proofs.Walks.{read_length, read_all, read_add, walk_on, walk_end}

-- The waiting ones

module _ (l : List ℕ) (b : ℕ) where
  pub length_waiting : (n : ℕ) → length (waiting_of l b n) ≡ n
  unfolding waiting_of
  length_waiting n = read_length (λ (p : ℕ). p + live_width) (row_at l) b n

  pub eight_waiting : (n : ℕ) → All Eight (waiting_of l b n)
  unfolding waiting_of fragment_at
  eight_waiting n = read_all (λ (p : ℕ). p + live_width) (row_at l) Eight (λ p. refl) b n

  pub waiting_add : (m n c : ℕ) → b + live_width * m ≡ c → waiting_of l b (m + n) ≡ waiting_of l b m ++ waiting_of l c n
  unfolding waiting_of
  waiting_add m n c e = read_add (row_at l) live_width b m n c e

-- The entries

pub length_entries : (l : List ℕ) (b n : ℕ) → length (entries_of l b n) ≡ n
unfolding entries_of
length_entries l b zero = refl
length_entries l b (suc n) = ap suc (length_entries l (b + 2) n)

-- they are counted run by run: what is counted and what is left is the whole
module _ (runs : List ℕ) (c left sum whole : ℕ) (inv : sum + entries_from runs c left ≡ whole) where
  abbrev count : List ℕ → ℕ
  count = foldr (λ (p m : ℕ). get_or runs (p + 3) 0 + m) 0

  pub entries_on : (c' m own : ℕ) → c + run_width ≡ c' → left ≡ suc m → own ≡ get_or runs (c + 3) 0 → sum + own + entries_from runs c' m ≡ whole
  unfolding entries_from
  entries_on c' m own ec em eo = let t : get_or runs (c + 3) 0 + entries_from runs c' m ≡ entries_from runs c left = walk_on (λ (p : ℕ). p + run_width) count c left _ refl c' m ec em in omega arith

  pub entries_end : left ≡ 0 → sum ≡ whole
  unfolding entries_from
  entries_end e = let t : 0 ≡ entries_from runs c left = walk_end (λ (p : ℕ). p + run_width) count c left _ refl e in omega arith

-- The uncommitted ones

module _ (live runs undo : List ℕ) where
  abbrev member : Spot → Uncommitted
  member s = member_at live s.row runs s.run undo s.entries

  abbrev spot : ℕ → ℕ → ℕ → Spot
  spot b c d = record { row = b; run = c; entries = d }

  pub length_uncommitted : (b c d n : ℕ) → length (uncommitted_of live b runs c undo d n) ≡ n
  unfolding uncommitted_of
  length_uncommitted b c d n = read_length (next_spot runs) member (spot b c d) n

  pub eight_uncommitted : (b c d n : ℕ) → All (λ (u : Uncommitted). Eight (row_of u)) (uncommitted_of live b runs c undo d n)
  unfolding uncommitted_of member_at fragment_at
  eight_uncommitted b c d n = read_all (next_spot runs) member (λ u. Eight (row_of u)) (λ s. refl) (spot b c d) n

  rows_uncommitted : (b c d n : ℕ) → map row_of (uncommitted_of live b runs c undo d n) ≡ waiting_of live b n
  unfolding uncommitted_of waiting_of member_at
  rows_uncommitted b c d zero = refl
  rows_uncommitted b c d (suc n) = ap {B = List Waiting} (λ (x : List Waiting). row_at live b ∷ x) (rows_uncommitted (b + live_width) (c + run_width) (d + 2 * get_or runs (c + 3) 0) n)

  -- both queues are n + m rows, one behind the other
  pub rows_live : (b c d n e m : ℕ) → b + live_width * n ≡ e → live_rows (uncommitted_of live b runs c undo d n) (waiting_of live e m) ≡ waiting_of live b (n + m)
  rows_live b c d n e m h = ap (λ (x : List Waiting). x ++ waiting_of live e m) (rows_uncommitted b c d n) ∙ sym (waiting_add live b n m e h)

  -- the undo row holds the entries of all of them
  pub entries_all : (b c d n : ℕ) → undo_list (uncommitted_of live b runs c undo d n) ≡ entries_of undo d (entries_from runs c n)
  unfolding uncommitted_of member_at entries_from entries_of
  entries_all b c d zero = refl
  entries_all b c d (suc n) =
      let k : ℕ = get_or runs (c + 3) 0 in
      ap (λ (x : List Undo). entries_of undo d k ++ x) (entries_all (b + live_width) (c + run_width) (d + 2 * k) n) ∙ sym (entries_append undo d k (entries_from runs (c + run_width) n))

-- their numbers are those of their rows
pub numbers_rows : (us : List Uncommitted) (ws : List Waiting) → numbers us ws ≡ map (λ (w : Waiting). w.number) (live_rows us ws)
numbers_rows [] ws = refl
numbers_rows (u ∷ us) ws = ap {B = List ℕ} (λ (x : List ℕ). u.number ∷ x) (numbers_rows us ws)

-- and their attempts
pub attempts_rows : (us : List Uncommitted) (ws : List Waiting) → attempts us ws ≡ map (λ (w : Waiting). w.attempt) (live_rows us ws)
attempts_rows [] ws = refl
attempts_rows (u ∷ us) ws = ap {B = List ℕ} (λ (x : List ℕ). u.attempt ∷ x) (attempts_rows us ws)

-- what holds of all rows holds of the rows of each queue, and back
module _ (P : Waiting → Type 0) where
  pub all-rows : (us : List Uncommitted) (ws : List Waiting) → All P (live_rows us ws) → All (λ (u : Uncommitted). P (row_of u)) us × All P ws
  all-rows [] ws h = (tt, h)
  all-rows (u ∷ us) ws h = let r = all-rows us ws h.1 in ((h.0, r.0), r.1)

  pub rows_all : (us : List Uncommitted) (ws : List Waiting) → All (λ (u : Uncommitted). P (row_of u)) us → All P ws → All P (live_rows us ws)
  rows_all [] ws h k = k
  rows_all (u ∷ us) ws h k = (h.0, rows_all us ws h.1 k)
