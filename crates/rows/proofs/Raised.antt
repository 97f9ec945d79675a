-- Attempts raised in rows that hold lists: what an undoing does to the live row.
use Prim.Native.Nat.{ℕ, ◌+◌, ◌*◌, ◌-◌, ◌≤◌, ◌<◌}
use native.Mathlib.Omega.{arith}
use mathlib.Core.Path.{◌≡◌, refl, sym, ap, ◌∙◌}
use mathlib.Core.List.{List, [], ◌∷◌, ◌++◌, append_assoc, map, foldl}
use lib.ListN.{length, set, length-append}
use Rattle.model.specs.Limits.{TOP}
use Rattle.model.specs.Transactions.{Uncommitted, Waiting}
use Rattle.model.specs.Steps.{requeued}
use Rattle.model.specs.Parts.{All}
use Rattle.model.proofs.Chain.{all_append}
use Rattle.record.specs.Words.{ops_words, row_words, all_rows, row_of, over}
use Rattle.record.specs.Ends.{capped}
use Rattle.record.specs.Fitting.{Eight}
use Rattle.record.specs.Widths.{live_width}
use Rattle.record.proofs.Walks.{walk_on, walk_end}
use Rattle.record.proofs.Rows.{relay_over}
use Rattle.record.proofs.Back.{length_row, length-rows, rows_append, attempt_back}
use Rattle.rows.specs.Rows.{raised_row, raised_rows}

-- the walk: what is left from row i on makes the whole
module _ (l : List ℕ) (b n i : ℕ) (whole : List ℕ) (inv : raised_rows l (b + live_width * i) (n - i) ≡ whole) where
  pub raised_on : i < n → (l' : List ℕ) → l' ≡ raised_row l (b + live_width * i) → raised_rows l' (b + live_width * (i + 1)) (n - (i + 1)) ≡ whole
  unfolding raised_rows
  raised_on h l' e =
      ap (λ (x : List ℕ). raised_rows x (b + live_width * (i + 1)) (n - (i + 1))) e
      ∙ walk_on (λ (p : ℕ). p + live_width) (foldl raised_row l) (b + live_width * i) (n - i) whole inv (b + live_width * (i + 1)) (n - (i + 1)) (omega arith) (omega arith)

  pub raised_end : n ≤ i → l ≡ whole
  unfolding raised_rows
  raised_end h = walk_end (λ (p : ℕ). p + live_width) (foldl raised_row l) (b + live_width * i) (n - i) whole inv (omega arith)

-- the attempt of one row, behind the rows of A and before those of B
module _ (row : List ℕ) (A : List Waiting) (t : Waiting) (B : List Waiting) (b : ℕ) (ea : All Eight A) (et : Eight t) (eb : live_width * length A ≡ b) where
  abbrev tried : ℕ → Waiting
  tried a = record { number = t.number; attempt = a; fragment = t.fragment }

  abbrev head : List ℕ
  head = t.number ∷ t.fragment.flags ∷ t.fragment.coordinator ∷ t.fragment.count ∷ ops_words t.fragment.row

  seam : (a : ℕ) → all_rows (A ++ tried a ∷ B) ≡ (all_rows A ++ head) ++ ((a ∷ []) ++ all_rows B)
  unfolding all_rows row_words
  seam a = rows_append A (tried a ∷ B) ∙ ap (λ (x : List ℕ). all_rows A ++ x) (append_assoc head (a ∷ []) (all_rows B)) ∙ sym (append_assoc (all_rows A) head ((a ∷ []) ++ all_rows B))

  pub raised_one : t.attempt < TOP → raised_row (over row (all_rows (A ++ t ∷ B))) b ≡ over row (all_rows (A ++ tried (t.attempt + 1) ∷ B))
  unfolding row_words
  raised_one h =
      let a : ℕ = t.attempt in
      let at : length (all_rows A ++ head) ≡ b + 28 = length-append (all_rows A) head ∙ omega (arith, length-rows A ea, eb, length_row t.number a t.fragment et, length-append head (a ∷ [])) in
      let fits : capped (a + 1) ≡ a + 1 = omega (arith, h) in
      (λ i. set (over row (seam a i)) (b + 28) (capped (attempt_back row A t B b ea et eb i + 1)))
      ∙ relay_over row (all_rows A ++ head) (a ∷ []) (all_rows B) (capped (a + 1) ∷ []) (b + 28) at refl
      ∙ ap (λ (x : ℕ). over row ((all_rows A ++ head) ++ (x ∷ all_rows B))) fits
      ∙ ap (over row) (sym (seam (a + 1)))

-- "the others return .. in their old order", each to its next attempt: the rows of us, behind those of A and before those of B
pub raised_rows_lem : (row : List ℕ) (A : List Waiting) (us : List Uncommitted) (B : List Waiting) (b : ℕ) → All Eight A → All Eight (map row_of us) → All (λ (u : Uncommitted). u.attempt < TOP) us → live_width * length A ≡ b
    → raised_rows (over row (all_rows (A ++ (map row_of us ++ B)))) b (length us) ≡ over row (all_rows (A ++ (map requeued us ++ B)))
unfolding raised_rows
raised_rows_lem row A [] B b ea eu k e = refl
raised_rows_lem row A (u ∷ us) B b ea eu k e =
    ap (λ (x : List ℕ). raised_rows x (b + live_width) (length us)) (raised_one row A (row_of u) (map row_of us ++ B) b ea eu.0 e k.0 ∙ ap (λ (x : List Waiting). over row (all_rows x)) (sym (append_assoc A (requeued u ∷ []) (map row_of us ++ B))))
    ∙ raised_rows_lem row (A ++ (requeued u ∷ [])) us B (b + live_width) (all_append Eight A (requeued u ∷ []) ea (eu.0, tt)) eu.1 k.1 (omega (arith, e, length-append A (requeued u ∷ [])))
    ∙ ap (λ (x : List Waiting). over row (all_rows x)) (append_assoc A (requeued u ∷ []) (map requeued us ++ B))
