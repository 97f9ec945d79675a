-- One turn of each walk: what is left from here is the whole.
use Prim.Native.Nat.{ℕ, zero, suc, ◌+◌, ◌*◌, ◌-◌, ◌≤◌, ◌<◌}
use native.Mathlib.Omega.{arith}
use borrow.Author.Tests.{le-leb}
use mathlib.Core.Path.{◌≡◌, refl, sym, ap, ◌∙◌}
use mathlib.Core.Bool.{Bool, true, false, ◌&&◌}
use mathlib.Core.List.{List}
use lib.Dec.{leb, ltb}
use lib.ListN.{get_or}
use Rattle.std.specs.List.{list_all, range_with_len}
use Rattle.operations.specs.Laid.{entries_of}
use Rattle.record.proofs.Walks.{walk_on, walk_end, every_on, every_off, every_end}
use Rattle.soundness.specs.Groups.{row_ok, live_at, live_from, next_ok, front_ok, follows_ok, next_pair, behind_from, members_ok, undo_ok}
use Rattle.record.specs.Widths.{live_width, run_width}

pub on : (a r w : Bool) → (a && r) ≡ w → a ≡ true → r ≡ w
on a r w h e = ap (λ (x : Bool). x && r) (sym e) ∙ h

pub off : (a r w : Bool) → (a && r) ≡ w → a ≡ false → false ≡ w
off a r w h e = ap (λ (x : Bool). x && r) (sym e) ∙ h

module _ (largest cells : ℕ) (live : List ℕ) (n i low : ℕ) (whole : Bool) (inv : live_from largest cells live (live_width * i) (n - i) low i ≡ whole) where
  abbrev rows : List ℕ → Bool
  rows bs = live_at largest cells live bs low i

  abbrev here : Bool
  here = row_ok cells live (live_width * i) low i

  module _ (more : i < n) where
    live_next : (here && live_from largest cells live (live_width * (i + 1)) (n - (i + 1)) (get_or live (live_width * i) 0) (1 + i)) ≡ whole
    unfolding live_from
    live_next = walk_on (λ (p : ℕ). p + live_width) rows (live_width * i) (n - i) whole inv (live_width * (i + 1)) (n - (i + 1)) (omega arith) (omega arith)

    pub live_on : (m : ℕ) → m ≡ get_or live (live_width * i) 0 → here ≡ true → live_from largest cells live (live_width * (i + 1)) (n - (i + 1)) m (i + 1) ≡ whole
    live_on m em e =
        let a : i + 1 ≡ 1 + i = omega arith in
        (λ j. live_from largest cells live (live_width * (i + 1)) (n - (i + 1)) (em j) (a j)) ∙ on here _ whole live_next e

    pub live_off : here ≡ false → false ≡ whole
    live_off e = off here _ whole live_next e

  pub live_end : n ≤ i → leb low largest ≡ whole
  unfolding live_from
  live_end h = walk_end (λ (p : ℕ). p + live_width) rows (live_width * i) (n - i) whole inv (omega arith)

module _ (live runs : List ℕ) (n i : ℕ) (whole : Bool) (inv : behind_from live (live_width * i) runs (run_width * i) (n - i) ≡ whole) where
  abbrev follows : ℕ × ℕ → Bool
  follows s = follows_ok live s.0 runs s.1

  abbrev spot : ℕ → ℕ × ℕ
  spot k = (live_width * k, run_width * k)

  onwards : next_pair (spot i) ≡ spot (i + 1)
  onwards = let b : live_width * i + live_width ≡ live_width * (i + 1) = omega arith in
      let c : run_width * i + run_width ≡ run_width * (i + 1) = omega arith in
      λ j. (b j, c j)

  abbrev next : Bool
  next = next_ok live (live_width * (i + 1)) runs (run_width * (i + 1))

  module _ (s : ℕ) (es : s ≡ get_or runs (run_width * i + 1) 0) where
    pub is_open : s ≡ 0 → follows (spot i) ≡ false
    is_open z = ap (λ (x : ℕ). leb 1 x && next_ok live (next_pair (spot i)).0 runs (next_pair (spot i)).1) (sym es ∙ z)

    pub is_done : (s ≡ 0 → ⊥) → follows (spot i) ≡ next
    is_done z =
        (λ j. leb 1 (sym es j) && next_ok live (onwards j).0 runs (onwards j).1) ∙ ap (λ (x : Bool). x && next) (le-leb 1 s (omega arith))

  module _ (more : i < n) where
    pub behind_on : follows (spot i) ≡ true → behind_from live (live_width * (i + 1)) runs (run_width * (i + 1)) (n - (i + 1)) ≡ whole
    unfolding behind_from
    behind_on e = every_on next_pair follows (spot i) (n - i) whole inv (spot (i + 1)) (n - (i + 1)) onwards (omega arith) e

    pub behind_off : follows (spot i) ≡ false → false ≡ whole
    unfolding behind_from
    behind_off e = every_off next_pair follows (spot i) (n - i) whole inv (omega arith) e

  pub behind_end : n ≤ i → true ≡ whole
  unfolding behind_from
  behind_end h = every_end next_pair follows (spot i) (n - i) whole inv (omega arith)

module _ (live runs : List ℕ) (n : ℕ) where
  pub members_none : n ≡ 0 → true ≡ members_ok live runs n
  unfolding members_ok
  members_none e = ap (members_ok live runs) (sym e)

  pub members_some : (n ≡ 0 → ⊥) → (front_ok live runs && behind_from live 0 runs 0 (n - 1)) ≡ members_ok live runs n
  unfolding members_ok
  members_some h = let e : suc (n - 1) ≡ n = omega arith in ap (members_ok live runs) e

-- entries asked by number, n of them from number i on
module _ (cells : ℕ) (undo : List ℕ) where
  pub undo_asked : (i n : ℕ) → list_all (λ (k : ℕ). ltb (get_or undo (2 * k) 0) cells) (range_with_len i n) ≡ undo_ok cells undo (2 * i) n
  unfolding undo_ok entries_of
  undo_asked i zero = refl
  undo_asked i (suc n) =
      let e : 2 * (i + 1) ≡ 2 * i + 2 = omega arith in
      ap (λ (x : Bool). ltb (get_or undo (2 * i) 0) cells && x) (undo_asked (i + 1) n ∙ ap (λ (x : ℕ). undo_ok cells undo x n) e)
