-- Laws of rows of words: laying, shifting, clearing, and reading back what was laid.
use Prim.Native.Nat.{ℕ, zero, suc, ◌+◌, ◌-◌, ◌≤◌, ◌<◌, min}
use native.Mathlib.Omega.{arith}
use native.Mathlib.Numerals.{add-one}
use borrow.Author.Tests.{ltb-true, ltb-false, eqb-true, eqb-false}
use mathlib.Core.Path.{◌≡◌, refl, sym, ap, ◌∙◌}
use mathlib.Core.Bool.{Bool, true, false}
use lib.Dec.{ltb, eqb}
use mathlib.Core.List.{List, [], ◌∷◌, ◌++◌, append_assoc, append-nil, map}
use lib.ListN.{length, get_or, set, take, drop, replicate, length-append, length-replicate, length-set, length-take, length-drop, get_or-eq_default, get_or-append, get_or-replicate}
use borrow.Rule.Slice.PartMut.{put_mid}
use Rattle.std.proofs.lemmas.Slice.{put_mid-paste}
use Rattle.std.proofs.lemmas.List.{take_all}
use Rattle.std.specs.List.{copy_within}
use lib.Seq.{paste, sets, sets-eq, length-sets, get_or-set_same, get_or-set_other, ext_get_or, take_at, drop_at, drop-append-add, drop-drop, get_or-append-add, get_or-take, get_or-drop}
use Rattle.model.specs.declared.Op.{Op}
use Rattle.model.specs.declared.Fragment.{Fragment}
use Rattle.operations.specs.Laid.{padded}
use Rattle.operations.proofs.Turns.{no_op, length-padded}
use Rattle.record.specs.Words.{ops_words, row_words, over, cleared}
use Rattle.record.specs.View.{op_at, fragment_at, numbers_from, shifted, zeros}
use Rattle.record.specs.Widths.{ops_end, live_width}
use Rattle.record.specs.Walk.{places}
use Rattle.record.proofs.Walks.{read_length, read_add, read_at, read_whole, walk_on, walk_end}

-- reading what a row holds

pub get_or-padded : (n : ℕ) (l : List ℕ) (x : ℕ) → get_or (padded n l) x 0 ≡ get_or l x 0
unfolding padded
get_or-padded n [] x = go (n - 0) x
  where
    go : (m x : ℕ) → ◌≡◌ {A = ℕ} (get_or (zeros m) x 0) 0
    go zero x = refl
    go (suc m) zero = refl
    go (suc m) (suc x) = go m x
get_or-padded n (a ∷ l) zero = refl
get_or-padded n (a ∷ l) (suc x) =
    let e : n - suc (length l) ≡ (n - 1) - length l = omega arith in
    ap (λ (m : ℕ). get_or (l ++ replicate m 0) x 0) e ∙ get_or-padded (n - 1) l x

pub length-numbers : (l : List ℕ) (b n : ℕ) → length (numbers_from l b n) ≡ n
unfolding numbers_from
length-numbers l b n = read_length (λ (p : ℕ). p + 1) (λ (p : ℕ). get_or l p 0) b n

pub numbers_add : (l : List ℕ) (b m n : ℕ) → numbers_from l b (m + n) ≡ numbers_from l b m ++ numbers_from l (b + m) n
unfolding numbers_from
numbers_add l b m n = read_add (λ (p : ℕ). get_or l p 0) 1 b m n (b + m) (omega arith)

-- rows that agree from b and c on
pub numbers_same : (l m : List ℕ) (b c n : ℕ) → ((k : ℕ) → k < n → get_or l (b + k) 0 ≡ get_or m (c + k) 0) → numbers_from l b n ≡ numbers_from m c n
unfolding numbers_from
numbers_same l m b c zero h = refl
numbers_same l m b c (suc n) h =
    let z : b + 0 ≡ b = omega arith in
    let y : c + 0 ≡ c = omega arith in
    let first : get_or l b 0 ≡ get_or m c 0 = ap (λ (x : ℕ). get_or l x 0) (sym z) ∙ h 0 (omega arith) ∙ ap (λ (x : ℕ). get_or m x 0) y in
    let rest : (k : ℕ) → k < n → get_or l (b + 1 + k) 0 ≡ get_or m (c + 1 + k) 0 =
    λ k hk. (let p : b + 1 + k ≡ b + suc k = omega arith in ap (λ (x : ℕ). get_or l x 0) p) ∙ h (suc k) (omega arith) ∙ (let p : c + suc k ≡ c + 1 + k = omega arith in ap (λ (x : ℕ). get_or m x 0) p) in
    λ i. first i ∷ numbers_same l m (b + 1) (c + 1) n rest i

-- the whole of a list
pub numbers_whole : (l : List ℕ) → numbers_from l 0 (length l) ≡ l
unfolding numbers_from
numbers_whole l = read_whole 0 l

-- the list at the start of a padded row
pub numbers_padded : (n : ℕ) (l : List ℕ) (m : ℕ) → length l ≡ m → numbers_from (padded n l) 0 m ≡ l
numbers_padded n l m e = ap (numbers_from (padded n l) 0) (sym e) ∙ numbers_same (padded n l) l 0 0 (length l) (λ k h. get_or-padded n l (0 + k)) ∙ numbers_whole l

-- Runs of stores

-- a part of a row that holds w now: k places from i on
pub put_sets : (l w : List ℕ) (i k : ℕ) → length w ≡ k → i + k ≤ length l → put_mid i k l w ≡ sets l i w
put_sets l w i k e h = put_mid-paste i k l w w k refl refl (sym e) ∙ (λ j. take i l ++ take_all k w (omega arith) j ++ drop (i + sym e j) l) ∙ sym (sets-eq w l i (omega arith))

pub numbers_snoc : (l : List ℕ) (b n : ℕ) → numbers_from l b (suc n) ≡ numbers_from l b n ++ (get_or l (b + n) 0 ∷ [])
unfolding numbers_from
numbers_snoc l b n = ap (numbers_from l b) (sym (add-one n)) ∙ numbers_add l b n 1

pub get_or-sets_after : (l : List ℕ) (i : ℕ) (ws : List ℕ) (x : ℕ) → i + length ws ≤ x → get_or (sets l i ws) x 0 ≡ get_or l x 0
get_or-sets_after l i [] x h = refl
get_or-sets_after l i (a ∷ ws) x h = get_or-sets_after (set l i a) (suc i) ws x (omega arith) ∙ get_or-set_other l i x a 0 (λ e. omega arith)

pub get_or-sets_in : (l ws : List ℕ) (x : ℕ) → length ws ≤ length l → x < length ws → get_or (sets l 0 ws) x 0 ≡ get_or ws x 0
get_or-sets_in l ws x h k =
    ap (λ (y : List ℕ). get_or y x 0) (sets-eq ws l 0 (omega arith) ∙ append_assoc [] ws (drop (0 + length ws) l)) ∙ get_or-append ws (drop (0 + length ws) l) 0 x k

pub get_or-numbers : (l : List ℕ) (b n x : ℕ) → x < n → get_or (numbers_from l b n) x 0 ≡ get_or l (b + x) 0
unfolding numbers_from
get_or-numbers l b n x h = read_at (λ (p : ℕ). get_or l p 0) 1 0 b n x (b + x) h (omega arith)

pub get_d_sets_before : (l : List ℕ) (i : ℕ) (ws : List ℕ) (x : ℕ) → x < i → get_or (sets l i ws) x 0 ≡ get_or l x 0
get_d_sets_before l i [] x h = refl
get_d_sets_before l i (a ∷ ws) x h = get_d_sets_before (set l i a) (suc i) ws x (omega arith) ∙ get_or-set_other l i x a 0 (λ e. omega arith)

get_or-sets_at : (l : List ℕ) (i : ℕ) (ws : List ℕ) (x : ℕ) → i ≤ x → x < i + length ws → x < length l → get_or (sets l i ws) x 0 ≡ get_or ws (x - i) 0
get_or-sets_at l i [] x h k m = absurd (omega arith)
get_or-sets_at l i (a ∷ ws) x h k m = go (eqb x i) refl (λ p q r. get_or-sets_at (set l i a) (suc i) ws x p q r)
  where
    go : (b : Bool) → eqb x i ≡ b → (suc i ≤ x → x < suc i + length ws → x < length (set l i a) → get_or (sets (set l i a) (suc i) ws) x 0 ≡ get_or ws (x - suc i) 0) → get_or (sets (set l i a) (suc i) ws) x 0 ≡ get_or (a ∷ ws) (x - i) 0
    go true e f =
        let y : x ≡ i = eqb-true x i e in
        let z : x - i ≡ 0 = omega arith in
        get_d_sets_before (set l i a) (suc i) ws x (omega arith) ∙ ap (λ (q : ℕ). get_or (set l i a) q 0) y ∙ get_or-set_same l i a 0 (omega arith) ∙ ap (λ (q : ℕ). get_or (a ∷ ws) q 0) (sym z)
    go false e f =
        let y : x ≡ i → ⊥ = eqb-false x i e in
        let z : x - i ≡ suc (x - suc i) = omega arith in
        f (omega arith) (omega arith) (omega (arith, length-set l i a)) ∙ ap (λ (q : ℕ). get_or (a ∷ ws) q 0) (sym z)

-- n words of a row, all of them there
pub numbers_in : (row : List ℕ) (at n s stop : ℕ) → stop ≤ length row → s ≡ min stop at → n ≤ stop - s → take n (drop s row) ≡ numbers_from row at n
numbers_in row at n s stop h es en =
    ext_get_or 0 (take n (drop s row)) (numbers_from row at n) (lt ∙ sym (length-numbers row at n)) (λ x hx. go x (omega (arith, lt)))
  where
    lt : length (take n (drop s row)) ≡ n
    lt = length-take n (drop s row) ∙ omega (arith, length-drop s row)

    go : (x : ℕ) → x < n → get_or (take n (drop s row)) x 0 ≡ get_or (numbers_from row at n) x 0
    go x hx = let z : s + x ≡ at + x = omega arith in get_or-take n (drop s row) x 0 hx ∙ get_or-drop s row x 0 ∙ ap (λ (q : ℕ). get_or row q 0) z ∙ sym (get_or-numbers row at n x hx)

-- past its end
numbers_past : (row : List ℕ) (b n : ℕ) → (0 < n → length row ≤ b) → numbers_from row b n ≡ zeros n
unfolding numbers_from
numbers_past row b zero h = refl
numbers_past row b (suc n) h =
    let here : length row ≤ b = h (omega arith) in
    λ i. get_or-eq_default row 0 {n = b} here i ∷ numbers_past row (b + 1) n (λ k. omega arith) i

-- words of a row that may end before them: those that are there, and zeros
pub numbers_there : (row : List ℕ) (at m s n : ℕ) → s ≡ min (length row) at → n ≡ min (length row - s) m → numbers_from row at m ≡ take n (drop s row) ++ zeros (m - n)
numbers_there row at m s n es en =
    let z : m ≡ n + (m - n) = omega arith in
    ap (numbers_from row at) z ∙ numbers_add row at n (m - n)
    ∙ (λ i. sym (numbers_in row at n s (length row) (omega arith) es (omega arith)) i ++ numbers_past row (at + n) (m - n) (λ k. omega arith) i)

-- the rest of a row of zeros
pub zeros_rest : (a n : ℕ) → zeros (n - a) ≡ drop a (zeros n)
zeros_rest zero n = let z : n - 0 ≡ n = omega arith in ap zeros z
zeros_rest (suc a) zero = let z : 0 - suc a ≡ 0 = omega arith in ap zeros z
zeros_rest (suc a) (suc n) = let z : suc n - suc a ≡ n - a = omega arith in ap zeros z ∙ zeros_rest a n

-- words copied out over a row of zeros
pub copied_out : (row : List ℕ) (at m s n : ℕ) → s ≡ min (length row) at → n ≡ min (length row - s) m → take n (drop s row) ++ drop n (zeros m) ≡ numbers_from row at m
copied_out row at m s n es en = ap (λ (x : List ℕ). take n (drop s row) ++ x) (sym (zeros_rest n m)) ∙ sym (numbers_there row at m s n es en)

-- one turn of laying words, and its end
module _ (row words all : List ℕ) (at n i : ℕ) (inv : sets row (at + i) (numbers_from words i (n - i)) ≡ all) where
  pub lay_turn : (row' : List ℕ) (w : ℕ) → i < n → w ≡ get_or words i 0 → row' ≡ set row (at + i) w → sets row' (at + (i + 1)) (numbers_from words (i + 1) (n - (i + 1))) ≡ all
  unfolding numbers_from
  lay_turn row' w h ew er =
      let p : at + (i + 1) ≡ suc (at + i) = omega arith in
      (λ j. sets ((er ∙ ap (set row (at + i)) ew) j) (p j) (numbers_from words (i + 1) (n - (i + 1))))
      ∙ walk_on (λ (x : ℕ). x + 1) (λ (x : List ℕ). sets row (at + i) (map (λ (q : ℕ). get_or words q 0) x)) i (n - i) all inv (i + 1) (n - (i + 1)) refl (omega arith)

  pub lay_end : n ≤ i → row ≡ all
  unfolding numbers_from
  lay_end h = walk_end (λ (x : ℕ). x + 1) (λ (x : List ℕ). sets row (at + i) (map (λ (q : ℕ). get_or words q 0) x)) i (n - i) all inv (omega arith)

-- words laid that are all there, into places that are
pub lay_whole : (row words : List ℕ) (at n : ℕ) → n ≤ length words → at + n ≤ length row → put_mid at (at + n - at) row (take n words) ≡ sets row at (numbers_from words 0 n)
lay_whole row words at n hw hr =
    put_sets row (take n words) at (at + n - at) (length-take n words ∙ omega arith) (omega arith) ∙ ap (sets row at) (numbers_in words 0 n 0 (length words) (omega arith) (omega arith) (omega arith))

-- l from b on and m from c on agree on a transaction's words but for its attempt
abbrev pub Agree : List ℕ → ℕ → List ℕ → ℕ → Type 0
Agree l b m c = (k : ℕ) → k < ops_end → get_or l (b + k) 0 ≡ get_or m (c + k) 0

module _ (l : List ℕ) (b : ℕ) (m : List ℕ) (c : ℕ) (a : Agree l b m c) where
  word_same : (x y k : ℕ) → x ≡ b + k → y ≡ c + k → k < ops_end → get_or l x 0 ≡ get_or m y 0
  word_same x y k ex ey h = ap (λ (z : ℕ). get_or l z 0) ex ∙ a k h ∙ ap (λ (z : ℕ). get_or m z 0) (sym ey)

  op_same : (o : ℕ) → o + 3 ≤ ops_end → op_at l (b + o) ≡ op_at m (c + o)
  op_same o h = λ i. record {
    code = word_same (b + o) (c + o) o refl refl (omega arith) i;
    cell = word_same (b + o + 1) (c + o + 1) (o + 1) (omega arith) (omega arith) (omega arith) i;
    amount = word_same (b + o + 2) (c + o + 2) (o + 2) (omega arith) (omega arith) (omega arith) i;
  }

  pub fragment_same : fragment_at l b ≡ fragment_at m c
  unfolding fragment_at
  fragment_same = λ i. record {
    flags = a 1 (omega arith) i;
    coordinator = a 2 (omega arith) i;
    count = a 3 (omega arith) i;
    row = op_same 4 (omega arith) i ∷ op_same 7 (omega arith) i ∷ op_same 10 (omega arith) i ∷ op_same 13 (omega arith) i ∷ op_same 16 (omega arith) i ∷ op_same 19 (omega arith) i ∷ op_same 22 (omega arith) i ∷ op_same 25 (omega arith) i ∷ [];
  }

-- the fragment that copied words are
module _ (row : List ℕ) (at : ℕ) where
  copied_agree : (n : ℕ) → ops_end ≤ n → Agree (numbers_from row at n) 0 row at
  copied_agree n e k h = (let z : 0 + k ≡ k = omega arith in ap (λ (x : ℕ). get_or (numbers_from row at n) x 0) z) ∙ get_or-numbers row at n k (omega arith)

  pub fragment_words : fragment_at (numbers_from row at live_width) 0 ≡ fragment_at row at
  fragment_words = fragment_same (numbers_from row at live_width) 0 row at (copied_agree live_width (omega arith))

  pub fragment_ops : fragment_at (numbers_from row at ops_end) 0 ≡ fragment_at row at
  fragment_ops = fragment_same (numbers_from row at ops_end) 0 row at (copied_agree ops_end (omega arith))

-- n words moved to a row's start, from k on
pub moved_down : (row : List ℕ) (k n stop i : ℕ) → stop ≤ length row → i ≡ min k stop → n ≡ stop - k → copy_within row i stop 0 ≡ sets row 0 (numbers_from row k n)
moved_down row k n stop i h ei en =
    let e : stop - i ≡ n = omega arith in
    let w : take n (drop i row) ≡ numbers_from row k n = numbers_in row k n i stop h (omega arith) (omega arith) in
    let z : 0 + n ≡ 0 + length (numbers_from row k n) = omega (arith, length-numbers row k n) in
    ap (λ (x : ℕ). paste row 0 (drop i row) x) e
    ∙ append_assoc [] (take n (drop i row)) (drop (0 + n) row)
    ∙ (λ j. w j ++ drop (z j) row)
    ∙ sym (sets-eq (numbers_from row k n) row 0 (omega (arith, length-numbers row k n)))

-- a shift in two parts: what stays is moved, and the places that it leaves are cleared
pub shift_parts : (row : List ℕ) (k m n stop : ℕ) → stop ≡ min m (length row) → n ≡ stop - k → sets (sets row 0 (numbers_from row k n)) n (zeros (stop - n)) ≡ shifted row k m
unfolding shifted
shift_parts row k m n stop es en =
    ext_get_or 0 (sets moved n (zeros (stop - n))) (sets row 0 (numbers_from src k m)) (length-sets moved n (zeros (stop - n)) ∙ lm ∙ sym (length-sets row 0 (numbers_from src k m)))
    (λ x hx. go x (omega (arith, lm, length-sets moved n (zeros (stop - n)))) (ltb x stop) refl)
  where
    src : List ℕ
    src = take m row

    ls : length (take m row) ≡ stop
    ls = length-take m row ∙ sym es

    moved : List ℕ
    moved = sets row 0 (numbers_from row k n)

    lm : length (sets row 0 (numbers_from row k n)) ≡ length row
    lm = length-sets row 0 (numbers_from row k n)

    lz : length (zeros (stop - n)) ≡ stop - n
    lz = length-replicate (stop - n) 0

    new : (x : ℕ) → x < m → x < length row → get_or (sets row 0 (numbers_from (take m row) k m)) x 0 ≡ get_or (take m row) (k + (x - 0)) 0
    new x h hx = get_or-sets_at row 0 (numbers_from src k m) x (omega arith) (omega (arith, length-numbers src k m)) hx ∙ get_or-numbers src k m (x - 0) (omega arith)

    inside : (x : ℕ) → x < length row → x < stop → (b : Bool) → ltb x n ≡ b → get_or (sets (sets row 0 (numbers_from row k n)) n (zeros (stop - n))) x 0 ≡ get_or (take m row) (k + (x - 0)) 0
    inside x hx hs true e =
        let y : x < n = ltb-true x n e in
        get_d_sets_before moved n (zeros (stop - n)) x y ∙ get_or-sets_at row 0 (numbers_from row k n) x (omega arith) (omega (arith, length-numbers row k n)) hx ∙ get_or-numbers row k n (x - 0) (omega arith)
        ∙ sym (get_or-take m row (k + (x - 0)) 0 (omega arith))
    inside x hx hs false e =
        let y : n ≤ x = ltb-false x n e in
        let z : get_or (zeros (stop - n)) (x - n) 0 ≡ 0 = get_or-replicate (stop - n) (x - n) 0 0 (omega arith) in
        get_or-sets_at moved n (zeros (stop - n)) x y (omega (arith, lz)) (omega (arith, lm)) ∙ z ∙ sym (get_or-eq_default src 0 {n = k + (x - 0)} (omega (arith, ls)))

    go : (x : ℕ) → x < length row → (b : Bool) → ltb x stop ≡ b → get_or (sets (sets row 0 (numbers_from row k n)) n (zeros (stop - n))) x 0 ≡ get_or (sets row 0 (numbers_from (take m row) k m)) x 0
    go x hx true e = let y : x < stop = ltb-true x stop e in inside x hx y (ltb x n) refl ∙ sym (new x (omega arith) hx)
    go x hx false e =
        let y : stop ≤ x = ltb-false x stop e in
        get_or-sets_after moved n (zeros (stop - n)) x (omega (arith, lz)) ∙ get_or-sets_after row 0 (numbers_from row k n) x (omega (arith, length-numbers row k n))
        ∙ sym (get_or-sets_after row 0 (numbers_from src k m) x (omega (arith, length-numbers src k m)))

-- the same as the row's own methods leave it
pub shift_moved : (row : List ℕ) (k m n stop i : ℕ) → stop ≡ min (length row) m → n ≡ stop - k → i ≡ min k stop → put_mid n (stop - n) (copy_within row i stop 0) (zeros (stop - n)) ≡ shifted row k m
shift_moved row k m n stop i es en ei =
    let es' : stop ≡ min m (length row) = omega arith in
    let moved : copy_within row i stop 0 ≡ sets row 0 (numbers_from row k n) = moved_down row k n stop i (omega arith) ei en in
    let size : length (sets row 0 (numbers_from row k n)) ≡ length row = length-sets row 0 (numbers_from row k n) in
    ap (λ (x : List ℕ). put_mid n (stop - n) x (zeros (stop - n))) moved
    ∙ put_sets (sets row 0 (numbers_from row k n)) (zeros (stop - n)) n (stop - n) (length-replicate (stop - n) 0) (omega (arith, size))
    ∙ shift_parts row k m n stop es' en

-- shifting by nothing
pub shifted_none : (row : List ℕ) (m : ℕ) → row ≡ shifted row 0 m
unfolding shifted
shifted_none row m =
    ext_get_or 0 row (sets row 0 (numbers_from (take m row) 0 m)) (sym (length-sets row 0 (numbers_from (take m row) 0 m))) (λ x hx. go x hx (ltb x m) refl)
  where
    go : (x : ℕ) → x < length row → (b : Bool) → ltb x m ≡ b → get_or row x 0 ≡ get_or (sets row 0 (numbers_from (take m row) 0 m)) x 0
    go x hx true e =
        let y : x < m = ltb-true x m e in
        let z : 0 + (x - 0) ≡ x = omega arith in
        sym (get_or-sets_at row 0 (numbers_from (take m row) 0 m) x (omega arith) (omega (arith, length-numbers (take m row) 0 m)) hx ∙ get_or-numbers (take m row) 0 m (x - 0) (omega arith)
        ∙ ap (λ (q : ℕ). get_or (take m row) q 0) z ∙ get_or-take m row x 0 y)
    go x hx false e = let y : m ≤ x = ltb-false x m e in sym (get_or-sets_after row 0 (numbers_from (take m row) 0 m) x (omega (arith, length-numbers (take m row) 0 m)))

-- Words laid over a row

pub get_d_over : (row l : List ℕ) (x : ℕ) → x < length l → get_or (over row l) x 0 ≡ get_or l x 0
unfolding over
get_d_over row l x h = get_or-append l (drop (length l) row) 0 x h

pub get_or-behind : (row l : List ℕ) (x : ℕ) → length l ≤ x → get_or (over row l) x 0 ≡ get_or row x 0
unfolding over
get_or-behind row l x h =
    let z : x ≡ length l + (x - length l) = omega arith in
    ap (λ (y : ℕ). get_or (l ++ drop (length l) row) y 0) z ∙ get_or-append-add l (drop (length l) row) (x - length l) 0 ∙ get_or-drop (length l) row (x - length l) 0 ∙ ap (λ (y : ℕ). get_or row y 0) (sym z)

pub length_over : (row l : List ℕ) → length l ≤ length row → length (over row l) ≡ length row
unfolding over
length_over row l h = length-append l (drop (length l) row) ∙ omega (arith, length-drop (length l) row)

-- a row is known by its numbers
pub over_of : (row' row l : List ℕ) → length row' ≡ length row → length l ≤ length row → ((x : ℕ) → x < length l → get_or row' x 0 ≡ get_or l x 0) → ((x : ℕ) → length l ≤ x → get_or row' x 0 ≡ get_or row x 0) → row' ≡ over row l
over_of row' row l e h f g = ext_get_or 0 row' (over row l) (e ∙ sym (length_over row l h)) (λ x k. go x (ltb x (length l)) refl)
  where
    go : (x : ℕ) (b : Bool) → ltb x (length l) ≡ b → get_or row' x 0 ≡ get_or (over row l) x 0
    go x true t = let y : x < length l = ltb-true x (length l) t in f x y ∙ sym (get_d_over row l x y)
    go x false t = let y : length l ≤ x = ltb-false x (length l) t in g x y ∙ sym (get_or-behind row l x y)

-- laid over twice: the longer hides the other
pub over_twice : (row l m : List ℕ) → length l ≤ length m → length m ≤ length row → over (over row l) m ≡ over row m
over_twice row l m h k =
    over_of (over (over row l) m) row m (length_over (over row l) m (omega (arith, length_over row l (omega arith))) ∙ length_over row l (omega arith)) k (λ x hx. get_d_over (over row l) m x hx)
    (λ x hx. get_or-behind (over row l) m x hx ∙ get_or-behind row l x (omega arith))

-- a row's own words laid over it
pub over_own : (row : List ℕ) (n : ℕ) → n ≤ length row → row ≡ over row (take n row)
over_own row n h =
    over_of row row (take n row) refl (omega (arith, length-take n row)) (λ x hx. sym (get_or-take n row x 0 (omega (arith, length-take n row)))) (λ x hx. refl)

-- words laid behind those
pub lay_over : (row l w : List ℕ) (at : ℕ) → length l ≡ at → at + length w ≤ length row → sets (over row l) at w ≡ over row (l ++ w)
unfolding over
lay_over row l w at e h =
    let z : List ℕ = drop (length l) row in
    let lz : length z ≡ length row - length l = length-drop (length l) row in
    let rest : drop (at + length w) (l ++ z) ≡ drop (length w) z = ap (λ (x : ℕ). drop (x + length w) (l ++ z)) (sym e) ∙ drop-append-add l z (length w) in
    let cut : drop (length w) z ≡ drop (length (l ++ w)) row = drop-drop (length w) (length l) row ∙ ap (λ (x : ℕ). drop x row) (sym (length-append l w)) in
    sets-eq w (l ++ z) at (omega (arith, length-append l z)) ∙ (λ i. take_at l z at e i ++ w ++ (rest ∙ cut) i)

-- words laid over others of the same length
sets_middle : (a x z w : List ℕ) → length x ≡ length w → sets (a ++ (x ++ z)) (length a) w ≡ a ++ (w ++ z)
sets_middle a x z w e =
    let n : length a + length w ≡ length (a ++ x) = omega (arith, length-append a x) in
    let l : List ℕ = a ++ (x ++ z) in
    sets-eq w l (length a) (omega (arith, length-append a (x ++ z), length-append x z)) ∙ append_assoc (take (length a) l) w (drop (length a + length w) l)
    ∙ (λ i. take_at a (x ++ z) (length a) refl i ++ (w ++ (ap (λ (k : ℕ). drop k l) n ∙ ap (drop (length (a ++ x))) (sym (append_assoc a x z)) ∙ drop_at (a ++ x) z (length (a ++ x)) refl) i))

pub relay_over : (row a x z w : List ℕ) (at : ℕ) → length a ≡ at → length x ≡ length w → sets (over row (a ++ (x ++ z))) at w ≡ over row (a ++ (w ++ z))
unfolding over
relay_over row a x z w at ea e =
    let size : length (a ++ (x ++ z)) ≡ length (a ++ (w ++ z)) = omega (arith, length-append a (x ++ z), length-append a (w ++ z), length-append x z, length-append w z) in
    let rest : List ℕ = drop (length (a ++ (x ++ z))) row in
    (λ i. sets (shape x rest i) (sym ea i) w) ∙ sets_middle a x (z ++ rest) w e ∙ sym (shape w rest) ∙ ap (λ (n : ℕ). (a ++ (w ++ z)) ++ drop n row) size
  where
    shape : (y r : List ℕ) → (a ++ (y ++ z)) ++ r ≡ a ++ (y ++ (z ++ r))
    shape y r = append_assoc a (y ++ z) r ∙ ap (λ (q : List ℕ). a ++ q) (append_assoc y z r)

-- the first of them, g, shifted out of a row that has zeros behind the others
pub shift_over : (row g l : List ℕ) (k m : ℕ) → length g ≡ k → length (g ++ l) ≡ m → m ≤ length row → ((x : ℕ) → x < m → get_or row x 0 ≡ 0) → shifted (over row (g ++ l)) k m ≡ over row l
unfolding shifted over
shift_over row g l k m e em h zero-there =
    over_of (sets old 0 new) row l (length-sets old 0 new ∙ lo) (omega (arith, length-append g l))
    (λ x hx. inside x (omega (arith, length-append g l)))
    (λ x hx. behind x hx (ltb x m) refl)
  where
    old : List ℕ
    old = over row (g ++ l)

    lo : length (over row (g ++ l)) ≡ length row
    lo = length_over row (g ++ l) (omega arith)

    cut : take m (over row (g ++ l)) ≡ g ++ l
    cut = take_at (g ++ l) (drop (length (g ++ l)) row) m em

    new : List ℕ
    new = numbers_from (take m (over row (g ++ l))) k m

    ln : length (numbers_from (take m (over row (g ++ l))) k m) ≡ m
    ln = length-numbers (take m (over row (g ++ l))) k m

    inside : (x : ℕ) → x < m → get_or (sets (over row (g ++ l)) 0 (numbers_from (take m (over row (g ++ l))) k m)) x 0 ≡ get_or l x 0
    inside x hx =
        get_or-sets_in old new x (omega (arith, ln, lo)) (omega (arith, ln)) ∙ get_or-numbers (take m old) k m x hx ∙ ap (λ (q : List ℕ). get_or q (k + x) 0) cut ∙ ap (λ (q : ℕ). get_or (g ++ l) (q + x) 0) (sym e) ∙ get_or-append-add g l x 0

    behind : (x : ℕ) → length l ≤ x → (b : Bool) → ltb x m ≡ b → get_or (sets (over row (g ++ l)) 0 (numbers_from (take m (over row (g ++ l))) k m)) x 0 ≡ get_or row x 0
    behind x hx true t = let y : x < m = ltb-true x m t in inside x y ∙ get_or-eq_default l 0 {n = x} hx ∙ sym (zero-there x y)
    behind x hx false t = let y : m ≤ x = ltb-false x m t in get_or-sets_after old 0 new x (omega (arith, ln)) ∙ get_or-behind row (g ++ l) x (omega arith)

-- the places that were cleared
pub cleared_zero : (n : ℕ) (row : List ℕ) (x : ℕ) → x < n → get_or (cleared n row) x 0 ≡ 0
cleared_zero n row x h = let z : length (zeros n) ≡ n = length-replicate n 0 in get_d_over row (zeros n) x (omega (arith, z)) ∙ get_or-replicate n x 0 0 h

pub length-cleared : (n : ℕ) (row : List ℕ) → n ≤ length row → length (cleared n row) ≡ length row
length-cleared n row h = let z : length (zeros n) ≡ n = length-replicate n 0 in length_over row (zeros n) (omega (arith, z))

-- no words hide nothing
pub over_none : (row : List ℕ) → over row [] ≡ row
unfolding over
over_none row = refl

-- the first n words shifted out
pub shift_all : (row : List ℕ) (n : ℕ) → n ≤ length row → shifted row n n ≡ cleared n row
shift_all row n h =
    let lz : length (zeros n) ≡ n = length-replicate n 0 in
    let lt : length (take n row) ≡ n = length-take n row ∙ omega arith in
    let la : length (take n row ++ []) ≡ n = ap length (append-nil (take n row)) ∙ lt in
    ap (λ (x : List ℕ). shifted x n n) (over_own row n h ∙ ap (over row) (sym (append-nil (take n row))) ∙ sym (over_twice row (zeros n) (take n row ++ []) (omega (arith, la, lz)) (omega (arith, la))))
    ∙ shift_over (cleared n row) (take n row) [] n n lt la (omega (arith, length-cleared n row h)) (λ x hx. cleared_zero n row x hx) ∙ over_none (cleared n row)

-- a row of zeros has them behind any words
pub padded_over : (n : ℕ) (l : List ℕ) → padded n l ≡ over (zeros n) l
unfolding padded over
padded_over n l = ap (λ (x : List ℕ). l ++ x) (zeros_rest (length l) n)

-- a row that holds words and zeros, cleared as far as its words go: zeros alone
pub cleared_padded : (m n : ℕ) (l : List ℕ) → length l ≤ n → n ≤ m → cleared n (padded m l) ≡ zeros m
cleared_padded m n l h k =
    let lp : length (padded m l) ≡ m = length-padded m l (omega arith) in
    let lc : length (cleared n (padded m l)) ≡ m = length-cleared n (padded m l) (omega (arith, lp)) ∙ lp in
    let lz : length (zeros m) ≡ m = length-replicate m 0 in
    let ln : length (zeros n) ≡ n = length-replicate n 0 in
    ext_get_or 0 (cleared n (padded m l)) (zeros m) (lc ∙ sym lz) (λ x hx. go x ln (omega (arith, lc)) (ltb x n) refl)
  where
    go : (x : ℕ) → length (zeros n) ≡ n → x < m → (b : Bool) → ltb x n ≡ b → get_or (cleared n (padded m l)) x 0 ≡ get_or (zeros m) x 0
    go x ln hx true t = let y : x < n = ltb-true x n t in cleared_zero n (padded m l) x y ∙ sym (get_or-replicate m x 0 0 hx)
    go x ln hx false t =
        let y : n ≤ x = ltb-false x n t in
        get_or-behind (padded m l) (zeros n) x (omega (arith, ln)) ∙ get_or-padded m l x ∙ get_or-eq_default l 0 {n = x} (omega arith) ∙ sym (get_or-replicate m x 0 0 hx)

-- Eight places, one by one

pub eight : {A : Type 0} (d : A) (l : List A) → length l ≡ 8 → get_or l 0 d ∷ get_or l 1 d ∷ get_or l 2 d ∷ get_or l 3 d ∷ get_or l 4 d ∷ get_or l 5 d ∷ get_or l 6 d ∷ get_or l 7 d ∷ [] ≡ l
eight d l h = ap (λ (n : ℕ). map (λ (p : ℕ). get_or l p d) (places 0 1 n)) (sym h) ∙ read_whole d l

-- the words of a row whose eight operations are taken one by one
pub row_words_lem : (n a : ℕ) (f : Fragment) → length f.row ≡ 8
    → n ∷ f.flags ∷ f.coordinator ∷ f.count ∷ ops_words (get_or f.row 0 no_op ∷ get_or f.row 1 no_op ∷ get_or f.row 2 no_op ∷ get_or f.row 3 no_op ∷ get_or f.row 4 no_op ∷ get_or f.row 5 no_op ∷ get_or f.row 6 no_op ∷ get_or f.row 7 no_op ∷ []) ++ (a ∷ []) ≡ row_words n a f
unfolding row_words
row_words_lem n a f h = ap {B = List ℕ} (λ (x : List Op). n ∷ f.flags ∷ f.coordinator ∷ f.count ∷ ops_words x ++ (a ∷ [])) (eight no_op f.row h)
