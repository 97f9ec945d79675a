-- Laws of a text that is put into a buffer part by part, and of what the buffer then shows.
use Prim.Native.Nat.{ℕ, zero, suc, ◌+◌, ◌-◌, ◌≤◌, ◌<◌}
use native.Mathlib.Omega.{arith}
use borrow.Author.Tests.{le-leb, lt-leb}
use mathlib.Core.Path.{◌≡◌, refl, sym, ap, subst, ◌∙◌}
use mathlib.Core.Bool.{Bool}
use mathlib.Core.List.{List, [], ◌∷◌, ◌++◌, append_assoc}
use lib.ListN.{length, length-append, take, drop, get_or, set, drop_of_length-le}
use lib.Seq.{sets, sets-eq, take_at, drop-cons}
use Rattle.model.specs.Operations.{pick}
use Rattle.listing.specs.Printed.{Lines, lines_from, together, seen, shown, Put}

pub together_append : (ls ms : Lines) → together (ls ++ ms) ≡ together ls ++ together ms
unfolding together
together_append [] ms = refl
together_append (l ∷ ls) ms = ap (λ (x : List ℕ). l ++ x) (together_append ls ms) ∙ sym (append_assoc l (together ls) (together ms))

-- a byte that stands before what is shown, and one that does not
pub seen_before : (from : ℕ) (l : List ℕ) (at b : ℕ) → at < from → seen from l at b ≡ l
unfolding seen
seen_before from l at b h = ap (λ (c : Bool). pick c (set l (at - from) b) l) (lt-leb from at h)

pub seen_from : (from : ℕ) (l : List ℕ) (at b : ℕ) → from ≤ at → seen from l at b ≡ set l (at - from) b
unfolding seen
seen_from from l at b h = ap (λ (c : Bool). pick c (set l (at - from) b) l) (le-leb from at h)

-- two parts, one behind the other
shown_then : (from : ℕ) (l : List ℕ) (at : ℕ) (x y : List ℕ) → shown from (shown from l at x) (at + length x) y ≡ shown from l at (x ++ y)
unfolding shown
shown_then from l at [] y = let z : at + 0 ≡ at = omega arith in ap (λ (n : ℕ). shown from l n y) z
shown_then from l at (b ∷ x) y =
    let z : at + suc (length x) ≡ suc at + length x = omega arith in
    ap (λ (n : ℕ). shown from (shown from (seen from l at b) (suc at) x) n y) z ∙ shown_then from (seen from l at b) (suc at) x y

-- from what is shown on, bytes are stored
shown_on : (from : ℕ) (l : List ℕ) (at : ℕ) (x : List ℕ) → from ≤ at → shown from l at x ≡ sets l (at - from) x
unfolding shown
shown_on from l at [] h = refl
shown_on from l at (b ∷ x) h =
    let z : suc at - from ≡ suc (at - from) = omega arith in
    ap (λ (m : List ℕ). shown from m (suc at) x) (seen_from from l at b h) ∙ shown_on from (set l (at - from) b) (suc at) x (omega arith)
    ∙ ap (λ (n : ℕ). sets (set l (at - from) b) n x) z

-- k bytes before it are not
shown_past : (from : ℕ) (l : List ℕ) (k at : ℕ) (x : List ℕ) → at + k ≡ from → shown from l at x ≡ sets l 0 (drop k x)
unfolding shown
shown_past from l zero at x h = let z : at - from ≡ 0 = omega arith in shown_on from l at x (omega arith) ∙ ap (λ (n : ℕ). sets l n x) z
shown_past from l (suc k) at [] h = refl
shown_past from l (suc k) at (b ∷ x) h = ap (λ (m : List ℕ). shown from m (suc at) x) (seen_before from l at b (omega arith)) ∙ shown_past from l k (suc at) x (omega arith)

-- the whole text, from `from` on
pub shown_whole : (from : ℕ) (l x : List ℕ) → shown from l 0 x ≡ sets l 0 (drop from x)
shown_whole from l x = shown_past from l from 0 x (omega arith)

-- one turn of putting a text's bytes, of which i are put
pub text_turn : (from : ℕ) (b b' text all : List ℕ) (at i w : ℕ) → i < length text → w ≡ get_or text i 0 → b' ≡ seen from b (at + i) w
    → shown from b (at + i) (drop i text) ≡ all → shown from b' (at + (i + 1)) (drop (i + 1) text) ≡ all
unfolding shown
text_turn from b b' text all at i w h ew eb inv =
    let p : at + (i + 1) ≡ suc (at + i) = omega arith in
    let q : i + 1 ≡ suc i = omega arith in
    (λ j. shown from ((eb ∙ ap (seen from b (at + i)) ew) j) (p j) (drop (q j) text)) ∙ ap (shown from b (at + i)) (sym (drop-cons text i 0 h)) ∙ inv

pub text_start : (from : ℕ) (b text : List ℕ) (at : ℕ) → shown from b (at + 0) (drop 0 text) ≡ shown from b at text
text_start from b text at = let z : at + 0 ≡ at = omega arith in ap (λ (x : ℕ). shown from b x text) z

pub text_end : (from : ℕ) (b text all : List ℕ) (at i : ℕ) → length text ≤ i → shown from b (at + i) (drop i text) ≡ all → b ≡ all
unfolding shown
text_end from b text all at i h inv = sym (ap (shown from b (at + i)) (drop_of_length-le text h)) ∙ inv

-- the same text by another name
pub put_as : (from : ℕ) (b b' x y : List ℕ) (at p : ℕ) → x ≡ y → Put from b b' at p x → Put from b b' at p y
put_as from b b' x y at p e h = record { place = h.place ∙ ap (λ (t : List ℕ). at + length t) e; bytes = h.bytes ∙ ap (shown from b at) e }

-- A line that was written into an array of its own: what is put from there.
pub line_written : (line line' text : List ℕ) (n : ℕ) → n ≡ 0 + length text → line' ≡ sets line 0 text → length text ≤ length line → take n line' ≡ text
line_written line line' text n en el fits =
    ap (take n) (el ∙ sets-eq text line 0 (omega arith)) ∙ take_at text (drop (0 + length text) line) n (omega arith)

pub put_written : (from : ℕ) (b b' line line' text : List ℕ) (at n p : ℕ) → n ≡ 0 + length text → line' ≡ sets line 0 text → length text ≤ length line → Put from b b' at p (take n line') → Put from b b' at p text
put_written from b b' line line' text at n p en el fits h = put_as from b b' (take n line') text at p (line_written line line' text n en el fits) h

-- the same, where the page starts and the place are known by other names
pub put_moved : (from from' : ℕ) (b b' : List ℕ) (at at' p : ℕ) (x : List ℕ) → from' ≡ from → at' ≡ at → Put from' b b' at' p x → Put from b b' at p x
put_moved from from' b b' at at' p x e z h =
    let P : ℕ → ℕ → Type 0 = λ f i. Put f b b' i p x in
    subst (λ (i : ℕ). P from i) z (subst (λ (f : ℕ). P f at') e h)

-- one text behind another
pub put_then : (from : ℕ) (b b1 b2 x y : List ℕ) (at p q : ℕ) → Put from b b1 at p x → Put from b1 b2 p q y → Put from b b2 at q (x ++ y)
put_then from b b1 b2 x y at p q h k = record {
  place = omega (arith, h.place, k.place, length-append x y);
  bytes = k.bytes ∙ (λ j. shown from (h.bytes j) (h.place j) y) ∙ shown_then from b at x y;
}

-- What is left to put from p on, into b, is the whole from `at` on, into b₀: the invariant of a loop that puts one text behind another.
pub record Left (from : ℕ) (b b₀ : List ℕ) (p at : ℕ) (rest whole : List ℕ) : Type 0 where
  pub place : p + length rest ≡ at + length whole
  pub bytes : shown from b p rest ≡ shown from b₀ at whole

pub left_start : (from : ℕ) (b : List ℕ) (at : ℕ) (rest whole : List ℕ) → rest ≡ whole → Left from b b at at rest whole
left_start from b at rest whole e = record { place = ap (λ (t : List ℕ). at + length t) e; bytes = ap (shown from b at) e }

pub left_turn : (from : ℕ) (b b' b₀ : List ℕ) (p p' at : ℕ) (x rest rest' whole : List ℕ) → rest ≡ x ++ rest' → Put from b b' p p' x → Left from b b₀ p at rest whole → Left from b' b₀ p' at rest' whole
left_turn from b b' b₀ p p' at x rest rest' whole e h l = record {
  place = omega (arith, h.place, l.place, ap length e, length-append x rest');
  bytes = (λ j. shown from (h.bytes j) (h.place j) rest') ∙ shown_then from b p x rest' ∙ ap (shown from b p) (sym e) ∙ l.bytes;
}

pub left_end : (from : ℕ) (b b₀ : List ℕ) (p at : ℕ) (rest whole : List ℕ) → rest ≡ [] → Left from b b₀ p at rest whole → Put from b₀ b at p whole
unfolding shown
left_end from b b₀ p at rest whole e l = record { place = omega (arith, l.place, ap length e); bytes = sym (ap (shown from b p) e) ∙ l.bytes }

-- a loop over n lines, of which i are put
module _ (from : ℕ) (line : ℕ → List ℕ) (n : ℕ) where
  pub lines_start : (b : List ℕ) (at : ℕ) → Left from b b at at (together (lines_from line 0 (n - 0))) (together (lines_from line 0 n))
  lines_start b at = let e : n - 0 ≡ n = omega arith in left_start from b at _ _ (ap (λ (x : ℕ). together (lines_from line 0 x)) e)

  pub lines_turn : (b b' b₀ : List ℕ) (i p p' at : ℕ) (whole : List ℕ) → i < n → Put from b b' p p' (line i)
      → Left from b b₀ p at (together (lines_from line i (n - i))) whole → Left from b' b₀ p' at (together (lines_from line (i + 1) (n - (i + 1)))) whole
  unfolding lines_from together
  lines_turn b b' b₀ i p p' at whole h put l =
      let e : n - i ≡ suc (n - (i + 1)) = omega arith in
      left_turn from b b' b₀ p p' at (line i) (together (lines_from line i (n - i))) (together (lines_from line (i + 1) (n - (i + 1)))) whole (ap (λ (x : ℕ). together (lines_from line i x)) e) put l

  pub lines_end : (b b₀ : List ℕ) (i p at : ℕ) (whole : List ℕ) → n ≤ i → Left from b b₀ p at (together (lines_from line i (n - i))) whole → Put from b₀ b at p whole
  unfolding lines_from together
  lines_end b b₀ i p at whole h l =
      let e : n - i ≡ 0 = omega arith in
      left_end from b b₀ p at (together (lines_from line i (n - i))) whole (ap (λ (x : ℕ). together (lines_from line i x)) e) l
