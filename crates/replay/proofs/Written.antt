-- What a buffer holds of a text that is longer than it, and what is written of the text so far.
use Prim.Native.Nat.{ℕ, suc, ◌+◌, ◌≤◌}
use native.Mathlib.Omega.{arith}
use mathlib.Core.Path.{◌≡◌, refl, sym, ap, subst, ◌∙◌}
use mathlib.Core.List.{List, [], ◌∷◌, ◌++◌}
use lib.ListN.{length, take, drop, take-append-drop}
use lib.Seq.{sets, set_out, length-sets, length-take-le, take_all, take-add}
use Rattle.std.specs.Prelude.{Option}
use Rattle.std.specs.Io.KnownBytes.{Appends}
use Rattle.std.proofs.KnownBytes.{Appends-nil, Appends-trans}
use Rattle.trace.proofs.Lines.{sets_then}
use Rattle.listing.proofs.Texts.{line_written}

sets_end : (l : List ℕ) (i : ℕ) (w : List ℕ) → length l ≤ i → sets l i w ≡ l
sets_end l i [] h = refl
sets_end l i (a ∷ w) h = ap (λ (x : List ℕ). sets x (suc i) w) (set_out l i a h) ∙ sets_end l (suc i) w (omega arith)

-- a buffer that is shorter than what is put into it
pub shown_full : (text text' w : List ℕ) (n : ℕ) → length text ≡ n → n ≤ length w → text' ≡ sets text 0 w → text' ≡ take n w
shown_full text text' w n e h es =
    let k : length (take n w) ≡ n = length-take-le n w h in
    let s : List ℕ = sets text 0 (take n w) in
    es ∙ ap (sets text 0) (sym (take-append-drop n w)) ∙ sym (sets_then text 0 (take n w) (drop n w))
    ∙ sets_end s (0 + length (take n w)) (drop n w) (omega (arith, length-sets text 0 (take n w)))
    ∙ sym (take_all n s (omega (arith, length-sets text 0 (take n w))))
    ∙ line_written text s (take n w) n (omega arith) refl (omega arith)

-- the last part
pub shown_last : (text text' w : List ℕ) (n : ℕ) → n ≡ length w → n ≤ length text → text' ≡ sets text 0 w → take n text' ≡ w
shown_last text text' w n e h es = line_written text text' w n (omega arith) es (omega arith)

-- one part behind what is written of the text l, and the rest of it
pub written_start : (a : Option (List ℕ)) (l : List ℕ) → Appends a a (take 0 l)
written_start a l = Appends-nil a

pub written_turn : (a b c : Option (List ℕ)) (l x : List ℕ) (m n : ℕ) → x ≡ take n (drop m l) → Appends a b (take m l) → Appends b c x → Appends a c (take (m + n) l)
written_turn a b c l x m n e h k =
    let P : List ℕ → Type 0 = λ y. Appends a c y in
    subst P (ap (λ (y : List ℕ). take m l ++ y) e ∙ sym (take-add m n l)) (Appends-trans a b c (take m l) x h k)

pub written_end : (a b c : Option (List ℕ)) (l x : List ℕ) (m : ℕ) → x ≡ drop m l → Appends a b (take m l) → Appends b c x → Appends a c l
written_end a b c l x m e h k =
    let P : List ℕ → Type 0 = λ y. Appends a c y in
    subst P (ap (λ (y : List ℕ). take m l ++ y) e ∙ take-append-drop m l) (Appends-trans a b c (take m l) x h k)
