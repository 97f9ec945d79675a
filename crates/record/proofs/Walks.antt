-- Laws of walks along rows, whatever is read at their places: how many, one stretch behind the other, which place has a number, and what is left of
-- a walk at one turn of a loop.
use Prim.Native.Nat.{ℕ, zero, suc, ◌+◌, ◌*◌, ◌-◌, ◌<◌}
use native.Mathlib.Omega.{arith}
use native.Mathlib.Nat.{mul-suc}
use mathlib.Core.Path.{◌≡◌, refl, sym, ap, ◌∙◌}
use mathlib.Core.Bool.{Bool, true, false, ◌&&◌}
use mathlib.Core.List.{List, [], ◌∷◌, ◌++◌, map, append_assoc}
use lib.ListN.{length, get_or, length-append}
use lib.Seq.{get_or_at}
use Rattle.model.specs.Refusals.{every}
use Rattle.model.specs.Parts.{All}
use Rattle.record.specs.Walk.{walk, places}

-- Any walk

module _ {S : Type 0} (next : S → S) where
  -- where it stands after m steps
  abbrev after : ℕ → S → S
  after zero s = s
  after (suc m) s = after m (next s)

  module _ {A : Type 0} (f : S → A) where
    pub read_length : (s : S) (n : ℕ) → length (map f (walk next s n)) ≡ n
    read_length s zero = refl
    read_length s (suc n) = ap suc (read_length (next s) n)

    pub read_all : (P : A → Type 0) → ((s : S) → P (f s)) → (s : S) (n : ℕ) → All P (map f (walk next s n))
    read_all P h s zero = tt
    read_all P h s (suc n) = (h s, read_all P h (next s) n)

    walk_add : (s : S) (m n : ℕ) → map f (walk next s (m + n)) ≡ map f (walk next s m) ++ map f (walk next (after m s) n)
    walk_add s zero n = let z : 0 + n ≡ n = omega arith in ap (λ (x : ℕ). map f (walk next s x)) z
    walk_add s (suc m) n =
        let z : suc m + n ≡ suc (m + n) = omega arith in
        ap (λ (x : ℕ). map f (walk next s x)) z ∙ ap {B = List A} (λ (x : List A). f s ∷ x) (walk_add (next s) m n)

-- what is left of a walk is the whole: at a place of it, and at its end
module _ {S X : Type 0} (next : S → S) (F : List S → X) (s : S) (left : ℕ) (whole : X) (inv : F (walk next s left) ≡ whole) where
  pub walk_on : (t : S) (m : ℕ) → next s ≡ t → left ≡ suc m → F (s ∷ walk next t m) ≡ whole
  walk_on t m et em = (λ i. F (s ∷ walk next (sym et i) m)) ∙ ap (λ (x : ℕ). F (walk next s x)) (sym em) ∙ inv

  pub walk_end : left ≡ 0 → F [] ≡ whole
  walk_end e = ap (λ (x : ℕ). F (walk next s x)) (sym e) ∙ inv

-- the same of a test of every place
module _ {S : Type 0} (next : S → S) (p : S → Bool) (s : S) (left : ℕ) (whole : Bool) (inv : every p (walk next s left) ≡ whole) where
  pub every_on : (t : S) (m : ℕ) → next s ≡ t → left ≡ suc m → p s ≡ true → every p (walk next t m) ≡ whole
  every_on t m et em h = ap (λ (x : Bool). x && every p (walk next t m)) (sym h) ∙ walk_on next (every p) s left whole inv t m et em

  pub every_off : 0 < left → p s ≡ false → false ≡ whole
  every_off l h =
      let e : left ≡ suc (left - 1) = omega arith in
      ap (λ (x : Bool). x && every p (walk next (next s) (left - 1))) (sym h) ∙ walk_on next (every p) s left whole inv (next s) (left - 1) refl e

  pub every_end : left ≡ 0 → true ≡ whole
  every_end e = walk_end next (every p) s left whole inv e

-- Rows of width k

module _ {A : Type 0} (f : ℕ → A) (k : ℕ) where
  places_after : (b m : ℕ) → after (λ (p : ℕ). p + k) m b ≡ b + k * m
  places_after b zero = omega arith
  places_after b (suc m) = places_after (b + k) m ∙ omega (arith, mul-suc k m)

  -- the rest of m + n rows starts at c
  pub read_add : (b m n c : ℕ) → b + k * m ≡ c → map f (places b k (m + n)) ≡ map f (places b k m) ++ map f (places c k n)
  read_add b m n c e = walk_add (λ (p : ℕ). p + k) f b m n ∙ ap (λ (x : ℕ). map f (places b k m) ++ map f (places x k n)) (places_after b m ∙ e)

  -- row i starts at c
  pub read_at : (d : A) (b n i c : ℕ) → i < n → b + k * i ≡ c → get_or (map f (places b k n)) i d ≡ f c
  read_at d b zero i c h e = absurd (omega arith)
  read_at d b (suc n) zero c h e = let z : b ≡ c = omega arith in ap f z
  read_at d b (suc n) (suc i) c h e = read_at d (b + k) n i c (omega arith) (omega (arith, mul-suc k i))

-- a list is what is read at its places
pub read_whole : {A : Type 0} (d : A) (l : List A) → map (λ (p : ℕ). get_or l p d) (places 0 1 (length l)) ≡ l
read_whole {A} d l = go [] l 0 refl
  where
    go : (p q : List A) (b : ℕ) → length p ≡ b → map (λ (x : ℕ). get_or (p ++ q) x d) (places b 1 (length q)) ≡ q
    go p [] b e = refl
    go p (x ∷ q) b e =
        let l : (p ++ (x ∷ [])) ++ q ≡ p ++ x ∷ q = append_assoc p (x ∷ []) q in
        λ i. get_or_at p x q d b e i ∷ (ap (λ (y : List A). map (λ (z : ℕ). get_or y z d) (places (b + 1) 1 (length q))) (sym l) ∙ go (p ++ (x ∷ [])) q (b + 1) (length-append p (x ∷ []) ∙ ap (λ (y : ℕ). y + 1) e)) i
