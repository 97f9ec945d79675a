-- Laws of tests and of `every`.
use mathlib.Core.Path.{◌≡◌, refl, sym}
use mathlib.Core.Bool.{Bool, true, false, ◌&&◌, ◌||◌, true≢false}
use mathlib.Core.List.{List, [], ◌∷◌, ◌++◌}
use Rattle.model.specs.Refusals.{every}
use Rattle.model.specs.Parts.{All}

pub both : (a b : Bool) → a ≡ true → b ≡ true → (a && b) ≡ true
both true b e h = h
both false b e h = e

pub and_left : (a b : Bool) → (a && b) ≡ true → a ≡ true
and_left true b h = refl
and_left false b h = h

pub and_right : (a b : Bool) → (a && b) ≡ true → b ≡ true
and_right true b h = h
and_right false b h = absurd (true≢false (sym h))

pub or_left : (a b : Bool) → (a || b) ≡ false → a ≡ false
or_left true b h = h
or_left false b h = refl

pub or_right : (a b : Bool) → (a || b) ≡ false → b ≡ false
or_right true b h = absurd (true≢false h)
or_right false b h = h

pub or_true : (a b : Bool) → b ≡ true → (a || b) ≡ true
or_true true b h = refl
or_true false b h = h

module _ {A : Type 0} (p : A → Bool) where
  pub every-all : (l : List A) → every p l ≡ true → All (λ (a : A). p a ≡ true) l
  every-all [] h = tt
  every-all (a ∷ l) h = (and_left (p a) (every p l) h, every-all l (and_right (p a) (every p l) h))

  pub all-every : (l : List A) → All (λ (a : A). p a ≡ true) l → every p l ≡ true
  all-every [] h = refl
  all-every (a ∷ l) h = both (p a) (every p l) h.0 (all-every l h.1)

  pub every_append : (l m : List A) → every p l ≡ true → every p m ≡ true → every p (l ++ m) ≡ true
  every_append [] m h k = k
  every_append (a ∷ l) m h k = both (p a) (every p (l ++ m)) (and_left (p a) (every p l) h) (every_append l m (and_right (p a) (every p l) h) k)

  pub every_first : (l m : List A) → every p (l ++ m) ≡ true → every p l ≡ true
  every_first [] m h = refl
  every_first (a ∷ l) m h = both (p a) (every p l) (and_left (p a) (every p (l ++ m)) h) (every_first l m (and_right (p a) (every p (l ++ m)) h))

  pub every_rest : (l m : List A) → every p (l ++ m) ≡ true → every p m ≡ true
  every_rest [] m h = h
  every_rest (a ∷ l) m h = every_rest l m (and_right (p a) (every p (l ++ m)) h)
