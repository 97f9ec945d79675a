-- A walk along rows: n places, each a step from the last. What is read of n rows is read at the places of a walk.
use Rattle.std.specs.Prelude.{ℕ, zero, suc, ◌+◌, List, [], ◌∷◌}

-- n places, the first of which is s
abbrev pub walk : {S : Type 0} → (S → S) → S → ℕ → List S
walk next s zero = []
walk next s (suc n) = s ∷ walk next (next s) n

-- where n rows of width k start, the first of them at b
abbrev pub places : ℕ → ℕ → ℕ → List ℕ
places b k n = walk (λ (p : ℕ). p + k) b n
