-- Laws of the checks: which case of a definition a test picks.
use mathlib.Core.Path.{◌≡◌, refl, sym, ap, ◌∙◌}
use mathlib.Core.Bool.{Bool, true, false, ◌&&◌}
use lib.Dec.{leb, eqb}
use Rattle.model.specs.Limits.{most_coordinator}
use Rattle.model.specs.Operations.{multi, last}
use mathlib.Core.List.{List, [], ◌∷◌}
use Rattle.std.specs.List.{list_all}
use Rattle.model.specs.Refusals.{every, formed_kind}
use Rattle.model.specs.declared.Fragment.{Fragment}

-- a test of each member of a list, in std's word
pub every_all : {A : Type 0} (p : A → Bool) (l : List A) → list_all p l ≡ every p l
every_all p [] = refl
every_all p (x ∷ l) = ap (λ (b : Bool). p x && b) (every_all p l)

module _ (f : Fragment) (r : Bool) where
  by : (b : Bool) → multi f ≡ b → formed_kind f ≡ elim b as (λ _. Bool) [ true ↦ leb 1 f.coordinator && leb f.coordinator most_coordinator | false ↦ last f && eqb f.coordinator 0 ]
  by b e = ap {B = Bool} (λ (x : Bool). elim x [ true ↦ leb 1 f.coordinator && leb f.coordinator most_coordinator | false ↦ last f && eqb f.coordinator 0 ]) e

  pub kind_multi : multi f ≡ true → r ≡ (leb 1 f.coordinator && leb f.coordinator most_coordinator) → r ≡ formed_kind f
  kind_multi e h = h ∙ sym (by true e)

  pub kind_single : multi f ≡ false → r ≡ (last f && eqb f.coordinator 0) → r ≡ formed_kind f
  kind_single e h = h ∙ sym (by false e)
