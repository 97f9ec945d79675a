-- A fragment run with undo entries agrees with the fragment run by itself, and its entries take the cells back.
use Prim.Native.Nat.{ℕ, suc, ◌<◌}
use native.Mathlib.Omega.{arith}
use mathlib.Core.Path.{◌≡◌, refl, ap, ◌∙◌}
use mathlib.Core.Bool.{Bool, true, false}
use mathlib.Core.List.{List, [], ◌∷◌, ◌++◌}
use lib.ListN.{set}
use lib.Seq.{set-set, set-get_or}
use Rattle.model.specs.Operations.{Cells, content, operate, put, writes, tells, Trial, Done, Broke, trial_from, told}
use Rattle.model.specs.Serial.{or_else}
use Rattle.model.specs.Steps.{undone, noted, Ran, run_from}
use Rattle.model.specs.declared.Op.{Op}
use Rattle.model.specs.declared.Undo.{Undo}
use Rattle.std.specs.Prelude.{Ok, Err}

-- the newer part of a list of entries goes first
pub undone_append : (a b : List Undo) (cs : Cells) → undone (a ++ b) cs ≡ undone a (undone b cs)
unfolding undone
undone_append [] b cs = refl
undone_append (u ∷ a) b cs = ap (λ (x : Cells). set x u.cell u.old) (undone_append a b cs)

-- a run r with entries, and what the fragment's transaction t by itself came to, begun at b
pub record Agree (b : Cells) (r : Ran) (t : Trial) : Type 0 where
  pub tells : r.outcome ≡ told t
  pub stands : r.cells ≡ or_else b t
  pub back : undone r.undo r.cells ≡ b

-- the entry of an operation takes it back, also where the same cell was written before
put_back : (o : Op) (y : ℕ) (cs : Cells) (us : List Undo) → undone (noted o cs us) (put o y cs) ≡ undone us cs
unfolding undone
put_back o y cs us = go (writes o.code)
  where
    go : (w : Bool) → undone (elim w [ true ↦ us ++ (record { cell = o.cell; old = content o cs } ∷ []) | false ↦ us ]) (elim w [ true ↦ set cs o.cell y | false ↦ cs ]) ≡ undone us cs
    go true = undone_append us (record { cell = o.cell; old = content o cs } ∷ []) (set cs o.cell y) ∙ ap (undone us) (set-set cs o.cell y (content o cs) ∙ set-get_or cs o.cell 0)
    go false = refl

pub run_agrees : (b : Cells) (p : ℕ) (os : List Op) (cs : Cells) (ns : List ℕ) (us : List Undo) → undone us cs ≡ b → Agree b (run_from p os cs ns us) (trial_from p os cs ns)
unfolding run_from trial_from undone
run_agrees b p [] cs ns us h = record { tells = refl; stands = refl; back = h }
run_agrees b p (o ∷ os) cs ns us h =
    elim (operate o cs)
    as (λ d. Agree b
    (elim d [ Ok y ↦ run_from (suc p) os (put o y cs) (ns ++ (y ∷ [])) (noted o cs us) | Err x ↦ record { cells = undone us cs; outcome = tells p (Err x); undo = [] } ])
    (elim d [ Ok y ↦ trial_from (suc p) os (put o y cs) (ns ++ (y ∷ [])) | Err x ↦ Broke p x ])) [
      | Ok y ↦ run_agrees b (suc p) os (put o y cs) (ns ++ (y ∷ [])) (noted o cs us) (put_back o y cs us ∙ h)
      | Err x ↦ record { tells = refl; stands = h; back = h }
    ]

-- the place of failure is never 0, which stands for none
abbrev pub Placed : Trial → Type 0
Placed (Done cs ns) = Unit {0}
Placed (Broke p x) = 0 < p

pub trial_placed : (p : ℕ) (os : List Op) (cs : Cells) (ns : List ℕ) → 0 < p → Placed (trial_from p os cs ns)
unfolding trial_from
trial_placed p [] cs ns h = tt
trial_placed p (o ∷ os) cs ns h =
    elim (operate o cs) as (λ d. Placed (elim d [ Ok y ↦ trial_from (suc p) os (put o y cs) (ns ++ (y ∷ [])) | Err x ↦ Broke p x ])) [
      | Ok y ↦ trial_placed (suc p) os (put o y cs) (ns ++ (y ∷ [])) (omega arith)
      | Err x ↦ h
    ]
