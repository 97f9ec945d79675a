-- A later fragment, run by itself and then joined with what its transaction owned before.
use Prim.Native.Nat.{ℕ, suc, ◌+◌, ◌≤◌, ◌<◌}
use lib.ListN.{length, length-append}
use native.Mathlib.Omega.{arith}
use borrow.Author.Tests.{ne_eqb}
use mathlib.Core.Path.{◌≡◌, refl, sym, ap, ◌∙◌}
use mathlib.Core.Bool.{Bool, true, false}
use mathlib.Core.List.{List, [], ◌∷◌, ◌++◌, append_assoc, append-nil}
use lib.Dec.{eqb}
use Rattle.model.specs.Operations.{Cells, Did, content, operate, put, writes, operations, tells}
use Rattle.model.specs.Steps.{undone, noted, Ran, run_from, run}
use Rattle.model.specs.declared.Op.{Op}
use Rattle.model.specs.declared.Fragment.{Fragment}
use Rattle.model.specs.declared.Undo.{Undo}
use Rattle.std.specs.Prelude.{Ok, Err}
use Rattle.model.proofs.Undoing.{undone_append}

-- with the earlier entries us: kept where nothing failed, undone too where something did
abbrev pub joined_by : Bool → List Undo → Ran → Ran
joined_by true us r = record { cells = r.cells; outcome = r.outcome; undo = us ++ r.undo }
joined_by false us r = record { cells = undone us r.cells; outcome = r.outcome; undo = [] }

abbrev pub with_earlier : List Undo → Ran → Ran
with_earlier us r = joined_by (eqb r.outcome.place 0) us r

noted_earlier : (o : Op) (cs : Cells) (us own : List Undo) → noted o cs (us ++ own) ≡ us ++ noted o cs own
noted_earlier o cs us own = go (writes o.code)
  where
    go : (w : Bool) → elim w as (λ _. List Undo) [ true ↦ (us ++ own) ++ (record { cell = o.cell; old = content o cs } ∷ []) | false ↦ us ++ own ]
        ≡ us ++ (elim w as (λ _. List Undo) [ true ↦ own ++ (record { cell = o.cell; old = content o cs } ∷ []) | false ↦ own ])
    go true = append_assoc us own (record { cell = o.cell; old = content o cs } ∷ [])
    go false = refl

from_earlier : (us : List Undo) (p : ℕ) (os : List Op) (cs : Cells) (ns : List ℕ) (own : List Undo) → 0 < p → run_from p os cs ns (us ++ own) ≡ with_earlier us (run_from p os cs ns own)
unfolding run_from
from_earlier us p [] cs ns own h = refl
from_earlier us p (o ∷ os) cs ns own h =
    elim (operate o cs)
    as (λ d. by (us ++ own) d ≡ with_earlier us (by own d)) [
      | Ok y ↦ ap (run_from (suc p) os (put o y cs) (ns ++ (y ∷ []))) (noted_earlier o cs us own) ∙ from_earlier us (suc p) os (put o y cs) (ns ++ (y ∷ [])) (noted o cs own) (omega arith)
      | Err x ↦
          (λ i. record { cells = undone_append us own cs i; outcome = tells p (Err x); undo = [] })
          ∙ ap {B = Ran} (λ (b : Bool). joined_by b us (record { cells = undone own cs; outcome = tells p (Err x); undo = [] })) (sym (ne_eqb p 0 (λ e. omega arith)))
    ]
  where
    by : List Undo → Did → Ran
    by vs d = elim d [
      | Ok y ↦ run_from (suc p) os (put o y cs) (ns ++ (y ∷ [])) (noted o cs vs)
      | Err x ↦ record { cells = undone vs cs; outcome = tells p (Err x); undo = [] }
    ]

pub run_earlier : (f : Fragment) (cs : Cells) (us : List Undo) → run f cs us ≡ with_earlier us (run f cs [])
run_earlier f cs us = ap (run_from 1 (operations f) cs []) (sym (append-nil us)) ∙ from_earlier us 1 (operations f) cs [] [] (omega arith)

-- one entry and one number at most for each operation
from_few : (p : ℕ) (os : List Op) (cs : Cells) (ns : List ℕ) (us : List Undo)
    → (length (run_from p os cs ns us).undo ≤ length us + length os) × (length (run_from p os cs ns us).outcome.numbers ≤ length ns + length os)
unfolding run_from
from_few p [] cs ns us = (omega arith, omega arith)
from_few p (o ∷ os) cs ns us =
    elim (operate o cs)
    as (λ d. (length (by d).undo ≤ length us + suc (length os)) × (length (by d).outcome.numbers ≤ length ns + suc (length os))) [
      | Ok y ↦ let r = from_few (suc p) os (put o y cs) (ns ++ (y ∷ [])) (noted o cs us) in (omega (arith, r.0, few (writes o.code)), omega (arith, r.1, length-append ns (y ∷ [])))
      | Err x ↦ (omega arith, omega arith)
    ]
  where
    by : Did → Ran
    by d = elim d [
      | Ok y ↦ run_from (suc p) os (put o y cs) (ns ++ (y ∷ [])) (noted o cs us)
      | Err x ↦ record { cells = undone us cs; outcome = tells p (Err x); undo = [] }
    ]

    few : (w : Bool) → length {A = Undo} (elim w [ true ↦ us ++ (record { cell = o.cell; old = content o cs } ∷ []) | false ↦ us ]) ≤ suc (length us)
    few true = omega (arith, length-append us (record { cell = o.cell; old = content o cs } ∷ []))
    few false = omega arith

pub run_few : (f : Fragment) (cs : Cells) → length (run f cs []).undo ≤ length (operations f)
run_few f cs = omega (arith, (from_few 1 (operations f) cs [] []).0)

pub run_numbers : (f : Fragment) (cs : Cells) → length (run f cs []).outcome.numbers ≤ length (operations f)
run_numbers f cs = omega (arith, (from_few 1 (operations f) cs [] []).1)

-- what a later fragment tells is what it tells by itself
pub outcome_earlier : (f : Fragment) (cs : Cells) (us : List Undo) → (run f cs us).outcome ≡ (run f cs []).outcome
outcome_earlier f cs us = ap (λ (r : Ran). r.outcome) (run_earlier f cs us) ∙ go (eqb (run f cs []).outcome.place 0)
  where
    go : (b : Bool) → (joined_by b us (run f cs [])).outcome ≡ (run f cs []).outcome
    go true = refl
    go false = refl
