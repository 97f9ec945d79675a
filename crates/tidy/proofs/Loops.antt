-- Laws of the loops: how many words of a run are in use, one turn of tidying the runs.
use Prim.Native.Nat.{ℕ, ◌+◌, ◌*◌, ◌-◌, min, ◌≤◌, ◌<◌}
use native.Mathlib.Omega.{arith}
use borrow.Author.Tests.{eq-eqb, ne_eqb, le-leb, lt-leb}
use mathlib.Core.Path.{◌≡◌, refl, sym, ap, ◌∙◌, subst}
use mathlib.Core.Bool.{Bool, true, false, ◌&&◌}
use mathlib.Core.List.{List, foldl}
use lib.Dec.{eqb, leb}
use lib.ListN.{get_or}
use Rattle.model.specs.Limits.{depth, most_entries}
use Rattle.model.specs.Operations.{pick}
use Rattle.tidy.specs.Runs.{used, tidy_run, tidy_runs, entries_from, few_runs}
use Rattle.record.proofs.Walks.{walk_on, walk_end}
use Rattle.record.specs.Widths.{run_width}

module _ (runs : List ℕ) (c : ℕ) where
  pub used_sent : (get_or runs (c + 2) 0 ≡ 1 → ⊥) → used runs c ≡ 4
  unfolding used
  used_sent h = ap (λ (b : Bool). pick b (6 + min (get_or runs (c + 5) 0) 8) 4) (ne_eqb (get_or runs (c + 2) 0) 1 h)

  pub used_held : get_or runs (c + 2) 0 ≡ 1 → used runs c ≡ 6 + min (get_or runs (c + 5) 0) 8
  unfolding used
  used_held h = ap (λ (b : Bool). pick b (6 + min (get_or runs (c + 5) 0) 8) 4) (eq-eqb (get_or runs (c + 2) 0) 1 h)

  pub used_most : used runs c ≤ 14
  unfolding used
  used_most = go (eqb (get_or runs (c + 2) 0) 1)
    where
      go : (b : Bool) → pick b (6 + min (get_or runs (c + 5) 0) 8) 4 ≤ 14
      go true = omega arith
      go false = omega arith

-- the runs from run i on, tidied
module _ (row all : List ℕ) (n i : ℕ) where
  pub runs_turn : (row' : List ℕ) → i < n → row' ≡ tidy_run row (run_width * i) → tidy_runs row (run_width * i) (n - i) ≡ all → tidy_runs row' (run_width * (i + 1)) (n - (i + 1)) ≡ all
  unfolding tidy_runs
  runs_turn row' h er inv =
      ap (λ (x : List ℕ). tidy_runs x (run_width * (i + 1)) (n - (i + 1))) er
      ∙ walk_on (λ (p : ℕ). p + run_width) (foldl tidy_run row) (run_width * i) (n - i) all inv (run_width * (i + 1)) (n - (i + 1)) (omega arith) (omega arith)

  pub runs_end : n ≤ i → tidy_runs row (run_width * i) (n - i) ≡ all → row ≡ all
  unfolding tidy_runs
  runs_end h inv = walk_end (λ (p : ℕ). p + run_width) (foldl tidy_run row) (run_width * i) (n - i) all inv (omega arith)

-- what is left of n runs, by the limits
module _ (runs : List ℕ) (n : ℕ) where
  pub many_runs : depth < n → few_runs runs n ≡ false
  many_runs h = ap (λ (b : Bool). b && leb (entries_from runs 0 n) most_entries) (lt-leb n depth h)

  pub many_entries : most_entries < entries_from runs 0 n → few_runs runs n ≡ false
  many_entries h = ap (λ (b : Bool). leb n depth && b) (lt-leb (entries_from runs 0 n) most_entries h) ∙ go (leb n depth)
    where
      go : (b : Bool) → (b && false) ≡ false
      go true = refl
      go false = refl

  abbrev Tidied : ℕ → List ℕ → Type 0
  Tidied m row = (m ≡ pick (few_runs runs n) (entries_from runs 0 n) 0) × (row ≡ pick (few_runs runs n) (tidy_runs runs 0 n) runs)

  pub not_tidied : few_runs runs n ≡ false → Tidied 0 runs
  not_tidied h = (ap (λ (b : Bool). pick b (entries_from runs 0 n) 0) (sym h), ap (λ (b : Bool). pick b (tidy_runs runs 0 n) runs) (sym h))

  pub all_tidied : (m : ℕ) (row : List ℕ) → n ≤ depth → m ≤ most_entries → m ≡ entries_from runs 0 n → row ≡ tidy_runs runs 0 n → Tidied m row
  all_tidied m row hn hm em er =
      let h : few_runs runs n ≡ true = λ j. le-leb n depth hn j && le-leb (entries_from runs 0 n) most_entries (subst (λ (x : ℕ). x ≤ most_entries) em hm) j in
      (em ∙ ap (λ (b : Bool). pick b (entries_from runs 0 n) 0) (sym h), er ∙ ap (λ (b : Bool). pick b (tidy_runs runs 0 n) runs) (sym h))
