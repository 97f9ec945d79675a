-- What tidying makes of the runs, step by step: a run's words in use stay, the rest of its sixteen become zero.
use Rattle.std.specs.Prelude.{ℕ, ◌+◌, ◌-◌, min, Bool, ◌&&◌, eqb, leb, get_or, replicate}
use mathlib.Core.List.{List, foldl}
use Rattle.std.proofs.lemmas.List.Edits.{sets}
use Rattle.model.specs.Limits.{depth, most_entries}
use Rattle.model.specs.Operations.{pick}
use Rattle.record.specs.Walk.{places}
use Rattle.record.specs.View.{numbers_from}
unfoldable pub use Rattle.record.specs.View.{entries_from}
use Rattle.record.specs.Widths.{run_width}

-- how many words of the run at c are in use: six and its numbers where its answer is held, four where it was sent
unfoldable pub used : List ℕ → ℕ → ℕ
used runs c = pick (eqb (get_or runs (c + 2) 0) 1) (6 + min (get_or runs (c + 5) 0) 8) 4

-- the runs with that run tidied
unfoldable pub tidy_run : List ℕ → ℕ → List ℕ
tidy_run runs c = sets runs (c + used runs c) (numbers_from (replicate run_width 0) 0 (run_width - used runs c))

-- with n runs tidied, the first of which starts at c
unfoldable pub tidy_runs : List ℕ → ℕ → ℕ → List ℕ
tidy_runs runs c n = foldl tidy_run runs (places c run_width n)

-- n runs and their entries are within the limits
abbrev pub few_runs : List ℕ → ℕ → Bool
few_runs runs n = leb n depth && leb (entries_from runs 0 n) most_entries
