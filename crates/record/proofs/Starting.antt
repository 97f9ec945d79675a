-- Starting: a record with nothing live is the empty state's, and what the test of the count decides.
use Prim.Native.Nat.{ℕ}
use mathlib.Core.Path.{◌≡◌, refl, sym, ap, ◌∙◌}
use mathlib.Core.Bool.{Bool, true, false, ◌||◌}
use lib.Dec.{eqb, ltb}
use borrow.Author.Tests.{ne_eqb}
use Rattle.model.specs.Limits.{most_cells}
use Rattle.model.specs.Operations.{pick}
use Rattle.model.specs.Refusals as Refusals
use Rattle.operations.specs.Laid.{padded}
use Rattle.record.specs.declared.Fresh.{Fresh}
use Rattle.record.specs.declared.Record.{Record}
use Rattle.record.specs.Start.{fresh_of}
use Rattle.record.specs.View.{zeros}
use Rattle.record.specs.Widths.{live_length, runs_length, undo_length}
use Rattle.record.specs.Words.{pack, all_rows, all_runs}

pub empty_packed : (n : ℕ) → ◌≡◌ {A = Record} (record { counts = record { cells = n; largest = 0; uncommitted = 0; waiting = 0 }; live = zeros live_length; runs = zeros runs_length; undo = zeros undo_length }) (pack (Refusals.empty n))
unfolding pack padded all_rows all_runs
empty_packed n = refl

-- refused or not, by the test of the count
pub started_by : (b : Bool) (n : ℕ) (r : Record) → (eqb n 0 || ltb most_cells n) ≡ b → r ≡ pack (Refusals.empty (pick b 0 n)) → record { number = pick b 3 0; next = r } ≡ fresh_of n
unfolding fresh_of Refusals.start
started_by b n r e er = first b er ∙ ap {B = Fresh} (λ (x : Bool). record { number = (chosen x).number; next = pack (chosen x).engine }) (sym e)
  where
    chosen : Bool → Refusals.Started
    chosen x = pick x (record { number = 3; engine = Refusals.empty 0 }) (record { number = 0; engine = Refusals.empty n })

    first : (x : Bool) → r ≡ pack (Refusals.empty (pick x 0 n)) → ◌≡◌ {A = Fresh} (record { number = pick x 3 0; next = r }) (record { number = (chosen x).number; next = pack (chosen x).engine })
    first true er = λ j. record { number = 3; next = er j }
    first false er = λ j. record { number = 0; next = er j }

pub none_or_many : (n : ℕ) (b : Bool) → (n ≡ 0 → ⊥) → ltb most_cells n ≡ b → (eqb n 0 || ltb most_cells n) ≡ b
none_or_many n b e h = ap (λ (x : Bool). x || ltb most_cells n) (ne_eqb n 0 e) ∙ h
