-- What a sound record's rows are, with anything in their unused places, once its runs are tidied: its queues' words laid over them.
use Rattle.std.specs.Prelude.{ℕ, ◌*◌, ◌≡◌, List, length}
use Rattle.model.specs.Transactions.{Uncommitted, Waiting, undo_list}
use Rattle.operations.specs.Laid.{flat}
use Rattle.record.specs.Words.{all_rows, all_runs, live_rows, over, cleared}
use Rattle.record.specs.Widths.{run_width, entry_width}

-- of the rows live, runs and undo, with n undo entries and the runs r after tidying
pub record Canonical (us : List Uncommitted) (ws : List Waiting) (live runs undo : List ℕ) (n : ℕ) (r : List ℕ) : Type 0 where
  pub at_live : live ≡ over live (all_rows (live_rows us ws))
  pub at_runs : r ≡ over (cleared (run_width * length us) runs) (all_runs us)
  pub at_undo : undo ≡ over (cleared (entry_width * n) undo) (flat (undo_list us))
  pub entries : length (undo_list us) ≡ n
