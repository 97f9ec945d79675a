-- Request L10 of the library's own calls: `RecordOrderMakesNoOdds` with no condition on events, whatever words they are.
use Rattle.std.specs.Prelude.{ℕ, ◌<◌, ◌≡◌, List, []}
use Rattle.model.specs.Operations.{Cells}
use Rattle.model.specs.Refusals.{Arrive, request}
use Rattle.model.specs.Demand.{settled_of}
use Rattle.model.specs.Schemes.{of_singles, replies}
use Rattle.model.specs.Merged.{fragments_of}
use Rattle.model.specs.declared.Fragment.{Fragment}
use Rattle.carried.specs.Carried.{returned, fresh_r, sent_in_r}
use Rattle.carried.specs.Merged.{taken_in_r, MergedR}
use Rattle.record.specs.Events.{event_of}
use Rattle.boundary.specs.Demanded.{LibraryCall, as_call, as_calls, runs_l, AllLendL}

pub record LibraryOrderMakesNoOdds (cs : Cells) : Type 0 where
  pub cells : (calls calls' : List LibraryCall) → MergedR cs (as_calls calls) (as_calls calls') → (runs_l cs calls).cells ≡ (runs_l cs calls').cells
  pub singles : (calls calls' : List LibraryCall) → MergedR cs (as_calls calls) (as_calls calls')
      → of_singles (runs_l cs calls).log (sent_in_r (fresh_r cs) (as_calls calls)) ≡ of_singles (runs_l cs calls').log (sent_in_r (fresh_r cs) (as_calls calls'))
  pub answered : (calls : List LibraryCall) → AllLendL cs calls
      → of_singles (runs_l cs calls).log (sent_in_r (fresh_r cs) (as_calls calls)) ≡ replies (settled_of (runs_l cs calls).log) cs
  pub settling : (calls calls' : List LibraryCall) → MergedR cs (as_calls calls) (as_calls calls') → settled_of (runs_l cs calls).log ≡ settled_of (runs_l cs calls').log
  pub late : (calls : List LibraryCall) → AllLendL cs calls → (c : LibraryCall) (n m : ℕ) (f : Fragment) → request (event_of c.words) ≡ Arrive n f
      → fragments_of n (taken_in_r (fresh_r cs) (as_calls calls)) ≡ [] → (fragments_of m (taken_in_r (fresh_r cs) (as_calls calls)) ≡ [] → ⊥) → n < m
      → (returned (runs_l cs calls).kept (as_call c)).number ≡ 0 → ⊥
