-- Request L10 of runs on records, words and rooms: the same merged in two ways, whatever the scheme of each call. The model says it of its own runs
-- (`OrderMakesNoOdds`). What was taken is read off the events and the returned numbers, the answers off the rooms.
use Rattle.std.specs.Prelude.{ℕ, ◌<◌, ◌≡◌, List, [], ◌∷◌, ◌++◌}
use Rattle.model.specs.Operations.{Cells}
use Rattle.model.specs.Refusals.{Request, Arrive, request, Call}
use Rattle.model.specs.Demand.{settled_of}
use Rattle.model.specs.Schemes.{of_singles, replies}
use Rattle.model.specs.Merged.{taken_by, fragments_of, decision_of}
use Rattle.model.specs.declared.Fragment.{Fragment}
use Rattle.carried.specs.Carried.{AllWords, returned, RecordRun, onward_r, runs_r, fresh_r, AllLendR, sent_in_r}
use Rattle.carried.specs.Agreed.{IdleR}

-- "accepted sequences": what calls ask that return 0, in order
abbrev pub taken_in_r : RecordRun → List Call → List Request
taken_in_r r [] = []
taken_in_r r (c ∷ calls) = taken_by (returned r.kept c).number (request c.event) ++ taken_in_r (onward_r r c) calls

pub record MergedR (cs : Cells) (calls calls' : List Call) : Type 0 where
  -- "Take two accepted sequences from the same start"
  pub lend : AllLendR (fresh_r cs) calls
  pub lend' : AllLendR (fresh_r cs) calls'
  -- "each ending with nothing live"
  pub idle : IdleR (runs_r (fresh_r cs) calls)
  pub idle' : IdleR (runs_r (fresh_r cs) calls')
  -- "with the same fragments in the same order for each number"
  pub fragments : (n : ℕ) → fragments_of n (taken_in_r (fresh_r cs) calls) ≡ fragments_of n (taken_in_r (fresh_r cs) calls')
  -- "and the same decision for each multi"
  pub decisions : (n : ℕ) → decision_of n (taken_in_r (fresh_r cs) calls) ≡ decision_of n (taken_in_r (fresh_r cs) calls')

pub record RecordOrderMakesNoOdds (cs : Cells) : Type 0 where
  -- "Final cells are equal"
  pub cells : (calls calls' : List Call) → AllWords calls → AllWords calls' → MergedR cs calls calls' → (runs_r (fresh_r cs) calls).cells ≡ (runs_r (fresh_r cs) calls').cells
  -- "and so are the answers of singles, attempts aside": in the same order
  pub singles : (calls calls' : List Call) → AllWords calls → AllWords calls' → MergedR cs calls calls'
      → of_singles (runs_r (fresh_r cs) calls).log (sent_in_r (fresh_r cs) calls) ≡ of_singles (runs_r (fresh_r cs) calls').log (sent_in_r (fresh_r cs) calls')
  -- namely these, after any calls: one for each single that is settled
  pub answered : (calls : List Call) → AllWords calls → AllLendR (fresh_r cs) calls
      → of_singles (runs_r (fresh_r cs) calls).log (sent_in_r (fresh_r cs) calls) ≡ replies (settled_of (runs_r (fresh_r cs) calls).log) cs
  -- the same transactions are settled, in the same order
  pub settling : (calls calls' : List Call) → AllWords calls → AllWords calls' → MergedR cs calls calls' → settled_of (runs_r (fresh_r cs) calls).log ≡ settled_of (runs_r (fresh_r cs) calls').log
  -- no way to merge changes the order of new numbers: once a larger one m was accepted, the first fragment of n is refused
  pub late : (calls : List Call) → AllWords calls → AllLendR (fresh_r cs) calls → (c : Call) (n m : ℕ) (f : Fragment) → request c.event ≡ Arrive n f
      → fragments_of n (taken_in_r (fresh_r cs) calls) ≡ [] → (fragments_of m (taken_in_r (fresh_r cs) calls) ≡ [] → ⊥) → n < m
      → (returned (runs_r (fresh_r cs) calls).kept c).number ≡ 0 → ⊥
