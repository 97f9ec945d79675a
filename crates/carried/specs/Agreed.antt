-- Request L5 of runs on records, words and rooms: two sequences of calls that are asked the same, whatever the scheme of each call. The model says
-- it of its own runs (`SchemesAgree`).
use Rattle.std.specs.Prelude.{◌+◌, ◌≡◌, List}
use Rattle.model.specs.Operations.{Cells}
use Rattle.model.specs.Refusals.{Call}
use Rattle.model.specs.Demand.{settled_of}
use Rattle.model.specs.Schemes.{Alike, AllAlike, of_singles}
use Rattle.carried.specs.Carried.{Words, AllWords, returned, answers_of, RecordRun, onward_r, runs_r, fresh_r, LendsR, AllLendR, settled_in_r}

pub record TwinsR (cs : Cells) (calls calls' : List Call) : Type 0 where
  pub alike : AllAlike calls calls'
  pub words : AllWords calls
  pub words' : AllWords calls'
  pub lend : AllLendR (fresh_r cs) calls
  pub lend' : AllLendR (fresh_r cs) calls'

-- "whenever nothing is live"
abbrev pub IdleR : RecordRun → Type 0
IdleR r = r.kept.counts.uncommitted + r.kept.counts.waiting ≡ 0

pub record RecordSchemesAgree (cs : Cells) : Type 0 where
  -- "both engines return the same numbers"
  pub numbers : (calls calls' : List Call) → TwinsR cs calls calls' → (c c' : Call) → Alike c c'
      → (returned (runs_r (fresh_r cs) calls).kept c).number ≡ (returned (runs_r (fresh_r cs) calls').kept c').number
  -- "settle the same transactions in the same order"
  pub settling : (calls calls' : List Call) → TwinsR cs calls calls' → settled_of (runs_r (fresh_r cs) calls).log ≡ settled_of (runs_r (fresh_r cs) calls').log
  -- the same by the records: the accepted ones that are in no queue any longer and were not aborted
  pub recorded : (calls calls' : List Call) → TwinsR cs calls calls' → settled_in_r (runs_r (fresh_r cs) calls) ≡ settled_in_r (runs_r (fresh_r cs) calls')
  -- "and hold equal cells whenever nothing is live"
  pub cells : (calls calls' : List Call) → TwinsR cs calls calls' → IdleR (runs_r (fresh_r cs) calls) → (runs_r (fresh_r cs) calls).cells ≡ (runs_r (fresh_r cs) calls').cells
  -- "Singles get the same answers, attempts aside.": in the same call, in the same order
  pub singles : (calls calls' : List Call) → TwinsR cs calls calls' → (c c' : Call) → Alike c c' → Words c.event → Words c'.event
      → LendsR (runs_r (fresh_r cs) calls) c → LendsR (runs_r (fresh_r cs) calls') c'
      → of_singles (onward_r (runs_r (fresh_r cs) calls) c).log (answers_of (runs_r (fresh_r cs) calls).kept c)
      ≡ of_singles (onward_r (runs_r (fresh_r cs) calls') c').log (answers_of (runs_r (fresh_r cs) calls').kept c')
