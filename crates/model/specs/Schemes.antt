-- Request L5: "For any sequence of calls from a fresh start, both engines return the same numbers, settle the same transactions in the same order
-- and hold equal cells whenever nothing is live. Singles get the same answers, attempts aside." Said of any two runs that are asked the same,
-- whatever the scheme of each call: all by one scheme in the first run and all by the other in the second, or mixed.
use Rattle.std.specs.Prelude.{ℕ, ◌≡◌, Bool, true, false, not, List, [], ◌∷◌, ◌++◌, length}
use Rattle.model.specs.Operations.{Cells, multi, told}
use Rattle.model.specs.Transactions.{Answer, answer, numbers}
use Rattle.model.specs.Refusals.{Call, step}
use Rattle.model.specs.Serial.{Tx, attempt, effect}
use Rattle.model.specs.Demand.{Log, Run, onward, runs, fresh, Lends, AllLend, settled_of, settled_in, This, None, the}

-- two calls that ask the same: they may differ in their scheme, in what the lent cells hold and in what the lent room holds
pub record Alike (c d : Call) : Type 0 where
  pub event : c.event ≡ d.event
  pub lent : length c.lent ≡ length d.lent
  pub room : length c.room ≡ length d.room

abbrev pub AllAlike : List Call → List Call → Type 0
AllAlike [] [] = Unit {0}
AllAlike [] (d ∷ ds) = ⊥
AllAlike (c ∷ cs) [] = ⊥
AllAlike (c ∷ cs) (d ∷ ds) = Alike c d × AllAlike cs ds

-- two sequences of calls from a fresh start on cs that ask the same, each lent its own cells
pub record Twins (cs : Cells) (calls calls' : List Call) : Type 0 where
  pub alike : AllAlike calls calls'
  pub lend : AllLend (fresh cs) calls
  pub lend' : AllLend (fresh cs) calls'

-- "whenever nothing is live"
abbrev pub Idle : Run → Type 0
Idle r = numbers r.engine.uncommitted r.engine.waiting ≡ []

-- is n a single of the log
abbrev pub single : ℕ → Log → Bool
single n l = elim (the n l) [ This t ↦ not (multi t.first) | None ↦ false ]

-- "attempts aside": an answer but for the words of the attempts
abbrev pub attempts_aside : Answer → Answer
attempts_aside a = answer a.number a.dependence 0 0 a.outcome

-- the answers of singles among those sent, attempts aside
abbrev pub of_singles : Log → List Answer → List Answer
of_singles l [] = []
of_singles l (a ∷ as') = elim (single a.number l) [ true ↦ attempts_aside a ∷ of_singles l as' | false ↦ of_singles l as' ]

-- what the singles among transactions that settle one after the other from cs on are answered: each once, without a dependence, with what its
-- fragment gives where it stands; attempts aside
abbrev pub replies : List Tx → Cells → List Answer
replies [] cs = []
replies (t ∷ ts) cs =
    elim (multi t.first) [ true ↦ replies ts (effect t cs) | false ↦ answer t.number 0 0 0 (told (attempt t cs)) ∷ replies ts (effect t cs) ]

-- the answers of singles in a call are those of the singles that settle in it, in that order
abbrev pub SinglesAnswered : Cells → Run → Call → Type 0
SinglesAnswered cs r c = replies (settled_of (onward r c).log) cs ≡ replies (settled_of r.log) cs ++ of_singles (onward r c).log (step r.engine c).answers

pub record SchemesAgree (cs : Cells) : Type 0 where
  -- "both engines return the same numbers"
  pub numbers : (calls calls' : List Call) → Twins cs calls calls' → (c c' : Call) → Alike c c'
      → (step (runs (fresh cs) calls).engine c).number ≡ (step (runs (fresh cs) calls').engine c').number
  -- "settle the same transactions in the same order": the logs are the same, and with them what is settled
  pub logs : (calls calls' : List Call) → Twins cs calls calls' → (runs (fresh cs) calls).log ≡ (runs (fresh cs) calls').log
  pub settling : (calls calls' : List Call) → Twins cs calls calls' → settled_of (runs (fresh cs) calls).log ≡ settled_of (runs (fresh cs) calls').log
  -- the same by the records: the accepted ones that are in no queue any longer and were not aborted
  pub recorded : (calls calls' : List Call) → Twins cs calls calls' → settled_in (runs (fresh cs) calls) ≡ settled_in (runs (fresh cs) calls')
  -- "and hold equal cells whenever nothing is live"
  pub cells : (calls calls' : List Call) → Twins cs calls calls' → Idle (runs (fresh cs) calls) → (runs (fresh cs) calls).cells ≡ (runs (fresh cs) calls').cells
  -- "Singles get the same answers, attempts aside.": in the same call, in the same order
  pub singles : (calls calls' : List Call) → Twins cs calls calls' → (c c' : Call) → Alike c c' → Lends (runs (fresh cs) calls) c → Lends (runs (fresh cs) calls') c'
      → of_singles (onward (runs (fresh cs) calls) c).log (step (runs (fresh cs) calls).engine c).answers
      ≡ of_singles (onward (runs (fresh cs) calls') c').log (step (runs (fresh cs) calls').engine c').answers
  -- namely these
  pub answered : (calls : List Call) → AllLend (fresh cs) calls → (c : Call) → Lends (runs (fresh cs) calls) c → SinglesAnswered cs (runs (fresh cs) calls) c
