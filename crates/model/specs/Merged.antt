-- Request L10: "Order of decisions makes no odds. Take two accepted sequences from the same start, each ending with nothing live, with the same
-- fragments in the same order for each number and the same decision for each multi, merged in any two ways. Final cells are equal, and so are the
-- answers of singles, attempts aside." Said by what was asked and accepted, whatever the scheme of each call.
use Rattle.std.specs.Prelude.{ℕ, zero, suc, ◌<◌, ◌≡◌, true, false, List, [], ◌∷◌, ◌++◌, eqb}
use Rattle.model.specs.Operations.{Cells}
use Rattle.model.specs.Refusals.{Request, Arrive, Commit, Abort, request, Call, step}
use Rattle.model.specs.Serial.{Decision, Open, Committed, Aborted}
use Rattle.model.specs.Demand.{Run, onward, runs, fresh, AllLend, settled_of, sent_in}
use Rattle.model.specs.Schemes.{Idle, of_singles, replies}
use Rattle.model.specs.declared.Fragment.{Fragment}

-- a request, by the number that its call returned: a refused one is not taken
abbrev pub taken_by : ℕ → Request → List Request
taken_by zero q = q ∷ []
taken_by (suc k) q = []

-- "accepted sequences": what calls ask that are accepted, in order. Refused calls may stand among them, as they change nothing.
abbrev pub taken_in : Run → List Call → List Request
taken_in r [] = []
taken_in r (c ∷ calls) = taken_by (step r.engine c).number (request c.event) ++ taken_in (onward r c) calls

-- the fragments that arrive for number n, in order
abbrev pub fragments_of : ℕ → List Request → List Fragment
fragments_of n [] = []
fragments_of n (Arrive m f ∷ qs) = elim (eqb m n) [ true ↦ f ∷ fragments_of n qs | false ↦ fragments_of n qs ]
fragments_of n (Commit m ∷ qs) = fragments_of n qs
fragments_of n (Abort m ∷ qs) = fragments_of n qs

-- the decision that comes for number n, d where none does
abbrev pub decision_from : ℕ → Decision → List Request → Decision
decision_from n d [] = d
decision_from n d (Arrive m f ∷ qs) = decision_from n d qs
decision_from n d (Commit m ∷ qs) = decision_from n (elim (eqb m n) [ true ↦ Committed | false ↦ d ]) qs
decision_from n d (Abort m ∷ qs) = decision_from n (elim (eqb m n) [ true ↦ Aborted | false ↦ d ]) qs

abbrev pub decision_of : ℕ → List Request → Decision
decision_of n qs = decision_from n Open qs

-- Two ways to merge the same. Where fragments of one number and decisions of another stand to each other is left open; so is what each call is lent
-- beyond its cells, and its scheme.
pub record Merged (cs : Cells) (calls calls' : List Call) : Type 0 where
  -- "Take two accepted sequences from the same start"
  pub lend : AllLend (fresh cs) calls
  pub lend' : AllLend (fresh cs) calls'
  -- "each ending with nothing live"
  pub idle : Idle (runs (fresh cs) calls)
  pub idle' : Idle (runs (fresh cs) calls')
  -- "with the same fragments in the same order for each number"
  pub fragments : (n : ℕ) → fragments_of n (taken_in (fresh cs) calls) ≡ fragments_of n (taken_in (fresh cs) calls')
  -- "and the same decision for each multi": a single has none
  pub decisions : (n : ℕ) → decision_of n (taken_in (fresh cs) calls) ≡ decision_of n (taken_in (fresh cs) calls')

pub record OrderMakesNoOdds (cs : Cells) : Type 0 where
  -- "Final cells are equal"
  pub cells : (calls calls' : List Call) → Merged cs calls calls' → (runs (fresh cs) calls).cells ≡ (runs (fresh cs) calls').cells
  -- "and so are the answers of singles, attempts aside": in the same order
  pub singles : (calls calls' : List Call) → Merged cs calls calls'
      → of_singles (runs (fresh cs) calls).log (sent_in (fresh cs) calls) ≡ of_singles (runs (fresh cs) calls').log (sent_in (fresh cs) calls')
  -- namely these, after any calls: one for each single that is settled
  pub answered : (calls : List Call) → AllLend (fresh cs) calls
      → of_singles (runs (fresh cs) calls).log (sent_in (fresh cs) calls) ≡ replies (settled_of (runs (fresh cs) calls).log) cs
  -- the same transactions are settled, in the same order
  pub settling : (calls calls' : List Call) → Merged cs calls calls' → settled_of (runs (fresh cs) calls).log ≡ settled_of (runs (fresh cs) calls').log
  -- "merged in any two ways": no way changes the order of new numbers. Once a larger one m was accepted, the first fragment of n is refused.
  pub late : (calls : List Call) → AllLend (fresh cs) calls → (c : Call) (n m : ℕ) (f : Fragment) → request c.event ≡ Arrive n f
      → fragments_of n (taken_in (fresh cs) calls) ≡ [] → (fragments_of m (taken_in (fresh cs) calls) ≡ [] → ⊥) → n < m
      → (step (runs (fresh cs) calls).engine c).number ≡ 0 → ⊥
