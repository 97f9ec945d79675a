-- P1 to P9 by computation: each case prints what document 01 says, as 02 amends it; the cases of the blocking scheme, of what was found, of
-- what a commit releases, of attempts and of two ways to merge.
use Prim.Native.Nat.{ℕ, zero, suc}
use mathlib.Core.Path.{◌≡◌, refl}
use mathlib.Core.List.{List, [], ◌∷◌, map}
use lib.ListN.{length, replicate, get_or}
use Rattle.model.specs.Limits.{least_room}
use Rattle.model.specs.Operations.{Cells, meaning, writes, uses, multi, last, operations}
use Rattle.model.specs.Transactions.{Engine, Answer, words, all_words}
use Rattle.model.specs.Steps.{undone, run_from, placed, drain, released, settled}
use Rattle.model.specs.Refusals.{Call, formed, blank, inside, clauses, sound, rows, refusal, step, start}
use Rattle.model.specs.Demand.{Run, onward, fresh, AllLend}
use Rattle.model.specs.Merged.{Merged}
use Rattle.model.specs.Depot.{Case, outcome_of, traced, depot, blocked, found, sooner, attempted, slowly, swiftly}
use Rattle.model.specs.declared.Event.{Event}
use Rattle.model.specs.declared.Scheme.TheVariants.{Speculation, Blocking}

pub cases : (map (outcome_of Speculation) depot ≡ map (λ (c : Case). c.prints) depot) × (map (outcome_of Blocking) blocked ≡ map (λ (c : Case). c.prints) blocked) × (map (outcome_of Speculation) found ≡ map (λ (c : Case). c.prints) found)
    × (map (outcome_of Speculation) sooner ≡ map (λ (c : Case). c.prints) sooner) × (map (outcome_of Speculation) attempted ≡ map (λ (c : Case). c.prints) attempted)
    × (map (outcome_of Speculation) (slowly ∷ swiftly ∷ []) ≡ map (λ (c : Case). c.prints) (slowly ∷ swiftly ∷ []))
unfolding traced step start refusal rows sound clauses inside formed blank run_from undone placed drain released settled operations multi last meaning writes uses words all_words
cases = (refl, refl, refl, refl, refl, refl)

-- "After each commit", by blocking too: the n events first are of speculation, and the next is asked by blocking
pub answers_by : ℕ → Engine → Cells → List Event → List Answer
answers_by n e cs [] = []
answers_by zero e cs (v ∷ vs) = (step e (record { scheme = Blocking; event = v; lent = cs; room = replicate least_room 0 })).answers
answers_by (suc n) e cs (v ∷ vs) =
    let s = step e (record { scheme = Speculation; event = v; lent = cs; room = replicate least_room 0 }) in answers_by n s.engine s.cells vs

-- the commit of 1, the fifth event in both cases, answers what it answers by speculation; so by blocking an answer may depend, from such a record
pub blocking_releases : map (λ (c : Case). answers_by 4 (start (length c.cells)).engine c.cells c.events) sooner ≡ map (λ (c : Case). (get_or c.prints.events 4 (0, [])).1) sooner
unfolding answers_by step start refusal rows sound clauses inside formed blank run_from undone placed drain released settled operations multi last meaning writes uses words all_words
blocking_releases = refl

-- calls by speculation, each lent the cells that the caller keeps
pub calls_for : Run → List Event → List Call
calls_for r [] = []
calls_for r (v ∷ vs) = let c : Call = record { scheme = Speculation; event = v; lent = r.cells; room = replicate least_room 0 } in c ∷ calls_for (onward r c) vs

calls_lend : (r : Run) (vs : List Event) → AllLend r (calls_for r vs)
unfolding calls_for
calls_lend r [] = tt
calls_lend r (v ∷ vs) = ((λ _. refl), calls_lend (onward r (record { scheme = Speculation; event = v; lent = r.cells; room = replicate least_room 0 })) vs)

-- 02, L10 speaks of such cases: the same, merged in two ways
pub two_ways : Merged slowly.cells (calls_for (fresh slowly.cells) slowly.events) (calls_for (fresh slowly.cells) swiftly.events)
unfolding calls_for step start refusal rows sound clauses inside formed blank run_from undone placed drain released settled operations multi last meaning writes uses words all_words
two_ways = record {
  lend = calls_lend (fresh slowly.cells) slowly.events;
  lend' = calls_lend (fresh slowly.cells) swiftly.events;
  idle = refl;
  idle' = refl;
  fragments = λ n. refl;
  decisions = λ n. refl;
}
