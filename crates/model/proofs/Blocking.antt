-- By blocking no answer depends on anything where at most one is uncommitted: what runs, runs with nothing uncommitted, and a commit leaves nobody
-- whose answer could be released. Blocking keeps it so, and a fresh start has none. It is not so from every record: where speculation left some
-- behind the front, a commit by either scheme releases (02, L6) those that are held, with their dependences (`blocking_releases`, proofs/Cases).
use Prim.Native.Nat.{ℕ, zero, suc, ◌≤◌}
use native.Mathlib.Omega.{arith}
use mathlib.Core.Path.{◌≡◌, refl, sym, subst}
use mathlib.Core.Bool.{Bool, true, false, ◌||◌}
use mathlib.Core.List.{List, [], ◌∷◌, ◌++◌, map}
use lib.Dec.{ltb, eqb}
use lib.ListN.{length}
use Rattle.model.specs.Limits.{most_cells}
use Rattle.model.specs.Operations.{Cells, pick}
use Rattle.model.specs.Transactions.{Sent, Uncommitted, Waiting, Engine, Answer}
use Rattle.model.specs.Steps.{run, begun, Place, Queues, drain, arrival, joined, continued, arrived, settled, committed, requeued, aborted}
use Rattle.model.specs.Refusals.{Request, Arrive, Commit, Abort, request, Call, refusal, taken, respond, step, Started, start, empty}
use Rattle.model.specs.Demand.{Run, onward, runs, fresh}
use Rattle.model.specs.declared.Fragment.{Fragment}
use Rattle.model.specs.declared.Scheme.{Scheme}
use Rattle.model.specs.declared.Scheme.TheVariants.{Blocking}
use Rattle.model.proofs.Branches.{placed_idle}
use Rattle.model.specs.Parts.{All}

abbrev pub Independent : Answer → Type 0
Independent a = a.dependence ≡ 0

-- at most one uncommitted, and answers that depend on nothing
pub record Alone (us : List Uncommitted) (as' : List Answer) : Type 0 where
  pub one : length us ≤ 1
  pub independent : All Independent as'

abbrev AloneAfter : Queues → Type 0
AloneAfter q = Alone q.uncommitted q.answers

drain_alone : (cs : Cells) (us : List Uncommitted) (ws : List Waiting) → length us ≤ 1 → AloneAfter (drain Blocking cs us ws)
unfolding drain
drain_alone cs us [] h = record { one = h; independent = tt }
drain_alone cs (u ∷ us) (w ∷ ws) h = record { one = h; independent = tt }
drain_alone cs [] (w ∷ ws) h =
    placed_idle (λ (p : Place). Alone (drain Blocking (run w.fragment cs []).cells p.uncommitted ws).uncommitted (p.answers ++ (drain Blocking (run w.fragment cs []).cells p.uncommitted ws).answers))
    w (run w.fragment cs [])
    (λ _. let x = drain_alone (run w.fragment cs []).cells [] ws (omega arith) in record { one = x.one; independent = (refl, x.independent) })
    (λ _. let x = drain_alone (run w.fragment cs []).cells (begun w (run w.fragment cs []) Sent ∷ []) ws (omega arith) in record { one = x.one; independent = (refl, x.independent) })

arrived_alone : (n : ℕ) (f : Fragment) (cs : Cells) (us : List Uncommitted) (ws : List Waiting) → length us ≤ 1 → AloneAfter (arrived Blocking n f cs us ws)
arrived_alone n f cs [] ws h = drain_alone cs [] (ws ++ (arrival n f ∷ [])) h
arrived_alone n f cs (u ∷ us) ws h = go (eqb u.number n)
  where
    go : (b : Bool) → AloneAfter (elim b [ false ↦ joined Blocking n f cs (u ∷ us) ws | true ↦ continued Blocking f cs u us ws ])
    go false = drain_alone cs (u ∷ us) (ws ++ (arrival n f ∷ [])) h
    go true = let x = drain_alone (run f cs u.undo).cells _ ws h in record { one = x.one; independent = (refl, x.independent) }

-- a front that is alone leaves nobody behind
committed_alone : (cs : Cells) (us : List Uncommitted) (ws : List Waiting) → length us ≤ 1 → AloneAfter (committed Blocking cs us ws)
unfolding settled
committed_alone cs [] ws h = record { one = h; independent = tt }
committed_alone cs (u ∷ []) ws h = drain_alone cs [] ws (omega arith)
committed_alone cs (u ∷ v ∷ us) ws h = absurd (omega arith)

aborted_alone : (cs : Cells) (us : List Uncommitted) (ws : List Waiting) → length us ≤ 1 → AloneAfter (aborted Blocking cs us ws)
aborted_alone cs [] ws h = record { one = h; independent = tt }
aborted_alone cs (u ∷ us) ws h = drain_alone _ [] (map requeued us ++ ws) (omega arith)

taken_alone : (q : Request) (e : Engine) (cs : Cells) → length e.uncommitted ≤ 1 → AloneAfter (taken Blocking q e cs)
taken_alone (Arrive n f) e cs h = arrived_alone n f cs e.uncommitted e.waiting h
taken_alone (Commit n) e cs h = committed_alone cs e.uncommitted e.waiting h
taken_alone (Abort n) e cs h = aborted_alone cs e.uncommitted e.waiting h

-- from every record with at most one uncommitted, which the next one then has too
pub blocking_alone : (e : Engine) (c : Call) → c.scheme ≡ Blocking → length e.uncommitted ≤ 1 → Alone (step e c).engine.uncommitted (step e c).answers
unfolding step
blocking_alone e c b h = go (refusal e c)
  where
    go : (k : ℕ) → Alone (respond k e c).engine.uncommitted (respond k e c).answers
    go zero = subst (λ (σ : Scheme). AloneAfter (taken σ (request c.event) e c.lent)) (sym b) (taken_alone (request c.event) e c.lent h)
    go (suc k) = record { one = h; independent = tt }

pub blocking_independent : (e : Engine) (c : Call) → c.scheme ≡ Blocking → length e.uncommitted ≤ 1 → All Independent (step e c).answers
blocking_independent e c b h = (blocking_alone e c b h).independent

-- calls by blocking alone
abbrev pub AllBlocking : List Call → Type 0
AllBlocking calls = All (λ (c : Call). c.scheme ≡ Blocking) calls

fresh_none : (cs : Cells) → length (fresh cs).engine.uncommitted ≤ 1
unfolding start
fresh_none cs = go (eqb (length cs) 0 || ltb most_cells (length cs))
  where
    go : (b : Bool) → length (pick {A = Started} b (record { number = 3; engine = empty 0 }) (record { number = 0; engine = empty (length cs) })).engine.uncommitted ≤ 1
    go true = omega arith
    go false = omega arith

-- from a fresh start on any cells, whatever the calls are lent
pub fresh_alone : (cs : Cells) (calls : List Call) → AllBlocking calls → length (runs (fresh cs) calls).engine.uncommitted ≤ 1
fresh_alone cs calls b = go (fresh cs) calls b (fresh_none cs)
  where
    go : (r : Run) (calls : List Call) → AllBlocking calls → length r.engine.uncommitted ≤ 1 → length (runs r calls).engine.uncommitted ≤ 1
    go r [] b h = h
    go r (c ∷ calls) b h = go (onward r c) calls b.1 (blocking_alone r.engine c b.0 h).one

pub fresh_independent : (cs : Cells) (calls : List Call) → AllBlocking calls → (c : Call) → c.scheme ≡ Blocking → All Independent (step (runs (fresh cs) calls).engine c).answers
fresh_independent cs calls b c k = blocking_independent (runs (fresh cs) calls).engine c k (fresh_alone cs calls b)
