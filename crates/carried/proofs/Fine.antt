-- The steps only move fragments, and an answer tells at most eight numbers: of records whose rows have eight places.
use Prim.Native.Nat.{ℕ, suc, ◌+◌, ◌≤◌}
use native.Mathlib.Omega.{arith}
use mathlib.Core.Path.{◌≡◌, subst}
use mathlib.Core.Bool.{Bool, true, false}
use mathlib.Core.List.{List, [], ◌∷◌, ◌++◌, map}
use lib.Dec.{eqb}
use lib.ListN.{length, length-append, length-take}
use Rattle.model.specs.Operations.{Cells, operate, put, operations, tells}
use Rattle.model.specs.Transactions.{Reply, Held, Sent, Uncommitted, Waiting, Engine, Answer, answer}
use Rattle.model.specs.Steps.{undone, noted, Ran, run_from, run, begun, again, nearest, nearest_attempt, Place, placed, Queues, sending, drain, arrival, joined, continued, arrived, held_with, held_by, released, settled, committed, requeued, aborted}
use Rattle.model.specs.Refusals.{Request, request, taken}
use Rattle.model.specs.declared.Op.{Op}
use Rattle.model.specs.declared.Fragment.{Fragment}
use Rattle.model.specs.declared.Scheme.{Scheme}
use Rattle.model.specs.declared.Event.{Event}
use Rattle.model.specs.declared.Undo.{Undo}
use Rattle.std.specs.Prelude.{Ok, Err}
use Rattle.model.proofs.Branches.{placed_idle, placed_behind, released_cases, settled_cases, drain_cases, held_cases, request_cases}
use Rattle.model.proofs.Chain.{all_append}
use Rattle.record.specs.Words.{live_rows, held_outcome}
use Rattle.carried.specs.Carried.{Words}
use Rattle.model.specs.Parts.{All}
use Rattle.record.specs.Fitting.{Eight, Fit}

abbrev pub Small : Answer → Type 0
Small a = length a.outcome.numbers ≤ 8

-- an uncommitted one: its first fragment's row has eight places, and it holds at most eight numbers
abbrev pub Kept : Uncommitted → Type 0
Kept u = (length u.first.row ≡ 8) × Fit u

pub record Fine (q : Queues) : Type 0 where
  pub uncommitted : All Kept q.uncommitted
  pub waiting : All Eight q.waiting
  pub answers : All Small q.answers

-- a run gives at most a number for each operation
run_few : (p : ℕ) (os : List Op) (cs : Cells) (ns : List ℕ) (us : List Undo) → length (run_from p os cs ns us).outcome.numbers ≤ length ns + length os
unfolding run_from
run_few p [] cs ns us = omega arith
run_few p (o ∷ os) cs ns us =
    elim (operate o cs)
    as (λ d. length (elim d as (λ _. Ran) [
      | Ok y ↦ run_from (suc p) os (put o y cs) (ns ++ (y ∷ [])) (noted o cs us)
      | Err x ↦ record { cells = undone us cs; outcome = tells p (Err x); undo = [] }
    ]).outcome.numbers ≤ length ns + suc (length os)) [
      | Ok y ↦ omega (arith, run_few (suc p) os (put o y cs) (ns ++ (y ∷ [])) (noted o cs us), length-append ns (y ∷ []))
      | Err x ↦ omega arith
    ]

pub run_small : (f : Fragment) (cs : Cells) (us : List Undo) → length f.row ≡ 8 → length (run f cs us).outcome.numbers ≤ 8
unfolding operations
run_small f cs us h = omega (arith, run_few 1 (operations f) cs [] us, length-take f.count f.row)

placed_fine : (us : List Uncommitted) (w : Waiting) (cs : Cells) → All Kept us → Eight w
    → All Kept (placed us w (run w.fragment cs [])).uncommitted × All Small (placed us w (run w.fragment cs [])).answers
placed_fine [] w cs k e = placed_idle (λ (p : Place). All Kept p.uncommitted × All Small p.answers) w (run w.fragment cs [])
    (λ _. (tt, (run_small w.fragment cs [] e, tt))) (λ _. (((e, omega arith), tt), (run_small w.fragment cs [] e, tt)))
placed_fine (u ∷ us) w cs k e = placed_behind (λ (p : Place). All Kept p.uncommitted × All Small p.answers) u us w (run w.fragment cs [])
    (join (Held (run w.fragment cs []).outcome) (run_small w.fragment cs [] e), tt) (λ _. (join Sent (omega arith), (run_small w.fragment cs [] e, tt)))
  where
    join : (a : Reply) → length (held_outcome a).numbers ≤ 8 → All Kept (u ∷ us ++ (begun w (run w.fragment cs []) a ∷ []))
    join a h = all_append Kept (u ∷ us) (begun w (run w.fragment cs []) a ∷ []) k ((e, h), tt)

sending_fine : (l : List Answer) (ns : List ℕ) (q : Queues) → All Small l → Fine q → Fine (sending l ns q)
sending_fine l ns q s f = record { uncommitted = f.uncommitted; waiting = f.waiting; answers = all_append Small l q.answers s f.answers }

drain_fine : (σ : Scheme) (cs : Cells) (us : List Uncommitted) (ws : List Waiting) → All Kept us → All Eight ws → Fine (drain σ cs us ws)
unfolding drain
drain_fine σ cs us [] k e = record { uncommitted = k; waiting = tt; answers = tt }
drain_fine σ cs us (w ∷ ws) k e =
    let p : Place = placed us w (run w.fragment cs []) in
    let h = placed_fine us w cs k e.0 in
    let f = drain_fine σ (run w.fragment cs []).cells p.uncommitted ws h.0 e.1 in
    drain_cases Fine σ cs us w ws (λ _. record { uncommitted = k; waiting = e; answers = tt })
    (λ _. sending_fine p.answers p.settles (drain σ (run w.fragment cs []).cells p.uncommitted ws) h.1 f)

held_small : (d b : ℕ) (u : Uncommitted) → Fit u → All Small (held_with d b u)
held_small d b u h = held_cases (All Small) d b u (λ o e. (subst (λ (a : Reply). length (held_outcome a).numbers ≤ 8) e h, tt)) (λ _. tt)

released_fine : (ahead us : List Uncommitted) → All Kept us → All Kept (released ahead us).uncommitted × All Small (released ahead us).answers
unfolding released
released_fine ahead [] k = (tt, tt)
released_fine ahead (u ∷ us) k =
    let x = released_fine (ahead ++ (u ∷ [])) us k.1 in
    released_cases (λ (p : Place). All Kept p.uncommitted × All Small p.answers) ahead u us ((k.0, x.0), x.1)
    (λ _. (((k.0.0, omega arith), x.0), all_append Small (held_with (nearest 0 ahead) (nearest_attempt 0 ahead) u) (released (ahead ++ (u ∷ [])) us).answers (held_small (nearest 0 ahead) (nearest_attempt 0 ahead) u k.0.1) x.1))

settled_fine : (us : List Uncommitted) → All Kept us → All Kept (settled us).uncommitted × All Small (settled us).answers
unfolding settled
settled_fine [] k = (tt, tt)
settled_fine (u ∷ us) k = settled_cases (λ (p : Place). All Kept p.uncommitted × All Small p.answers) u us
    (λ _. let x = released_fine (u ∷ []) us k.1 in (((k.0.0, omega arith), x.0), all_append Small (held_by u) (released (u ∷ []) us).answers (held_small 0 0 u k.0.1) x.1))
    (λ _. let x = settled_fine us k.1 in (x.0, all_append Small (held_by u) (settled us).answers (held_small 0 0 u k.0.1) x.1))

pub rows_eight : (us : List Uncommitted) (ws : List Waiting) → All Kept us → All Eight ws → All Eight (live_rows us ws)
rows_eight [] ws k e = e
rows_eight (u ∷ us) ws k e = (k.0.0, rows_eight us ws k.1 e)

joined_fine : (σ : Scheme) (n : ℕ) (f : Fragment) (cs : Cells) (us : List Uncommitted) (ws : List Waiting) → length f.row ≡ 8 → All Kept us → All Eight ws → Fine (joined σ n f cs us ws)
joined_fine σ n f cs us ws h k e =
    drain_fine σ cs us (ws ++ (arrival n f ∷ [])) k (all_append Eight ws (arrival n f ∷ []) e (h, tt))

arrived_fine : (σ : Scheme) (n : ℕ) (f : Fragment) (cs : Cells) (us : List Uncommitted) (ws : List Waiting) → length f.row ≡ 8 → All Kept us → All Eight ws → Fine (arrived σ n f cs us ws)
arrived_fine σ n f cs [] ws h k e = joined_fine σ n f cs [] ws h k e
arrived_fine σ n f cs (u ∷ us) ws h k e = go (eqb u.number n)
  where
    r : Ran
    r = run f cs u.undo

    go : (b : Bool) → Fine (elim b [ false ↦ joined σ n f cs (u ∷ us) ws | true ↦ continued σ f cs u us ws ])
    go false = joined_fine σ n f cs (u ∷ us) ws h k e
    go true = sending_fine (answer u.number 0 u.attempt 0 r.outcome ∷ []) [] (drain σ r.cells (again u f r ∷ us) ws) (run_small f cs u.undo h, tt)
        (drain_fine σ r.cells (again u f r ∷ us) ws ((k.0.0, omega arith), k.1) e)

committed_fine : (σ : Scheme) (cs : Cells) (us : List Uncommitted) (ws : List Waiting) → All Kept us → All Eight ws → Fine (committed σ cs us ws)
committed_fine σ cs [] ws k e = record { uncommitted = tt; waiting = e; answers = tt }
committed_fine σ cs (u ∷ us) ws k e =
    let x = settled_fine us k.1 in
    sending_fine (settled us).answers (u.number ∷ (settled us).settles) (drain σ cs (settled us).uncommitted ws) x.1 (drain_fine σ cs (settled us).uncommitted ws x.0 e)

requeued_eight : (us : List Uncommitted) (ws : List Waiting) → All Kept us → All Eight ws → All Eight (map requeued us ++ ws)
requeued_eight [] ws k e = e
requeued_eight (u ∷ us) ws k e = (k.0.0, requeued_eight us ws k.1 e)

aborted_fine : (σ : Scheme) (cs : Cells) (us : List Uncommitted) (ws : List Waiting) → All Kept us → All Eight ws → Fine (aborted σ cs us ws)
aborted_fine σ cs [] ws k e = record { uncommitted = tt; waiting = e; answers = tt }
aborted_fine σ cs (u ∷ us) ws k e = drain_fine σ _ [] (map requeued us ++ ws) tt (requeued_eight us ws k.1 e)

-- an accepted request
pub taken_fine : (σ : Scheme) (v : Event) (e : Engine) (cs : Cells) → Words v → All Kept e.uncommitted → All Eight e.waiting → Fine (taken σ (request v) e cs)
taken_fine σ v e cs h k w = request_cases (λ (q : Request). Fine (taken σ q e cs)) v (λ _. arrived_fine σ v.number v.fragment cs e.uncommitted e.waiting h k w)
    (λ _. committed_fine σ cs e.uncommitted e.waiting k w) (λ _. aborted_fine σ cs e.uncommitted e.waiting k w)
