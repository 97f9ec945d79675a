-- Document 01, "The steps": a fragment's run with undo entries, undoing, drain, arrival, commit and abort; the commit as 02's L6 amends it.
use Rattle.std.specs.Prelude.{ℕ, suc, ◌+◌, Bool, true, false, not, ◌&&◌, ◌||◌, List, [], ◌∷◌, ◌++◌, Ok, Err, map, ltb, eqb, length, set}
use Rattle.model.specs.Limits.{depth}
use Rattle.model.specs.Operations.{Cells, Outcome, content, operate, put, writes, multi, last, operations, tells}
use Rattle.model.specs.Transactions.{State, Running, Finished, Failed, finished, Reply, Held, Sent, NoReply, Uncommitted, Waiting, Answer, answer, undo_list}
use Rattle.model.specs.declared.Op.{Op}
use Rattle.model.specs.declared.Fragment.{Fragment}
use Rattle.model.specs.declared.Undo.{Undo}
use Rattle.model.specs.declared.Scheme.{Scheme}
use Rattle.model.specs.declared.Scheme.TheVariants.{Speculation, Blocking}

-- "Undoing walks the entries from the newest to the oldest": what stands behind u in the list is newer, and goes first.
unfoldable pub undone : List Undo → Cells → Cells
undone [] cs = cs
undone (u ∷ us) cs = set (undone us cs) u.cell u.old

-- "one for each writing operation that ran without failing": the entries us, and one more if o writes
abbrev pub noted : Op → Cells → List Undo → List Undo
noted o cs us = elim (writes o.code) [ true ↦ us ++ (record { cell = o.cell; old = content o cs } ∷ []) | false ↦ us ]

-- what running a fragment leaves: the cells, what the answer tells, and the entries that its transaction then owns
pub record Ran : Type 0 where
  pub cells : Cells
  pub outcome : Outcome
  pub undo : List Undo

-- "A failing operation writes nothing; its transaction has failed, all changes of that transaction (earlier fragments too) are taken back at
-- once". p is the place of the next operation, ns the numbers so far, us what the transaction owns so far; x is "the number it found" (02, L4), on
-- the cells as they stand before anything is taken back.
unfoldable pub run_from : ℕ → List Op → Cells → List ℕ → List Undo → Ran
run_from p [] cs ns us = record { cells = cs; outcome = record { place = 0; numbers = ns }; undo = us }
run_from p (o ∷ os) cs ns us =
    elim (operate o cs) [
      | Ok y ↦ run_from (suc p) os (put o y cs) (ns ++ (tells p (Ok y)).numbers) (noted o cs us)
      | Err x ↦ record { cells = undone us cs; outcome = tells p (Err x); undo = [] }
    ]

-- run a fragment of a transaction that owns the entries us
abbrev pub run : Fragment → Cells → List Undo → Ran
run f cs us = run_from 1 (operations f) cs [] us

-- "finished locally when its last fragment has run or when it has failed"
abbrev pub state_after : Fragment → Outcome → State
state_after f o = elim (eqb o.place 0) [ true ↦ elim (last f) [ true ↦ Finished | false ↦ Running ] | false ↦ Failed ]

-- a waiting one after its first fragment ran, in the attempt that it waited for
abbrev pub begun : Waiting → Ran → Reply → Uncommitted
begun w r a = record { number = w.number; attempt = w.attempt; first = w.fragment; ran = 1; state = state_after w.fragment r.outcome; reply = a; undo = r.undo }

-- "all uncommitted multis including itself have one coordinator (singles do not count)": k is its own
abbrev pub one_coordinator : ℕ → List Uncommitted → Bool
one_coordinator k [] = true
one_coordinator k (u ∷ us) = (not (multi u.first) || eqb u.first.coordinator k) && one_coordinator k us

-- "the nearest multi ahead of it": what f says of the last multi, n where there is none
abbrev pub nearest_by : (Uncommitted → ℕ) → ℕ → List Uncommitted → ℕ
nearest_by f n [] = n
nearest_by f n (u ∷ us) = elim (multi u.first) [ true ↦ nearest_by f (f u) us | false ↦ nearest_by f n us ]

-- its number, and "the attempt of the one it depends on, 0 if none" (02, L2)
abbrev pub nearest : ℕ → List Uncommitted → ℕ
nearest n us = nearest_by (λ (u : Uncommitted). u.number) n us

abbrev pub nearest_attempt : ℕ → List Uncommitted → ℕ
nearest_attempt n us = nearest_by (λ (u : Uncommitted). u.attempt) n us

abbrev pub last_finished : List Uncommitted → Bool
last_finished [] = true
last_finished (u ∷ []) = finished u.state
last_finished (u ∷ v ∷ us) = last_finished (v ∷ us)

-- "either nothing is uncommitted or fewer than 16 are and the last of them is finished locally"; in the blocking scheme (02, L5) "the drain runs
-- only while nothing is uncommitted". The schemes differ here and nowhere else.
abbrev pub may_take : Scheme → List Uncommitted → Bool
may_take σ [] = true
may_take σ (u ∷ us) = elim σ [ Speculation ↦ ltb (length (u ∷ us)) depth && last_finished (u ∷ us) | Blocking ↦ false ]

-- uncommitted ones, answers sent, and the numbers of those that settle, in the order in which they do
pub record Place : Type 0 where
  pub uncommitted : List Uncommitted
  pub answers : List Answer
  pub settles : List ℕ

-- Drain's three bullets: where the one that ran goes, behind those that are uncommitted
unfoldable pub placed : List Uncommitted → Waiting → Ran → Place
placed [] w r =
    elim (multi w.fragment) [
      -- "Nothing uncommitted, single: it settles at once and is answered, dependence 0."
      | false ↦ record { uncommitted = []; answers = answer w.number 0 w.attempt 0 r.outcome ∷ []; settles = w.number ∷ [] }
      -- "Nothing uncommitted, multi: it becomes the front and is answered, dependence 0."
      | true ↦ record { uncommitted = begun w r Sent ∷ []; answers = answer w.number 0 w.attempt 0 r.outcome ∷ []; settles = [] }
    ]
-- "Otherwise it joins the uncommitted ones.": it does not settle
placed (u ∷ us) w r =
    elim (multi w.fragment && one_coordinator w.fragment.coordinator (u ∷ us)) [
      -- "A single's answer is held. A multi is answered now .. else its answer is held."
      | false ↦ record { uncommitted = u ∷ us ++ (begun w r (Held r.outcome) ∷ []); answers = []; settles = [] }
      -- "A multi is answered now, with a dependence on the nearest multi ahead of it"
      | true ↦ record { uncommitted = u ∷ us ++ (begun w r Sent ∷ []); answers = answer w.number (nearest 0 (u ∷ us)) w.attempt (nearest_attempt 0 (u ∷ us)) r.outcome ∷ []; settles = [] }
    ]

-- what a step leaves: the cells, both queues, and the answers in the order in which they are sent; and the numbers of those that settle in it, in
-- the order in which they do
pub record Queues : Type 0 where
  pub cells : Cells
  pub uncommitted : List Uncommitted
  pub waiting : List Waiting
  pub answers : List Answer
  pub settles : List ℕ

-- these answers are sent first, and these settle first
abbrev pub sending : List Answer → List ℕ → Queues → Queues
sending l ns q = record { cells = q.cells; uncommitted = q.uncommitted; waiting = q.waiting; answers = l ++ q.answers; settles = ns ++ q.settles }

-- "Drain: while something waits, and ..: take the first waiting one and run it."
unfoldable pub drain : Scheme → Cells → List Uncommitted → List Waiting → Queues
drain σ cs us [] = record { cells = cs; uncommitted = us; waiting = []; answers = []; settles = [] }
drain σ cs us (w ∷ ws) =
    elim (may_take σ us) [
      | false ↦ record { cells = cs; uncommitted = us; waiting = w ∷ ws; answers = []; settles = [] }
      | true ↦ let p = placed us w (run w.fragment cs []) in sending p.answers p.settles (drain σ (run w.fragment cs []).cells p.uncommitted ws)
    ]

-- the front after one more fragment, in the same attempt
abbrev pub again : Uncommitted → Fragment → Ran → Uncommitted
again u f r = record { number = u.number; attempt = u.attempt; first = u.first; ran = u.ran + 1; state = state_after f r.outcome; reply = Sent; undo = r.undo }

-- "first run is 1" (02, L2)
abbrev pub arrival : ℕ → Fragment → Waiting
arrival n f = record { number = n; attempt = 1; fragment = f }

-- "Arrival, new number: join the end of the waiting queue, then drain."
abbrev pub joined : Scheme → ℕ → Fragment → Cells → List Uncommitted → List Waiting → Queues
joined σ n f cs us ws = drain σ cs us (ws ++ (arrival n f ∷ []))

-- "Arrival, number of the front (first uncommitted): run the fragment, answer with dependence 0, then drain."
abbrev pub continued : Scheme → Fragment → Cells → Uncommitted → List Uncommitted → List Waiting → Queues
continued σ f cs u us ws =
    let r = run f cs u.undo in sending (answer u.number 0 u.attempt 0 r.outcome ∷ []) [] (drain σ r.cells (again u f r ∷ us) ws)

abbrev pub arrived : Scheme → ℕ → Fragment → Cells → List Uncommitted → List Waiting → Queues
arrived σ n f cs [] ws = joined σ n f cs [] ws
arrived σ n f cs (u ∷ us) ws = elim (eqb u.number n) [ false ↦ joined σ n f cs (u ∷ us) ws | true ↦ continued σ f cs u us ws ]

-- the answer that u holds, with dependence d in its attempt b; one that was sent earlier is not repeated
abbrev pub held_with : ℕ → ℕ → Uncommitted → List Answer
held_with d b u = elim u.reply [ Held o ↦ answer u.number d u.attempt b o ∷ [] | Sent ↦ [] | NoReply ↦ [] ]

-- "if its answer was held, it is sent now with dependence 0, and if it was sent earlier it is not repeated"
abbrev pub held_by : Uncommitted → List Answer
held_by u = held_with 0 0 u

abbrev pub sent : Uncommitted → Uncommitted
sent u = record { number = u.number; attempt = u.attempt; first = u.first; ran = u.ran; state = u.state; reply = Sent; undo = u.undo }

-- 02, L6: "After each commit and before the drain, held answers are looked at in queue order, and each multi for which the multis ahead of it and
-- itself have one coordinator is answered with its dependence." That is the nearest multi ahead. Those behind it are not asked. Nothing settles.
unfoldable pub released : List Uncommitted → List Uncommitted → Place
released ahead [] = record { uncommitted = []; answers = []; settles = [] }
released ahead (u ∷ us) =
    let p = released (ahead ++ (u ∷ [])) us in
    elim (multi u.first && one_coordinator u.first.coordinator ahead) [
      | false ↦ record { uncommitted = u ∷ p.uncommitted; answers = p.answers; settles = [] }
      | true ↦ record { uncommitted = sent u ∷ p.uncommitted; answers = held_with (nearest 0 ahead) (nearest_attempt 0 ahead) u ++ p.answers; settles = [] }
    ]

-- "Then singles settle and are answered from the front of the queue until a multi is first. That one is the new front"; L6: "The front comes first, as
-- before.", then what is released behind it.
unfoldable pub settled : List Uncommitted → Place
settled [] = record { uncommitted = []; answers = []; settles = [] }
settled (u ∷ us) =
    elim (multi u.first) [
      | true ↦ record { uncommitted = sent u ∷ (released (u ∷ []) us).uncommitted; answers = held_by u ++ (released (u ∷ []) us).answers; settles = [] }
      | false ↦ record { uncommitted = (settled us).uncommitted; answers = held_by u ++ (settled us).answers; settles = u.number ∷ (settled us).settles }
    ]

-- "Commit of the front: it settles. Then singles settle .. Then drain.", with L6's release before the drain. Its entries go with it.
abbrev pub committed : Scheme → Cells → List Uncommitted → List Waiting → Queues
committed σ cs [] ws = record { cells = cs; uncommitted = []; waiting = ws; answers = []; settles = [] }
committed σ cs (u ∷ us) ws = sending (settled us).answers (u.number ∷ (settled us).settles) (drain σ cs (settled us).uncommitted ws)

-- "the others return to the head of the waiting queue in their old order", each to its next attempt: "one more after each undoing" (02, L2)
abbrev pub requeued : Uncommitted → Waiting
requeued u = record { number = u.number; attempt = u.attempt + 1; fragment = u.first }

-- "Abort of the front: undo all uncommitted from the tail to the front; the front is gone; the others return .. Then drain." The front
-- does not settle; those do that settle in the drain.
abbrev pub aborted : Scheme → Cells → List Uncommitted → List Waiting → Queues
aborted σ cs [] ws = record { cells = cs; uncommitted = []; waiting = ws; answers = []; settles = [] }
aborted σ cs (u ∷ us) ws = drain σ (undone (undo_list (u ∷ us)) cs) [] (map requeued us ++ ws)
