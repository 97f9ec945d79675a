-- The steps by their cases: what holds of each case of a placing, of releasing, of settling, of a drain and of a held answer holds of the whole, and what
-- holds of each kind of request holds of an event's. The proofs about the steps go by these.
use Prim.Native.Nat.{ℕ}
use mathlib.Core.Path.{◌≡◌, refl}
use mathlib.Core.Bool.{Bool, true, false, ◌&&◌}
use mathlib.Core.List.{List, [], ◌∷◌, ◌++◌}
use lib.Dec.{eqb}
use Rattle.model.specs.Operations.{Cells, Outcome, multi}
use Rattle.model.specs.Transactions.{Reply, Held, Sent, NoReply, holds, Uncommitted, Waiting, Answer, answer}
use Rattle.model.specs.Steps.{Ran, run, begun, one_coordinator, nearest, nearest_attempt, may_take, Place, placed, Queues, sending, drain, held_with, held_by, sent, released, settled}
use Rattle.model.specs.Refusals.{Request, Arrive, Commit, Abort, request}
use Rattle.model.specs.declared.Event.{Event}
use Rattle.model.specs.declared.Scheme.{Scheme}
use Rattle.model.proofs.Tests.{and_left}

module _ (P : Place → Type 0) where
  pub placed_idle : (w : Waiting) (r : Ran) → (multi w.fragment ≡ false → P (record { uncommitted = []; answers = answer w.number 0 w.attempt 0 r.outcome ∷ []; settles = w.number ∷ [] }))
      → (multi w.fragment ≡ true → P (record { uncommitted = begun w r Sent ∷ []; answers = answer w.number 0 w.attempt 0 r.outcome ∷ []; settles = [] })) → P (placed [] w r)
  unfolding placed
  placed_idle w r single several = go (multi w.fragment) refl
    where
      go : (b : Bool) → multi w.fragment ≡ b
          → P (elim b [
            | false ↦ record { uncommitted = []; answers = answer w.number 0 w.attempt 0 r.outcome ∷ []; settles = w.number ∷ [] }
            | true ↦ record { uncommitted = begun w r Sent ∷ []; answers = answer w.number 0 w.attempt 0 r.outcome ∷ []; settles = [] }
          ])
      go false e = single e
      go true e = several e

  pub placed_behind : (u : Uncommitted) (us : List Uncommitted) (w : Waiting) (r : Ran) → P (record { uncommitted = u ∷ us ++ (begun w r (Held r.outcome) ∷ []); answers = []; settles = [] })
      → (multi w.fragment ≡ true → P (record { uncommitted = u ∷ us ++ (begun w r Sent ∷ []); answers = answer w.number (nearest 0 (u ∷ us)) w.attempt (nearest_attempt 0 (u ∷ us)) r.outcome ∷ []; settles = [] })) → P (placed (u ∷ us) w r)
  unfolding placed
  placed_behind u us w r held now-sent = go (multi w.fragment && one_coordinator w.fragment.coordinator (u ∷ us)) refl
    where
      go : (b : Bool) → (multi w.fragment && one_coordinator w.fragment.coordinator (u ∷ us)) ≡ b
          → P (elim b [
            | false ↦ record { uncommitted = u ∷ us ++ (begun w r (Held r.outcome) ∷ []); answers = []; settles = [] }
            | true ↦ record { uncommitted = u ∷ us ++ (begun w r Sent ∷ []); answers = answer w.number (nearest 0 (u ∷ us)) w.attempt (nearest_attempt 0 (u ∷ us)) r.outcome ∷ []; settles = [] }
          ])
      go false e = held
      go true e = now-sent (and_left (multi w.fragment) (one_coordinator w.fragment.coordinator (u ∷ us)) e)

  -- one of those behind the front: it stays as it is, or it is a multi and released; the rest comes after it
  pub released_cases : (ahead : List Uncommitted) (u : Uncommitted) (us : List Uncommitted)
      → P (record { uncommitted = u ∷ (released (ahead ++ (u ∷ [])) us).uncommitted; answers = (released (ahead ++ (u ∷ [])) us).answers; settles = [] })
      → (multi u.first ≡ true → P (record { uncommitted = sent u ∷ (released (ahead ++ (u ∷ [])) us).uncommitted; answers = held_with (nearest 0 ahead) (nearest_attempt 0 ahead) u ++ (released (ahead ++ (u ∷ [])) us).answers; settles = [] }))
      → P (released ahead (u ∷ us))
  unfolding released
  released_cases ahead u us stays goes = go (multi u.first) _ refl
    where
      go : (a b : Bool) → multi u.first ≡ a
          → P (elim (a && b) [
            | false ↦ record { uncommitted = u ∷ (released (ahead ++ (u ∷ [])) us).uncommitted; answers = (released (ahead ++ (u ∷ [])) us).answers; settles = [] }
            | true ↦ record { uncommitted = sent u ∷ (released (ahead ++ (u ∷ [])) us).uncommitted; answers = held_with (nearest 0 ahead) (nearest_attempt 0 ahead) u ++ (released (ahead ++ (u ∷ [])) us).answers; settles = [] }
          ])
      go false b e = stays
      go true false e = stays
      go true true e = goes e

  pub settled_cases : (u : Uncommitted) (us : List Uncommitted)
      → (multi u.first ≡ true → P (record { uncommitted = sent u ∷ (released (u ∷ []) us).uncommitted; answers = held_by u ++ (released (u ∷ []) us).answers; settles = [] }))
      → (multi u.first ≡ false → P (record { uncommitted = (settled us).uncommitted; answers = held_by u ++ (settled us).answers; settles = u.number ∷ (settled us).settles })) → P (settled (u ∷ us))
  unfolding settled
  settled_cases u us front single = go (multi u.first) refl
    where
      go : (b : Bool) → multi u.first ≡ b
          → P (elim b [
            | true ↦ record { uncommitted = sent u ∷ (released (u ∷ []) us).uncommitted; answers = held_by u ++ (released (u ∷ []) us).answers; settles = [] }
            | false ↦ record { uncommitted = (settled us).uncommitted; answers = held_by u ++ (settled us).answers; settles = u.number ∷ (settled us).settles }
          ])
      go true e = front e
      go false e = single e

pub drain_cases : (P : Queues → Type 0) (σ : Scheme) (cs : Cells) (us : List Uncommitted) (w : Waiting) (ws : List Waiting)
    → (may_take σ us ≡ false → P (record { cells = cs; uncommitted = us; waiting = w ∷ ws; answers = []; settles = [] }))
    → (may_take σ us ≡ true → P (sending (placed us w (run w.fragment cs [])).answers (placed us w (run w.fragment cs [])).settles (drain σ (run w.fragment cs []).cells (placed us w (run w.fragment cs [])).uncommitted ws)))
    → P (drain σ cs us (w ∷ ws))
unfolding drain
drain_cases P σ cs us w ws stays takes = go (may_take σ us) refl
  where
    go : (b : Bool) → may_take σ us ≡ b
        → P (elim b [
          | false ↦ record { cells = cs; uncommitted = us; waiting = w ∷ ws; answers = []; settles = [] }
          | true ↦ sending (placed us w (run w.fragment cs [])).answers (placed us w (run w.fragment cs [])).settles (drain σ (run w.fragment cs []).cells (placed us w (run w.fragment cs [])).uncommitted ws)
        ])
    go false e = stays e
    go true e = takes e

pub held_cases : (P : List Answer → Type 0) (d b : ℕ) (u : Uncommitted) → ((o : Outcome) → u.reply ≡ Held o → P (answer u.number d u.attempt b o ∷ [])) → (holds u.reply ≡ false → P []) → P (held_with d b u)
held_cases P d b u held none = go u.reply refl (λ e. none e)
  where
    go : (a : Reply) → u.reply ≡ a → (holds a ≡ false → P []) → P (elim a [ Held o ↦ answer u.number d u.attempt b o ∷ [] | Sent ↦ [] | NoReply ↦ [] ])
    go (Held o) e n = held o e
    go Sent e n = n refl
    go NoReply e n = n refl

pub request_cases : (P : Request → Type 0) (v : Event) → (eqb v.kind 1 ≡ true → P (Arrive v.number v.fragment)) → (eqb v.kind 1 ≡ false → P (Commit v.number))
    → (eqb v.kind 1 ≡ false → P (Abort v.number)) → P (request v)
request_cases P v arrives commits aborts = go (eqb v.kind 1) (eqb v.kind 2) refl
  where
    go : (a b : Bool) → eqb v.kind 1 ≡ a → P (elim a [ true ↦ Arrive v.number v.fragment | false ↦ elim b [ true ↦ Commit v.number | false ↦ Abort v.number ] ])
    go true b e = arrives e
    go false true e = commits e
    go false false e = aborts e
