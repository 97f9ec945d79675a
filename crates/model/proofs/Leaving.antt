-- Who is in no queue of the record and was not aborted is settled: what demand 3 reads off the log the record says too.
use Prim.Native.Nat.{ℕ, zero, suc, ◌≤◌}
use native.Mathlib.Omega.{arith}
use borrow.Author.Tests.{eq-eqb, ne_eqb, eqb-true}
use mathlib.Core.Path.{◌≡◌, refl, sym, ap, ◌∙◌, subst}
use mathlib.Core.Bool.{Bool, true, false, ◌||◌, true≢false}
use mathlib.Core.List.{List, [], ◌∷◌, ◌++◌, map, append_assoc}
use lib.Dec.{eqb}
use Rattle.model.specs.Operations.{Cells, multi}
use Rattle.model.specs.Transactions.{Uncommitted, Waiting, front}
use Rattle.model.specs.Refusals.{Request, Arrive, request, is_in, Call, step}
use Rattle.model.specs.Serial.{Tx, Decision, Open, Committed, Aborted}
use Rattle.model.specs.Demand.{numbers_of, Log, is_logged, at, extended, decided, logged, noticed, Run, onward, runs, fresh, AllLend, Standing, Settles, Gone, Undecided, settled_of, live_of, was_aborted, settled_by, settled_in, Rises}
use Rattle.model.specs.declared.Fragment.{Fragment}
use Rattle.model.proofs.Logs.{InOrder, rises_settled}
use Rattle.model.proofs.Chain.{as_tx, tx_of, lives, all_append, Inv}
use Rattle.model.proofs.Draining.{rises_drop}
use Rattle.model.proofs.Settling.{log_front}
use Rattle.model.proofs.Branches.{request_cases}
use Rattle.model.proofs.Passing.{passed, took, decides_front}
use Rattle.model.proofs.Demanded.{Whole, whole_queue, whole_next, fresh_whole, reached}
use Rattle.model.specs.Parts.{All, Passed}

-- No single of the log is decided

abbrev Own : Tx → Type 0
Own t = multi t.first ≡ false → t.decision ≡ Open

extended_own : (n : ℕ) (f : Fragment) (l : Log) → All Own l → All Own (at n (extended f) l)
extended_own n f [] h = tt
extended_own n f (t ∷ ts) h = go (eqb t.number n) (extended_own n f ts h.1)
  where
    go : (b : Bool) → All Own (at n (extended f) ts) → All Own (elim b as (λ _. Log) [ true ↦ extended f t ∷ ts | false ↦ t ∷ at n (extended f) ts ])
    go true k = h
    go false k = (h.0, k)

arrived_own : (n : ℕ) (f : Fragment) (l : Log) → All Own l → All Own (logged (Arrive n f) l)
arrived_own n f l h = go (is_logged n l)
  where
    go : (b : Bool) → All Own (elim b as (λ _. Log) [ true ↦ at n (extended f) l | false ↦ l ++ (record { number = n; first = f; more = []; decision = Open } ∷ []) ])
    go true = extended_own n f l h
    go false = all_append Own l (record { number = n; first = f; more = []; decision = Open } ∷ []) h ((λ _. refl), tt)

put_own : (P : Log) (t t' : Tx) (R : Log) → Own t' → All Own (P ++ t ∷ R) → All Own (P ++ t' ∷ R)
put_own [] t t' R k h = (k, h.1)
put_own (p ∷ P) t t' R k h = (h.0, put_own P t t' R k h.1)

-- a decision is for the front, a multi
decided_own : (cs₀ : Cells) (top : ℕ) (l : Log) → InOrder 0 top l → (cs : Cells) (us : List Uncommitted) (ws : List Waiting) (i : Inv cs₀ l cs us ws []) (d : Decision) (n : ℕ)
    → front (λ (u : Uncommitted). eqb u.number n) us ≡ true → All Own l → All Own (at n (decided d) l)
decided_own cs₀ top l rises cs [] ws i d n e h = absurd (true≢false (sym e))
decided_own cs₀ top l rises cs (u ∷ us) ws i d n e h =
    subst (λ (m : ℕ). All Own (at m (decided d) l)) (eqb-true u.number n e)
    (subst (All Own) (sym (log_front cs₀ top l rises cs ws [] u us i (decided d)))
    (put_own i.past (tx_of i.more u) (decided d (tx_of i.more u)) (lives [] us ++ map as_tx ws) (λ s. absurd (true≢false (sym i.multi ∙ s))) (subst (All Own) i.split h)))

onward_own : (cs₀ : Cells) (r : Run) (c : Call) → Whole cs₀ r [] → All Own r.log → All Own (onward r c).log
onward_own cs₀ r c w h = go (step r.engine c).number refl
  where
    at_front : (d : Decision) → eqb c.event.kind 1 ≡ false → Passed r.engine c → All Own (at c.event.number (decided d) r.log)
    at_front d a p = decided_own cs₀ r.engine.largest r.log w.rises r.cells r.engine.uncommitted r.engine.waiting w.inv d c.event.number (decides_front r.engine c a p) h

    asked : Passed r.engine c → All Own (logged (request c.event) r.log)
    asked p = request_cases (λ (q : Request). All Own (logged q r.log)) c.event (λ _. arrived_own c.event.number c.event.fragment r.log h) (λ a. at_front Committed a p) (λ a. at_front Aborted a p)

    go : (k : ℕ) → (step r.engine c).number ≡ k → All Own (noticed k (request c.event) r.log)
    go zero e = asked (passed r.engine c (took r.engine c e))
    go (suc k) e = h

runs_own : (cs₀ : Cells) (r : Run) (calls : List Call) → AllLend r calls → Whole cs₀ r [] → All Own r.log → All Own (runs r calls).log
runs_own cs₀ r [] d w h = h
runs_own cs₀ r (c ∷ calls) d w h = runs_own cs₀ (onward r c) calls d.1 (whole_next cs₀ r c w d.0) (onward_own cs₀ r c w h)

-- Live or not, by the numbers

not_in : (n top m : ℕ) (ns : List ℕ) → m ≤ n → Rises n top ns → is_in m ns ≡ false
not_in n top m [] k h = refl
not_in n top m (x ∷ ns) k h = ap {B = Bool} (λ (b : Bool). b || is_in m ns) (ne_eqb x m (λ e. omega (arith, h.0))) ∙ not_in x top m ns (omega (arith, h.0)) h.1

is_in_lem : (A : Log) (t : Tx) (ts : Log) → is_in t.number (numbers_of (A ++ t ∷ ts)) ≡ true
is_in_lem [] t ts = ap {B = Bool} (λ (b : Bool). b || is_in t.number (numbers_of ts)) (eq-eqb t.number t.number refl)
is_in_lem (a ∷ A) t ts = go (eqb a.number t.number) (is_in t.number (numbers_of (A ++ t ∷ ts))) (is_in_lem A t ts)
  where
    go : (b c : Bool) → c ≡ true → (b || c) ≡ true
    go true c k = refl
    go false c k = k

-- none of those that are live, here those behind A
live_out : (A : Log) (t : Tx) (ts : Log) (a : Bool) → settled_by (numbers_of (A ++ t ∷ ts)) ts ≡ []
    → ◌≡◌ {A = List Tx} (elim (is_in t.number (numbers_of (A ++ t ∷ ts)) || a) [ true ↦ settled_by (numbers_of (A ++ t ∷ ts)) ts | false ↦ t ∷ settled_by (numbers_of (A ++ t ∷ ts)) ts ]) []
live_out A t ts a k =
    ap {B = List Tx} (λ (b : Bool). elim (b || a) [ true ↦ settled_by (numbers_of (A ++ t ∷ ts)) ts | false ↦ t ∷ settled_by (numbers_of (A ++ t ∷ ts)) ts ]) (is_in_lem A t ts) ∙ k

none_settled : (A ts : Log) → settled_by (numbers_of (A ++ ts)) ts ≡ []
none_settled A [] = refl
none_settled A (t ∷ ts) = live_out A t ts (was_aborted t) (subst (λ (l : Log). settled_by (numbers_of l) ts ≡ []) (append_assoc A (t ∷ []) ts) (none_settled (A ++ t ∷ []) ts))

settled_by_lem : (n top : ℕ) (l : Log) → InOrder n top l → All Own l → settled_by (numbers_of (live_of l)) l ≡ settled_of l
settled_by_lem n top [] h o = refl
settled_by_lem n top (t ∷ ts) h o = go (settled_by_lem t.number top ts h.1 o.1) (multi t.first) t.decision o.0
  where
    -- t by itself, the live ones behind it
    keeps : (settled_by (numbers_of (live_of ts)) ts ≡ settled_of ts) → (a : Bool) → ◌≡◌ {A = List Tx} (elim (is_in t.number (numbers_of (live_of ts)) || a) [ true ↦ settled_by (numbers_of (live_of ts)) ts | false ↦ t ∷ settled_by (numbers_of (live_of ts)) ts ])
        (elim a [ true ↦ settled_of ts | false ↦ t ∷ settled_of ts ])
    keeps e a =
        ap {B = List Tx} (λ (b : Bool). elim (b || a) [ true ↦ settled_by (numbers_of (live_of ts)) ts | false ↦ t ∷ settled_by (numbers_of (live_of ts)) ts ])
        (not_in t.number top t.number (numbers_of (live_of ts)) (omega arith) (rises_drop t.number top (settled_of ts) (live_of ts) (rises_settled t.number top ts h.1)))
        ∙ ap {B = List Tx} (λ (x : List Tx). elim a [ true ↦ x | false ↦ t ∷ x ]) e

    standing_of : Bool → Decision → Standing
    standing_of b d = elim b [ false ↦ Settles | true ↦ elim d [ Open ↦ Undecided | Committed ↦ Settles | Aborted ↦ Gone ] ]

    live_by : Standing → Log
    live_by s = elim s [ Settles ↦ live_of ts | Gone ↦ live_of ts | Undecided ↦ t ∷ ts ]

    go : settled_by (numbers_of (live_of ts)) ts ≡ settled_of ts → (b : Bool) (d : Decision) → (b ≡ false → d ≡ Open)
        → ◌≡◌ {A = List Tx}
        (elim (is_in t.number (numbers_of (live_by (standing_of b d))) || elim d [ Open ↦ false | Committed ↦ false | Aborted ↦ true ])
        [ true ↦ settled_by (numbers_of (live_by (standing_of b d))) ts | false ↦ t ∷ settled_by (numbers_of (live_by (standing_of b d))) ts ])
        (elim (standing_of b d) [ Settles ↦ t ∷ settled_of ts | Gone ↦ settled_of ts | Undecided ↦ [] ])
    go e false Open k = keeps e false
    go e false Committed k = let z : Committed ≡ Open = k refl in let x : ◌≡◌ {A = ℕ} 0 1 = cc in absurd (omega arith)
    go e false Aborted k = let z : Aborted ≡ Open = k refl in let x : ◌≡◌ {A = ℕ} 0 1 = cc in absurd (omega arith)
    go e true Open k = live_out [] t ts false (none_settled (t ∷ []) ts)
    go e true Committed k = keeps e false
    go e true Aborted k = keeps e true

-- after any calls from a fresh start
pub settled_in_lem : (cs : Cells) (calls : List Call) → AllLend (fresh cs) calls → settled_in (runs (fresh cs) calls) ≡ settled_of (runs (fresh cs) calls).log
settled_in_lem cs calls d =
    ap (λ (ns : List ℕ). settled_by ns r.log) (whole_queue cs r [] w)
    ∙ settled_by_lem 0 r.engine.largest r.log w.rises (runs_own cs (fresh cs) calls d (fresh_whole cs) tt)
  where
    r : Run
    r = runs (fresh cs) calls

    w : Whole cs (runs (fresh cs) calls) []
    w = reached cs calls d
