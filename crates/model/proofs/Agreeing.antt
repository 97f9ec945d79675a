-- Request L5 proved: two runs that are asked the same agree, whatever the schemes. But for held or sent, what a refusal asks of a record is a
-- function of the log and of the cells after the settled ones.
use Prim.Native.Nat.{ℕ, zero, suc, ◌+◌}
use native.Mathlib.Omega.{arith}
use mathlib.Core.Path.{◌≡◌, refl, sym, ap, ◌∙◌, subst}
use mathlib.Core.Bool.{Bool, true, false, not, ◌&&◌, ◌||◌}
use mathlib.Core.List.{List, [], ◌∷◌, ◌++◌, map, nil≢cons, head-eq_of_cons-eq, tail-eq_of_cons-eq}
use lib.Dec.{leb, ltb, eqb}
use lib.ListN.{length, take}
use Rattle.model.specs.Limits.{most_fragments, most_live, least_room}
use Rattle.model.specs.Operations.{Cells, multi, told}
use Rattle.model.specs.Transactions.{State, finished, failed, Uncommitted, Waiting, Engine, Answer, numbers, front}
use Rattle.model.specs.Steps.{state_after}
use Rattle.model.specs.Refusals.{Request, Arrive, Commit, Abort, request, sound, formed_event, inside, is_in, Call, rows, first_of, refusal, largest_after, respond, step}
use Rattle.model.specs.Serial.{Tx, attempt, serial}
use Rattle.model.specs.Demand.{Log, noticed, Run, onward, runs, fresh, Lends, AllLend, settled_of, live_of, numbers_of}
use Rattle.model.specs.Schemes.{Alike, AllAlike, Twins, Idle, of_singles, replies, SchemesAgree}
use Rattle.model.specs.declared.Event.{Event}
use Rattle.model.specs.declared.Fragment.{Fragment}
use Rattle.model.specs.declared.Scheme.{Scheme}
use Rattle.model.proofs.Chain.{as_tx, tx_of, latest, Inv, settled_is}
use Rattle.model.proofs.Demanded.{Whole, whole_cells, whole_queue, whole_onward, whole_next, fresh_whole, reaches}
use Rattle.model.proofs.Leaving.{settled_in_lem}
use Rattle.model.proofs.Kept.{step_keeps, start_sound, step_number}

-- Fronts

-- what a refusal asks of a front
record Face : Type 0 where
  number : ℕ
  first : Fragment
  ran : ℕ
  state : State

abbrev face : Uncommitted → Face
face u = record { number = u.number; first = u.first; ran = u.ran; state = u.state }

abbrev Fronts : List Uncommitted → List Uncommitted → Type 0
Fronts [] [] = Unit {0}
Fronts [] (v ∷ vs) = ⊥
Fronts (u ∷ us) [] = ⊥
Fronts (u ∷ us) (v ∷ vs) = face u ≡ face v

front_same : (us vs : List Uncommitted) → Fronts us vs → (p : Face → Bool) → front (λ (u : Uncommitted). p (face u)) us ≡ front (λ (u : Uncommitted). p (face u)) vs
front_same [] [] h p = refl
front_same [] (v ∷ vs) h p = absurd h
front_same (u ∷ us) [] h p = absurd h
front_same (u ∷ us) (v ∷ vs) h p = ap p h

-- a front is what its transaction in the log and the cells after the settled ones make it
fronts : (cs : Cells) (l : Log) (b b' : Cells) (us us' : List Uncommitted) (ws ws' : List Waiting) → (i : Inv cs l b us ws []) (i' : Inv cs l b' us' ws' []) → (us ≡ [] → ws ≡ []) → (us' ≡ [] → ws' ≡ []) → Fronts us us'
fronts cs l b b' [] [] ws ws' i i' idle idle' = tt
fronts cs l b b' [] (v ∷ vs) ws ws' i i' idle idle' =
    nil≢cons (sym (ap (map as_tx) (idle refl)) ∙ sym (settled_is cs l b [] ws [] i idle).1 ∙ (settled_is cs l b' (v ∷ vs) ws' [] i' idle').1)
fronts cs l b b' (u ∷ us) [] ws ws' i i' idle idle' =
    nil≢cons (sym (ap (map as_tx) (idle' refl)) ∙ sym (settled_is cs l b' [] ws' [] i' idle').1 ∙ (settled_is cs l b (u ∷ us) ws [] i idle).1)
fronts cs l b b' (u ∷ us) (v ∷ vs) ws ws' i i' idle idle' = λ j. record { number = (same j).number; first = (same j).first; ran = ran j; state = state j }
  where
    same : tx_of i.more u ≡ tx_of i'.more v
    same = head-eq_of_cons-eq (sym (settled_is cs l b (u ∷ us) ws [] i idle).1 ∙ (settled_is cs l b' (v ∷ vs) ws' [] i' idle').1)

    base : i.base ≡ i'.base
    base = sym i.based ∙ ap (λ (x : List Tx). serial x cs) (sym (settled_is cs l b (u ∷ us) ws [] i idle).0 ∙ (settled_is cs l b' (v ∷ vs) ws' [] i' idle').0) ∙ i'.based

    ran : u.ran ≡ v.ran
    ran = i.chain.0.ran ∙ ap (λ (t : Tx). suc (length t.more)) same ∙ sym i'.chain.0.ran

    state : u.state ≡ v.state
    state = i.chain.0.state ∙ (λ j. state_after (latest (same j).first (same j).more) (told (attempt (same j) (base j)))) ∙ sym i'.chain.0.state

-- Refusals

length-numbers : (us : List Uncommitted) (ws : List Waiting) → length (numbers us ws) ≡ length us + length ws
length-numbers [] [] = refl
length-numbers [] (w ∷ ws) = omega (arith, length-numbers [] ws)
length-numbers (u ∷ us) ws = omega (arith, length-numbers us ws)

-- two records of which every refusal asks the same
record Even (e e' : Engine) : Type 0 where
  sound : sound e ≡ sound e'
  count : e.count ≡ e'.count
  largest : e.largest ≡ e'.largest
  live : numbers e.uncommitted e.waiting ≡ numbers e'.uncommitted e'.waiting
  front : Fronts e.uncommitted e'.uncommitted

refused_same : (e e' : Engine) (σ σ' : Scheme) (v : Event) (lent lent' : Cells) (room room' : List ℕ) → Even e e' → length lent ≡ length lent' → length room ≡ length room'
    → refusal e (record { scheme = σ; event = v; lent = lent; room = room }) ≡ refusal e' (record { scheme = σ'; event = v; lent = lent'; room = room' })
unfolding refusal rows
refused_same e e' σ σ' v lent lent' room room' h el er = λ i.
    let lives : Bool = is_in n (h.live i) in
    let new : Bool = ltb (h.largest i) n in
    let is : Bool = at (λ f. eqb f.number n) i in
    first_of (
    (1, not (h.sound i))
    ∷ (2, ltb (er i) least_room)
    ∷ (3, eqb (el i) 0 || not (eqb (el i) (h.count i)))
    ∷ (4, not (formed_event v))
    ∷ (5, eqb v.kind 1 && not (inside (h.count i) v.fragment))
    ∷ (6, not lives && not new)
    ∷ (7, lives && not is)
    ∷ (8, eqb v.kind 1 && (is && at (λ f. finished f.state) i))
    ∷ (9, eqb v.kind 1 && (is && at (λ f. not (multi v.fragment) || not (eqb f.first.coordinator v.fragment.coordinator)) i))
    ∷ (10, eqb v.kind 1 && new && leb most_live (many i))
    ∷ (11, eqb v.kind 1 && (is && at (λ f. leb most_fragments f.ran) i))
    ∷ (12, not (eqb v.kind 1) && new)
    ∷ (13, eqb v.kind 2 && (is && at (λ f. not (finished f.state)) i))
    ∷ (14, eqb v.kind 2 && (is && at (λ f. failed f.state) i))
    ∷ []
    )
  where
    n : ℕ
    n = v.number

    at : (p : Face → Bool) → front (λ (u : Uncommitted). p (face u)) e.uncommitted ≡ front (λ (u : Uncommitted). p (face u)) e'.uncommitted
    at p = front_same e.uncommitted e'.uncommitted h.front p

    many : length e.uncommitted + length e.waiting ≡ length e'.uncommitted + length e'.waiting
    many = sym (length-numbers e.uncommitted e.waiting) ∙ ap length h.live ∙ length-numbers e'.uncommitted e'.waiting

alike_refused : (e e' : Engine) (c c' : Call) → Even e e' → Alike c c' → refusal e c ≡ refusal e' c'
alike_refused e e' c c' h a =
    refused_same e e' c.scheme c'.scheme c.event c.lent c'.lent c.room c'.room h a.lent a.room
    ∙ ap (λ (v : Event). refusal e' (record { scheme = c'.scheme; event = v; lent = c'.lent; room = c'.room })) a.event

-- Two runs

-- the cells are those of the settled ones where nothing is live
pub whole_idle : (cs : Cells) (r : Run) → Whole cs r [] → Idle r → r.cells ≡ serial (settled_of r.log) cs
whole_idle cs r w h =
    whole_cells cs r [] w
    ∙ ap (λ (n : ℕ). serial (take n (live_of r.log)) (serial (settled_of r.log) cs)) (none r.engine.uncommitted r.engine.waiting h)
  where
    none : (us : List Uncommitted) (ws : List Waiting) → numbers us ws ≡ [] → length us ≡ 0
    none [] ws h = refl
    none (u ∷ us) ws h = absurd (nil≢cons (sym h))

record Paired (cs : Cells) (r r' : Run) : Type 0 where
  whole : Whole cs r []
  whole' : Whole cs r' []
  log : r.log ≡ r'.log
  kept : sound r.engine ≡ true
  kept' : sound r'.engine ≡ true
  count : r.engine.count ≡ r'.engine.count
  largest : r.engine.largest ≡ r'.engine.largest

module _ (cs : Cells) (r r' : Run) (p : Paired cs r r') where
  even : Even r.engine r'.engine
  even = record {
    sound = p.kept ∙ sym p.kept';
    count = p.count;
    largest = p.largest;
    live = whole_queue cs r [] p.whole ∙ ap (λ (l : Log). numbers_of (live_of l)) p.log ∙ sym (whole_queue cs r' [] p.whole');
    front = fronts cs r.log r.cells r'.cells r.engine.uncommitted r'.engine.uncommitted r.engine.waiting r'.engine.waiting p.whole.inv
        (subst (λ (l : Log). Inv cs l r'.cells r'.engine.uncommitted r'.engine.waiting []) (sym p.log) p.whole'.inv) p.whole.idle p.whole'.idle;
  }

  idle_cells : Idle r → r.cells ≡ r'.cells
  idle_cells h =
      whole_idle cs r p.whole h ∙ ap (λ (l : Log). serial (settled_of l) cs) p.log
      ∙ sym (whole_idle cs r' p.whole' (sym even.live ∙ h))

  module _ (c c' : Call) (a : Alike c c') where
    numbers_same : (step r.engine c).number ≡ (step r'.engine c').number
    numbers_same = step_number r.engine c ∙ alike_refused r.engine r'.engine c c' even a ∙ sym (step_number r'.engine c')

    log_same : (onward r c).log ≡ (onward r' c').log
    log_same = λ i. noticed (numbers_same i) (request (a.event i)) (p.log i)

    largest_by_lem : (q : Request) → largest_after q r.engine ≡ largest_after q r'.engine
    largest_by_lem (Arrive n f) = ap {B = ℕ} (λ (m : ℕ). elim (ltb m n) [ true ↦ n | false ↦ m ]) p.largest
    largest_by_lem (Commit n) = p.largest
    largest_by_lem (Abort n) = p.largest

    -- the counts of the next records
    counts : (k : ℕ) → ((respond k r.engine c).engine.count ≡ (respond k r'.engine c').engine.count) × ((respond k r.engine c).engine.largest ≡ (respond k r'.engine c').engine.largest)
    counts zero = (p.count, largest_by_lem (request c.event) ∙ ap (λ (v : Event). largest_after (request v) r'.engine) a.event)
    counts (suc k) = (p.count, p.largest)

    paired_counts : ((step r.engine c).engine.count ≡ (step r'.engine c').engine.count) × ((step r.engine c).engine.largest ≡ (step r'.engine c').engine.largest)
    unfolding step
    paired_counts = subst
        (λ (k : ℕ). ((respond (refusal r.engine c) r.engine c).engine.count ≡ (respond k r'.engine c').engine.count) × ((respond (refusal r.engine c) r.engine c).engine.largest ≡ (respond k r'.engine c').engine.largest))
        (alike_refused r.engine r'.engine c c' even a) (counts (refusal r.engine c))

    paired_onward : Lends r c → Lends r' c' → Paired cs (onward r c) (onward r' c')
    paired_onward d d' = record {
      whole = whole_next cs r c p.whole d;
      whole' = whole_next cs r' c' p.whole' d';
      log = log_same;
      kept = (step_keeps r.engine c p.kept).sound;
      kept' = (step_keeps r'.engine c' p.kept').sound;
      count = paired_counts.0;
      largest = paired_counts.1;
    }

    -- the answers of singles: what is settled before and after is the same
    singles_same : Lends r c → Lends r' c' → of_singles (onward r c).log (step r.engine c).answers ≡ of_singles (onward r' c').log (step r'.engine c').answers
    singles_same d d' = cancel (replies (settled_of r.log) cs) _ _
        (sym (whole_onward cs r c [] p.whole d (λ _ _ _. refl)).went.singles ∙ ap (λ (l : Log). replies (settled_of l) cs) log_same
        ∙ (whole_onward cs r' c' [] p.whole' d' (λ _ _ _. refl)).went.singles ∙ ap (λ (l : Log). replies (settled_of l) cs ++ of_singles (onward r' c').log (step r'.engine c').answers) (sym p.log))
      where
        cancel : (a x y : List Answer) → a ++ x ≡ a ++ y → x ≡ y
        cancel [] x y h = h
        cancel (b ∷ a) x y h = cancel a x y (tail-eq_of_cons-eq h)

paired_runs : (cs : Cells) (r r' : Run) (calls calls' : List Call) → AllAlike calls calls' → AllLend r calls → AllLend r' calls' → Paired cs r r' → Paired cs (runs r calls) (runs r' calls')
paired_runs cs r r' [] [] a d d' p = p
paired_runs cs r r' [] (c ∷ calls) a d d' p = absurd a
paired_runs cs r r' (c ∷ calls) [] a d d' p = absurd a
paired_runs cs r r' (c ∷ calls) (c' ∷ calls') a d d' p =
    paired_runs cs (onward r c) (onward r' c') calls calls' a.1 d.1 d'.1 (paired_onward cs r r' p c c' a.0 d.0 d'.0)

paired : (cs : Cells) (calls calls' : List Call) → Twins cs calls calls' → Paired cs (runs (fresh cs) calls) (runs (fresh cs) calls')
paired cs calls calls' t = paired_runs cs (fresh cs) (fresh cs) calls calls' t.alike t.lend t.lend'
    (record { whole = fresh_whole cs; whole' = fresh_whole cs; log = refl; kept = start_sound (length cs); kept' = start_sound (length cs); count = refl; largest = refl })

pub schemes_agree : (cs : Cells) → SchemesAgree cs
schemes_agree cs = record {
  numbers = λ calls calls' t c c' a. numbers_same cs (runs (fresh cs) calls) (runs (fresh cs) calls') (paired cs calls calls' t) c c' a;
  logs = λ calls calls' t. (paired cs calls calls' t).log;
  settling = λ calls calls' t. ap settled_of (paired cs calls calls' t).log;
  recorded = λ calls calls' t. settled_in_lem cs calls t.lend ∙ ap settled_of (paired cs calls calls' t).log ∙ sym (settled_in_lem cs calls' t.lend');
  cells = λ calls calls' t h. idle_cells cs (runs (fresh cs) calls) (runs (fresh cs) calls') (paired cs calls calls' t) h;
  singles = λ calls calls' t c c' a d d'. singles_same cs (runs (fresh cs) calls) (runs (fresh cs) calls') (paired cs calls calls' t) c c' a d d';
  answered = λ calls d c k. (reaches cs calls d c k).went.singles;
}
