-- Demand 3 carried from the list engine to records: a run on records means a run of the model, call by call, and a room holds its answers.
use Prim.Native.Nat.{ℕ, zero, suc, ◌+◌, ◌*◌, ◌<◌}
use native.Mathlib.Omega.{arith}
use borrow.Author.Tests.{not-false}
use mathlib.Core.Path.{◌≡◌, refl, sym, ap, ◌∙◌, subst}
use mathlib.Core.Bool.{Bool, true, false, ◌||◌}
use mathlib.Core.List.{List, [], ◌∷◌, ◌++◌, append_assoc, Memᴰ}
use lib.Dec.{ltb, eqb}
use lib.ListN.{length, take, drop, get_or, replicate, length-append, length-take, get_or-append}
use lib.Seq.{get_or-append-add, get_or-take}
use Rattle.model.specs.Limits.{most_cells, answer_words}
use Rattle.model.specs.Operations.{Cells, pick}
use Rattle.model.specs.Transactions.{Uncommitted, Engine, Answer, answer, words, all_words}
use Rattle.model.specs.Refusals.{request, sound, Call, Started, refusal, taken, respond, step, start, empty}
use Rattle.model.specs.Demand.{Run, onward, runs, fresh, Lends, AllLend, live_of, settled_of, numbers_of, CellsHold, QueueOrder, Rises, SettlingOrder, Gives, PlainRight, front_attempt, last_attempt, sent_in, NoAbort, DependentRight, SeenRight, UndisturbedRight}
use Rattle.model.specs.Serial.{serial}
use Rattle.model.proofs.Chain.{all_map}
use Rattle.model.proofs.Passing.{passed}
use Rattle.model.proofs.Sound.{sound_parts}
use Rattle.model.proofs.Kept.{step_keeps, start_sound, fresh_never_one}
use Rattle.model.proofs.Demanded.{demand3, undisturbed_right}
use Rattle.record.specs.declared.Record.{Record}
use Rattle.record.specs.Words.{live_rows}
use Rattle.record.specs.View.{numbers_from, view}
use Rattle.record.proofs.Rows.{numbers_same, numbers_whole}
use Rattle.record.proofs.Back.{known_of, view_over, view_pack}
use Rattle.record.specs.Start.{fresh_of}
use Rattle.engine.specs.Called.{stepped, next_of, called}
use Rattle.carried.specs.Carried.{Words, AllWords, returned, room_of, answer_from, answer_at, answer_of, answers_from, answers_of, RecordRun, onward_r, runs_r, fresh_r, LendsR, AllLendR, CellsHoldR, SettlingOrderR, PlainRightR, NoAbortR, DependentRightR, sent_in_r, SeenRightR, UndisturbedRightR, RecordDemand3}
use Rattle.rows.proofs.Rooms.{length-words}
use Rattle.carried.proofs.Fine.{Small, Fine, rows_eight, taken_fine}
use Rattle.record.proofs.Viewed.{First, view_count, view_largest, view_first, view_waiting}
use Rattle.model.specs.Parts.{All}
use Rattle.record.specs.Fitting.{Eight, Fit, Known}

all_both : {A : Type 0} (P Q : A → Type 0) (l : List A) → All P l → All Q l → All (λ (a : A). P a × Q a) l
all_both P Q [] p q = tt
all_both P Q (a ∷ l) p q = ((p.0, q.0), all_both P Q l p.1 q.1)

-- One call

-- an unsound record is refused
pub accepted_sound : (e : Engine) (c : Call) → refusal e c ≡ 0 → sound e ≡ true
accepted_sound e c z = not-false (sound e) (passed e c z).one

-- what an accepted call leaves, on any record
accepted_fine : (r : Record) (c : Call) → Words c.event → refusal (view r) c ≡ 0 → Fine (taken c.scheme (request c.event) (view r) c.lent)
accepted_fine r c h z =
    let us : List Uncommitted = (view r).uncommitted in
    let k : All Known us = known_of (view r).count us (sound_parts (view r) (accepted_sound (view r) c z)).each in
    taken_fine c.scheme c.event (view r) c.lent h (all_both First Fit us (view_first r) (all_map Known Fit (λ u x. x.0) us k)) (view_waiting r)

-- the next record means what the model's step leaves
pub next_view : (r : Record) (c : Call) → Words c.event → view (returned r c).next ≡ (step (view r) c).engine
unfolding called stepped step
next_view r c h = go (refusal (view r) c) refl
  where
    go : (k : ℕ) → refusal (view r) c ≡ k → view (next_of r c.event (respond k (view r) c)) ≡ (respond k (view r) c).engine
    go zero z =
        let e : Engine = (respond 0 (view r) c).engine in
        let f : Fine (taken c.scheme (request c.event) (view r) c.lent) = accepted_fine r c h z in
        view_over _ _ _ e (subst (λ (k : ℕ). sound (respond k (view r) c).engine ≡ true) z (step_keeps (view r) c (accepted_sound (view r) c z)).sound)
        (rows_eight e.uncommitted e.waiting f.uncommitted f.waiting)
    go (suc k) z = refl

-- Answers

small_answers : (r : Record) (c : Call) → Words c.event → All Small (step (view r) c).answers
unfolding step
small_answers r c h = go (refusal (view r) c) refl
  where
    go : (k : ℕ) → refusal (view r) c ≡ k → All Small (respond k (view r) c).answers
    go zero z = (accepted_fine r c h z).answers
    go (suc k) z = tt

answer_same : (l m : List ℕ) (b c : ℕ) → ((k : ℕ) → get_or l (b + k) 0 ≡ get_or m (c + k) 0) → answer_from l b ≡ answer_from m c
unfolding answer_from
answer_same l m b c h = λ i. answer (first i) (h 1 i) (h 12 i) (h 13 i) (record {
  place = h 2 i;
  numbers = (ap (numbers_from l (b + 4)) (h 3) ∙ numbers_same l m (b + 4) (c + 4) (get_or m (c + 3) 0) (λ k hk. there k)) i;
})
  where
    first : get_or l b 0 ≡ get_or m c 0
    first = (let z : b ≡ b + 0 = omega arith in ap (λ (x : ℕ). get_or l x 0) z) ∙ h 0 ∙ (let z : c + 0 ≡ c = omega arith in ap (λ (x : ℕ). get_or m x 0) z)

    there : (k : ℕ) → get_or l (b + 4 + k) 0 ≡ get_or m (c + 4 + k) 0
    there k =
        (let z : b + 4 + k ≡ b + (4 + k) = omega arith in ap (λ (x : ℕ). get_or l x 0) z) ∙ h (4 + k)
        ∙ (let z : c + (4 + k) ≡ c + 4 + k = omega arith in ap (λ (x : ℕ). get_or m x 0) z)

words_back : (a : Answer) (rest : List ℕ) → Small a → answer_from (words a ++ rest) 0 ≡ a
unfolding answer_from words
words_back a rest h = λ i. answer a.number a.dependence (tail 0 (omega arith) i) (tail 1 (omega arith) i) (record { place = a.outcome.place; numbers = (numbers_same (words a ++ rest) ns 4 0 (length ns) read ∙ numbers_whole ns) i })
  where
    ns : List ℕ
    ns = a.outcome.numbers

    row : List ℕ
    row = take 8 (a.outcome.numbers ++ replicate 8 0)

    last : List ℕ
    last = a.attempt ∷ a.dependence_attempt ∷ 0 ∷ 0 ∷ []

    -- what stands behind the eight numbers
    tail : (k : ℕ) → k < 4 → get_or (words a ++ rest) (12 + k) 0 ≡ get_or (a.attempt ∷ a.dependence_attempt ∷ 0 ∷ 0 ∷ []) k 0
    tail k hk =
        let eight : length row ≡ 8 = omega (arith, length-take 8 (ns ++ replicate 8 0), length-append ns (replicate 8 0)) in
        get_or-append (words a) rest 0 (12 + k) (omega (arith, length-words a))
        ∙ (let z : 12 + k ≡ 4 + (8 + k) = omega arith in ap (λ (x : ℕ). get_or (words a) x 0) z)
        ∙ get_or-append-add (a.number ∷ a.dependence ∷ a.outcome.place ∷ length ns ∷ []) (row ++ last) (8 + k) 0
        ∙ ap (λ (x : ℕ). get_or (row ++ last) (x + k) 0) (sym eight)
        ∙ get_or-append-add row last k 0

    read : (k : ℕ) → k < length a.outcome.numbers → get_or (words a ++ rest) (4 + k) 0 ≡ get_or a.outcome.numbers (0 + k) 0
    read k hk =
        get_or-append (words a) rest 0 (4 + k) (omega (arith, length-words a))
        ∙ get_or-append-add (a.number ∷ a.dependence ∷ a.outcome.place ∷ length ns ∷ []) (row ++ last) k 0
        ∙ get_or-append row last 0 k (omega (arith, length-take 8 (ns ++ replicate 8 0), length-append ns (replicate 8 0)))
        ∙ get_or-take 8 (ns ++ replicate 8 0) k 0 (omega arith) ∙ get_or-append ns (replicate 8 0) 0 k hk
        ∙ (let z : k ≡ 0 + k = omega arith in ap (λ (x : ℕ). get_or ns x 0) z)

abbrev pub no_answer : Answer
no_answer = answer 0 0 0 0 (record { place = 0; numbers = [] })

-- what a filled room holds
pub room_answer : (l : List Answer) (rest : List ℕ) (i : ℕ) → All Small l → i < length l → answer_at (all_words l ++ rest) i ≡ get_or l i no_answer
unfolding all_words
room_answer [] rest i s h = absurd (omega arith)
room_answer (a ∷ l) rest zero s h = ap (λ (x : List ℕ). answer_at x 0) (append_assoc (words a) (all_words l) rest) ∙ words_back a (all_words l ++ rest) s.0
room_answer (a ∷ l) rest (suc i) s h =
    ap (λ (x : List ℕ). answer_at x (suc i)) (append_assoc (words a) (all_words l) rest)
    ∙ answer_same (words a ++ (all_words l ++ rest)) (all_words l ++ rest) (answer_words * suc i) (answer_words * i) (λ k.
    (let z : answer_words * suc i + k ≡ length (words a) + (answer_words * i + k) = omega (arith, length-words a) in ap (λ (x : ℕ). get_or (words a ++ (all_words l ++ rest)) x 0) z)
    ∙ get_or-append-add (words a) (all_words l ++ rest) (answer_words * i + k) 0)
    ∙ room_answer l rest i s.1 (omega arith)

get_or-in : {A : Type 0} (l : List A) (i : ℕ) (d : A) → i < length l → Memᴰ (get_or l i d) l
get_or-in [] i d h = absurd (omega arith)
get_or-in (a ∷ l) zero d h = Memᴰ.head refl
get_or-in (a ∷ l) (suc i) d h = Memᴰ.tail (get_or-in l i d (omega arith))

-- the i-th answer of a call, read from its room, is the model's
pub answer_is : (r : Record) (c : Call) (i : ℕ) → Words c.event → i < (returned r c).answers → answer_of r c i ≡ get_or (step (view r) c).answers i no_answer
unfolding called stepped step
answer_is r c i h k = go (refusal (view r) c) (small_answers r c h) k
  where
    go : (n : ℕ) → All Small (respond n (view r) c).answers → i < length (respond n (view r) c).answers → answer_at (respond n (view r) c).room i ≡ get_or (respond n (view r) c).answers i no_answer
    go zero s l = room_answer (respond 0 (view r) c).answers (drop (length (all_words (respond 0 (view r) c).answers)) c.room) i s l
    go (suc n) s l = absurd (omega arith)

pub answer_sent : (r : Record) (c : Call) (i : ℕ) → Words c.event → i < (returned r c).answers → Memᴰ (answer_of r c i) (step (view r) c).answers
unfolding called stepped
answer_sent r c i h k = subst (λ (a : Answer). Memᴰ a (step (view r) c).answers) (sym (answer_is r c i h k)) (get_or-in (step (view r) c).answers i no_answer k)

-- the answers read from the room are the model's
read_all : (room : List ℕ) (i : ℕ) (l : List Answer) → ((k : ℕ) → k < length l → answer_at room (i + k) ≡ get_or l k no_answer) → answers_from room i (length l) ≡ l
read_all room i [] h = refl
read_all room i (a ∷ l) h = λ j. ((let z : i ≡ i + 0 = omega arith in ap (answer_at room) z) ∙ h 0 (omega arith)) j
    ∷ read_all room (i + 1) l (λ k lt. (let z : i + 1 + k ≡ i + suc k = omega arith in ap (answer_at room) z) ∙ h (suc k) (omega arith)) j

pub answers_are : (r : Record) (c : Call) → Words c.event → answers_of r c ≡ (step (view r) c).answers
unfolding called stepped
answers_are r c w = read_all (room_of r c) 0 (step (view r) c).answers (λ k lt. (let z : 0 + k ≡ k = omega arith in ap (answer_at (room_of r c)) z) ∙ answer_is r c k w lt)

-- Runs

-- the run of the model that a run on records means
abbrev pub meant : RecordRun → Run
meant r = record { engine = view r.kept; cells = r.cells; log = r.log }

pub onward_same : (r : RecordRun) (c : Call) → Words c.event → meant (onward_r r c) ≡ onward (meant r) c
unfolding called stepped
onward_same r c h = λ i. record { engine = next_view r.kept c h i; cells = (onward (meant r) c).cells; log = (onward (meant r) c).log }

pub runs_same : (r : RecordRun) (calls : List Call) → AllWords calls → meant (runs_r r calls) ≡ runs (meant r) calls
runs_same r [] w = refl
runs_same r (c ∷ calls) w = runs_same (onward_r r c) calls w.1 ∙ ap (λ (x : Run). runs x calls) (onward_same r c w.0)

all-lend : (r : RecordRun) (calls : List Call) → AllWords calls → AllLendR r calls → AllLend (meant r) calls
unfolding called stepped
all-lend r [] w h = tt
all-lend r (c ∷ calls) w h = (h.0, subst (λ (x : Run). AllLend x calls) (onward_same r c w.0) (all-lend (onward_r r c) calls w.1 h.1))

no_abort : (r : RecordRun) (calls : List Call) → AllWords calls → NoAbortR r calls → NoAbort (meant r) calls
unfolding called stepped
no_abort r [] w h = tt
no_abort r (c ∷ calls) w h = (h.0, subst (λ (x : Run). NoAbort x calls) (onward_same r c w.0) (no_abort (onward_r r c) calls w.1 h.1))

-- the answers of calls are the model's
pub sent_same : (r : RecordRun) (calls : List Call) → AllWords calls → sent_in_r r calls ≡ sent_in (meant r) calls
sent_same r [] w = refl
sent_same r (c ∷ calls) w = λ i. answers_are r.kept c w.0 i ++ (sent_same (onward_r r c) calls w.1 ∙ ap (λ (x : Run). sent_in x calls) (onward_same r c w.0)) i

start_rows : (n : ℕ) → All Eight (live_rows (start n).engine.uncommitted (start n).engine.waiting)
unfolding start
start_rows n = go (eqb n 0 || ltb most_cells n)
  where
    at : Bool → Engine
    at b = (pick {A = Started} b (record { number = 3; engine = empty 0 }) (record { number = 0; engine = empty n })).engine

    go : (b : Bool) → All Eight (live_rows (at b).uncommitted (at b).waiting)
    go true = tt
    go false = tt

pub fresh_view : (n : ℕ) → view (fresh_of n).next ≡ (start n).engine
unfolding fresh_of
fresh_view n = view_pack (start n).engine (start_sound n) (start_rows n)

pub fresh_same : (cs : Cells) → meant (fresh_r cs) ≡ fresh cs
fresh_same cs = λ i. record { engine = fresh_view (length cs) i; cells = cs; log = [] }

-- The theorem

module _ (cs : Cells) where
  -- after calls from a fresh start
  pub reached : (calls : List Call) → AllWords calls → meant (runs_r (fresh_r cs) calls) ≡ runs (fresh cs) calls
  reached calls w = runs_same (fresh_r cs) calls w ∙ ap (λ (x : Run). runs x calls) (fresh_same cs)

  pub lent : (calls : List Call) → AllWords calls → AllLendR (fresh_r cs) calls → AllLend (fresh cs) calls
  lent calls w l = subst (λ (x : Run). AllLend x calls) (fresh_same cs) (all-lend (fresh_r cs) calls w l)

  -- what the model has of a run
  module _ (calls : List Call) (w : AllWords calls) (l : AllLendR (fresh_r cs) calls) where
    pub from : (P : Run → Type 0) → P (runs (fresh cs) calls) → P (meant (runs_r (fresh_r cs) calls))
    from P p = subst P (sym (reached calls w)) p

    abbrev here : RecordRun
    here = runs_r (fresh_r cs) calls

    carried_cells : CellsHoldR cs here
    carried_cells =
        from (CellsHold cs) ((demand3 cs).cells calls (lent calls w l))
        ∙ ap (λ (n : ℕ). serial (take n (live_of here.log)) (serial (settled_of here.log) cs)) (view_count here.kept)

    carried_settling : (c : Call) → LendsR here c → SettlingOrderR here c
    unfolding called stepped
    carried_settling c k =
        let x : SettlingOrder (meant here) c = from (λ (r : Run). Lends r c → SettlingOrder r c) ((demand3 cs).settling calls (lent calls w l) c) k in
        record {
          accepted = to (numbers_of here.log) x.accepted;
          rises = to (numbers_of (settled_of here.log ++ live_of here.log)) x.rises;
          more = x.more;
          grows = x.grows;
          named = x.named;
        }
      where
        -- to the largest of the record itself
        to : (ns : List ℕ) → Rises 0 (view here.kept).largest ns → Rises 0 here.kept.counts.largest ns
        to ns h = subst (λ (n : ℕ). Rises 0 n ns) (view_largest here.kept) h

    carried_plain : (c : Call) → Words c.event → LendsR here c → PlainRightR cs here c
    unfolding called stepped
    carried_plain c v k i j z =
        from (λ (r : Run). Lends r c → PlainRight cs r c) ((demand3 cs).plain calls (lent calls w l) c) k (answer_of here.kept c i) (answer_sent here.kept c i v j) z

    -- one more call, and calls after it
    module _ (c : Call) (v : Words c.event) (k : LendsR here c) (between : List Call) (wb : AllWords between) (lb : AllLendR (onward_r here c) between) (d : Call) where
      one : meant (onward_r here c) ≡ onward (meant here) c
      one = onward_same here c v

      same : meant (runs_r (onward_r here c) between) ≡ runs (onward (meant here) c) between
      same = runs_same (onward_r here c) between wb ∙ ap (λ (r : Run). runs r between) one

      lends : AllLend (onward (meant here) c) between
      lends = subst (λ (r : Run). AllLend r between) one (all-lend (onward_r here c) between wb lb)

      accepted : (returned (runs_r (onward_r here c) between).kept d).number ≡ 0 → (step (runs (onward (meant here) c) between).engine d).number ≡ 0
      unfolding called stepped
      accepted ok = subst (λ (r : Run). (step r.engine d).number ≡ 0) same ok

      given : (a : Answer) → Gives cs a.number (onward (runs (onward (meant here) c) between) d).log a.outcome → Gives cs a.number (onward_r (runs_r (onward_r here c) between) d).log a.outcome
      unfolding called stepped
      given a g = subst (λ (r : Run). Gives cs a.number (onward r d).log a.outcome) (sym same) g

      pub carried_dependent : DependentRightR cs here c between d
      unfolding called stepped
      carried_dependent i j z q ok e =
          let a : Answer = answer_of here.kept c i in
          given a
          (from (λ (r : Run). Lends r c → AllLend (onward r c) between → DependentRight cs r c between d) (λ k' b. (demand3 cs).dependent calls (lent calls w l) c k' between b d) k lends a (answer_sent here.kept c i v j) z q (accepted ok)
          (ap (λ (r : Run). front_attempt r.engine.uncommitted) (sym same) ∙ e))

      pub carried_seen : SeenRightR cs here (sent_in_r (fresh_r cs) calls) c between d
      unfolding called stepped
      carried_seen i j z q ok e =
          let a : Answer = answer_of here.kept c i in
          let past : sent_in_r (fresh_r cs) calls ≡ sent_in (fresh cs) calls = sent_same (fresh_r cs) calls w ∙ ap (λ (r : Run). sent_in r calls) (fresh_same cs) in
          given a
          (from (λ (r : Run). Lends r c → AllLend (onward r c) between → SeenRight cs r (sent_in (fresh cs) calls) c between d) (λ k' b. (demand3 cs).seen calls (lent calls w l) c k' between b d) k lends a (answer_sent here.kept c i v j) z q (accepted ok)
          ((λ t. last_attempt a.dependence 0 (sym past t ++ sym (sent_same here (c ∷ between) (v, wb)) t)) ∙ e))

      pub carried_undisturbed : UndisturbedRightR cs here c between d
      unfolding called stepped
      carried_undisturbed i j z n q ok =
          let a : Answer = answer_of here.kept c i in
          given a
          (from (λ (r : Run). Lends r c → AllLend (onward r c) between → UndisturbedRight cs r c between d) (λ k' b. undisturbed_right cs calls (lent calls w l) c k' between b d) k lends a (answer_sent here.kept c i v j) z
          (subst (λ (r : Run). NoAbort r between) one (no_abort (onward_r here c) between wb n)) q (accepted ok))

  carried_never : (calls : List Call) → AllWords calls → (c : Call) → (returned (runs_r (fresh_r cs) calls).kept c).number ≡ 1 → ⊥
  unfolding called stepped
  carried_never calls w c z = fresh_never_one cs calls c (subst (λ (r : Run). (step r.engine c).number ≡ 1) (reached calls w) z)

pub carried : (cs : Cells) → RecordDemand3 cs
carried cs = record {
  cells = carried_cells cs;
  queues = λ calls w l. from cs calls w l QueueOrder ((demand3 cs).queues calls (lent cs calls w l));
  settling = carried_settling cs;
  plain = carried_plain cs;
  dependent = carried_dependent cs;
  seen = carried_seen cs;
  never = carried_never cs;
}

-- 01's form of the last sentence, of records
pub undisturbed_record : (cs : Cells) (calls : List Call) → AllWords calls → AllLendR (fresh_r cs) calls → (c : Call) → Words c.event → LendsR (runs_r (fresh_r cs) calls) c
    → (between : List Call) → AllWords between → AllLendR (onward_r (runs_r (fresh_r cs) calls) c) between → (d : Call) → UndisturbedRightR cs (runs_r (fresh_r cs) calls) c between d
undisturbed_record cs = carried_undisturbed cs
