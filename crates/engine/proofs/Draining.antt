-- The drain's loop, in plain terms: what is left to drain from here, with the answers so far, is the whole.
use Prim.Native.Nat.{ℕ, suc, ◌+◌, ◌*◌, ◌-◌, ◌≤◌, ◌<◌, min}
use native.Mathlib.Omega.{arith}
use borrow.Author.Tests.{ne_eqb, eqb-true, leb-true, leb-false, lt-ltb, le-ltb}
use mathlib.Core.Path.{◌≡◌, refl, sym, ap, ◌∙◌, subst, subst₂}
use mathlib.Core.Bool.{Bool, true, false, ◌&&◌, true≢false}
use mathlib.Core.Logic.{◌⊎◌, inl, inr}
use mathlib.Core.List.{List, [], ◌∷◌, ◌++◌, append_assoc, append-nil}
use lib.Dec.{eqb, leb}
use lib.ListN.{length, get_or, take, length-append, length-take}
use lib.Seq.{sets}
use Rattle.model.specs.Limits.{depth}
use Rattle.model.specs.Operations.{Cells, pick, operations}
use Rattle.model.specs.Transactions.{State, Running, Finished, Failed, NoState, finished, Uncommitted, Waiting, Answer}
use Rattle.model.specs.Steps.{run, last_finished, may_take, placed, Queues, sending}
use Rattle.model.specs.Steps as Steps
use Rattle.model.specs.declared.Fragment.{Fragment}
use Rattle.model.specs.declared.Scheme.{Scheme}
use Rattle.model.specs.declared.Scheme.TheVariants.{Speculation, Blocking}
use Rattle.model.proofs.Branches.{drain_cases}
use Rattle.model.proofs.Chain.{all_map, all_left, all_right}
use Rattle.model.proofs.Running.{run_few}
use Rattle.model.proofs.Keeping.{placed_sound}
use Rattle.operations.specs.Laid.{laid}
use Rattle.operations.specs.declared.Ran.{Ran}
use Rattle.record.specs.Words.{all_runs, run_words, state_word, over}
use Rattle.record.specs.View.{fragment_at, numbers_from}
use Rattle.record.proofs.Back.{known_of, run_read}
use Rattle.engine.specs.declared.course.Course.{Course}
use Rattle.engine.specs.Work.{Small, Ground, runs_ground, Work, Took, Drained, joined_by, settled_at_once, with_answers}
use Rattle.rows.specs.Rows.{blocking, may_take_row}
use Rattle.model.specs.Parts.{All, Sound}
use Rattle.record.specs.Fitting.{Fit, Known}
use Rattle.record.specs.Widths.{run_width}

-- Course

pub entries_few : (l : List ℕ) (b : ℕ) (f : Fragment) (cells : Cells) (r : Ran) → f ≡ fragment_at l b → r ≡ laid (run f cells []) → r.entries ≤ 8
unfolding laid fragment_at operations
entries_few l b f cells r ef er =
    let g : Fragment = fragment_at l b in
    let e : r.entries ≡ length (run (fragment_at l b) cells []).undo = ap (λ (x : Ran). x.entries) (er ∙ ap (λ (x : Fragment). laid (run x cells [])) ef) in
    omega (arith, run_few (fragment_at l b) cells, length-take g.count g.row)

-- a run's own entries are laid whole
pub all_laid : (undo l : List ℕ) (at n : ℕ) → n ≤ 8 → sets undo at (numbers_from l 0 (2 * min n 8)) ≡ sets undo at (numbers_from l 0 (2 * n))
all_laid undo l at n h = let e : min n 8 ≡ n = omega (arith, h) in ap (λ (k : ℕ). sets undo at (numbers_from l 0 (2 * k))) e

pub small_taking : (c c' : Course) (r : Ran) (a' : ℕ) (ans joins : Bool) → Small c → 0 < c.counts.waiting → c.counts.uncommitted < 16 → r.entries ≤ 8 → a' ≡ pick ans (c.answers + 1) c.answers
    → c' ≡ pick joins (joined_by (with_answers a' c) r) (settled_at_once (with_answers a' c)) → Small c' × (c'.counts.waiting + 1 ≡ c.counts.waiting)
small_taking c c' r a' ans joins s w u e ea ec = go joins ec (less ans ea)
  where
    less : (b : Bool) → a' ≡ pick b (c.answers + 1) c.answers → a' ≤ c.answers + 1
    less true h = omega arith
    less false h = omega arith

    go : (b : Bool) → c' ≡ pick b (joined_by (with_answers a' c) r) (settled_at_once (with_answers a' c)) → a' ≤ c.answers + 1 → Small c' × (c'.counts.waiting + 1 ≡ c.counts.waiting)
    go true h k =
        let h1 : c'.first ≡ c.first = ap (λ (x : Course). x.first) h in
        let h2 : c'.counts.uncommitted ≡ c.counts.uncommitted + 1 = ap (λ (x : Course). x.counts.uncommitted) h in
        let h3 : c'.counts.waiting ≡ c.counts.waiting - 1 = ap (λ (x : Course). x.counts.waiting) h in
        let h4 : c'.entries ≡ c.entries + r.entries = ap (λ (x : Course). x.entries) h in
        let h5 : c'.answers ≡ a' = ap (λ (x : Course). x.answers) h in
        (record { live = omega (arith, s.live); answers = omega (arith, s.answers); depth = omega arith; entries = omega (arith, s.entries) }, omega arith)
    go false h k =
        let h1 : c'.first ≡ c.first + 1 = ap (λ (x : Course). x.first) h in
        let h2 : c'.counts.uncommitted ≡ c.counts.uncommitted = ap (λ (x : Course). x.counts.uncommitted) h ∙ omega arith in
        let h3 : c'.counts.waiting ≡ c.counts.waiting - 1 = ap (λ (x : Course). x.counts.waiting) h in
        let h4 : c'.entries ≡ c.entries = ap (λ (x : Course). x.entries) h ∙ omega arith in
        let h5 : c'.answers ≡ a' = ap (λ (x : Course). x.answers) h in
        (record { live = omega (arith, s.live); answers = omega (arith, s.answers); depth = omega arith; entries = omega (arith, s.entries) }, omega arith)

-- May the drain go on

record Ends (us : List Uncommitted) : Type 0 where
  ahead : List Uncommitted
  tail : Uncommitted
  split : us ≡ ahead ++ (tail ∷ [])
  last : last_finished us ≡ finished tail.state

ends : (u : Uncommitted) (us : List Uncommitted) → Ends (u ∷ us)
ends u [] = record { ahead = []; tail = u; split = refl; last = refl }
ends u (x ∷ us) = let e = ends x us in record { ahead = u ∷ e.ahead; tail = e.tail; split = ap {B = List Uncommitted} (λ (l : List Uncommitted). u ∷ l) e.split; last = e.last }

state_word_lem : (s : State) → pick (eqb (state_word s) 1) true (eqb (state_word s) 2) ≡ finished s
state_word_lem Running = refl
state_word_lem Finished = refl
state_word_lem Failed = refl
state_word_lem NoState = refl

run_state : (v : Uncommitted) → get_or (run_words v) 1 0 ≡ state_word v.state
unfolding run_words
run_state v = refl

pub may_take_back : (σ : Scheme) (us : List Uncommitted) (runs : List ℕ) (n : ℕ) (row : List ℕ) → All Known us → runs ≡ over row (all_runs us) → length us ≡ n → may_take_row σ runs n ≡ may_take σ us
may_take_back Blocking [] runs n row k e en = ap (may_take_row Blocking runs) (sym en)
may_take_back Speculation [] runs n row k e en = ap (may_take_row Speculation runs) (sym en)
may_take_back Blocking (u ∷ us) runs n row k e en = ap (λ (x : ℕ). eqb x 0) (sym en) ∙ ne_eqb (suc (length us)) 0 (λ z. omega arith)
may_take_back Speculation (u ∷ us) runs n row k e en = ap (may_take_row Speculation runs) (sym en) ∙ some ∙ deep (leb 16 (suc (length us))) refl
  where
    m : ℕ
    m = suc (length us)

    word : ℕ
    word = get_or runs (run_width * (suc (length us) - 1) + 1) 0

    rest : Bool → Bool
    rest b = pick b false (pick (eqb (get_or runs (run_width * (suc (length us) - 1) + 1) 0) 1) true (eqb (get_or runs (run_width * (suc (length us) - 1) + 1) 0) 2))

    some : may_take_row Speculation runs (suc (length us)) ≡ rest (leb 16 (suc (length us)))
    some = ap (λ (b : Bool). pick b true (rest (leb 16 (suc (length us))))) (ne_eqb (suc (length us)) 0 (λ z. omega arith))

    x : Ends (u ∷ us)
    x = ends u us

    fit : All Fit (x.ahead ++ (x.tail ∷ []))
    fit = subst (All Fit) x.split (all_map Known Fit (λ v h. h.0) (u ∷ us) k)

    far : run_width * length x.ahead ≡ run_width * (suc (length us) - 1)
    far = ap (λ (y : ℕ). run_width * y) (omega (arith, ap length x.split, length-append x.ahead (x.tail ∷ [])))

    word_is : get_or runs (run_width * (suc (length us) - 1) + 1) 0 ≡ state_word x.tail.state
    word_is =
        ap (λ (l : List ℕ). get_or l (run_width * (suc (length us) - 1) + 1) 0) (e ∙ ap (λ (l : List Uncommitted). over row (all_runs l)) x.split)
        ∙ run_read row x.ahead x.tail [] (run_width * (suc (length us) - 1)) 1 (all_left Fit x.ahead (x.tail ∷ []) fit) (all_right Fit x.ahead (x.tail ∷ []) fit).0 far (omega arith)
        ∙ run_state x.tail

    deep : (b : Bool) → leb 16 (suc (length us)) ≡ b → rest b ≡ may_take Speculation (u ∷ us)
    deep true h = sym (ap (λ (b : Bool). b && last_finished (u ∷ us)) (le-ltb (suc (length us)) depth (leb-true 16 (suc (length us)) h)))
    deep false h =
        ap (λ (w : ℕ). pick (eqb w 1) true (eqb w 2)) word_is ∙ state_word_lem x.tail.state ∙ sym x.last
        ∙ sym (ap (λ (b : Bool). b && last_finished (u ∷ us)) (lt-ltb (suc (length us)) depth (leb-false 16 (suc (length us)) h)))

-- The loop

pub record Mid (σ : Scheme) (live runs undo room : List ℕ) (cells : Cells) (c : Course) (sent : List Answer) (came : Ground) (ct top : ℕ) (whole : Queues) : Type 0 where
  pub gone : List Waiting
  pub us : List Uncommitted
  pub ws : List Waiting
  pub more : List Answer
  pub names : List ℕ
  pub work : Work live runs undo room c gone us ws more came
  pub sound : Sound ct top us ws
  pub rest : sending more names (Steps.drain σ cells us ws) ≡ sending sent [] whole

-- what the loop keeps: wherever it began with lists, it is in the midst of draining them
abbrev pub Midst : Scheme → List ℕ → List ℕ → List ℕ → List ℕ → Cells → Course → List ℕ → List ℕ → List ℕ → Cells → Course → Type 0
Midst σ live runs undo room cells c runs' undo' room' cells' c' =
    (gone : List Waiting) (us : List Uncommitted) (ws : List Waiting) (sent : List Answer) (came : Ground) → Work live runs undo room c gone us ws sent came
    → (ct top : ℕ) → Sound ct top us ws → Mid σ live runs' undo' room' cells' c' sent came ct top (Steps.drain σ cells us ws)

pub midst_start : (σ : Scheme) (live runs undo room : List ℕ) (cells : Cells) (c : Course) → Midst σ live runs undo room cells c runs undo room cells c
midst_start σ live runs undo room cells c gone us ws sent came w ct top s = record { gone = gone; us = us; ws = ws; more = sent; names = []; work = w; sound = s; rest = refl }

pub drain_takes : (σ : Scheme) (cs : Cells) (us : List Uncommitted) (w : Waiting) (ws : List Waiting) → may_take σ us ≡ true
    → Steps.drain σ cs us (w ∷ ws) ≡ sending (placed us w (run w.fragment cs [])).answers (placed us w (run w.fragment cs [])).settles (Steps.drain σ (run w.fragment cs []).cells (placed us w (run w.fragment cs [])).uncommitted ws)
drain_takes σ cs us w ws e = drain_cases (λ (q : Queues). q ≡ taken) σ cs us w ws (λ n. absurd (true≢false (sym e ∙ n))) (λ _. refl)
  where
    taken : Queues
    taken = sending (placed us w (run w.fragment cs [])).answers (placed us w (run w.fragment cs [])).settles (Steps.drain σ (run w.fragment cs []).cells (placed us w (run w.fragment cs [])).uncommitted ws)

drain_stays : (σ : Scheme) (cs : Cells) (us : List Uncommitted) (ws : List Waiting) → (ws ≡ []) ⊎ (may_take σ us ≡ false) → Steps.drain σ cs us ws ≡ record { cells = cs; uncommitted = us; waiting = ws; answers = []; settles = [] }
unfolding Steps.drain
drain_stays σ cs us [] h = refl
drain_stays σ cs us (w ∷ ws) (inl e) = absurd (mathlib.Core.List.nil≢cons (sym e))
drain_stays σ cs us (w ∷ ws) (inr e) =
    drain_cases (λ (q : Queues). q ≡ record { cells = cs; uncommitted = us; waiting = w ∷ ws; answers = []; settles = [] }) σ cs us w ws (λ _. refl) (λ t. absurd (true≢false (sym t ∙ e)))

sending_more : (a b : List Answer) (m n : List ℕ) (q : Queues) → sending (a ++ b) (m ++ n) q ≡ sending a m (sending b n q)
sending_more a b m n q = λ i. record { cells = q.cells; uncommitted = q.uncommitted; waiting = q.waiting; answers = append_assoc a b q.answers i; settles = append_assoc m n q.settles i }

module _ (σ : Scheme) (live runs₀ undo₀ room₀ : List ℕ) (cells₀ : Cells) (c₀ : Course) (runs undo room : List ℕ) (cells : Cells) (c : Course) (mid : Midst σ live runs₀ undo₀ room₀ cells₀ c₀ runs undo room cells c) where
  pub midst_turn : 0 < c.counts.waiting → may_take_row σ runs c.counts.uncommitted ≡ true → (runs' undo' room' : List ℕ) (cells' : Cells) (c' : Course) → Took live runs undo room cells c runs' undo' room' cells' c'
      → Midst σ live runs₀ undo₀ room₀ cells₀ c₀ runs' undo' room' cells' c'
  midst_turn h take runs' undo' room' cells' c' took gone us ws sent came w ct top s =
      let m = mid gone us ws sent came w ct top s in
      go m.ws m refl
    where
      go : (l : List Waiting) (m : Mid σ live runs undo room cells c sent came ct top (Steps.drain σ cells₀ us ws)) → m.ws ≡ l → Mid σ live runs' undo' room' cells' c' sent came ct top (Steps.drain σ cells₀ us ws)
      go [] m e = absurd (omega (arith, m.work.waiting, ap length e))
      go (x ∷ l) m e =
          let wk : Work live runs undo room c m.gone m.us (x ∷ l) m.more came = subst (λ (y : List Waiting). Work live runs undo room c m.gone m.us y m.more came) e m.work in
          let sd : Sound ct top m.us (x ∷ l) = subst (λ (y : List Waiting). Sound ct top m.us y) e m.sound in
          let tk : may_take σ m.us ≡ true = sym (may_take_back σ m.us runs c.counts.uncommitted (runs_ground came) (known_of ct m.us m.sound.each) m.work.at_runs m.work.uncommitted) ∙ take in
          let t = took m.gone m.us x l m.more came wk ct top sd σ tk in
          record {
            gone = t.gone;
            us = (placed m.us x (run x.fragment cells [])).uncommitted;
            ws = l;
            more = m.more ++ (placed m.us x (run x.fragment cells [])).answers;
            names = m.names ++ (placed m.us x (run x.fragment cells [])).settles;
            work = t.work;
            sound = (placed_sound σ ct top m.us x l cells tk sd).0;
            rest = ap (λ (y : Cells). sending (m.more ++ (placed m.us x (run x.fragment cells [])).answers) (m.names ++ (placed m.us x (run x.fragment cells [])).settles) (Steps.drain σ y (placed m.us x (run x.fragment cells [])).uncommitted l)) t.stands
                ∙ sending_more m.more (placed m.us x (run x.fragment cells [])).answers m.names (placed m.us x (run x.fragment cells [])).settles (Steps.drain σ (run x.fragment cells []).cells (placed m.us x (run x.fragment cells [])).uncommitted l)
                ∙ ap (sending m.more m.names) (sym (drain_takes σ cells m.us x l tk) ∙ ap (Steps.drain σ cells m.us) (sym e)) ∙ m.rest;
          }

  pub midst_end : (c.counts.waiting ≡ 0) ⊎ (may_take_row σ runs c.counts.uncommitted ≡ false) → Drained σ live runs₀ undo₀ room₀ cells₀ c₀ runs undo room cells c
  midst_end stop gone us ws sent came w ct top s =
      let m = mid gone us ws sent came w ct top s in
      let stays : Steps.drain σ cells m.us m.ws ≡ record { cells = cells; uncommitted = m.us; waiting = m.ws; answers = []; settles = [] } = drain_stays σ cells m.us m.ws (why m stop) in
      let e : record { cells = cells; uncommitted = m.us; waiting = m.ws; answers = m.more ++ []; settles = m.names ++ [] } ≡ sending sent [] (Steps.drain σ cells₀ us ws) = ap (sending m.more m.names) (sym stays) ∙ m.rest in
      record {
        gone = m.gone;
        work = finish m.gone m.us m.ws m.more (sent ++ (Steps.drain σ cells₀ us ws).answers) _ _ (ap (λ (q : Queues). q.uncommitted) e) (ap (λ (q : Queues). q.waiting) e) (sym (append-nil m.more) ∙ ap (λ (q : Queues). q.answers) e) m.work;
        stands = ap (λ (q : Queues). q.cells) e;
      }
    where
      finish : (g : List Waiting) (us₁ : List Uncommitted) (ws₁ : List Waiting) (as₁ as₂ : List Answer) (us₂ : List Uncommitted) (ws₂ : List Waiting) → us₁ ≡ us₂ → ws₁ ≡ ws₂ → as₁ ≡ as₂
          → Work live runs undo room c g us₁ ws₁ as₁ came → Work live runs undo room c g us₂ ws₂ as₂ came
      finish g us₁ ws₁ as₁ as₂ us₂ ws₂ eu ew ea k =
          subst (λ (x : List Answer). Work live runs undo room c g us₂ ws₂ x came) ea (subst₂ (λ (x : List Uncommitted) (y : List Waiting). Work live runs undo room c g x y as₁ came) eu ew k)

      why : (m : Mid σ live runs undo room cells c sent came ct top (Steps.drain σ cells₀ us ws)) → (c.counts.waiting ≡ 0) ⊎ (may_take_row σ runs c.counts.uncommitted ≡ false) → (m.ws ≡ []) ⊎ (may_take σ m.us ≡ false)
      why m (inl z) = inl (none m.ws (m.work.waiting ∙ z))
        where
          none : (l : List Waiting) → length l ≡ 0 → l ≡ []
          none [] h = refl
          none (x ∷ l) h = absurd (omega arith)
      why m (inr z) = inr (sym (may_take_back σ m.us runs c.counts.uncommitted (runs_ground came) (known_of ct m.us m.sound.each) m.work.at_runs m.work.uncommitted) ∙ z)

-- where the drain may go on, fewer than 16 are uncommitted
pub room_under : (σ : Scheme) (runs : List ℕ) (n : ℕ) → may_take_row σ runs n ≡ true → n < 16
room_under σ runs n h = go (blocking σ) (eqb n 0) refl (leb 16 n) refl h
  where
    go : (s a : Bool) → eqb n 0 ≡ a → (b : Bool) → leb 16 n ≡ b → pick s a (pick a true (pick b false (pick (eqb (get_or runs (16 * (n - 1) + 1) 0) 1) true (eqb (get_or runs (16 * (n - 1) + 1) 0) 2)))) ≡ true → n < 16
    go s true e b f h = let z : n ≡ 0 = eqb-true n 0 e in omega arith
    go true false e b f h = absurd (true≢false (sym h))
    go false false e true f h = absurd (true≢false (sym h))
    go false false e false f h = leb-false 16 n f
