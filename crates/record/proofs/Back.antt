-- Reading back what is laid over a row: a transaction, a run, its entries; and the whole record: `view` of `pack_over` is what was laid.
use Prim.Native.Nat.{ℕ, ◌+◌, ◌*◌, ◌≤◌, ◌<◌}
use native.Mathlib.Omega.{arith}
use native.Mathlib.Nat.{mul-suc}
use borrow.Author.Tests.{leb-true}
use mathlib.Core.Path.{◌≡◌, refl, sym, ap, ◌∙◌, subst}
use mathlib.Core.Bool.{Bool, true}
use mathlib.Core.List.{List, [], ◌∷◌, ◌++◌, map, append_assoc, append-nil}
use lib.Dec.{leb}
use lib.ListN.{length, get_or, length-append, length-map, get_or-append}
use lib.Seq.{get_or-append-add}
use Rattle.model.specs.Transactions.{State, Running, Finished, Failed, NoState, Reply, Held, Sent, NoReply, Uncommitted, Waiting, Engine, undo_list}
use Rattle.model.specs.Refusals.{fits, is_state, is_reply, sound}
use Rattle.model.proofs.Chain.{all_append, all_map, all_left, all_right}
use Rattle.model.proofs.Sound.{sound_parts}
use Rattle.model.proofs.Tests.{and_left, and_right}
use Rattle.model.specs.declared.Op.{Op}
use Rattle.model.specs.declared.Fragment.{Fragment}
use Rattle.model.specs.declared.Undo.{Undo}
use Rattle.operations.specs.Laid.{padded, flat, entries_of}
use Rattle.operations.proofs.Turns.{no_op, length-padded}
use Rattle.record.specs.Words.{ops_words, row_words, all_rows, state_word, reply_word, held_outcome, run_words, rows_of, all_runs, row_of, live_rows, over, pack_over, pack}
use Rattle.record.specs.View.{fragment_at, attempt_at, waiting_of, numbers_from, zeros, state_of, reply_of, member_at, uncommitted_of, view_of, view}
use Rattle.record.proofs.Rows.{get_or-padded, get_d_over, padded_over, numbers_same, numbers_whole, fragment_same, row_words_lem, eight}
use Rattle.model.specs.Parts.{All, SoundOne}
use Rattle.record.specs.Fitting.{Eight, Fit, Known}
use Rattle.record.specs.Widths.{op_width, live_width, run_width, live_length, runs_length, undo_length}

-- a stretch of the words laid over a row
block_read : (row X Y Z : List ℕ) (m k : ℕ) → length X ≡ m → k < length Y → get_or (over row (X ++ (Y ++ Z))) (m + k) 0 ≡ get_or Y k 0
block_read row X Y Z m k e h =
    get_d_over row (X ++ (Y ++ Z)) (m + k) (omega (arith, length-append X (Y ++ Z), length-append Y Z)) ∙ ap (λ (x : ℕ). get_or (X ++ (Y ++ Z)) (x + k) 0) (sym e) ∙ get_or-append-add X (Y ++ Z) k 0 ∙ get_or-append Y Z 0 k h

-- Rows of one width, one behind the other

module _ {A : Type 0} (f : A → List ℕ) where
  append-rows : (a b : List A) → rows_of f (a ++ b) ≡ rows_of f a ++ rows_of f b
  append-rows [] b = refl
  append-rows (x ∷ a) b = ap (λ (l : List ℕ). f x ++ l) (append-rows a b) ∙ sym (append_assoc (f x) (rows_of f a) (rows_of f b))

  module _ (width : ℕ) (P : A → Type 0) (wide : (a : A) → P a → length (f a) ≡ width) where
    all-length : (l : List A) → All P l → length (rows_of f l) ≡ width * length l
    all-length [] h = omega arith
    all-length (a ∷ l) h = length-append (f a) (rows_of f l) ∙ omega (arith, wide a h.0, all-length l h.1, mul-suc width (length l))

    -- word k of the row that stands behind the rows of X
    word_read : (row : List ℕ) (X : List A) (a : A) (Y : List A) (b k : ℕ) → All P X → P a → width * length X ≡ b → k < width → get_or (over row (rows_of f (X ++ a ∷ Y))) (b + k) 0 ≡ get_or (f a) k 0
    word_read row X a Y b k hx ha e h =
        ap (λ (l : List ℕ). get_or (over row l) (b + k) 0) (append-rows X (a ∷ Y)) ∙ block_read row (rows_of f X) (f a) (rows_of f Y) b k (all-length X hx ∙ e) (subst (λ (x : ℕ). k < x) (sym (wide a ha)) h)

-- Transactions

length_ops : (os : List Op) → length (ops_words os) ≡ op_width * length os
length_ops [] = omega arith
length_ops (o ∷ os) = omega (arith, length_ops os)

pub length_row : (n a : ℕ) (f : Fragment) → length f.row ≡ 8 → length (row_words n a f) ≡ live_width
unfolding row_words
length_row n a f h = omega (arith, length_ops f.row, length-append (ops_words f.row) (a ∷ []))

abbrev words : Waiting → List ℕ
words w = row_words w.number w.attempt w.fragment

wide_row : (w : Waiting) → Eight w → length (words w) ≡ live_width
wide_row w h = length_row w.number w.attempt w.fragment h

pub length-rows : (ws : List Waiting) → All Eight ws → length (all_rows ws) ≡ live_width * length ws
unfolding all_rows
length-rows ws h = all-length words live_width Eight wide_row ws h

pub rows_append : (a b : List Waiting) → all_rows (a ++ b) ≡ all_rows a ++ all_rows b
unfolding all_rows
rows_append a b = append-rows words a b

fragment_of_words : (n a : ℕ) (f : Fragment) → length f.row ≡ 8 → fragment_at (row_words n a f) 0 ≡ f
unfolding fragment_at
fragment_of_words n a f h =
    ap (λ (x : List ℕ). fragment_at x 0) (sym (row_words_lem n a f h)) ∙ (λ i. record { flags = f.flags; coordinator = f.coordinator; count = f.count; row = eight no_op f.row h i })

attempt_of_words : (n a : ℕ) (f : Fragment) → length f.row ≡ 8 → attempt_at (row_words n a f) 0 ≡ a
attempt_of_words n a f h = ap (λ (x : List ℕ). attempt_at x 0) (sym (row_words_lem n a f h))

module _ (row : List ℕ) (A : List Waiting) (t : Waiting) (B : List Waiting) (b : ℕ) (ea : All Eight A) (et : Eight t) (eb : live_width * length A ≡ b) where
  pub row_read : (k : ℕ) → k < live_width → get_or (over row (all_rows (A ++ t ∷ B))) (b + k) 0 ≡ get_or (row_words t.number t.attempt t.fragment) k 0
  unfolding all_rows
  row_read k h = word_read words live_width Eight wide_row row A t B b k ea et eb h

  pub fragment_back : fragment_at (over row (all_rows (A ++ t ∷ B))) b ≡ t.fragment
  fragment_back =
      fragment_same (over row (all_rows (A ++ t ∷ B))) b (row_words t.number t.attempt t.fragment) 0 (λ k h. row_read k (omega arith) ∙ (let z : k ≡ 0 + k = omega arith in ap (λ (x : ℕ). get_or (row_words t.number t.attempt t.fragment) x 0) z))
      ∙ fragment_of_words t.number t.attempt t.fragment et

  pub number_back : get_or (over row (all_rows (A ++ t ∷ B))) b 0 ≡ t.number
  unfolding row_words
  number_back = (let z : b ≡ b + 0 = omega arith in ap (λ (x : ℕ). get_or (over row (all_rows (A ++ t ∷ B))) x 0) z) ∙ row_read 0 (omega arith)

  pub attempt_back : attempt_at (over row (all_rows (A ++ t ∷ B))) b ≡ t.attempt
  attempt_back = row_read 28 (omega arith) ∙ attempt_of_words t.number t.attempt t.fragment et

-- the rows of ws read back, behind those of A and before those of B
pub waiting_back : (row : List ℕ) (A ws B : List Waiting) (b : ℕ) → All Eight A → All Eight ws → live_width * length A ≡ b → waiting_of (over row (all_rows (A ++ (ws ++ B)))) b (length ws) ≡ ws
unfolding waiting_of
waiting_back row A [] B b ea ew e = refl
waiting_back row A (w ∷ ws) B b ea ew e =
    let l : (A ++ (w ∷ [])) ++ (ws ++ B) ≡ A ++ w ∷ (ws ++ B) = append_assoc A (w ∷ []) (ws ++ B) in
    let rest : waiting_of (over row (all_rows (A ++ w ∷ (ws ++ B)))) (b + live_width) (length ws) ≡ ws =
    ap (λ (x : List Waiting). waiting_of (over row (all_rows x)) (b + live_width) (length ws)) (sym l)
    ∙ waiting_back row (A ++ (w ∷ [])) ws B (b + live_width) (all_append Eight A (w ∷ []) ea (ew.0, tt)) ew.1 (omega (arith, length-append A (w ∷ []))) in
    λ i. record { number = number_back row A w (ws ++ B) b ea ew.0 e i; attempt = attempt_back row A w (ws ++ B) b ea ew.0 e i; fragment = fragment_back row A w (ws ++ B) b ea ew.0 e i } ∷ rest i

-- Runs

pub length_run : (u : Uncommitted) → Fit u → length (run_words u) ≡ run_width
unfolding run_words
length_run u h =
    let ns : List ℕ = padded 8 (held_outcome u.reply).numbers in
    omega (arith, length-append ns (0 ∷ 0 ∷ []), length-padded 8 (held_outcome u.reply).numbers h)

pub length_runs : (us : List Uncommitted) → All Fit us → length (all_runs us) ≡ run_width * length us
unfolding all_runs
length_runs us h = all-length run_words run_width Fit length_run us h

pub runs_append : (a b : List Uncommitted) → all_runs (a ++ b) ≡ all_runs a ++ all_runs b
unfolding all_runs
runs_append a b = append-rows run_words a b

pub run_read : (row : List ℕ) (P : List Uncommitted) (u : Uncommitted) (Q : List Uncommitted) (c k : ℕ) → All Fit P → Fit u → run_width * length P ≡ c → k < run_width
    → get_or (over row (all_runs (P ++ u ∷ Q))) (c + k) 0 ≡ get_or (run_words u) k 0
unfolding all_runs
run_read row P u Q c k ep eu e h = word_read run_words run_width Fit length_run row P u Q c k ep eu e h

-- Entries

pub undo_append : (a b : List Uncommitted) → undo_list (a ++ b) ≡ undo_list a ++ undo_list b
undo_append [] b = refl
undo_append (u ∷ a) b = ap (λ (x : List Undo). u.undo ++ x) (undo_append a b) ∙ sym (append_assoc u.undo (undo_list a) (undo_list b))

pub flat_append : (a b : List Undo) → flat (a ++ b) ≡ flat a ++ flat b
flat_append [] b = refl
flat_append (u ∷ a) b = ap {B = List ℕ} (λ (x : List ℕ). u.cell ∷ u.old ∷ x) (flat_append a b)

pub length-flat : (us : List Undo) → length (flat us) ≡ 2 * length us
length-flat [] = omega arith
length-flat (u ∷ us) = omega (arith, length-flat us)

pub entries_back : (row : List ℕ) (a us b : List Undo) (d : ℕ) → 2 * length a ≡ d → entries_of (over row (flat (a ++ (us ++ b)))) d (length us) ≡ us
unfolding entries_of
entries_back row a [] b d e = refl
entries_back row a (u ∷ us) b d e =
    let more : List ℕ = u.cell ∷ u.old ∷ [] in
    let l : List ℕ = over row (flat (a ++ (u ∷ us ++ b))) in
    let la : length (flat a) ≡ d = length-flat a ∙ e in
    let s : flat (a ++ (u ∷ us ++ b)) ≡ flat a ++ (more ++ flat (us ++ b)) = flat_append a (u ∷ us ++ b) in
    let z : d ≡ d + 0 = omega arith in
    let here : get_or l d 0 ≡ u.cell = ap (λ (x : ℕ). get_or l x 0) z ∙ ap (λ (x : List ℕ). get_or (over row x) (d + 0) 0) s ∙ block_read row (flat a) more (flat (us ++ b)) d 0 la (omega arith) in
    let there : get_or l (d + 1) 0 ≡ u.old = ap (λ (x : List ℕ). get_or (over row x) (d + 1) 0) s ∙ block_read row (flat a) more (flat (us ++ b)) d 1 la (omega arith) in
    let whole : (a ++ (u ∷ [])) ++ (us ++ b) ≡ a ++ (u ∷ us ++ b) = append_assoc a (u ∷ []) (us ++ b) in
    let rest : entries_of l (d + 2) (length us) ≡ us =
    ap (λ (x : List Undo). entries_of (over row (flat x)) (d + 2) (length us)) (sym whole) ∙ entries_back row (a ++ (u ∷ [])) us b (d + 2) (omega (arith, length-append a (u ∷ []))) in
    λ i. record { cell = here i; old = there i } ∷ rest i

-- Members

pub state_back : (s : State) → is_state s ≡ true → state_of (state_word s) ≡ s
state_back Running h = refl
state_back Finished h = refl
state_back Failed h = refl
state_back NoState h = absurd (mathlib.Core.Bool.true≢false (sym h))

numbers_run : (u : Uncommitted) → Fit u → numbers_from (run_words u) 6 (length (held_outcome u.reply).numbers) ≡ (held_outcome u.reply).numbers
unfolding run_words
numbers_run u h =
    let ns : List ℕ = (held_outcome u.reply).numbers in
    numbers_same (run_words u) ns 6 0 (length ns)
    (λ k hk. get_or-append-add (u.ran ∷ state_word u.state ∷ reply_word u.reply ∷ length u.undo ∷ (held_outcome u.reply).place ∷ length ns ∷ []) (padded 8 ns ++ (0 ∷ 0 ∷ [])) k 0
    ∙ get_or-append (padded 8 ns) (0 ∷ 0 ∷ []) 0 k (omega (arith, length-padded 8 ns h)) ∙ get_or-padded 8 ns k ∙ (let z : k ≡ 0 + k = omega arith in ap (λ (x : ℕ). get_or ns x 0) z))
    ∙ numbers_whole ns

reply_back : (a : Reply) → is_reply a ≡ true → reply_of (reply_word a) (record { place = (held_outcome a).place; numbers = (held_outcome a).numbers }) ≡ a
reply_back (Held o) h = refl
reply_back Sent h = refl
reply_back NoReply h = absurd (mathlib.Core.Bool.true≢false (sym h))

-- n numbers of a run, read through the row that holds it
module _ (row : List ℕ) (P : List Uncommitted) (u : Uncommitted) (Q : List Uncommitted) (c : ℕ) (ep : All Fit P) (eu : Fit u) (e : run_width * length P ≡ c) where
  pub outcome_back : is_reply u.reply ≡ true
      → reply_of (get_or (over row (all_runs (P ++ u ∷ Q))) (c + 2) 0) (record { place = get_or (over row (all_runs (P ++ u ∷ Q))) (c + 4) 0; numbers = numbers_from (over row (all_runs (P ++ u ∷ Q))) (c + 6) (get_or (over row (all_runs (P ++ u ∷ Q))) (c + 5) 0) }) ≡ u.reply
  unfolding run_words
  outcome_back h =
      let ns : List ℕ = (held_outcome u.reply).numbers in
      let l : List ℕ = over row (all_runs (P ++ u ∷ Q)) in
      let w2 : get_or l (c + 2) 0 ≡ reply_word u.reply = run_read row P u Q c 2 ep eu e (omega arith) in
      let w4 : get_or l (c + 4) 0 ≡ (held_outcome u.reply).place = run_read row P u Q c 4 ep eu e (omega arith) in
      let w5 : get_or l (c + 5) 0 ≡ length ns = run_read row P u Q c 5 ep eu e (omega arith) in
      let read : numbers_from l (c + 6) (get_or l (c + 5) 0) ≡ ns =
      ap (numbers_from l (c + 6)) w5
      ∙ numbers_same l (run_words u) (c + 6) 6 (length ns) (λ k hk. (let z : c + 6 + k ≡ c + (6 + k) = omega arith in ap (λ (x : ℕ). get_or l x 0) z) ∙ run_read row P u Q c (6 + k) ep eu e (omega arith))
      ∙ numbers_run u eu in
      (λ i. reply_of (w2 i) (record { place = w4 i; numbers = read i })) ∙ reply_back u.reply h

known_fits : (us : List Uncommitted) → All Known us → All Fit us
known_fits us h = all_map Known Fit (λ u k. k.0) us h

-- us read back, behind A in the live row, behind P in the runs and in the undo row
pub members_back : (nl nr nu : List ℕ) (A : List Waiting) (P us : List Uncommitted) (ws : List Waiting) (b c d : ℕ) → All Eight A → All Eight (live_rows us ws) → All Known P → All Known us
    → live_width * length A ≡ b → run_width * length P ≡ c → 2 * length (undo_list P) ≡ d
    → uncommitted_of (over nl (all_rows (A ++ live_rows us ws))) b (over nr (all_runs (P ++ us))) c (over nu (flat (undo_list (P ++ us)))) d (length us) ≡ us
unfolding uncommitted_of member_at run_words
members_back nl nr nu A P [] ws b c d ea el kp ku eb ec ed = refl
members_back nl nr nu A P (u ∷ us) ws b c d ea el kp ku eb ec ed =
    let live : List ℕ = over nl (all_rows (A ++ live_rows (u ∷ us) ws)) in
    let runs : List ℕ = over nr (all_runs (P ++ u ∷ us)) in
    let undo : List ℕ = over nu (flat (undo_list (P ++ u ∷ us))) in
    let fp : All Fit P = known_fits P kp in
    let w0 : get_or runs c 0 ≡ u.ran = (let z : c ≡ c + 0 = omega arith in ap (λ (x : ℕ). get_or runs x 0) z) ∙ run_read nr P u us c 0 fp ku.0.0 ec (omega arith) in
    let w1 : get_or runs (c + 1) 0 ≡ state_word u.state = run_read nr P u us c 1 fp ku.0.0 ec (omega arith) in
    let w3 : get_or runs (c + 3) 0 ≡ length u.undo = run_read nr P u us c 3 fp ku.0.0 ec (omega arith) in
    let own : entries_of undo d (get_or runs (c + 3) 0) ≡ u.undo =
    ap (entries_of undo d) w3 ∙ ap (λ (x : List Undo). entries_of (over nu (flat x)) d (length u.undo)) (undo_append P (u ∷ us)) ∙ entries_back nu (undo_list P) u.undo (undo_list us) d ed in
    let lA : (A ++ (row_of u ∷ [])) ++ live_rows us ws ≡ A ++ live_rows (u ∷ us) ws = append_assoc A (row_of u ∷ []) (live_rows us ws) in
    let lP : (P ++ (u ∷ [])) ++ us ≡ P ++ u ∷ us = append_assoc P (u ∷ []) us in
    let d' : d + 2 * get_or runs (c + 3) 0 ≡ 2 * length (undo_list (P ++ (u ∷ []))) =
    omega (arith, ed, w3, ap length (undo_append P (u ∷ [])), length-append (undo_list P) (u.undo ++ []), length-append u.undo []) in
    let rest : uncommitted_of live (b + live_width) runs (c + run_width) undo (d + 2 * get_or runs (c + 3) 0) (length us) ≡ us =
    (λ i. uncommitted_of (over nl (all_rows (sym lA i))) (b + live_width) (over nr (all_runs (sym lP i))) (c + run_width) (over nu (flat (undo_list (sym lP i)))) (d' i) (length us))
    ∙ members_back nl nr nu (A ++ (row_of u ∷ [])) (P ++ (u ∷ [])) us ws (b + live_width) (c + run_width) (2 * length (undo_list (P ++ (u ∷ [])))) (all_append Eight A (row_of u ∷ []) ea (el.0, tt)) el.1
    (all_append Known P (u ∷ []) kp (ku.0, tt)) ku.1 (omega (arith, length-append A (row_of u ∷ []))) (omega (arith, length-append P (u ∷ []))) refl in
    λ i. record {
      number = number_back nl A (row_of u) (live_rows us ws) b ea el.0 eb i;
      attempt = attempt_back nl A (row_of u) (live_rows us ws) b ea el.0 eb i;
      first = fragment_back nl A (row_of u) (live_rows us ws) b ea el.0 eb i;
      ran = w0 i;
      state = (ap state_of w1 ∙ state_back u.state ku.0.1) i;
      reply = outcome_back nr P u us c fp ku.0.0 ec ku.0.2 i;
      undo = own i;
    } ∷ rest i

-- what a sound record's members are
fit_of : (a : Reply) → fits a ≡ true → length (held_outcome a).numbers ≤ 8
fit_of (Held o) h = leb-true (length o.numbers) 8 (and_left (leb (length o.numbers) 8) (leb o.place 8) h)
fit_of Sent h = omega arith
fit_of NoReply h = omega arith

pub known_of : (ct : ℕ) (us : List Uncommitted) → All (SoundOne ct) us → All Known us
known_of ct us h =
    all_map (SoundOne ct) Known (λ u s. (fit_of u.reply s.fits, and_left (is_state u.state) (is_reply u.reply) s.read, and_right (is_state u.state) (is_reply u.reply) s.read)) us h

pub view_over : (live runs undo : List ℕ) (e : Engine) → sound e ≡ true → All Eight (live_rows e.uncommitted e.waiting) → view (pack_over live runs undo e) ≡ e
unfolding view_of pack_over
view_over live runs undo e h el =
    let us : List Uncommitted = e.uncommitted in
    let ws : List Waiting = e.waiting in
    let k : All Known us = known_of e.count us (sound_parts e h).each in
    λ i. record {
      count = e.count;
      largest = e.largest;
      uncommitted = members_back live runs undo [] [] us ws 0 0 0 tt el tt k refl refl refl i;
      waiting = (ap (λ (x : List Waiting). waiting_of (over live (all_rows (map row_of us ++ x))) (live_width * length us) (length ws)) (sym (append-nil ws)) ∙ waiting_back live (map row_of us) ws [] (live_width * length us) (all_left Eight (map row_of us) ws el) (all_right Eight (map row_of us) ws el) (ap (λ (x : ℕ). live_width * x) (length-map us row_of))) i;
    }

-- a record with zero in every unused place is laid over zeros
pub pack_over_lem : (e : Engine) → pack e ≡ pack_over (zeros live_length) (zeros runs_length) (zeros undo_length) e
unfolding pack pack_over
pack_over_lem e = λ i. record {
  counts = record { cells = e.count; largest = e.largest; uncommitted = length e.uncommitted; waiting = length e.waiting };
  live = padded_over live_length (all_rows (live_rows e.uncommitted e.waiting)) i;
  runs = padded_over runs_length (all_runs e.uncommitted) i;
  undo = padded_over undo_length (flat (undo_list e.uncommitted)) i;
}

pub view_pack : (e : Engine) → sound e ≡ true → All Eight (live_rows e.uncommitted e.waiting) → view (pack e) ≡ e
view_pack e h el = ap view (pack_over_lem e) ∙ view_over (zeros live_length) (zeros runs_length) (zeros undo_length) e h el
