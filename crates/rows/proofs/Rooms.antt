-- Laws of the answer room and of the words that a run leaves.
use Prim.Native.Nat.{ℕ, zero, suc, ◌+◌, ◌*◌, ◌-◌, ◌≤◌}
use native.Mathlib.Omega.{arith}
use mathlib.Core.Path.{◌≡◌, refl, sym, ap, ◌∙◌}
use mathlib.Core.Bool.{Bool, true, false}
use mathlib.Core.List.{List, [], ◌∷◌, ◌++◌, append_assoc, append-nil}
use lib.Dec.{eqb}
use lib.ListN.{length, take, drop, replicate, length-append, length-drop, length-take}
use lib.Seq.{sets, sets-eq, take_at, drop-drop, drop-append-add, take-append-add}
use Rattle.model.specs.Operations.{Outcome, pick, last}
use Rattle.model.specs.Transactions.{State, Running, Finished, Failed, Held, Sent, Waiting, Answer, answer, words, all_words, filled}
use Rattle.model.specs.Steps.{state_after, begun}
use Rattle.model.specs.Steps as Steps
use Rattle.model.specs.declared.Fragment.{Fragment}
use Rattle.operations.specs.Laid.{padded, laid, told}
use Rattle.operations.specs.declared.Ran.{Ran}
use Rattle.operations.specs.declared.Told.{Told}
use Rattle.operations.proofs.Turns.{told_of}
use Rattle.record.specs.Words.{state_word, run_words}
use Rattle.rows.specs.declared.Trial.{Trial}
use Rattle.rows.specs.Rows.{with_answer, answer_row, run_row, state_word_after, begun_row}
use Rattle.model.specs.Limits.{answer_words}

-- eight numbers, padded or cut
padded_eight : (l : List ℕ) → length l ≤ 8 → padded 8 l ≡ take 8 (l ++ replicate 8 0)
unfolding padded
padded_eight l h =
    let n : ℕ = 8 - length l in
    let e : 8 ≡ length l + n = omega arith in
    sym (ap (λ (x : ℕ). take x (l ++ replicate 8 0)) e ∙ take-append-add l (replicate 8 0) n ∙ ap (λ (x : List ℕ). l ++ x) (zeros_take n 8 (omega arith)))
  where
    zeros_take : (a b : ℕ) → a ≤ b → take a (replicate {A = ℕ} b 0) ≡ replicate a 0
    zeros_take zero b h = refl
    zeros_take (suc a) zero h = absurd (omega arith)
    zeros_take (suc a) (suc b) h = ap {B = List ℕ} (λ (x : List ℕ). 0 ∷ x) (zeros_take a b (omega arith))

-- the words of an answer, as a row
pub answer_row_lem : (t d : Trial) (o : Outcome) → length o.numbers ≤ 8 → answer_row t d o.place (length o.numbers) (padded 8 o.numbers) ≡ words (answer t.number d.number t.attempt d.attempt o)
unfolding words
answer_row_lem t d o h = ap {B = List ℕ} (λ (x : List ℕ). t.number ∷ d.number ∷ o.place ∷ length o.numbers ∷ x ++ (t.attempt ∷ d.attempt ∷ 0 ∷ 0 ∷ [])) (padded_eight o.numbers h)

pub length-words : (a : Answer) → length (words a) ≡ answer_words
unfolding words
length-words a =
    let ns : List ℕ = take 8 (a.outcome.numbers ++ replicate 8 0) in
    omega (arith, length-append ns (a.attempt ∷ a.dependence_attempt ∷ replicate {A = ℕ} 2 0), length-take 8 (a.outcome.numbers ++ replicate 8 0), length-append a.outcome.numbers (replicate {A = ℕ} 8 0))

pub length-all : (l : List Answer) → length (all_words l) ≡ answer_words * length l
unfolding all_words
length-all [] = omega arith
length-all (a ∷ l) = length-append (words a) (all_words l) ∙ omega (arith, length-words a, length-all l)

all_append : (a b : List Answer) → all_words (a ++ b) ≡ all_words a ++ all_words b
unfolding all_words
all_append [] b = refl
all_append (x ∷ a) b = ap (λ (y : List ℕ). words x ++ y) (all_append a b) ∙ sym (append_assoc (words x) (all_words a) (all_words b))

-- "the rest of the room stays untouched": one more answer in a room that holds some
pub room_more : (l : List Answer) (a : Answer) (room₀ : List ℕ) (n : ℕ) → length l ≡ n → answer_words * (n + 1) ≤ length room₀ → sets (filled l room₀) (answer_words * n) (words a) ≡ filled (l ++ (a ∷ [])) room₀
unfolding all_words
room_more l a room₀ n e h =
    let w : List ℕ = all_words l in
    let lw : length w ≡ answer_words * n = length-all l ∙ ap (λ (x : ℕ). answer_words * x) e in
    let la : length (words a) ≡ answer_words = length-words a in
    let rest : List ℕ = drop (length w) room₀ in
    let whole : length (w ++ rest) ≡ length room₀ = length-append w rest ∙ omega (arith, length-drop (length w) room₀) in
    let both : all_words (l ++ (a ∷ [])) ≡ w ++ words a = all_append l (a ∷ []) ∙ ap (λ (x : List ℕ). w ++ x) (append-nil (words a)) in
    let lb : length (all_words (l ++ (a ∷ []))) ≡ length w + length (words a) = ap length both ∙ length-append w (words a) in
    let cut : drop (answer_words * n + length (words a)) (w ++ rest) ≡ drop (length (all_words (l ++ (a ∷ [])))) room₀ =
    ap (λ (x : ℕ). drop (x + length (words a)) (w ++ rest)) (sym lw) ∙ drop-append-add w rest (length (words a)) ∙ drop-drop (length (words a)) (length w) room₀ ∙ ap (λ (x : ℕ). drop x room₀) (sym lb) in
    sets-eq (words a) (w ++ rest) (answer_words * n) (omega arith)
    ∙ (λ i. take_at w rest (answer_words * n) lw i ++ words a ++ cut i)
    ∙ ap (λ (x : List ℕ). x ++ drop (length (all_words (l ++ (a ∷ [])))) room₀) (sym both)

-- the words of a run's answer, by what it tells
pub told_words : (t d : Trial) (R : Steps.Ran) (r : Told) → r ≡ told R → length R.outcome.numbers ≤ 8
    → answer_row t d r.place r.count r.numbers ≡ words (answer t.number d.number t.attempt d.attempt R.outcome)
unfolding told
told_words t d R r er hr = (λ i. answer_row t d (er i).place (er i).count (er i).numbers) ∙ answer_row_lem t d R.outcome hr

-- a run's answer in the room: by what it tells, and by all that it gives
pub told_room : (l : List Answer) (t d : Trial) (R : Steps.Ran) (r : Told) (room room₀ : List ℕ) (a : ℕ) → r ≡ told R → length R.outcome.numbers ≤ 8 → room ≡ filled l room₀ → length l ≡ a → answer_words * (a + 1) ≤ length room₀
    → sets room (answer_words * a) (answer_row t d r.place r.count r.numbers) ≡ filled (l ++ (answer t.number d.number t.attempt d.attempt R.outcome ∷ [])) room₀
told_room l t d R r room room₀ a er hr em el h =
    (λ i. sets (em i) (answer_words * a) (told_words t d R r er hr i)) ∙ room_more l (answer t.number d.number t.attempt d.attempt R.outcome) room₀ a el h

pub answered_room : (l : List Answer) (t d : Trial) (R : Steps.Ran) (r : Ran) (room room₀ : List ℕ) (a : ℕ) → r ≡ laid R → length R.outcome.numbers ≤ 8 → room ≡ filled l room₀ → length l ≡ a → answer_words * (a + 1) ≤ length room₀
    → with_answer a t d r room ≡ filled (l ++ (answer t.number d.number t.attempt d.attempt R.outcome ∷ [])) room₀
answered_room l t d R r room room₀ a er hr em el h = told_room l t d R _ room room₀ a (told_of R r er) hr em el h

-- The run of one that ran

pub state_word_lem : (f : Fragment) (o : Outcome) (la : Bool) → la ≡ last f → state_word_after la o.place ≡ state_word (state_after f o)
state_word_lem f o la e = ap (λ (x : Bool). state_word_after x o.place) e ∙ go (eqb o.place 0) (last f)
  where
    go : (a b : Bool) → pick a (pick b 1 0) 2 ≡ state_word (elim a as (λ _. State) [ true ↦ elim b [ true ↦ Finished | false ↦ Running ] | false ↦ Failed ])
    go true true = refl
    go true false = refl
    go false b = refl

pub begun_words : (w : Waiting) (R : Steps.Ran) (r : Ran) (la held : Bool) → r ≡ laid R → la ≡ last w.fragment → begun_row held la r ≡ run_words (begun w R (pick held (Held R.outcome) Sent))
unfolding laid told run_words padded
begun_words w R r la true er el = (λ i. run_row 1 (state_word_after la (er i).told.place) 1 (er i).entries (er i).told.place (er i).told.count (er i).told.numbers) ∙ ap {B = List ℕ} (λ (s : ℕ). run_row 1 s 1 (length R.undo) R.outcome.place (length R.outcome.numbers) (padded 8 R.outcome.numbers)) (state_word_lem w.fragment R.outcome la el)
begun_words w R r la false er el = (λ i. run_row 1 (state_word_after la (er i).told.place) 0 (er i).entries 0 0 (replicate 8 0)) ∙ ap {B = List ℕ} (λ (s : ℕ). run_row 1 s 0 (length R.undo) 0 0 (replicate 8 0)) (state_word_lem w.fragment R.outcome la el)
