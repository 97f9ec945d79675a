-- What is read off one row and what is laid in one: the words of an answer and of a run, and of the rows of live transactions.
use Rattle.std.specs.Prelude.{ℕ, ◌+◌, ◌*◌, ◌-◌, min, Bool, true, false, not, ◌&&◌, ◌||◌, leb, eqb, get_or, replicate, set}
use Rattle.std.specs.Prelude.{Option, Some, None, is_some, unwrap_or}
use mathlib.Core.List.{List, [], ◌∷◌, ◌++◌, foldl}
use Rattle.std.proofs.lemmas.List.Edits.{sets}
use Rattle.model.specs.Limits.{answer_words}
use Rattle.model.specs.Operations.{pick, multi, last}
use Rattle.model.specs.Refusals.{every}
use Rattle.model.specs.declared.Scheme.{Scheme}
use Rattle.model.specs.declared.Scheme.TheVariants.{Speculation, Blocking}
use Rattle.operations.specs.declared.Ran.{Ran}
use Rattle.operations.specs.declared.Told.{Told}
use Rattle.model.specs.declared.Fragment.{Fragment}
use Rattle.rows.specs.declared.Trial.{Trial}
use Rattle.record.specs.declared.State.{State}
use Rattle.record.specs.declared.State.TheVariants.{Running, Finished, Failed}
use Rattle.rows.specs.declared.Run.{Run}
use Rattle.rows.specs.declared.Reply.TheVariants.{Held, Sent}
use Rattle.rows.specs.declared.Placement.{Placement}
use Rattle.record.specs.Walk.{places}
use Rattle.record.specs.Ends.{capped}
use Rattle.record.specs.View.{attempt_at, multi_at, numbers_from}
use Rattle.record.specs.Widths.{live_width, run_width}

-- the transaction whose row starts at b, in its attempt; and none
abbrev pub trial_at : List ℕ → ℕ → Trial
trial_at l b = record { number = get_or l b 0; attempt = attempt_at l b }

abbrev pub no_trial : Trial
no_trial = record { number = 0; attempt = 0 }

-- the same by an option
abbrev pub trial_or_none : Option Trial → Trial
trial_or_none d = unwrap_or d no_trial

-- the words of an answer of t with a dependence on d, and of a run, with the eight numbers as a row
abbrev pub answer_row : Trial → Trial → ℕ → ℕ → List ℕ → List ℕ
answer_row t d p c ns = t.number ∷ d.number ∷ p ∷ c ∷ ns ++ (t.attempt ∷ d.attempt ∷ 0 ∷ 0 ∷ [])

-- the same by what a run tells; and one in its first attempt, whose row starts at b
abbrev pub told_row : Trial → Trial → Told → List ℕ
told_row t d r = answer_row t d r.place r.count r.numbers

abbrev pub first_trial : List ℕ → ℕ → Trial
first_trial l b = record { number = get_or l b 0; attempt = 1 }

abbrev pub run_row : ℕ → ℕ → ℕ → ℕ → ℕ → ℕ → List ℕ → List ℕ
run_row r s a e p c ns = r ∷ s ∷ a ∷ e ∷ p ∷ c ∷ ns ++ (0 ∷ 0 ∷ [])

-- the same of a run: what it holds of its answer, zeros where that was sent
abbrev pub no_told : Told
no_told = record { place = 0; count = 0; numbers = replicate 8 0 }

abbrev pub run_by : Run → List ℕ
run_by r =
    let t = unwrap_or r.held no_told in
    run_row r.ran r.state (pick (is_some r.held) 1 0) r.entries t.place t.count t.numbers

-- the word of a state, and that of the state after a fragment
abbrev pub state_number : State → ℕ
state_number Running = 0
state_number Finished = 1
state_number Failed = 2

abbrev pub state_word_after : Bool → ℕ → ℕ
state_word_after last place = pick (eqb place 0) (pick last 1 0) 2

-- the run of one that ran its first fragment: its answer held or sent
abbrev pub begun_row : Bool → Bool → Ran → List ℕ
begun_row held last r =
    pick held (run_row 1 (state_word_after last r.told.place) 1 r.entries r.told.place r.told.count r.told.numbers)
    (run_row 1 (state_word_after last r.told.place) 0 r.entries 0 0 (replicate 8 0))

-- a live transaction's row at place b: a single's, or with coordinator k; its transaction if it is a multi's, else d
abbrev pub same_row : List ℕ → ℕ → ℕ → Bool
same_row l b k = pick (multi_at l b) (eqb (get_or l (b + 2) 0) k) true

abbrev pub near_row : List ℕ → ℕ → Trial → Trial
near_row l b d = pick (multi_at l b) (trial_at l b) d

-- the same by options
abbrev pub nearer_row : List ℕ → ℕ → Option Trial → Option Trial
nearer_row l b d = pick (multi_at l b) (Some (trial_at l b)) d

-- what the drain decides of one that ran: is it answered now, does it join the uncommitted ones
abbrev pub answered_now : ℕ → Bool → Bool → Bool
answered_now u m one = eqb u 0 || (m && one)

abbrev pub joins_queue : ℕ → Bool → Bool
joins_queue u m = not (eqb u 0) || m

abbrev pub blocking : Scheme → Bool
blocking Speculation = false
blocking Blocking = true

-- may the drain go on: nothing is uncommitted, or the scheme does not block, fewer than 16 are and the word of the last one's state says that it is
-- finished
abbrev pub may_take_row : Scheme → List ℕ → ℕ → Bool
may_take_row σ runs u = pick (blocking σ) (eqb u 0) (pick (eqb u 0) true (pick (leb 16 u) false (pick (eqb (get_or runs (run_width * (u - 1) + 1) 0) 1) true (eqb (get_or runs (run_width * (u - 1) + 1) 0) 2))))

-- the answer of t that the run at place b holds, as words, with a dependence on d: none where its reply word is not 1
abbrev pub holds_row : List ℕ → ℕ → Bool
holds_row runs b = eqb (get_or runs (b + 2) 0) 1

abbrev pub held_row : List ℕ → ℕ → Trial → Trial → List ℕ
held_row runs b t d = t.number ∷ d.number ∷ numbers_from runs (b + 4) 10 ++ (t.attempt ∷ d.attempt ∷ 0 ∷ 0 ∷ [])

-- what that answer tells
abbrev pub held_told : List ℕ → ℕ → Told
held_told runs b = record { place = get_or runs (b + 4) 0; count = get_or runs (b + 5) 0; numbers = numbers_from runs (b + 6) 8 }

-- the words of the run at place b with its answer sent
abbrev pub sent_row : List ℕ → ℕ → List ℕ
sent_row runs b = run_row (get_or runs b 0) (get_or runs (b + 1) 0) 0 (get_or runs (b + 3) 0) 0 0 (replicate 8 0)

-- what `same_row` asks and `near_row` gives, of n rows from place b on
unfoldable pub one_rows : List ℕ → ℕ → ℕ → ℕ → Bool
one_rows l b n k = every (λ (p : ℕ). same_row l p k) (places b live_width n)

unfoldable pub near_rows : Trial → List ℕ → ℕ → ℕ → Trial
near_rows d l b n = foldl (λ (x : Trial) (p : ℕ). near_row l p x) d (places b live_width n)

unfoldable pub nearest_rows : Option Trial → List ℕ → ℕ → ℕ → Option Trial
nearest_rows d l b n = foldl (λ (x : Option Trial) (p : ℕ). nearer_row l p x) d (places b live_width n)

-- one attempt more in the row at place b, at most TOP; and in n rows from b on
abbrev pub raised_row : List ℕ → ℕ → List ℕ
raised_row l b = set l (b + 28) (capped (attempt_at l b + 1))

unfoldable pub raised_rows : List ℕ → ℕ → ℕ → List ℕ
raised_rows l b n = foldl raised_row l (places b live_width n)

-- where the drain places fragment f behind n uncommitted ones, whose rows start at b: what is held names no dependence yet
abbrev pub placement_row : List ℕ → ℕ → ℕ → Fragment → Placement
placement_row l b n f =
    record { reply = pick (answered_now n (multi f) (one_rows l b n f.coordinator)) (Sent (nearest_rows None l b n)) Held; joins = joins_queue n (multi f) }

-- the front's run after one more fragment
abbrev pub again_row : List ℕ → Fragment → ℕ → ℕ → List ℕ
again_row runs f place entries = run_row (min (get_or runs 0 0) 7 + 1) (state_word_after (last f) place) 0 entries 0 0 (replicate 8 0)

-- one answer more in the room
abbrev pub with_answer : ℕ → Trial → Trial → Ran → List ℕ → List ℕ
with_answer a t d r room = sets room (answer_words * a) (told_row t d r.told)
