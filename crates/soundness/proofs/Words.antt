-- What the words of one row and one run say of the member that they stand for, both ways.
use Prim.Native.Nat.{ℕ, zero, suc, ◌+◌, ◌*◌, ◌≤◌}
use native.Mathlib.Omega.{arith}
use borrow.Author.Tests.{leb-true, le-leb, lt-leb, eqb-true, ne_eqb}
use mathlib.Core.Path.{◌≡◌, refl, sym, ap, ◌∙◌}
use mathlib.Core.Bool.{Bool, true, false, not, ◌&&◌, ◌||◌, true≢false}
use mathlib.Core.List.{List}
use lib.Dec.{leb, eqb}
use lib.ListN.{length, get_or}
use Rattle.model.specs.Operations.{Outcome, multi}
use Rattle.model.specs.Transactions.{finished, holds}
use Rattle.model.specs.Refusals.{every, storable, fits, is_state, is_reply}
use Rattle.model.proofs.Tests.{both, and_left, and_right}
use Rattle.record.specs.View.{fragment_at, multi_at, state_of, reply_of, numbers_from, member_at}
use Rattle.record.proofs.Rows.{length-numbers}
use Rattle.record.proofs.Queues.{length_entries}
use Rattle.soundness.specs.Groups.{reply_ok, run_ok, front_ok, next_ok}
use Rattle.model.specs.Parts.{cell_inside, SoundOne, bad_front}

-- Tests of Booleans

pub same : (a b : Bool) → (a ≡ true → b ≡ true) → (b ≡ true → a ≡ true) → a ≡ b
same true b f g = sym (f refl)
same false true f g = g refl
same false false f g = refl

and_comm : (a b : Bool) → (a && b) ≡ (b && a)
and_comm true true = refl
and_comm true false = refl
and_comm false true = refl
and_comm false false = refl

-- Words that stand for a state or a reply

state_words : (n : ℕ) → is_state (state_of n) ≡ leb n 2
state_words zero = refl
state_words (suc zero) = refl
state_words (suc (suc zero)) = refl
state_words (suc (suc (suc m))) =
    rw (ne_eqb (suc (suc (suc m))) 0 (λ e. omega arith), ne_eqb (suc (suc (suc m))) 1 (λ e. omega arith), ne_eqb (suc (suc (suc m))) 2 (λ e. omega arith), lt-leb (suc (suc (suc m))) 2 (omega arith))

pub finished_words : (n : ℕ) → finished (state_of n) ≡ (leb 1 n && leb n 2)
finished_words zero = refl
finished_words (suc zero) = refl
finished_words (suc (suc zero)) = refl
finished_words (suc (suc (suc m))) =
    rw (ne_eqb (suc (suc (suc m))) 0 (λ e. omega arith), ne_eqb (suc (suc (suc m))) 1 (λ e. omega arith), ne_eqb (suc (suc (suc m))) 2 (λ e. omega arith), lt-leb (suc (suc (suc m))) 2 (omega arith), le-leb 1 (suc (suc (suc m))) (omega arith))

holds_words : (w : ℕ) (o : Outcome) → holds (reply_of w o) ≡ eqb w 1
holds_words zero o = refl
holds_words (suc zero) o = refl
holds_words (suc (suc m)) o = rw (ne_eqb (suc (suc m)) 0 (λ e. omega arith), ne_eqb (suc (suc m)) 1 (λ e. omega arith))

reply_words : (w p n : ℕ) (ns : List ℕ) → length ns ≡ n
    → (is_reply (reply_of w (record { place = p; numbers = ns })) && fits (reply_of w (record { place = p; numbers = ns }))) ≡ (eqb w 0 || eqb w 1 && leb p 8 && leb n 8)
reply_words zero p n ns e = refl
reply_words (suc zero) p n ns e = and_comm (leb (length ns) 8) (leb p 8) ∙ ap (λ (x : ℕ). leb p 8 && leb x 8) e
reply_words (suc (suc m)) p n ns e = rw (ne_eqb (suc (suc m)) 0 (λ e. omega arith), ne_eqb (suc (suc m)) 1 (λ e. omega arith))

-- a reply that is not held was sent
sent_of : (runs : List ℕ) (c : ℕ) → reply_ok runs c ≡ true → eqb (get_or runs (c + 2) 0) 1 ≡ false → eqb (get_or runs (c + 2) 0) 0 ≡ true
unfolding reply_ok
sent_of runs c h k = go (eqb (get_or runs (c + 2) 0) 0) (eqb (get_or runs (c + 2) 0) 1) (leb (get_or runs (c + 4) 0) 8) (leb (get_or runs (c + 5) 0) 8) h k
  where
    go : (a b p q : Bool) → (a || b && p && q) ≡ true → b ≡ false → a ≡ true
    go true b p q h k = refl
    go false true p q h k = absurd (true≢false k)
    go false false p q h k = h

-- A run by parts

pub record Run (most : ℕ) (runs : List ℕ) (c : ℕ) : Type 0 where
  pub some : 1 ≤ get_or runs c 0
  pub at_most : get_or runs c 0 ≤ most
  pub state : leb (get_or runs (c + 1) 0) 2 ≡ true
  pub few : get_or runs (c + 3) 0 ≤ 8 * get_or runs c 0
  pub reply : reply_ok runs c ≡ true

module _ (most : ℕ) (runs : List ℕ) (c : ℕ) where
  pub run_parts : run_ok most runs c ≡ true → Run most runs c
  unfolding run_ok
  run_parts h =
      let a : Bool = leb 1 (get_or runs c 0) in
      let b : Bool = leb (get_or runs c 0) most in
      let s : Bool = leb (get_or runs (c + 1) 0) 2 in
      let f : Bool = leb (get_or runs (c + 3) 0) (8 * get_or runs c 0) in
      let h4 : (((a && b) && s) && f) ≡ true = and_left _ (reply_ok runs c) h in
      let h3 : ((a && b) && s) ≡ true = and_left _ f h4 in
      let h2 : (a && b) ≡ true = and_left _ s h3 in
      record {
        some = leb-true 1 (get_or runs c 0) (and_left a b h2);
        at_most = leb-true (get_or runs c 0) most (and_right a b h2);
        state = and_right (a && b) s h3;
        few = leb-true (get_or runs (c + 3) 0) (8 * get_or runs c 0) (and_right ((a && b) && s) f h4);
        reply = and_right (((a && b) && s) && f) (reply_ok runs c) h;
      }

  pub parts_run : Run most runs c → run_ok most runs c ≡ true
  unfolding run_ok
  parts_run r =
      both _ (reply_ok runs c)
      (both _ (leb (get_or runs (c + 3) 0) (8 * get_or runs c 0))
      (both _ (leb (get_or runs (c + 1) 0) 2)
      (both (leb 1 (get_or runs c 0)) (leb (get_or runs c 0) most) (le-leb 1 (get_or runs c 0) r.some) (le-leb (get_or runs c 0) most r.at_most))
      r.state)
      (le-leb (get_or runs (c + 3) 0) (8 * get_or runs c 0) r.few))
      r.reply

-- The member whose row starts at b, whose run at c and whose entries at d

module _ (live : List ℕ) (b : ℕ) (runs : List ℕ) (c : ℕ) (undo : List ℕ) (d : ℕ) where
  pub member_state : (member_at live b runs c undo d).state ≡ state_of (get_or runs (c + 1) 0)
  unfolding member_at
  member_state = refl

  member_ran : (member_at live b runs c undo d).ran ≡ get_or runs c 0
  unfolding member_at
  member_ran = refl

  member_multi : multi (member_at live b runs c undo d).first ≡ multi_at live b
  unfolding member_at multi fragment_at
  member_multi = refl

  member_holds : holds (member_at live b runs c undo d).reply ≡ eqb (get_or runs (c + 2) 0) 1
  unfolding member_at
  member_holds = holds_words (get_or runs (c + 2) 0) (record { place = get_or runs (c + 4) 0; numbers = numbers_from runs (c + 6) (get_or runs (c + 5) 0) })

  member_reply : (is_reply (member_at live b runs c undo d).reply && fits (member_at live b runs c undo d).reply) ≡ reply_ok runs c
  unfolding member_at reply_ok
  member_reply = reply_words (get_or runs (c + 2) 0) (get_or runs (c + 4) 0) (get_or runs (c + 5) 0) (numbers_from runs (c + 6) (get_or runs (c + 5) 0)) (length-numbers runs (c + 6) (get_or runs (c + 5) 0))

  member_is_state : is_state (member_at live b runs c undo d).state ≡ leb (get_or runs (c + 1) 0) 2
  unfolding member_at
  member_is_state = state_words (get_or runs (c + 1) 0)

  member_entries : length (member_at live b runs c undo d).undo ≡ get_or runs (c + 3) 0
  unfolding member_at
  member_entries = length_entries undo d (get_or runs (c + 3) 0)

  -- "an uncommitted single whose answer is not held": not this one
  held_words : (multi (member_at live b runs c undo d).first || holds (member_at live b runs c undo d).reply) ≡ (multi_at live b || eqb (get_or runs (c + 2) 0) 1)
  held_words = λ i. member_multi i || member_holds i

  bad_words : bad_front (member_at live b runs c undo d) ≡ (not (multi_at live b) || eqb (get_or runs (c + 2) 0) 1)
  bad_words = λ i. not (member_multi i) || member_holds i

  module _ (ct : ℕ) where
    one_of : (most : ℕ) → most ≤ 8 → Run most runs c → storable ct (member_at live b runs c undo d).first ≡ true → (multi_at live b || eqb (get_or runs (c + 2) 0) 1) ≡ true → every (cell_inside ct) (member_at live b runs c undo d).undo ≡ true
        → SoundOne ct (member_at live b runs c undo d)
    one_of most hm r s h u =
        let reply : (is_reply (member_at live b runs c undo d).reply && fits (member_at live b runs c undo d).reply) ≡ true = member_reply ∙ r.reply in
        record {
          eight = omega (arith, member_ran, r.at_most);
          stored = s;
          some = omega (arith, member_ran, r.some);
          held = held_words ∙ h;
          fits = and_right (is_reply (member_at live b runs c undo d).reply) (fits (member_at live b runs c undo d).reply) reply;
          inside = u;
          few = omega (arith, member_ran, member_entries, r.few);
          read = both (is_state (member_at live b runs c undo d).state) (is_reply (member_at live b runs c undo d).reply) (member_is_state ∙ r.state) (and_left (is_reply (member_at live b runs c undo d).reply) (fits (member_at live b runs c undo d).reply) reply);
        }

    run_of : (most : ℕ) → (member_at live b runs c undo d).ran ≤ most → SoundOne ct (member_at live b runs c undo d) → Run most runs c
    run_of most hm s = record {
      some = omega (arith, member_ran, s.some);
      at_most = omega (arith, member_ran);
      state = sym member_is_state ∙ and_left (is_state (member_at live b runs c undo d).state) (is_reply (member_at live b runs c undo d).reply) s.read;
      few = omega (arith, member_ran, member_entries, s.few);
      reply = sym member_reply ∙ both (is_reply (member_at live b runs c undo d).reply) (fits (member_at live b runs c undo d).reply) (and_right (is_state (member_at live b runs c undo d).state) (is_reply (member_at live b runs c undo d).reply) s.read) s.fits;
    }

    -- one behind the front
    pub next_one : next_ok live b runs c ≡ true → storable ct (member_at live b runs c undo d).first ≡ true → every (cell_inside ct) (member_at live b runs c undo d).undo ≡ true → SoundOne ct (member_at live b runs c undo d)
    unfolding next_ok
    next_one h s u =
        one_of 1 (omega arith) (run_parts 1 runs c (and_left (run_ok 1 runs c) (multi_at live b || eqb (get_or runs (c + 2) 0) 1) h)) s (and_right (run_ok 1 runs c) (multi_at live b || eqb (get_or runs (c + 2) 0) 1) h) u

    pub one_next : SoundOne ct (member_at live b runs c undo d) → (member_at live b runs c undo d).ran ≤ 1 → next_ok live b runs c ≡ true
    unfolding next_ok
    one_next s h = both (run_ok 1 runs c) (multi_at live b || eqb (get_or runs (c + 2) 0) 1) (parts_run 1 runs c (run_of 1 h s)) (sym held_words ∙ s.held)

  pub next_run : next_ok live b runs c ≡ true → Run 1 runs c
  unfolding next_ok
  next_run h = run_parts 1 runs c (and_left (run_ok 1 runs c) (multi_at live b || eqb (get_or runs (c + 2) 0) 1) h)

  pub next_ran : next_ok live b runs c ≡ true → (member_at live b runs c undo d).ran ≤ 1
  next_ran h = omega (arith, member_ran, (next_run h).at_most)

-- the front

module _ (live runs undo : List ℕ) where
  front_split : front_ok live runs ≡ true → (multi_at live 0 ≡ true) × (eqb (get_or runs 2 0) 0 ≡ true) × Run 8 runs 0
  unfolding front_ok
  front_split h =
      let h2 : (multi_at live 0 && eqb (get_or runs 2 0) 0) ≡ true = and_left _ (run_ok 8 runs 0) h in
      (and_left (multi_at live 0) (eqb (get_or runs 2 0) 0) h2, and_right (multi_at live 0) (eqb (get_or runs 2 0) 0) h2, run_parts 8 runs 0 (and_right (multi_at live 0 && eqb (get_or runs 2 0) 0) (run_ok 8 runs 0) h))

  pub front_run : front_ok live runs ≡ true → Run 8 runs 0
  front_run h = (front_split h).2

  pub front_good : front_ok live runs ≡ true → bad_front (member_at live 0 runs 0 undo 0) ≡ false
  front_good h =
      let f = front_split h in
      let w : get_or runs 2 0 ≡ 0 = eqb-true (get_or runs 2 0) 0 f.1 in
      let o : eqb (get_or runs 2 0) 1 ≡ false = ne_eqb (get_or runs 2 0) 1 (λ e. omega arith) in
      bad_words live 0 runs 0 undo 0 ∙ (λ i. not (f.0 i) || o i)

  module _ (ct : ℕ) where
    pub front_one : front_ok live runs ≡ true → storable ct (member_at live 0 runs 0 undo 0).first ≡ true → every (cell_inside ct) (member_at live 0 runs 0 undo 0).undo ≡ true → SoundOne ct (member_at live 0 runs 0 undo 0)
    front_one h s u =
        let f = front_split h in
        one_of live 0 runs 0 undo 0 ct 8 (omega arith) f.2 s (ap (λ (x : Bool). x || eqb (get_or runs 2 0) 1) f.0) u

    pub one_front : SoundOne ct (member_at live 0 runs 0 undo 0) → bad_front (member_at live 0 runs 0 undo 0) ≡ false → front_ok live runs ≡ true
    unfolding front_ok
    one_front s h =
        let r : Run 8 runs 0 = run_of live 0 runs 0 undo 0 ct 8 s.eight s in
        let p : (not (multi_at live 0) || eqb (get_or runs 2 0) 1) ≡ false = sym (bad_words live 0 runs 0 undo 0) ∙ h in
        both (multi_at live 0 && eqb (get_or runs 2 0) 0) (run_ok 8 runs 0) (both (multi_at live 0) (eqb (get_or runs 2 0) 0) (is_multi (multi_at live 0) (eqb (get_or runs 2 0) 1) p) (sent_of runs 0 r.reply (not_held (multi_at live 0) (eqb (get_or runs 2 0) 1) p))) (parts_run 8 runs 0 r)
      where
        is_multi : (a b : Bool) → (not a || b) ≡ false → a ≡ true
        is_multi true b h = refl
        is_multi false b h = absurd (true≢false h)

        not_held : (a b : Bool) → (not a || b) ≡ false → b ≡ false
        not_held true b h = h
        not_held false b h = absurd (true≢false h)
