-- Document 01, "Depot cases": P1 to P9, one table. Each case: the starting cells, the events, for each of them the returned number with
-- the answers, and the cells at the end. "Cells 5 and 10 unless said". Then those of them that show the blocking scheme (02, L5), two of
-- what a failing operation found (02, L4), two that show what a commit releases (02, L6), three that tell old answers from new ones (02, L2), and
-- one merged in two ways (02, L10).
use Rattle.std.specs.Prelude.{ℕ, ◌-◌, List, [], ◌∷◌, ◌++◌, true, false, eqb, length, replicate}
use Rattle.model.specs.Limits.{TOP, least_room}
use Rattle.model.specs.Operations.{Cells}
use Rattle.model.specs.Transactions.{Engine, Answer, answer}
use Rattle.model.specs.Refusals.{step, start}
use Rattle.model.specs.declared.Op.{Op}
use Rattle.model.specs.declared.Event.{Event}
use Rattle.model.specs.declared.Scheme.{Scheme}

-- what a trace prints: a number and answers for each event, then the cells
pub record Printed : Type 0 where
  pub events : List (ℕ × List Answer)
  pub cells : Cells

abbrev pub printed : List (ℕ × List Answer) → Cells → Printed
printed es cs = record { events = es; cells = cs }

unfoldable pub traced : Scheme → Engine → Cells → List Event → Printed
traced σ e cs [] = printed [] cs
traced σ e cs (v ∷ vs) =
    let s = step e (record { scheme = σ; event = v; lent = cs; room = replicate least_room 0 }) in
    let p = traced σ s.engine s.cells vs in
    printed ((s.number, s.answers) ∷ p.events) p.cells

pub record Case : Type 0 where
  pub cells : Cells
  pub events : List Event
  pub prints : Printed

abbrev pub outcome_of : Scheme → Case → Printed
outcome_of σ c = traced σ (start (length c.cells)).engine c.cells c.events

-- Events by their words. A row has eight places, unused ones zero.

abbrev op : ℕ → ℕ → ℕ → Op
op a b v = record { code = a; cell = b; amount = v }

abbrev event : ℕ → ℕ → ℕ → ℕ → List Op → Event
event k n fl co os = record {
  kind = k;
  number = n;
  fragment = record { flags = fl; coordinator = co; count = length os; row = os ++ replicate (8 - length os) (op 0 0 0) };
}

abbrev single : ℕ → List Op → Event
single n os = event 1 n 2 0 os

abbrev unfinished : ℕ → ℕ → List Op → Event
unfinished n co os = event 1 n 1 co os

abbrev finishing : ℕ → ℕ → List Op → Event
finishing n co os = event 1 n 3 co os

abbrev commit : ℕ → Event
commit n = event 2 n 0 0 []

abbrev abort : ℕ → Event
abort n = event 3 n 0 0 []

abbrev one : Op → List Op
one o = o ∷ []

-- answers

-- of first attempts (02, L2), the one that it depends on too
abbrev gave : ℕ → ℕ → List ℕ → Answer
gave n d ns = answer n d 1 (elim (eqb d 0) [ true ↦ 0 | false ↦ 1 ]) (record { place = 0; numbers = ns })

-- of attempt a, with a dependence on d in its attempt b
abbrev retried : ℕ → ℕ → ℕ → ℕ → List ℕ → Answer
retried n d a b ns = answer n d a b (record { place = 0; numbers = ns })

abbrev failing : ℕ → ℕ → ℕ → Answer
failing n p x = answer n 0 1 0 (record { place = p; numbers = x ∷ [] })

-- accepted, with one answer; accepted, with none
abbrev ok : Answer → ℕ × List Answer
ok a = (0, a ∷ [])

abbrev quiet : ℕ × List Answer
quiet = (0, [])

abbrev refused : ℕ → ℕ × List Answer
refused n = (n, [])

-- P1 and P2 up to their event 5; P7
abbrev opening : List Event
opening = unfinished 1 1 (one (op 1 0 0)) ∷ single 2 (one (op 3 0 1)) ∷ single 3 (one (op 3 0 1)) ∷ finishing 1 1 (one (op 2 0 17)) ∷ []

abbrev opened : List (ℕ × List Answer)
opened = ok (gave 1 0 (5 ∷ [])) ∷ quiet ∷ quiet ∷ ok (gave 1 0 (17 ∷ [])) ∷ []

abbrev chained : List Event
chained = finishing 1 1 (one (op 2 0 17)) ∷ single 2 (one (op 3 0 1)) ∷ finishing 3 1 (one (op 3 0 1)) ∷ []

abbrev chain : List (ℕ × List Answer)
chain = ok (gave 1 0 (17 ∷ [])) ∷ quiet ∷ ok (gave 3 1 (19 ∷ [])) ∷ []

abbrev pub depot : List Case
depot =
    -- P1 "the trace above"
    record { cells = 5 ∷ []; events = opening ++ (commit 1 ∷ []); prints = printed (opened ++ ((0, gave 2 0 (18 ∷ []) ∷ gave 3 0 (19 ∷ []) ∷ []) ∷ [])) (19 ∷ []) }
    -- P2 "abort as event 5: answers 6 and 7, cell 7"; both were undone once
    ∷ record { cells = 5 ∷ []; events = opening ++ (abort 1 ∷ []); prints = printed (opened ++ ((0, retried 2 0 2 0 (6 ∷ []) ∷ retried 3 0 2 0 (7 ∷ []) ∷ []) ∷ [])) (7 ∷ []) }
    -- P3 "multi 1, last, take 1 and take 1 of cell 1: numbers 9, 8; abort: 10"
    ∷ record { cells = 5 ∷ 10 ∷ []; events = finishing 1 1 (op 4 1 1 ∷ op 4 1 1 ∷ []) ∷ abort 1 ∷ []; prints = printed (ok (gave 1 0 (9 ∷ 8 ∷ [])) ∷ quiet ∷ []) (5 ∷ 10 ∷ []) }
    -- P4 "single take 10 of cell 1: 0"
    ∷ record { cells = 5 ∷ 10 ∷ []; events = single 1 (one (op 4 1 10)) ∷ []; prints = printed (ok (gave 1 0 (0 ∷ [])) ∷ []) (5 ∷ 0 ∷ []) }
    -- P5 "take 11: place 1, cell stays 10"; amended by 02, L4: "count 1, 10"
    ∷ record { cells = 5 ∷ 10 ∷ []; events = single 1 (one (op 4 1 11)) ∷ []; prints = printed (ok (failing 1 1 10) ∷ []) (5 ∷ 10 ∷ []) }
    -- P6 "cell TOP: add 0 gives TOP, add 1 fails"
    ∷ record { cells = TOP ∷ []; events = single 1 (one (op 3 0 0)) ∷ single 2 (one (op 3 0 1)) ∷ []; prints = printed (ok (gave 1 0 (TOP ∷ [])) ∷ ok (failing 2 1 TOP) ∷ []) (TOP ∷ []) }
    -- P7 "3 is answered 19, dependence 1"
    ∷ record { cells = 5 ∷ 10 ∷ []; events = chained; prints = printed chain (19 ∷ 10 ∷ []) }
    -- P8 "then multi 4 (coordinator 2, last, read 0): held. Commit 3: 7. Commit 1: 2 is answered, 3 not again. Commit 3: 4 is answered 19, dependence 0"
    ∷ record {
      cells = 5 ∷ 10 ∷ [];
      events = chained ++ (finishing 4 2 (one (op 1 0 0)) ∷ commit 3 ∷ commit 1 ∷ commit 3 ∷ []);
      prints = printed (chain ++ (quiet ∷ refused 7 ∷ ok (gave 2 0 (18 ∷ [])) ∷ ok (gave 4 0 (19 ∷ [])) ∷ [])) (19 ∷ 10 ∷ []);
    }
    -- P9 "commit of an unfinished front: 13; of a failed one: 14"
    ∷ record {
      cells = 5 ∷ 10 ∷ [];
      events = unfinished 1 1 (one (op 1 0 0)) ∷ commit 1 ∷ finishing 1 1 (one (op 4 1 11)) ∷ commit 1 ∷ [];
      prints = printed (ok (gave 1 0 (5 ∷ [])) ∷ refused 13 ∷ ok (failing 1 1 10) ∷ refused 14 ∷ []) (5 ∷ 10 ∷ []);
    }
    ∷ []

-- By blocking. P1 and P2 print the same, attempts aside: by either scheme the singles are answered once 1 is decided, and by blocking they have not run
-- before. In P7 and P8 nothing depends: 3 runs when 1 has
-- committed, and 4 when 3 has.
abbrev pub blocked : List Case
blocked =
    record { cells = 5 ∷ []; events = opening ++ (commit 1 ∷ []); prints = printed (opened ++ ((0, gave 2 0 (18 ∷ []) ∷ gave 3 0 (19 ∷ []) ∷ []) ∷ [])) (19 ∷ []) }
    ∷ record { cells = 5 ∷ []; events = opening ++ (abort 1 ∷ []); prints = printed (opened ++ ((0, gave 2 0 (6 ∷ []) ∷ gave 3 0 (7 ∷ []) ∷ []) ∷ [])) (7 ∷ []) }
    ∷ record { cells = 5 ∷ 10 ∷ []; events = chained; prints = printed (ok (gave 1 0 (17 ∷ [])) ∷ quiet ∷ quiet ∷ []) (17 ∷ 10 ∷ []) }
    ∷ record {
      cells = 5 ∷ 10 ∷ [];
      events = chained ++ (finishing 4 2 (one (op 1 0 0)) ∷ commit 3 ∷ commit 1 ∷ commit 3 ∷ []);
      prints = printed (ok (gave 1 0 (17 ∷ [])) ∷ quiet ∷ quiet ∷ quiet ∷ refused 7 ∷ (0, gave 2 0 (18 ∷ []) ∷ gave 3 0 (19 ∷ []) ∷ []) ∷ ok (gave 4 0 (19 ∷ [])) ∷ []) (19 ∷ 10 ∷ []);
    }
    ∷ []

-- "A failing operation now gives the number it found" (02, L4), its own transaction's changes included, which are taken back: of the 10 of cell 1
-- it takes 4 and then 7, in one fragment and in two.
abbrev pub found : List Case
found =
    record { cells = 5 ∷ 10 ∷ []; events = single 1 (op 4 1 4 ∷ op 4 1 7 ∷ []) ∷ []; prints = printed (ok (failing 1 2 6) ∷ []) (5 ∷ 10 ∷ []) }
    ∷ record {
      cells = 5 ∷ 10 ∷ [];
      events = unfinished 1 1 (one (op 4 1 4)) ∷ finishing 1 1 (one (op 4 1 7)) ∷ [];
      prints = printed (ok (gave 1 0 (6 ∷ [])) ∷ ok (failing 1 1 6) ∷ []) (5 ∷ 10 ∷ []);
    }
    ∷ []

-- L6: coordinators 1, 2, 2 and 1, so 2, 3 and 4 are held. Commit 1: 2 is the new front and is answered with dependence 0, 3 with dependence 2, though 4
-- behind it has another coordinator; 4 stays held. Commit 2: 3 is not answered again, and 4 is held behind it. Commit 3: 4 is answered.
-- Then coordinators 1, 2 and 2 with a single between: 4 is answered with dependence 2, and the single when 2 has committed.
abbrev pub sooner : List Case
sooner =
    record {
      cells = 5 ∷ 10 ∷ [];
      events = finishing 1 1 (one (op 2 0 17)) ∷ finishing 2 2 (one (op 3 0 1)) ∷ finishing 3 2 (one (op 3 0 1)) ∷ finishing 4 1 (one (op 1 0 0)) ∷ commit 1 ∷ commit 2 ∷ commit 3 ∷ [];
      prints = printed (ok (gave 1 0 (17 ∷ [])) ∷ quiet ∷ quiet ∷ quiet ∷ (0, gave 2 0 (18 ∷ []) ∷ gave 3 2 (19 ∷ []) ∷ []) ∷ quiet ∷ ok (gave 4 0 (19 ∷ [])) ∷ []) (19 ∷ 10 ∷ []);
    }
    ∷ record {
      cells = 5 ∷ 10 ∷ [];
      events = finishing 1 1 (one (op 2 0 17)) ∷ finishing 2 2 (one (op 3 0 1)) ∷ single 3 (one (op 3 0 1)) ∷ finishing 4 2 (one (op 3 0 1)) ∷ commit 1 ∷ commit 2 ∷ [];
      prints = printed (ok (gave 1 0 (17 ∷ [])) ∷ quiet ∷ quiet ∷ quiet ∷ (0, gave 2 0 (18 ∷ []) ∷ gave 4 2 (20 ∷ []) ∷ []) ∷ ok (gave 3 0 (19 ∷ [])) ∷ []) (20 ∷ 10 ∷ []);
    }
    ∷ []

-- L2: "With 1, 3 and 5 chained, an abort of 1 undoes 3 and 5, and a coordinator that later sees 3 commit may believe the old answer of 5." The old one says
-- 20 if 3 commits in its attempt 1, the new one 7 if 3 commits in its attempt 2. Then an abort of 3 too: 5 has its third attempt, and a new 7 its first.
-- A later fragment of the front does not raise its attempt.
abbrev pub attempted : List Case
attempted =
    record {
      cells = 5 ∷ 10 ∷ [];
      events = finishing 1 1 (one (op 2 0 18)) ∷ finishing 3 1 (one (op 3 0 1)) ∷ finishing 5 1 (one (op 3 0 1)) ∷ abort 1 ∷ commit 3 ∷ commit 5 ∷ [];
      prints = printed (ok (gave 1 0 (18 ∷ [])) ∷ ok (gave 3 1 (19 ∷ [])) ∷ ok (gave 5 3 (20 ∷ [])) ∷ (0, retried 3 0 2 0 (6 ∷ []) ∷ retried 5 3 2 2 (7 ∷ []) ∷ []) ∷ quiet ∷ quiet ∷ []) (7 ∷ 10 ∷ []);
    }
    ∷ record {
      cells = 5 ∷ 10 ∷ [];
      events = finishing 1 1 (one (op 2 0 18)) ∷ finishing 3 1 (one (op 3 0 1)) ∷ unfinished 5 1 (one (op 3 0 1)) ∷ abort 1 ∷ abort 3 ∷ finishing 5 1 (one (op 3 0 1)) ∷ finishing 7 1 (one (op 1 0 0)) ∷ [];
      prints = printed (ok (gave 1 0 (18 ∷ [])) ∷ ok (gave 3 1 (19 ∷ [])) ∷ ok (gave 5 3 (20 ∷ [])) ∷ (0, retried 3 0 2 0 (6 ∷ []) ∷ retried 5 3 2 2 (7 ∷ []) ∷ []) ∷ ok (retried 5 0 3 0 (6 ∷ []))
          ∷ ok (retried 5 0 3 0 (7 ∷ [])) ∷ ok (retried 7 5 1 3 (7 ∷ [])) ∷ []) (7 ∷ 10 ∷ []);
    }
    -- 3 and 4 are held behind 2 of another coordinator; its commit sends 3, undone once, and releases 4, which was not
    ∷ record {
      cells = 5 ∷ 10 ∷ [];
      events = finishing 1 1 (one (op 3 0 1)) ∷ finishing 2 1 (one (op 3 0 1)) ∷ finishing 3 2 (one (op 3 0 1)) ∷ abort 1 ∷ finishing 4 2 (one (op 3 0 1)) ∷ commit 2 ∷ [];
      prints = printed (ok (gave 1 0 (6 ∷ [])) ∷ ok (gave 2 1 (7 ∷ [])) ∷ quiet ∷ ok (retried 2 0 2 0 (6 ∷ [])) ∷ quiet ∷ (0, retried 3 0 2 0 (7 ∷ []) ∷ retried 4 3 1 2 (8 ∷ []) ∷ []) ∷ []) (8 ∷ 10 ∷ []);
    }
    ∷ []

-- L10: the abort of 1 after the single 2 arrived, when 2 has run behind 1 and runs again, and before. 2 is answered 6 in both, in its attempts 2 and 1.
abbrev pub slowly : Case
slowly = record {
  cells = 5 ∷ 10 ∷ [];
  events = finishing 1 1 (one (op 2 0 17)) ∷ single 2 (one (op 3 0 1)) ∷ abort 1 ∷ [];
  prints = printed (ok (gave 1 0 (17 ∷ [])) ∷ quiet ∷ ok (retried 2 0 2 0 (6 ∷ [])) ∷ []) (6 ∷ 10 ∷ []);
}

abbrev pub swiftly : Case
swiftly = record {
  cells = 5 ∷ 10 ∷ [];
  events = finishing 1 1 (one (op 2 0 17)) ∷ abort 1 ∷ single 2 (one (op 3 0 1)) ∷ [];
  prints = printed (ok (gave 1 0 (17 ∷ [])) ∷ quiet ∷ ok (gave 2 0 (6 ∷ [])) ∷ []) (6 ∷ 10 ∷ []);
}
