-- Document 01, "Cells and operations": the table of codes, one operation, a fragment run by itself.
use Rattle.std.specs.Prelude.{ℕ, suc, ◌+◌, ◌-◌, ◌/◌, ◌%◌, Bool, true, false, ◌&&◌, List, [], ◌∷◌, ◌++◌, Result, Ok, Err, leb, ltb, eqb, set, get_or, take}
use Rattle.model.specs.Limits.{TOP}
use Rattle.model.specs.declared.Op.{Op}
use Rattle.model.specs.declared.Fragment.{Fragment}

-- "A partition is 1 to 4,096 cells, numbered from 0"
abbrev pub Cells : Type 0
Cells = List ℕ

abbrev pub pick : {A : Type 0} → Bool → A → A → A
pick true a b = a
pick false a b = b

-- What one operation does: "Each operation that does not fail gives one number: the cell's content after it." By 02, L4: "A failing operation
-- now gives the number it found".
abbrev pub Did : Type 0
Did = Result ℕ ℕ

-- "One table of codes says for each whether v is used, whether it may write and whether it may fail": a row for each column, a place for
-- each code from 0, which is no code, over 1 read, 2 set, 3 add, 4 take, 5 need, 6 match and 7 raise to 8 lower.
abbrev pub uses_row : List Bool
uses_row = false ∷ false ∷ true ∷ true ∷ true ∷ true ∷ true ∷ true ∷ true ∷ []

abbrev pub writes_row : List Bool
writes_row = false ∷ false ∷ true ∷ true ∷ true ∷ false ∷ false ∷ true ∷ true ∷ []

abbrev pub fails_row : List Bool
fails_row = false ∷ false ∷ false ∷ true ∷ true ∷ true ∷ true ∷ false ∷ false ∷ []

-- column "code"
abbrev pub known : ℕ → Bool
known code = leb 1 code && leb code 8

-- column "v used"
unfoldable pub uses : ℕ → Bool
uses code = get_or uses_row code false

-- column "writes"
unfoldable pub writes : ℕ → Bool
writes code = get_or writes_row code false

-- column "may fail"
unfoldable pub may_fail : ℕ → Bool
may_fail code = get_or fails_row code false

-- column "meaning", with when it fails: what a code makes of content x and amount v. What is no code fails. "A failing operation now gives
-- the number it found" (02, L4): x.
unfoldable pub meaning : ℕ → ℕ → ℕ → Did
meaning code x v =
    -- read: nothing
    pick (eqb code 1) (Ok x)
    -- set: "cell becomes v"
    (pick (eqb code 2) (Ok v)
    -- add: "cell + v", "if above TOP"
    (pick (eqb code 3) (pick (ltb TOP (x + v)) (Err x) (Ok (x + v)))
    -- take: "cell − v", "if cell < v"
    (pick (eqb code 4) (pick (ltb x v) (Err x) (Ok (x - v)))
    -- need: nothing, "if cell < v"
    (pick (eqb code 5) (pick (ltb x v) (Err x) (Ok x))
    -- match: nothing, "if cell ≠ v"
    (pick (eqb code 6) (pick (eqb x v) (Ok x) (Err x))
    -- raise: "larger of cell and v"
    (pick (eqb code 7) (pick (ltb x v) (Ok v) (Ok x))
    -- lower: "smaller of cell and v"
    (pick (eqb code 8) (pick (ltb v x) (Ok v) (Ok x)) (Err x))))))))

abbrev pub content : Op → Cells → ℕ
content o cs = get_or cs o.cell 0

abbrev pub operate : Op → Cells → Did
operate o cs = meaning o.code (content o cs) o.amount

-- the cells after an operation that gave y; "A failing operation writes nothing"
abbrev pub put : Op → ℕ → Cells → Cells
put o y cs = elim (writes o.code) [ true ↦ set cs o.cell y | false ↦ cs ]

-- "flags (1 multi + 2 last)"
unfoldable pub multi : Fragment → Bool
multi f = eqb (f.flags % 2) 1

unfoldable pub last : Fragment → Bool
last f = eqb (f.flags / 2 % 2) 1

-- "a fixed row of eight with a count"
unfoldable pub operations : Fragment → List Op
operations f = take f.count f.row

-- What an answer tells: "place of failure (0 for none)" and the numbers. A failed run has a place and one number; a sound record may
-- hold any.
pub record Outcome : Type 0 where
  pub place : ℕ
  pub numbers : List ℕ

-- What each case of an operation's answer tells at place p: "gives one number", or, failing, "the place 1 to 8 of the failing operation" with
-- what 02, L4, says where 01 has "no numbers": "A failing operation now gives the number it found; the failed answer has count 1 and that number."
abbrev pub tells : ℕ → Did → Outcome
tells p (Ok y) = record { place = 0; numbers = y ∷ [] }
tells p (Err x) = record { place = p; numbers = x ∷ [] }

-- A fragment by itself: to its end, with the cells and "one number" for each operation, or to a failing one, with its "place 1 to 8" and "the
-- number it found".
pub data Trial : Type 0 where
  Done : Cells → List ℕ → Trial
  Broke : ℕ → ℕ → Trial

-- "operations, run in order": p is the place of the next one, ns the numbers so far
unfoldable pub trial_from : ℕ → List Op → Cells → List ℕ → Trial
trial_from p [] cs ns = Done cs ns
trial_from p (o ∷ os) cs ns =
    elim (operate o cs) [ Ok y ↦ trial_from (suc p) os (put o y cs) (ns ++ (y ∷ [])) | Err x ↦ Broke p x ]

abbrev pub trial : Fragment → Cells → Trial
trial f cs = trial_from 1 (operations f) cs []

-- "The one-at-a-time run says so too." (02, L4): at a failing operation it tells what `tells` says
abbrev pub told : Trial → Outcome
told (Done cs ns) = record { place = 0; numbers = ns }
told (Broke p x) = tells p (Err x)
