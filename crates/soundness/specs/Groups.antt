-- Refusal 1 as one walk after the other asks it of a record's words, grouped by row. A read past a row's end gives 0.
use Rattle.std.specs.Prelude.{ℕ, zero, suc, ◌+◌, ◌*◌, Bool, true, ◌&&◌, ◌||◌, List, [], ◌∷◌, map, leb, ltb, eqb, get_or}
use Rattle.model.specs.Limits.{most_live}
use Rattle.model.specs.Refusals.{every, storable, formed_op}
use Rattle.model.specs.declared.Op.{Op}
use Rattle.model.specs.declared.Undo.{Undo}
use Rattle.operations.specs.Laid.{entries_of}
use Rattle.record.specs.Walk.{walk, places}
use Rattle.record.specs.View.{op_at, fragment_at, attempt_at, multi_at, entries_from}
use Rattle.record.specs.Widths.{op_width, live_width, run_width}

abbrev pub is_zero : ℕ → Bool
is_zero n = eqb n 0

-- n operations, the first of which starts at b
unfoldable pub ops_from : List ℕ → ℕ → ℕ → List Op
ops_from l b n = map (op_at l) (places b op_width n)

-- an operation that 4 and 5 would not refuse
abbrev pub storable_op : ℕ → Op → Bool
storable_op cells o = formed_op o && ltb o.cell cells

-- an attempt of one that so many are ahead of (02, L2)
abbrev pub attempt_ok : ℕ → ℕ → Bool
attempt_ok attempt ahead = leb 1 attempt && leb (attempt + ahead) most_live

-- the live row that starts at b: its number above the last one, its attempt one that so many ahead allow, its fragment storable
unfoldable pub row_ok : ℕ → List ℕ → ℕ → ℕ → ℕ → Bool
row_ok cells live b low ahead = ltb low (get_or live b 0) && attempt_ok (attempt_at live b) ahead && storable cells (fragment_at live b)

-- the live rows at these places, behind the number `low` and so many transactions
abbrev pub live_at : ℕ → ℕ → List ℕ → List ℕ → ℕ → ℕ → Bool
live_at largest cells live [] low ahead = leb low largest
live_at largest cells live (b ∷ bs) low ahead = row_ok cells live b low ahead && live_at largest cells live bs (get_or live b 0) (1 + ahead)

-- n live rows, the first of which starts at b
unfoldable pub live_from : ℕ → ℕ → List ℕ → ℕ → ℕ → ℕ → ℕ → Bool
live_from largest cells live b n low ahead = live_at largest cells live (places b live_width n) low ahead

-- the run that starts at c: its reply
unfoldable pub reply_ok : List ℕ → ℕ → Bool
reply_ok runs c = eqb (get_or runs (c + 2) 0) 0 || eqb (get_or runs (c + 2) 0) 1 && leb (get_or runs (c + 4) 0) 8 && leb (get_or runs (c + 5) 0) 8

-- and all of it, with at most `most` fragments run
unfoldable pub run_ok : ℕ → List ℕ → ℕ → Bool
run_ok most runs c =
    leb 1 (get_or runs c 0) && leb (get_or runs c 0) most && leb (get_or runs (c + 1) 0) 2 && leb (get_or runs (c + 3) 0) (8 * get_or runs c 0) && reply_ok runs c

-- the front: a multi whose answer was sent
unfoldable pub front_ok : List ℕ → List ℕ → Bool
front_ok live runs = multi_at live 0 && eqb (get_or runs 2 0) 0 && run_ok 8 runs 0

-- one behind the front, whose row starts at b and whose run at c: a single's answer is held
unfoldable pub next_ok : List ℕ → ℕ → List ℕ → ℕ → Bool
next_ok live b runs c = run_ok 1 runs c && (multi_at live b || eqb (get_or runs (c + 2) 0) 1)

-- the one behind the one whose row starts at b and whose run at c, and that this one is finished
abbrev pub follows_ok : List ℕ → ℕ → List ℕ → ℕ → Bool
follows_ok live b runs c = leb 1 (get_or runs (c + 1) 0) && next_ok live (b + live_width) runs (c + run_width)

-- a row and a run, and the next ones
abbrev pub next_pair : ℕ × ℕ → ℕ × ℕ
next_pair s = (s.0 + live_width, s.1 + run_width)

-- n ones behind the one whose row starts at b and whose run at c, each behind a finished one
unfoldable pub behind_from : List ℕ → ℕ → List ℕ → ℕ → ℕ → Bool
behind_from live b runs c n = every (λ (s : ℕ × ℕ). follows_ok live s.0 runs s.1) (walk next_pair (b, c) n)

-- n uncommitted ones
unfoldable pub members_ok : List ℕ → List ℕ → ℕ → Bool
members_ok live runs zero = true
members_ok live runs (suc n) = front_ok live runs && behind_from live 0 runs 0 n

abbrev pub cell_under : ℕ → Undo → Bool
cell_under cells x = ltb x.cell cells

-- n undo entries, the first of which starts at b
unfoldable pub undo_ok : ℕ → List ℕ → ℕ → ℕ → Bool
undo_ok cells undo b n = every (cell_under cells) (entries_of undo b n)

-- the whole record
unfoldable pub groups : ℕ → ℕ → ℕ → ℕ → List ℕ → List ℕ → List ℕ → Bool
groups count largest uncommitted waiting live runs undo =
    leb count 4096 && leb uncommitted 16 && leb (uncommitted + waiting) 64
    && live_from largest count live 0 (uncommitted + waiting) 0 0
    && members_ok live runs uncommitted
    && undo_ok count undo 0 (entries_from runs 0 uncommitted)
