-- How a run's lists stand in rows of numbers, unused places zero; what one operation leaves.
use Rattle.std.specs.Prelude.{ℕ, zero, suc, ◌+◌, ◌*◌, ◌-◌, true, false, List, [], ◌∷◌, ◌++◌, Ok, Err, length, get_or, set, replicate}
use Rattle.model.specs.Operations.{Cells, content, operate, put, writes}
use Rattle.model.specs.Steps as Steps
use Rattle.model.specs.declared.Op.{Op}
use Rattle.model.specs.declared.Undo.{Undo}
use Rattle.operations.specs.declared.Operated.{Operated}
use Rattle.operations.specs.declared.Ran.{Ran}
use Rattle.operations.specs.declared.Told.{Told}

-- what an operation did, and the content that it found
unfoldable pub operated : Op → Cells → Operated
operated o cs = record { did = operate o cs; old = content o cs }

-- the cells after it
unfoldable pub afterwards : Op → Cells → Cells
afterwards o cs = elim (operate o cs) [ Ok y ↦ put o y cs | Err x ↦ cs ]

-- the undo entry that stands in l at place b: a cell and its old number
abbrev pub entry_at : List ℕ → ℕ → Undo
entry_at l b = record { cell = get_or l b 0; old = get_or l (b + 1) 0 }

-- n of them, from place b on
unfoldable pub entries_of : List ℕ → ℕ → ℕ → List Undo
entries_of l b zero = []
entries_of l b (suc n) = entry_at l b ∷ entries_of l (b + 2) n

-- entries as numbers
abbrev pub flat : List Undo → List ℕ
flat [] = []
flat (u ∷ us) = u.cell ∷ u.old ∷ flat us

-- a list at the start of a row of n places, the rest zero
unfoldable pub padded : ℕ → List ℕ → List ℕ
padded n l = l ++ replicate (n - length l) 0

-- one more entry behind k of them, if the operation writes
unfoldable pub note_count : Op → ℕ → ℕ
note_count o k = elim (writes o.code) [ true ↦ k + 1 | false ↦ k ]

unfoldable pub note_row : Op → ℕ → ℕ → List ℕ → List ℕ
note_row o old k row = elim (writes o.code) [ true ↦ set (set row (2 * k) o.cell) (2 * k + 1) old | false ↦ row ]

-- what a run tells, in a row: its entries are left out
unfoldable pub told : Steps.Ran → Told
told r = record { place = r.outcome.place; count = length r.outcome.numbers; numbers = padded 8 r.outcome.numbers }

-- a fragment's run, in rows
unfoldable pub laid : Steps.Ran → Ran
laid r = record { told = told r; entries = length r.undo; undo = padded 16 (flat r.undo) }
