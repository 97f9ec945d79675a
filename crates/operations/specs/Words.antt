-- What words mean that stand in a row of numbers: an operation, a fragment. A read past the row's end gives 0.
use Rattle.std.specs.Prelude.{ℕ, ◌+◌, Bool, List, [], ◌∷◌, get_or}
use Rattle.model.specs.Refusals.{formed_kind}
use Rattle.model.specs.declared.Op.{Op}
use Rattle.model.specs.declared.Fragment.{Fragment}

-- the operation whose words start at b
abbrev pub op_at : List ℕ → ℕ → Op
op_at l b = record { code = get_or l b 0; cell = get_or l (b + 1) 0; amount = get_or l (b + 2) 0 }

-- the fragment of the transaction whose words start at b
unfoldable pub fragment_at : List ℕ → ℕ → Fragment
fragment_at l b = record {
  flags = get_or l (b + 1) 0;
  coordinator = get_or l (b + 2) 0;
  count = get_or l (b + 3) 0;
  row = op_at l (b + 4) ∷ op_at l (b + 7) ∷ op_at l (b + 10) ∷ op_at l (b + 13) ∷ op_at l (b + 16) ∷ op_at l (b + 19) ∷ op_at l (b + 22) ∷ op_at l (b + 25) ∷ [];
}

-- the kind of a fragment asked of its two words, flags and coordinator
abbrev pub formed_kind_of : ℕ → ℕ → Bool
formed_kind_of flags coordinator = formed_kind (record { flags = flags; coordinator = coordinator; count = 0; row = [] })
