-- The event that words stand for, its kind and its eight places; and the words that stand for an event, read back.
use Prim.Native.Nat.{ℕ}
use mathlib.Core.Bool.{Bool}
use mathlib.Core.Path.{◌≡◌, refl, ap, sym, ◌∙◌}
use mathlib.Core.List.{List, [], ◌∷◌, ◌++◌}
use lib.Dec.{eqb}
use lib.ListN.{length, get_or}
use Rattle.std.specs.List.{copy_within}
use Rattle.std.specs.Prelude.{slice_set}
use Rattle.model.specs.Limits.{event_words}
use Rattle.model.specs.Operations.{pick}
use Rattle.model.specs.declared.Op.{Op}
use Rattle.model.specs.declared.Event.{Event}
use Rattle.model.specs.declared.Fragment.{Fragment}
use Rattle.operations.proofs.Turns.{no_op}
use Rattle.record.specs.Widths.{ops_end}
use Rattle.record.specs.Words.{ops_words, row_words}
use Rattle.record.specs.View.{fragment_at}
use Rattle.record.specs.Events.{event_of, words_of}
use Rattle.record.proofs.Rows.{eight}

pub kind_by : (b : Bool) (l : List ℕ) → eqb (length l) event_words ≡ b → pick b (get_or l 0 0) 0 ≡ (event_of l).kind
unfolding event_of
kind_by b l t = ap (λ (c : Bool). pick c (get_or l 0 0) 0) (sym t)

-- whatever the words are, its row has eight places
pub event_eight : (l : List ℕ) → length (event_of l).fragment.row ≡ 8
unfolding event_of fragment_at
event_eight l = refl

-- the words of an event whose row has eight places: laid behind its kind, and read back
module _ (v : Event) (h : length v.fragment.row ≡ 8) where
  abbrev f : Fragment
  f = v.fragment

  abbrev words : List Op → List ℕ
  words os = v.kind ∷ v.number ∷ f.flags ∷ f.coordinator ∷ f.count ∷ ops_words os

  pub event_laid : slice_set (copy_within (row_words v.number 0 f) 0 ops_end 1) 0 v.kind ≡ words_of v
  unfolding row_words words_of
  event_laid =
      ap (λ (os : List Op). slice_set (copy_within (v.number ∷ f.flags ∷ f.coordinator ∷ f.count ∷ ops_words os ++ (0 ∷ [])) 0 ops_end 1) 0 v.kind) (sym (eight no_op f.row h))
      ∙ ap {B = List ℕ} words (eight no_op f.row h)

  pub event_back : event_of (words_of v) ≡ v
  unfolding event_of words_of fragment_at
  event_back =
      ap (λ (os : List Op). event_of (words os)) (sym (eight no_op f.row h))
      ∙ (λ i. record { kind = v.kind; number = v.number; fragment = record { flags = f.flags; coordinator = f.coordinator; count = f.count; row = eight no_op f.row h i } })
