-- The record in memory is its counts and its three rows in memory, side by side, and back at any counts and rows: so that the rows are lent to a callee at once.
--     Live l, Runs l, Undo l, Head c     the parts of a record d that lies at (b, o)
--     apart        the record's cell, with what it owns, gives the parts and the way back
--     together     the parts at any record d, with the way back, give the cell of d
-- Assumes `Logic`.
use mathlib.Core.Path.{◌≡◌, refl, subst}
use Prim.Native.Nat.{ℕ, ◌+◌, ◌*◌}
use mathlib.Core.List.{List, [], ◌∷◌}
use seplogic.Ra.Ura.{Ura}
use base.Fraction.{full_share}
use mir.Syntax.{w32, ty_int, ty_array}
use mir.Val.{Val}
use base.Logic.{SProp, ent, sep, ex, wand, id⊢, wand_e, all_e}
use base.Fml.{Fml, fsep}
use types.Logic.{Logic, sem}
use types.Kit.{Item, ⋆, ‵, raw, some, ◌⊛◌, ◌$◌, ◌∵◌, !, qed, move, drop, use1, use2, split, fsplit, fjoin, fpack, frame, done}
use denote.RattleType.{Denots}
use denote.Memory.{cell_at, part_at, part_of}
use denote.Builtin.{u32}
use denote.Array.{Array}
use denote.Steps.{nothing}
use denote.Struct.Laws as LL
use denote.Struct.Struct.{Struct}
use denote.Struct.Members.{Member, rows_of, parts_at}
use denote.Struct.Parts.{shape_of, PartsBack, Struct-parts}
use Rattle.record.specs.declared.Counts.{Counts}
use Rattle.record.specs.declared.Record.{Record}
use Rattle.record.specs.contracts.Counts as N
use Rattle.record.proofs.Counts.TheLaws as N'
use Rattle.record.specs.Widths.{live_length, runs_length, undo_length}
use Rattle.record.specs.contracts.Record as T
use Rattle.record.proofs.Record.TheLaws as T'

-- where the rows stand in the record, in bytes behind its start: four bytes a word, behind four counts
abbrev pub live_at : ℕ
live_at = 4 * 4

abbrev pub runs_at : ℕ
runs_at = live_at + 4 * live_length

abbrev pub undo_at : ℕ
undo_at = runs_at + 4 * runs_length

abbrev counts : Member
counts = record { row = (N.the_field).row; ty = N'.mir }

abbrev words : ℕ → Member
words n = record { row = Array u32 n; ty = ty_array (ty_int w32) n }

abbrev members : List Member
members = counts ∷ words live_length ∷ words runs_length ∷ words undo_length ∷ []

abbrev plain : Record → Denots (rows_of members)
plain d = ((N.the_type).to d.counts, (d.live, (d.runs, (d.undo, tt))))

to_plain : (d : Record) → (T.the_type).to d ≡ plain d
to_plain d = refl

module _ (b o : ℕ) where
  abbrev pub Live : List ℕ → Fml
  Live l = part_at (Array u32 live_length) full_share l b (o + live_at)

  abbrev pub Runs : List ℕ → Fml
  Runs l = part_at (Array u32 runs_length) full_share l b (o + runs_at)

  abbrev pub Undo : List ℕ → Fml
  Undo l = part_at (Array u32 undo_length) full_share l b (o + undo_at)

  abbrev pub Head : Counts → Fml
  Head c = part_at (N.the_field).row full_share ((N.the_type).to c) b (o + 0)

  module _ {M : Type 1} {𝓤 : Ura M} (𝓛 : Logic 𝓤) where
    abbrev pub Back : SProp 𝓤
    Back = PartsBack 𝓛 full_share (T.the_type).name members b o

    abbrev pub Parts : Record → List (Item 𝓤)
    Parts d = ‵ (Live d.live) ∷ ‵ (Runs d.runs) ∷ ‵ (Undo d.undo) ∷ ‵ (Head d.counts) ∷ raw Back ∷ []

    -- side by side, as the layout has them
    sides : (d : Record) → ent 𝓤 (sem 𝓛 (part_at T.the_row full_share d b o)) (sep 𝓤 (sem 𝓛 (parts_at full_share members 0 (plain d) b o)) Back)
    unfolding part_of
    sides d = subst (λ (a : Denots (rows_of members)). ent 𝓤 (sem 𝓛 (part_at (Struct (shape_of (T.the_type).name members)) full_share ((T.the_type).to d) b o)) (sep 𝓤 (sem 𝓛 (parts_at full_share members 0 a b o)) Back)) (to_plain d)
        (Struct-parts 𝓛 full_share (T.the_type).name members (LL.lawfuls 𝓛 (T.the_type).parts T'.the_laws) ((T.the_type).to d) b o)

    whole : (d : Record) → ent 𝓤 (sep 𝓤 Back (sem 𝓛 (parts_at full_share members 0 (plain d) b o))) (sem 𝓛 (part_at T.the_row full_share d b o))
    unfolding part_of
    whole d =
        wand_e 𝓤 Back (sem 𝓛 (parts_at full_share members 0 (plain d) b o)) (sem 𝓛 (part_at T.the_row full_share d b o))
        (subst (λ (a : Denots (rows_of members)). ent 𝓤 Back (wand 𝓤 (sem 𝓛 (parts_at full_share members 0 a b o)) (sem 𝓛 (part_at T.the_row full_share d b o)))) (to_plain d)
        (all_e 𝓤 (λ (a : Denots (rows_of members)). wand 𝓤 (sem 𝓛 (parts_at full_share members 0 a b o)) (sem 𝓛 (part_at (Struct (shape_of (T.the_type).name members)) full_share a b o))) ((T.the_type).to d)))

    packs : (d : Record) (vs : List Val) → ent 𝓤 (sep 𝓤 (sem 𝓛 (cell_at full_share (T.the_row).mir vs b o)) (sem 𝓛 ((T.the_row).own_val d vs))) (sem 𝓛 (part_at T.the_row full_share d b o))
    unfolding part_of
    packs d vs = qed 𝓛 (‵ (cell_at full_share (T.the_row).mir vs b o) ∷ ‵ ((T.the_row).own_val d vs) ∷ []) ∵ fjoin ! $ fpack ! (List Val) (λ us. fsep (cell_at full_share (T.the_row).mir us b o) ((T.the_row).own_val d us)) vs $ done !

    opens : (d : Record) → ent 𝓤 (sem 𝓛 (part_at T.the_row full_share d b o)) (ex 𝓤 (λ (vs : List Val). sep 𝓤 (sem 𝓛 (cell_at full_share (T.the_row).mir vs b o)) (sem 𝓛 ((T.the_row).own_val d vs))))
    unfolding part_of
    opens d = id⊢ 𝓤 _

    pub apart : (d : Record) (vs : List Val) → ent 𝓤 (⋆ 𝓛 (‵ (cell_at full_share (T.the_row).mir vs b o) ∷ ‵ ((T.the_row).own_val d vs) ∷ [])) (⋆ 𝓛 (Parts d))
    apart d vs =
        qed 𝓛 (‵ (cell_at full_share (T.the_row).mir vs b o) ∷ ‵ ((T.the_row).own_val d vs) ∷ []) ∵ use2 𝓛 (‵ (part_at T.the_row full_share d b o)) (packs d vs) $
        use1 𝓛 (‵ (parts_at full_share members 0 (plain d) b o) ⊛ raw Back) (sides d) $ split ! $
        fsplit ! $ move ! (1 ∷ []) $ fsplit ! $ move ! (1 ∷ []) $ fsplit ! $ move ! (1 ∷ []) $ fsplit ! $
        -- [undo; true; runs; live; the counts; the way back]
        move ! (1 ∷ []) $ drop ! $ move ! (2 ∷ 1 ∷ 0 ∷ []) $ frame ! $ frame ! $ frame ! $ frame ! $ done !

    pub together : (d : Record) → ent 𝓤 (⋆ 𝓛 (Parts d)) (ex 𝓤 (λ (vs : List Val). sep 𝓤 (sem 𝓛 (cell_at full_share (T.the_row).mir vs b o)) (sem 𝓛 ((T.the_row).own_val d vs))))
    together d =
        qed 𝓛 (Parts d) ∵
        -- [live; runs; undo; the counts; the way back]
        nothing ! $ move ! (3 ∷ 0 ∷ []) $ fjoin ! $ move ! (2 ∷ 0 ∷ []) $ fjoin ! $ move ! (1 ∷ 0 ∷ []) $ fjoin ! $ move ! (1 ∷ 0 ∷ []) $ fjoin ! $
        move ! (1 ∷ 0 ∷ []) $ use2 𝓛 (‵ (part_at T.the_row full_share d b o)) (whole d) $ use1 𝓛 (some (λ (vs : List Val). ‵ (cell_at full_share (T.the_row).mir vs b o) ⊛ ‵ ((T.the_row).own_val d vs))) (opens d) $ done !
