-- Any two outcomes that the contracts of this crate's public functions allow are equal: what each returns and leaves in what was lent to it.
use mathlib.Core.Path.{◌≡◌, refl, sym, ◌∙◌}
use denote.RattleType.{RattleType}
use denote.Param.Laws.{Laws, IsCopy}
use mir.Syntax.{Dict}
use Rattle.std.specs.declared.clone.Clone as Clone
use Rattle.model.proofs.Unique.{Unique}
use Rattle.operations.proofs.code.Code.columns.Kinds as columns-kinds
use Rattle.operations.proofs.code.Code.columns.Reads as columns
use Rattle.operations.proofs.code.Code.apply.Kinds as code-apply-kinds
use Rattle.operations.proofs.code.Code.apply.Reads as code-apply
use Rattle.operations.proofs.code.CodeTryFromU32.try_from.Kinds as code-try-from-kinds
use Rattle.operations.proofs.code.CodeTryFromU32.try_from.Reads as code-try-from
use Rattle.operations.proofs.Codes.{decodes_one}
use Rattle.operations.proofs.is_known.Kinds as is-known-kinds
use Rattle.operations.proofs.is_known.Reads as is_known
use Rattle.operations.proofs.uses_amount.Kinds as uses-amount-kinds
use Rattle.operations.proofs.uses_amount.Reads as uses-amount
use Rattle.operations.proofs.may_write.Kinds as may-write-kinds
use Rattle.operations.proofs.may_write.Reads as may_write
use Rattle.operations.proofs.may_fail.Kinds as may-fail-kinds
use Rattle.operations.proofs.may_fail.Reads as may_fail
use Rattle.operations.proofs.apply.Kinds as apply-kinds
use Rattle.operations.proofs.apply.Reads as apply
use Rattle.operations.proofs.number_at.Kinds as number-at-kinds
use Rattle.operations.proofs.number_at.Reads as number_at
use Rattle.operations.proofs.put_at.Kinds as put-at-kinds
use Rattle.operations.proofs.put_at.Reads as put-at
use Rattle.operations.proofs.operate_on.Kinds as operate-on-kinds
use Rattle.operations.proofs.operate_on.Reads as operate-on
use Rattle.operations.proofs.undo.Kinds as undo-kinds
use Rattle.operations.proofs.undo.Reads as undo
use Rattle.operations.proofs.run_fragment.Kinds as run-fragment-kinds
use Rattle.operations.proofs.run_fragment.Reads as run-fragment
use Rattle.operations.proofs.continue_fragment.Kinds as continue-fragment-kinds
use Rattle.operations.proofs.continue_fragment.Reads as continue-fragment
use Rattle.operations.proofs.run_words.Kinds as run-words-kinds
use Rattle.operations.proofs.run_words.Reads as run-words
use Rattle.operations.proofs.is_multi.Kinds as is-multi-kinds
use Rattle.operations.proofs.is_multi.Reads as is_multi
use Rattle.operations.proofs.is_last.Kinds as is-last-kinds
use Rattle.operations.proofs.is_last.Reads as is_last
use Rattle.operations.proofs.is_formed_op.Kinds as is-formed-op-kinds
use Rattle.operations.proofs.is_formed_op.Reads as is-formed-op
use Rattle.operations.proofs.is_blank_op.Kinds as is-blank-op-kinds
use Rattle.operations.proofs.is_blank_op.Reads as is-blank-op
use Rattle.operations.proofs.is_formed_kind.Kinds as is-formed-kind-kinds
use Rattle.operations.proofs.is_formed_kind.Reads as is-formed-kind
use Rattle.operations.proofs.is_formed.Kinds as is-formed-kinds
use Rattle.operations.proofs.is_formed.Reads as is-formed

pub columns_unique : Unique columns-kinds.ps columns-kinds.r columns.Learnt
columns_unique κs a z z' ws ws' p q = (λ i. record { uses_amount = (p.0 ∙ sym q.0) i; may_write = (p.1.0 ∙ sym q.1.0) i; may_fail = (p.1.1 ∙ sym q.1.1) i }, refl)

pub code_apply_unique : Unique code-apply-kinds.ps code-apply-kinds.r code-apply.Learnt
code_apply_unique κs a z z' ws ws' p q = (cc, refl)

pub code_try_from_unique : Unique code-try-from-kinds.ps code-try-from-kinds.r code-try-from.Learnt
code_try_from_unique κs a z z' ws ws' p q = (decodes_one _ z z' p q, refl)

pub is_known_unique : Unique is-known-kinds.ps is-known-kinds.r is_known.Learnt
is_known_unique κs a z z' ws ws' p q = (cc, refl)

pub uses_amount_unique : Unique uses-amount-kinds.ps uses-amount-kinds.r uses-amount.Learnt
uses_amount_unique κs a z z' ws ws' p q = (cc, refl)

pub may_write_unique : Unique may-write-kinds.ps may-write-kinds.r may_write.Learnt
may_write_unique κs a z z' ws ws' p q = (cc, refl)

pub may_fail_unique : Unique may-fail-kinds.ps may-fail-kinds.r may_fail.Learnt
may_fail_unique κs a z z' ws ws' p q = (cc, refl)

pub apply_unique : Unique apply-kinds.ps apply-kinds.r apply.Learnt
apply_unique κs a z z' ws ws' p q = (cc, refl)

pub number_at_unique : Unique number-at-kinds.ps number-at-kinds.r number_at.Learnt
number_at_unique κs a z z' ws ws' p q = (cc, refl)

pub put_at_unique : (T : RattleType) (laws : Laws T) (copy : IsCopy T) (clone : Clone.Ghosts T.Denot) (d : Dict) → Unique (put-at-kinds.ps T laws copy) (put-at-kinds.r T laws copy) (put-at.Learnt T laws copy clone d)
put_at_unique T laws copy clone d κs a z z' ws ws' p q =
    let b : ws.0 ≡ ws'.0 = cc in
    (refl, λ j. (b j, ws.1))

pub operate_on_unique : Unique operate-on-kinds.ps operate-on-kinds.r operate-on.Learnt
operate_on_unique κs a z z' ws ws' p q =
    let b : ws.0 ≡ ws'.0 = cc in
    (cc, λ j. (b j, ws.1))

pub undo_unique : Unique undo-kinds.ps undo-kinds.r undo.Learnt
undo_unique κs a z z' ws ws' p q =
    let b : ws.0 ≡ ws'.0 = cc in
    (refl, λ j. (b j, ws.1))

pub run_fragment_unique : Unique run-fragment-kinds.ps run-fragment-kinds.r run-fragment.Learnt
run_fragment_unique κs a z z' ws ws' p q =
    let b : ws.0 ≡ ws'.0 = cc in
    (cc, λ j. (b j, ws.1))

pub continue_fragment_unique : Unique continue-fragment-kinds.ps continue-fragment-kinds.r continue-fragment.Learnt
continue_fragment_unique κs a z z' ws ws' p q =
    let b : ws.0 ≡ ws'.0 = cc in
    (cc, λ j. (b j, ws.1))

pub run_words_unique : Unique run-words-kinds.ps run-words-kinds.r run-words.Learnt
run_words_unique κs a z z' ws ws' p q =
    let b : ws.0 ≡ ws'.0 = cc in
    (cc, λ j. (b j, ws.1))

pub is_multi_unique : Unique is-multi-kinds.ps is-multi-kinds.r is_multi.Learnt
is_multi_unique κs a z z' ws ws' p q = (cc, refl)

pub is_last_unique : Unique is-last-kinds.ps is-last-kinds.r is_last.Learnt
is_last_unique κs a z z' ws ws' p q = (cc, refl)

pub is_formed_op_unique : Unique is-formed-op-kinds.ps is-formed-op-kinds.r is-formed-op.Learnt
is_formed_op_unique κs a z z' ws ws' p q = (cc, refl)

pub is_blank_op_unique : Unique is-blank-op-kinds.ps is-blank-op-kinds.r is-blank-op.Learnt
is_blank_op_unique κs a z z' ws ws' p q = (cc, refl)

pub is_formed_kind_unique : Unique is-formed-kind-kinds.ps is-formed-kind-kinds.r is-formed-kind.Learnt
is_formed_kind_unique κs a z z' ws ws' p q = (cc, refl)

pub is_formed_unique : Unique is-formed-kinds.ps is-formed-kinds.r is-formed.Learnt
is_formed_unique κs a z z' ws ws' p q = (cc, refl)
