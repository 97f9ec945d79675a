-- "Any two outcomes allowed by it are proved equal": what that says of a function's contract, and how it is shown.
use Prim.Native.Nat.{ℕ}
use mathlib.Core.Path.{◌≡◌, refl, sym, ◌∙◌}
use mathlib.Core.List.{List}
use seplogic.Ra.Ura.{Ura}
use base.Logic.{ent}
use contract.Lifetimes.{Lfts}
use contract.Conj.{conj, conj_l, conj_r}
use contract.Monad.{fact, fact_i, fact_use}
use denote.Triple.Entry.{Args, Res}
use denote.Triple.Clauses.{Ended, Clauses, Lasts, at_exit}
use Rattle.model.proofs.KindTryFromU32.try_from.Kinds as kind-try-from-kinds
use Rattle.model.proofs.KindTryFromU32.try_from.Reads as kind-try-from
use borrow.Fn.Kinds.{ParamKind, ResultKind, Dens, res_t, ended_of, Out}

-- `Learnt` is the contract itself, as the checker hands it to whoever calls the function (each function's Reads has its own; its Kinds
-- are those of its parameters and of its result). Whatever the
-- arguments are: any two results z, with any two last contents ws of what was lent to be changed, are equal if the contract lets a caller learn
-- it of both. A contract that says less makes this another statement, which is false.
abbrev pub Unique : {n : ℕ} (ps : List (ParamKind n)) (r : ResultKind n) → Out n ps r → Type 0
Unique {n} ps r Learnt =
    (κs : Lfts n) (a : Dens κs ps) (z z' : (res_t r κs).Denot) (ws ws' : Lasts (ended_of n ps r) κs a)
    → Learnt κs a z (at_exit (ended_of n ps r) κs a ws) → Learnt κs a z' (at_exit (ended_of n ps r) κs a ws') → (z ≡ z') × (ws ≡ ws')

-- The same of a function over a struct that is lent, for which the checker makes no `Learnt`: where the clauses of the contract hold of two
-- outcomes, it is a fact that they are equal.
module _ {M : Type 1} (𝓤 : Ura M) (T : Ended) where
  abbrev pub UniqueBy : Clauses 𝓤 T → Type 1
  UniqueBy clauses =
      (κs : Lfts T.signature.lifetimes) (a : Args T.signature κs) (g : (clauses κs a).ghost) (z z' : Res T.signature κs) (ws ws' : Lasts T κs a)
      → ent 𝓤 (conj 𝓤 ((clauses κs a).ensures g z (at_exit T κs a ws)) ((clauses κs a).ensures g z' (at_exit T κs a ws'))) (fact 𝓤 ((z ≡ z') × (ws ≡ ws')))

-- two facts together
pub both_facts : {M : Type 1} (𝓤 : Ura M) (P Q R : Type 0) → (P → Q → R) → ent 𝓤 (conj 𝓤 (fact 𝓤 P) (fact 𝓤 Q)) (fact 𝓤 R)
both_facts 𝓤 P Q R f =
    fact_use 𝓤 P (conj_l 𝓤 (fact 𝓤 P) (fact 𝓤 Q)) (λ x. fact_use 𝓤 Q (conj_r 𝓤 (fact 𝓤 P) (fact 𝓤 Q)) (λ y. fact_i 𝓤 R (conj 𝓤 (fact 𝓤 P) (fact 𝓤 Q)) (f x y)))

pub kind_try_from_unique : Unique kind-try-from-kinds.ps kind-try-from-kinds.r kind-try-from.Learnt
kind_try_from_unique κs a z z' ws ws' p q = (p ∙ sym q, refl)
