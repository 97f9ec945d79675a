-- Laws of who settles and what singles are answered, of logs and lists of answers alone: a past that grows and its replies, and the answers of
-- singles among those that are sent.
use Prim.Native.Nat.{ℕ}
use mathlib.Core.Path.{◌≡◌, refl, sym, ap, ◌∙◌, subst}
use mathlib.Core.Bool.{Bool, true, false, not}
use mathlib.Core.List.{List, [], ◌∷◌, ◌++◌, append_assoc, append-nil}
use Rattle.model.specs.Operations.{Cells, multi, told}
use Rattle.model.specs.Transactions.{Answer, answer}
use Rattle.model.specs.Serial.{Tx, attempt, effect, serial}
use Rattle.model.specs.Demand.{Log, Settles, Gone, standing, settled_of, numbers_of, Found, This, None, the}
use Rattle.model.specs.Schemes.{single, attempts_aside, of_singles, replies}
use Rattle.model.proofs.Logs.{InOrder, the_at, Closed, settled_snoc, settled_gone}

-- from the past P to the past Q: who settles, in order, with these numbers; and these answers have those of the singles among them, in that order
pub record Went (cs : Cells) (l P Q : Log) (as' : List Answer) (ns : List ℕ) : Type 0 where
  pub more : List Tx
  pub grows : settled_of Q ≡ settled_of P ++ more
  pub named : numbers_of more ≡ ns
  pub singles : replies (settled_of Q) cs ≡ replies (settled_of P) cs ++ of_singles l as'

numbers_append : (a b : List Tx) → numbers_of (a ++ b) ≡ numbers_of a ++ numbers_of b
numbers_append [] b = refl
numbers_append (t ∷ a) b = ap {B = List ℕ} (λ (x : List ℕ). t.number ∷ x) (numbers_append a b)

pub of_append : (l : Log) (a b : List Answer) → of_singles l (a ++ b) ≡ of_singles l a ++ of_singles l b
of_append l [] b = refl
of_append l (x ∷ a) b = go (single x.number l) (of_append l a b)
  where
    go : (s : Bool) → of_singles l (a ++ b) ≡ of_singles l a ++ of_singles l b
        → ◌≡◌ {A = List Answer} (elim s [ true ↦ attempts_aside x ∷ of_singles l (a ++ b) | false ↦ of_singles l (a ++ b) ]) ((elim s [ true ↦ attempts_aside x ∷ of_singles l a | false ↦ of_singles l a ]) ++ of_singles l b)
    go true e = ap {B = List Answer} (λ (y : List Answer). attempts_aside x ∷ y) e
    go false e = e

replies_append : (a b : List Tx) (cs : Cells) → replies (a ++ b) cs ≡ replies a cs ++ replies b (serial a cs)
replies_append [] b cs = refl
replies_append (t ∷ a) b cs = go (multi t.first) (replies_append a b (effect t cs))
  where
    go : (m : Bool) → replies (a ++ b) (effect t cs) ≡ replies a (effect t cs) ++ replies b (serial a (effect t cs))
        → ◌≡◌ {A = List Answer} (elim m [ true ↦ replies (a ++ b) (effect t cs) | false ↦ answer t.number 0 0 0 (told (attempt t cs)) ∷ replies (a ++ b) (effect t cs) ])
        ((elim m [ true ↦ replies a (effect t cs) | false ↦ answer t.number 0 0 0 (told (attempt t cs)) ∷ replies a (effect t cs) ]) ++ replies b (serial a (effect t cs)))
    go true e = e
    go false e = ap {B = List Answer} (λ (y : List Answer). answer t.number 0 0 0 (told (attempt t cs)) ∷ y) e

-- nothing sent, and nothing more settled
pub went_none : (cs : Cells) (l P Q : Log) → settled_of Q ≡ settled_of P → Went cs l P Q [] []
went_none cs l P Q e = record {
  more = [];
  grows = e ∙ sym (append-nil (settled_of P));
  named = refl;
  singles = ap (λ (x : List Tx). replies x cs) e ∙ sym (append-nil (replies (settled_of P) cs));
}

-- one after the other
pub went_both : (cs : Cells) (l P Q R : Log) (a b : List Answer) (m n : List ℕ) → Went cs l P Q a m → Went cs l Q R b n → Went cs l P R (a ++ b) (m ++ n)
went_both cs l P Q R a b m n s t = record {
  more = s.more ++ t.more;
  grows = t.grows ∙ ap (λ (x : List Tx). x ++ t.more) s.grows ∙ append_assoc (settled_of P) s.more t.more;
  named = numbers_append s.more t.more ∙ (λ i. s.named i ++ t.named i);
  singles = t.singles ∙ ap (λ (x : List Answer). x ++ of_singles l b) s.singles ∙ append_assoc (replies (settled_of P) cs) (of_singles l a) (of_singles l b)
      ∙ ap (λ (x : List Answer). replies (settled_of P) cs ++ x) (sym (of_append l a b));
}

-- from another past in which the same is settled
pub went_from : (cs : Cells) (l P P' Q : Log) (a : List Answer) (m : List ℕ) → settled_of P ≡ settled_of P' → Went cs l P Q a m → Went cs l P' Q a m
went_from cs l P P' Q a m e s = record {
  more = s.more;
  grows = s.grows ∙ ap (λ (x : List Tx). x ++ s.more) e;
  named = s.named;
  singles = s.singles ∙ ap (λ (x : List Tx). replies x cs ++ of_singles l a) e;
}

-- whose answer it is
single_at : (top : ℕ) (l P : Log) (t : Tx) (R : Log) → InOrder 0 top l → l ≡ P ++ t ∷ R → single t.number l ≡ not (multi t.first)
single_at top l P t R h e =
    ap {B = Bool} (λ (x : Found). elim x [ This t ↦ not (multi t.first) | None ↦ false ]) (ap (the t.number) e ∙ the_at top t R 0 P (subst (λ (x : Log). InOrder 0 top x) e h))

-- the answer of a multi of the log is no single's
pub of_multi : (top : ℕ) (l P : Log) (t : Tx) (R : Log) (a : Answer) → InOrder 0 top l → l ≡ P ++ t ∷ R → multi t.first ≡ true → a.number ≡ t.number → of_singles l (a ∷ []) ≡ []
of_multi top l P t R a h e m n =
    ap {B = List Answer} (λ (s : Bool). elim s [ true ↦ attempts_aside a ∷ [] | false ↦ [] ]) (ap (λ (k : ℕ). single k l) n ∙ single_at top l P t R h e ∙ ap not m)

-- a multi's answers, while nothing more settles
pub went_multi : (cs : Cells) (top : ℕ) (l P Q : Log) (t : Tx) (R : Log) (a : Answer) (p : Log) → InOrder 0 top l → l ≡ P ++ t ∷ R → multi t.first ≡ true → a.number ≡ t.number → settled_of Q ≡ settled_of p → Went cs l p Q (a ∷ []) []
went_multi cs top l P Q t R a p h e m n q =
    let s = went_none cs l p Q q in
    record { more = s.more; grows = s.grows; named = s.named; singles = s.singles ∙ ap (λ (x : List Answer). replies (settled_of p) cs ++ x) (sym (of_multi top l P t R a h e m n)) }

-- a single settles with its answer
pub went_settles : (cs : Cells) (top : ℕ) (l P : Log) (t : Tx) (R : Log) (a : Answer) → InOrder 0 top l → l ≡ P ++ t ∷ R → Closed P → standing t ≡ Settles → multi t.first ≡ false
    → attempts_aside a ≡ answer t.number 0 0 0 (told (attempt t (serial (settled_of P) cs))) → Went cs l P (P ++ t ∷ []) (a ∷ []) (t.number ∷ [])
went_settles cs top l P t R a h e c s m is = record {
  more = t ∷ [];
  grows = settled_snoc P t c s;
  named = refl;
  singles = ap (λ (x : List Tx). replies x cs) (settled_snoc P t c s) ∙ replies_append (settled_of P) (t ∷ []) cs
      ∙ ap {B = List Answer} (λ (b : Bool). replies (settled_of P) cs ++ elim b [ true ↦ [] | false ↦ answer t.number 0 0 0 (told (attempt t (serial (settled_of P) cs))) ∷ [] ]) m
      ∙ ap (λ (x : List Answer). replies (settled_of P) cs ++ x) (sym whose);
}
  where
    whose : of_singles l (a ∷ []) ≡ answer t.number 0 0 0 (told (attempt t (serial (settled_of P) cs))) ∷ []
    whose =
        ap {B = List Answer} (λ (s : Bool). elim s [ true ↦ attempts_aside a ∷ [] | false ↦ [] ]) (ap (λ (x : Answer). single x.number l) is ∙ single_at top l P t R h e ∙ ap not m)
        ∙ ap {B = List Answer} (λ (x : Answer). x ∷ []) is

-- a multi settles, or is gone: nobody is answered
pub went_commit : (cs : Cells) (l P : Log) (t : Tx) → Closed P → standing t ≡ Settles → multi t.first ≡ true → Went cs l P (P ++ t ∷ []) [] (t.number ∷ [])
went_commit cs l P t c s m = record {
  more = t ∷ [];
  grows = settled_snoc P t c s;
  named = refl;
  singles = ap (λ (x : List Tx). replies x cs) (settled_snoc P t c s) ∙ replies_append (settled_of P) (t ∷ []) cs
      ∙ ap {B = List Answer} (λ (b : Bool). replies (settled_of P) cs ++ elim b [ true ↦ [] | false ↦ answer t.number 0 0 0 (told (attempt t (serial (settled_of P) cs))) ∷ [] ]) m;
}

pub went_gone : (cs : Cells) (l P : Log) (t : Tx) → Closed P → standing t ≡ Gone → Went cs l P (P ++ t ∷ []) [] []
went_gone cs l P t c s = went_none cs l P (P ++ t ∷ []) (settled_gone P t c s)
