-- Laws of logs alone: numbers rise, a number names one place, what is settled before it. No engine here.
use Prim.Native.Nat.{ℕ, ◌≤◌, ◌<◌}
use native.Mathlib.Omega.{arith}
use native.Mathlib.Nat.{le_refl}
use borrow.Author.Tests.{lt-ltb, le-ltb, eq-eqb, ne_eqb}
use mathlib.Core.Path.{◌≡◌, refl, sym, ap, ◌∙◌, subst}
use mathlib.Core.Bool.{Bool, true, false}
use mathlib.Core.List.{List, [], ◌∷◌, ◌++◌, append-nil}
use lib.Dec.{eqb}
use Rattle.model.specs.Operations.{Cells, Outcome, told}
use Rattle.model.specs.Serial.{Tx, attempt, effect, serial}
use Rattle.model.specs.Demand.{Rises, numbers_of, Log, is_logged, at, Standing, Settles, Gone, Undecided, standing, settled_of, live_of, before, Found, This, the, Gives}

-- the numbers of a log rise
abbrev pub InOrder : ℕ → ℕ → Log → Type 0
InOrder n top l = Rises n top (numbers_of l)

-- a smaller number is another one
eqb-less : (m n : ℕ) → m < n → eqb m n ≡ false
eqb-less m n h = ne_eqb m n (λ e. omega arith)

pub rises_below : (n top : ℕ) (l : Log) → InOrder n top l → n ≤ top
rises_below n top [] h = h
rises_below n top (t ∷ ts) h = let k : t.number ≤ top = rises_below t.number top ts h.1 in let j : n < t.number = h.0 in omega arith

-- the member behind P lies above n
pub rises_at : (n top : ℕ) (P : Log) (t : Tx) (R : Log) → InOrder n top (P ++ t ∷ R) → n < t.number
rises_at n top [] t R h = h.0
rises_at n top (p ∷ P) t R h =
    let k : p.number < t.number = rises_at p.number top P t R h.1 in
    let j : n < p.number = h.0 in omega arith

-- a change of the member t that keeps its number
pub rises_put : (n top : ℕ) (P : Log) (t t' : Tx) (R : Log) → t'.number ≡ t.number → InOrder n top (P ++ t ∷ R) → InOrder n top (P ++ t' ∷ R)
rises_put n top [] t t' R e h = subst (λ (k : ℕ). (n < k) × InOrder k top R) (sym e) h
rises_put n top (p ∷ P) t t' R e h = (h.0, rises_put p.number top P t t' R e h.1)

-- one more at the end
pub rises_more : (n top : ℕ) (l : Log) (t : Tx) → top < t.number → InOrder n top l → InOrder n t.number (l ++ t ∷ [])
rises_more n top [] t k h = (omega arith, omega arith)
rises_more n top (p ∷ P) t k h = (h.0, rises_more p.number top P t k h.1)

pub known_new : (n top m : ℕ) (l : Log) → top < m → InOrder n top l → is_logged m l ≡ false
known_new n top m [] k h = refl
known_new n top m (t ∷ ts) k h =
    let j : t.number ≤ top = rises_below t.number top ts h.1 in
    ap {B = Bool} (λ (b : Bool). elim b [ true ↦ true | false ↦ is_logged m ts ]) (eqb-less t.number m (omega arith))
    ∙ known_new t.number top m ts k h.1

module _ (top : ℕ) (t : Tx) (R : Log) where
  pub known_at : (n : ℕ) (P : Log) → InOrder n top (P ++ t ∷ R) → is_logged t.number (P ++ t ∷ R) ≡ true
  known_at n [] h = ap {B = Bool} (λ (b : Bool). elim b [ true ↦ true | false ↦ is_logged t.number R ]) (eq-eqb t.number t.number refl)
  known_at n (p ∷ P) h =
      ap {B = Bool} (λ (b : Bool). elim b [ true ↦ true | false ↦ is_logged t.number (P ++ t ∷ R) ]) (eqb-less p.number t.number (rises_at p.number top P t R h.1))
      ∙ known_at p.number P h.1

  pub at_at : (g : Tx → Tx) (n : ℕ) (P : Log) → InOrder n top (P ++ t ∷ R) → at t.number g (P ++ t ∷ R) ≡ P ++ g t ∷ R
  at_at g n [] h = ap {B = Log} (λ (b : Bool). elim b [ true ↦ g t ∷ R | false ↦ t ∷ at t.number g R ]) (eq-eqb t.number t.number refl)
  at_at g n (p ∷ P) h =
      ap {B = Log} (λ (b : Bool). elim b [ true ↦ g p ∷ (P ++ t ∷ R) | false ↦ p ∷ at t.number g (P ++ t ∷ R) ]) (eqb-less p.number t.number (rises_at p.number top P t R h.1))
      ∙ ap {B = Log} (λ (x : Log). p ∷ x) (at_at g p.number P h.1)

  pub the_at : (n : ℕ) (P : Log) → InOrder n top (P ++ t ∷ R) → the t.number (P ++ t ∷ R) ≡ This t
  the_at n [] h = ap {B = Found} (λ (b : Bool). elim b [ true ↦ This t | false ↦ the t.number R ]) (eq-eqb t.number t.number refl)
  the_at n (p ∷ P) h =
      ap {B = Found} (λ (b : Bool). elim b [ true ↦ This p | false ↦ the t.number (P ++ t ∷ R) ]) (eqb-less p.number t.number (rises_at p.number top P t R h.1))
      ∙ the_at p.number P h.1

  pub before_at : (n : ℕ) (P : Log) → InOrder n top (P ++ t ∷ R) → before t.number (P ++ t ∷ R) ≡ P
  before_at n [] h = ap {B = Log} (λ (b : Bool). elim b [ true ↦ t ∷ before t.number R | false ↦ [] ]) (le-ltb t.number t.number (le_refl t.number))
  before_at n (p ∷ P) h =
      ap {B = Log} (λ (b : Bool). elim b [ true ↦ p ∷ before t.number (P ++ t ∷ R) | false ↦ [] ]) (lt-ltb p.number t.number (rises_at p.number top P t R h.1))
      ∙ ap {B = Log} (λ (x : Log). p ∷ x) (before_at p.number P h.1)

-- what the log says of the member behind P
pub gives_at : (cs : Cells) (top : ℕ) (l P : Log) (t : Tx) (R : Log) (o : Outcome) → InOrder 0 top l → l ≡ P ++ t ∷ R
    → o ≡ told (attempt t (serial (settled_of P) cs)) → Gives cs t.number l o
gives_at cs top l P t R o h e k =
    subst (λ (x : Log). Gives cs t.number x o) (sym e) (t, the_at top t R 0 P h', k ∙ ap (λ (x : Log). told (attempt t (serial (settled_of x) cs))) (sym (before_at top t R 0 P h')))
  where
    h' : InOrder 0 top (P ++ t ∷ R)
    h' = subst (λ (x : Log). InOrder 0 top x) e h

-- a past: nothing undecided in it
abbrev pub Past : Standing → Type 0
Past Settles = Unit {0}
Past Gone = Unit {0}
Past Undecided = ⊥

abbrev pub Closed : Log → Type 0
Closed [] = Unit {0}
Closed (t ∷ ts) = Past (standing t) × Closed ts

pub closed_snoc : (P : Log) (t : Tx) → Closed P → Past (standing t) → Closed (P ++ t ∷ [])
closed_snoc [] t c h = (h, tt)
closed_snoc (p ∷ P) t c h = (c.0, closed_snoc P t c.1 h)

pub settled_append : (P Q : Log) → Closed P → settled_of (P ++ Q) ≡ settled_of P ++ settled_of Q
settled_append [] Q c = refl
settled_append (p ∷ P) Q c = go (standing p) c.0 (settled_append P Q c.1)
  where
    go : (s : Standing) → Past s → settled_of (P ++ Q) ≡ settled_of P ++ settled_of Q
        → ◌≡◌ {A = Log} (elim s [ Settles ↦ p ∷ settled_of (P ++ Q) | Gone ↦ settled_of (P ++ Q) | Undecided ↦ [] ]) ((elim s [ Settles ↦ p ∷ settled_of P | Gone ↦ settled_of P | Undecided ↦ [] ]) ++ settled_of Q)
    go Settles h e = ap {B = Log} (λ (x : Log). p ∷ x) e
    go Gone h e = e
    go Undecided h e = absurd h

pub live_append : (P Q : Log) → Closed P → live_of (P ++ Q) ≡ live_of Q
live_append [] Q c = refl
live_append (p ∷ P) Q c = go (standing p) c.0 (live_append P Q c.1)
  where
    go : (s : Standing) → Past s → live_of (P ++ Q) ≡ live_of Q
        → ◌≡◌ {A = Log} (elim s [ Settles ↦ live_of (P ++ Q) | Gone ↦ live_of (P ++ Q) | Undecided ↦ p ∷ (P ++ Q) ]) (live_of Q)
    go Settles h e = e
    go Gone h e = e
    go Undecided h e = absurd h

pub serial_append : (a b : List Tx) (cs : Cells) → serial (a ++ b) cs ≡ serial b (serial a cs)
serial_append [] b cs = refl
serial_append (t ∷ a) b cs = serial_append a b (effect t cs)

-- a past with one more that settles, or that is gone
pub settled_snoc : (P : Log) (t : Tx) → Closed P → standing t ≡ Settles → settled_of (P ++ t ∷ []) ≡ settled_of P ++ t ∷ []
settled_snoc P t c e = settled_append P (t ∷ []) c ∙ ap {B = Log} (λ (s : Standing). settled_of P ++ elim s [ Settles ↦ t ∷ [] | Gone ↦ [] | Undecided ↦ [] ]) e

pub settled_gone : (P : Log) (t : Tx) → Closed P → standing t ≡ Gone → settled_of (P ++ t ∷ []) ≡ settled_of P
settled_gone P t c e =
    settled_append P (t ∷ []) c ∙ ap {B = Log} (λ (s : Standing). settled_of P ++ elim s [ Settles ↦ t ∷ [] | Gone ↦ [] | Undecided ↦ [] ]) e ∙ append-nil (settled_of P)

pub past_settles : (P : Log) (t : Tx) (cs : Cells) → Closed P → standing t ≡ Settles → serial (settled_of (P ++ t ∷ [])) cs ≡ effect t (serial (settled_of P) cs)
past_settles P t cs c e = ap (λ (x : Log). serial x cs) (settled_snoc P t c e) ∙ serial_append (settled_of P) (t ∷ []) cs

pub past_gone : (P : Log) (t : Tx) (cs : Cells) → Closed P → standing t ≡ Gone → serial (settled_of (P ++ t ∷ [])) cs ≡ serial (settled_of P) cs
past_gone P t cs c e = ap (λ (x : Log). serial x cs) (settled_gone P t c e)

pub rises_weaken : (m n top : ℕ) (l : Log) → m ≤ n → InOrder n top l → InOrder m top l
rises_weaken m n top [] k h = omega arith
rises_weaken m n top (t ∷ ts) k h = (omega arith, h.1)

-- without the aborted ones
pub rises_settled : (n top : ℕ) (l : Log) → InOrder n top l → InOrder n top (settled_of l ++ live_of l)
rises_settled n top [] h = h
rises_settled n top (t ∷ ts) h = go (standing t) (rises_settled t.number top ts h.1)
  where
    go : (s : Standing) → InOrder t.number top (settled_of ts ++ live_of ts)
        → InOrder n top ((elim s as (λ _. Log) [ Settles ↦ t ∷ settled_of ts | Gone ↦ settled_of ts | Undecided ↦ [] ]) ++ (elim s as (λ _. Log) [ Settles ↦ live_of ts | Gone ↦ live_of ts | Undecided ↦ t ∷ ts ]))
    go Settles k = (h.0, k)
    go Gone k = rises_weaken n t.number top (settled_of ts ++ live_of ts) (omega (arith, h.0)) k
    go Undecided k = h
