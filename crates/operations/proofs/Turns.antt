-- Laws of one operation, of a row of entries and of one turn of undoing and of a run, in plain terms.
use Prim.Native.Nat.{ℕ, zero, suc, ◌+◌, ◌*◌, ◌-◌, min, ◌≤◌, ◌<◌}
use native.Mathlib.Omega.{arith}
use native.Mathlib.Numerals.{add-one}
use native.Mathlib.Nat.{add_assoc}
use mathlib.Core.Path.{◌≡◌, refl, sym, ap, ◌∙◌}
use mathlib.Core.Bool.{Bool, true, false}
use mathlib.Core.List.{List, [], ◌∷◌, ◌++◌, append_assoc, map}
use lib.ListN.{length, get_or, set, take, drop, replicate, length-append, length-replicate, length-take, length-map, drop_of_length-le}
use lib.Dec.{leb, eqb}
use borrow.Author.Tests.{leb-true, leb-false, eq-eqb, ne_eqb}
use lib.Seq.{take_all, set_at, drop-cons, get_or-take, get_or_at, get_or-append-add, take-suc, take-suc-set}
use Rattle.model.specs.Operations.{Cells, Did, content, operate, meaning, put, writes, operations, tells}
use Rattle.model.specs.Steps.{undone, noted, run_from, run}
use Rattle.model.specs.Steps as Steps
use Rattle.model.proofs.Undoing.{undone_append}
use Rattle.model.proofs.Running.{joined_by, run_earlier}
use Rattle.model.specs.declared.Op.{Op}
use Rattle.model.specs.declared.Fragment.{Fragment}
use Rattle.model.specs.declared.Undo.{Undo}
use Rattle.std.specs.Prelude.{Ok, Err}
use Rattle.operations.specs.declared.Operated.{Operated}
use Rattle.operations.specs.declared.Ran.{Ran}
use Rattle.operations.specs.Laid.{operated, afterwards, entry_at, entries_of, flat, padded, note_count, note_row, laid, told}
use Rattle.operations.specs.Words.{op_at, fragment_at}

-- One operation: x is what it found, d what it did

module _ (o : Op) (cs : Cells) (x : ℕ) (d : Did) (ex : x ≡ get_or cs o.cell 0) (ed : d ≡ meaning o.code x o.amount) where
  did_is : d ≡ operate o cs
  did_is = ed ∙ ap (λ (n : ℕ). meaning o.code n o.amount) ex

  pub operated_as : (d' : Did) → d ≡ d' → record { did = d'; old = x } ≡ operated o cs
  unfolding operated
  operated_as d' e = λ i. record { did = (sym e ∙ did_is) i; old = ex i }

  after_by : (d' : Did) → d ≡ d' → elim d' as (λ _. Cells) [ Ok y ↦ put o y cs | Err z ↦ cs ] ≡ afterwards o cs
  unfolding afterwards
  after_by d' e = ap {B = Cells} (λ (z : Did). elim z [ Ok y ↦ put o y cs | Err z ↦ cs ]) (sym e ∙ did_is)

  put_by : (y : ℕ) (w : Bool) → w ≡ writes o.code → elim w as (λ _. Cells) [ true ↦ set cs o.cell y | false ↦ cs ] ≡ put o y cs
  put_by y w e = ap {B = Cells} (λ (z : Bool). elim z [ true ↦ set cs o.cell y | false ↦ cs ]) e

  pub after_writes : (y : ℕ) → d ≡ Ok y → (w : Bool) → w ≡ writes o.code → w ≡ true → (cs' : Cells) → cs' ≡ set cs o.cell y → cs' ≡ afterwards o cs
  after_writes y e w ew et cs' h = h ∙ put_by y true (sym et ∙ ew) ∙ after_by (Ok y) e

  pub after_reads : (y : ℕ) → d ≡ Ok y → (w : Bool) → w ≡ writes o.code → w ≡ false → cs ≡ afterwards o cs
  after_reads y e w ew et = put_by y false (sym et ∙ ew) ∙ after_by (Ok y) e

  pub after_fails : (z : ℕ) → d ≡ Err z → cs ≡ afterwards o cs
  after_fails z e = after_by (Err z) e

-- Rows of entries

-- m + n entries are m of them and n behind these
pub entries_append : (l : List ℕ) (b m n : ℕ) → entries_of l b (m + n) ≡ entries_of l b m ++ entries_of l (b + 2 * m) n
unfolding entries_of
entries_append l b zero n =
    let e : b + 2 * 0 ≡ b = omega arith in
    let z : 0 + n ≡ n = omega arith in
    rw (e, z)
entries_append l b (suc m) n =
    let e : b + 2 + 2 * m ≡ b + 2 * suc m = omega arith in
    let s : suc m + n ≡ suc (m + n) = omega arith in
    ap (entries_of l b) s ∙ ap {B = List Undo} (λ (x : List Undo). entry_at l b ∷ x) (entries_append l (b + 2) m n ∙ rw e)

-- one more entry copied out, behind i of them
pub copy_turn : (l : List ℕ) (from i : ℕ) (few : List Undo) (u : Undo) → i < length few → u ≡ entry_at l (2 * (from + i)) → take i few ≡ entries_of l (2 * from) i
    → take (i + 1) (set few i u) ≡ entries_of l (2 * from) (i + 1)
unfolding entries_of
copy_turn l from i few u h eu inv =
    let e : 2 * (from + i) ≡ 2 * from + 2 * i = omega arith in
    ap (λ (x : ℕ). take x (set few i u)) (add-one i) ∙ take-suc-set few i u h ∙ ap (λ (x : List Undo). x ++ (u ∷ [])) inv
    ∙ ap (λ (x : Undo). entries_of l (2 * from) i ++ (x ∷ [])) (eu ∙ ap (entry_at l) e) ∙ sym (entries_append l (2 * from) i 1)

-- the newest of j + 1 entries goes, and what is left are the first j
pub undo_newest : (us : List Undo) (j : ℕ) (d : Undo) (cs cs' all : Cells) → j < length us → cs' ≡ set cs (get_or us j d).cell (get_or us j d).old → undone (take (suc j) us) cs ≡ all
    → undone (take j us) cs' ≡ all
unfolding undone
undo_newest us j d cs cs' all h es inv =
    ap (undone (take j us)) es ∙ sym (undone_append (take j us) (get_or us j d ∷ []) cs) ∙ ap (λ (x : List Undo). undone x cs) (sym (take-suc us j d h)) ∙ inv

-- the newest n of k entries go, and what is left are the others
pub undo_turn : (l : List ℕ) (k n : ℕ) (few : List Undo) (cs cs' all : Cells) → n ≤ k → take n few ≡ entries_of l (2 * (k - n)) n → cs' ≡ undone (take n few) cs → undone (entries_of l 0 k) cs ≡ all
    → undone (entries_of l 0 (k - n)) cs' ≡ all
undo_turn l k n few cs cs' all h ef es inv =
    let j : ℕ = k - n in
    let ek : j + n ≡ k = omega arith in
    let e2 : 0 + 2 * j ≡ 2 * j = omega arith in
    let both : entries_of l 0 k ≡ entries_of l 0 j ++ entries_of l (2 * j) n = ap (entries_of l 0) (sym ek) ∙ entries_append l 0 j n ∙ rw e2 in
    ap (undone (entries_of l 0 j)) (es ∙ ap (λ (x : List Undo). undone x cs) ef) ∙ sym (undone_append (entries_of l 0 j) (entries_of l (2 * j) n) cs) ∙ ap (λ (x : List Undo). undone x cs) (sym both) ∙ inv

-- Rows that are zero past their list

pub set-padded : (n : ℕ) (l : List ℕ) (i y : ℕ) → length l ≡ i → i < n → set (padded n l) i y ≡ padded n (l ++ (y ∷ []))
unfolding padded
set-padded n l i y e h =
    let m : ℕ = n - suc (length l) in
    let s : n - length l ≡ suc m = omega arith in
    let k : n - length (l ++ (y ∷ [])) ≡ m = omega (arith, length-append l (y ∷ [])) in
    ap (λ (x : ℕ). set (l ++ replicate x 0) i y) s ∙ set_at l 0 (replicate m 0) y i e ∙ sym (append_assoc l (y ∷ []) (replicate m 0)) ∙ ap (λ (x : ℕ). (l ++ (y ∷ [])) ++ replicate x 0) (sym k)

pub length-padded : (n : ℕ) (l : List ℕ) → length l ≤ n → length (padded n l) ≡ n
unfolding padded
length-padded n l h =
    let zeros : List ℕ = replicate (n - length l) 0 in
    let r : length zeros ≡ n - length l = length-replicate (n - length l) 0 in
    length-append l zeros ∙ omega arith

length-flat : (us : List Undo) → length (flat us) ≡ 2 * length us
length-flat [] = omega arith
length-flat (u ∷ us) = omega (arith, length-flat us)

flat_snoc : (us : List Undo) (u : Undo) → flat (us ++ (u ∷ [])) ≡ (flat us ++ (u.cell ∷ [])) ++ (u.old ∷ [])
flat_snoc [] u = refl
flat_snoc (v ∷ us) u = ap {B = List ℕ} (λ (x : List ℕ). v.cell ∷ v.old ∷ x) (flat_snoc us u)

entries_at : (pre : List ℕ) (us : List Undo) (rest : List ℕ) (b : ℕ) → length pre ≡ b → entries_of (pre ++ (flat us ++ rest)) b (length us) ≡ us
unfolding entries_of
entries_at pre [] rest b e = refl
entries_at pre (u ∷ us) rest b e =
    let more : List ℕ = u.cell ∷ u.old ∷ [] in
    let l : List ℕ = pre ++ (u.cell ∷ u.old ∷ (flat us ++ rest)) in
    let here : get_or l b 0 ≡ u.cell = get_or_at pre u.cell (u.old ∷ (flat us ++ rest)) 0 b e in
    let there : get_or l (b + 1) 0 ≡ u.old = ap (λ (x : ℕ). get_or l (x + 1) 0) (sym e) ∙ get_or-append-add pre (u.cell ∷ u.old ∷ (flat us ++ rest)) 1 0 in
    let whole : (pre ++ more) ++ (flat us ++ rest) ≡ l = append_assoc pre more (flat us ++ rest) in
    let tail : entries_of l (b + 2) (length us) ≡ us = ap (λ (x : List ℕ). entries_of x (b + 2) (length us)) (sym whole) ∙ entries_at (pre ++ more) us rest (b + 2) (length-append pre more ∙ ap (λ (x : ℕ). x + 2) e) in
    λ i. record { cell = here i; old = there i } ∷ tail i

-- the entries of a row that holds them
pub entries_padded : (n : ℕ) (us : List Undo) → entries_of (padded n (flat us)) 0 (length us) ≡ us
unfolding padded
entries_padded n us = entries_at [] us (replicate (n - length (flat us)) 0) 0 refl

-- one more, if the operation writes
module _ (o : Op) (cs : Cells) (us : List Undo) (k : ℕ) (e : length us ≡ k) (h : k < 8) where
  entry : Undo
  entry = record { cell = o.cell; old = content o cs }

  pub note_row_lem : note_row o (content o cs) k (padded 16 (flat us)) ≡ padded 16 (flat (noted o cs us))
  unfolding note_row
  note_row_lem = go (writes o.code)
    where
      go : (w : Bool) → elim w as (λ _. List ℕ) [ true ↦ set (set (padded 16 (flat us)) (2 * k) o.cell) (2 * k + 1) (content o cs) | false ↦ padded 16 (flat us) ]
          ≡ padded 16 (flat (elim w as (λ _. List Undo) [ true ↦ us ++ (record { cell = o.cell; old = content o cs } ∷ []) | false ↦ us ]))
      go true =
          let one : set (padded 16 (flat us)) (2 * k) o.cell ≡ padded 16 (flat us ++ (o.cell ∷ [])) = set-padded 16 (flat us) (2 * k) o.cell (length-flat us ∙ ap (λ (x : ℕ). 2 * x) e) (omega arith) in
          let two : set (padded 16 (flat us ++ (o.cell ∷ []))) (2 * k + 1) (content o cs) ≡ padded 16 ((flat us ++ (o.cell ∷ [])) ++ (content o cs ∷ [])) =
          set-padded 16 (flat us ++ (o.cell ∷ [])) (2 * k + 1) (content o cs) (length-append (flat us) (o.cell ∷ []) ∙ ap (λ (x : ℕ). x + 1) (length-flat us ∙ ap (λ (x : ℕ). 2 * x) e)) (omega arith) in
          ap (λ (x : List ℕ). set x (2 * k + 1) (content o cs)) one ∙ two ∙ ap (padded 16) (sym (flat_snoc us (record { cell = o.cell; old = content o cs })))
      go false = refl

  pub note_count_lem : length (noted o cs us) ≡ note_count o k
  unfolding note_count
  note_count_lem = go (writes o.code)
    where
      go : (w : Bool) → length {A = Undo} (elim w as (λ _. List Undo) [ true ↦ us ++ (record { cell = o.cell; old = content o cs } ∷ []) | false ↦ us ]) ≡ elim w as (λ _. ℕ) [ true ↦ k + 1 | false ↦ k ]
      go true = length-append us (record { cell = o.cell; old = content o cs } ∷ []) ∙ ap (λ (x : ℕ). x + 1) e
      go false = e

  pub note_few : note_count o k ≤ k + 1
  unfolding note_count
  note_few = go (writes o.code)
    where
      go : (w : Bool) → elim w as (λ _. ℕ) [ true ↦ k + 1 | false ↦ k ] ≤ k + 1
      go true = omega arith
      go false = omega arith

-- A run, operation by operation

module _ (p : ℕ) (o : Op) (os : List Op) (cs : Cells) (ns : List ℕ) (us : List Undo) where
  abbrev by : Did → Steps.Ran
  by d = elim d [
    | Ok y ↦ run_from (suc p) os (put o y cs) (ns ++ (y ∷ [])) (noted o cs us)
    | Err x ↦ record { cells = undone us cs; outcome = tells p (Err x); undo = [] }
  ]

  pub run_by : (d : Did) → operate o cs ≡ d → run_from p (o ∷ os) cs ns us ≡ by d
  unfolding run_from
  run_by d e = ap by e

-- where the loop stands: i operations of os have run, from cs₀ to cells, without a failure
pub record Going (os : List Op) (cs₀ cells numbers own : List ℕ) (entries i : ℕ) : Type 0 where
  pub ns : List ℕ
  pub us : List Undo
  pub at_ns : numbers ≡ padded 8 ns
  pub at_us : own ≡ padded 16 (flat us)
  pub here : length ns ≡ i
  pub many : length us ≡ entries
  pub few : entries ≤ i
  pub rest : run_from (suc i) (drop i os) cells ns us ≡ run_from 1 os cs₀ [] []

pub going_start : (os : List Op) (cs : Cells) → Going os cs cs (replicate 8 0) (replicate 16 0) 0 0
unfolding padded
going_start os cs = record { ns = []; us = []; at_ns = refl; at_us = refl; here = refl; many = refl; few = omega arith; rest = refl }

module _ (os : List Op) (cs₀ cells numbers own : List ℕ) (entries i : ℕ) (g : Going os cs₀ cells numbers own entries i) where
  pub own_length : i ≤ 8 → length own ≡ 16
  own_length h = ap length g.at_us ∙ length-padded 16 (flat g.us) (omega (arith, length-flat g.us, g.many, g.few))

  module _ (o : Op) (onward : drop i os ≡ o ∷ drop (i + 1) os) (s : Operated) (ds : Cells) (es : s ≡ operated o cells) (ed : ds ≡ afterwards o cells) where
    next : drop i os ≡ o ∷ drop (suc i) os
    next = onward ∙ ap {B = List Op} (λ (x : ℕ). o ∷ drop x os) (add-one i)

    did : (d : Did) → s.did ≡ d → operate o cells ≡ d
    unfolding operated
    did d e = sym (ap (λ (x : Operated). x.did) es) ∙ e

    old_is : s.old ≡ content o cells
    unfolding operated
    old_is = ap (λ (x : Operated). x.old) es

    stands : (d : Did) → s.did ≡ d → ds ≡ elim d as (λ _. Cells) [ Ok y ↦ put o y cells | Err x ↦ cells ]
    unfolding afterwards
    stands d e = ed ∙ ap {B = Cells} (λ (z : Did). elim z [ Ok y ↦ put o y cells | Err x ↦ cells ]) (did d e)

    pub going_turn : (y : ℕ) → s.did ≡ Ok y → i < 8 → (numbers' own' : List ℕ) (entries' : ℕ) → numbers' ≡ set numbers i y → entries' ≡ note_count o entries
        → own' ≡ note_row o s.old entries own → Going os cs₀ ds numbers' own' entries' (i + 1)
    going_turn y e h numbers' own' entries' en ee eo =
        let k : entries < 8 = omega (arith, g.few) in
        let p : suc (i + 1) ≡ suc (suc i) = omega arith in
        record {
          ns = g.ns ++ (y ∷ []);
          us = noted o cells g.us;
          at_ns = en ∙ ap (λ (x : List ℕ). set x i y) g.at_ns ∙ set-padded 8 g.ns i y g.here h;
          at_us = eo ∙ ap (λ (x : ℕ). note_row o x entries own) old_is ∙ ap (note_row o (content o cells) entries) g.at_us ∙ note_row_lem o cells g.us entries g.many k;
          here = length-append g.ns (y ∷ []) ∙ ap (λ (x : ℕ). x + 1) g.here;
          many = note_count_lem o cells g.us entries g.many k ∙ sym ee;
          few = omega (arith, ee, note_few o cells g.us entries g.many k, g.few);
          rest = ap (λ (x : ℕ). run_from (suc x) (drop x os) ds (g.ns ++ (y ∷ [])) (noted o cells g.us)) (add-one i)
              ∙ ap (λ (x : Cells). run_from (suc (suc i)) (drop (suc i) os) x (g.ns ++ (y ∷ [])) (noted o cells g.us)) (stands (Ok y) e)
              ∙ sym (run_by (suc i) o (drop (suc i) os) cells g.ns g.us (Ok y) (did (Ok y) e))
              ∙ ap (λ (x : List Op). run_from (suc i) x cells g.ns g.us) (sym next) ∙ g.rest;
        }

    pub going_fails : (x : ℕ) → s.did ≡ Err x → (cs' : Cells) → cs' ≡ undone (entries_of own 0 entries) ds
        → record { cells = cs'; outcome = tells (i + 1) (Err x); undo = [] } ≡ run_from 1 os cs₀ [] []
    going_fails x e cs' eu =
        let back : cs' ≡ undone g.us cells =
        eu ∙ ap (undone (entries_of own 0 entries)) (stands (Err x) e) ∙ ap (λ (l : List Undo). undone l cells) (ap (λ (l : List ℕ). entries_of l 0 entries) g.at_us ∙ ap (entries_of (padded 16 (flat g.us)) 0) (sym g.many) ∙ entries_padded 16 g.us) in
        (λ j. record { cells = back j; outcome = tells (add-one i j) (Err x); undo = [] })
        ∙ sym (run_by (suc i) o (drop (suc i) os) cells g.ns g.us (Err x) (did (Err x) e))
        ∙ ap (λ (l : List Op). run_from (suc i) l cells g.ns g.us) (sym next) ∙ g.rest

  pub going_done : length os ≤ i → record { cells = cells; outcome = record { place = 0; numbers = g.ns }; undo = g.us } ≡ run_from 1 os cs₀ [] []
  unfolding run_from
  going_done h = ap (λ (x : List Op). run_from (suc i) x cells g.ns g.us) (sym (drop_of_length-le os {i = i} h)) ∙ g.rest

  pub going_laid : (n : ℕ) → n ≡ i → record { told = record { place = 0; count = n; numbers = numbers }; entries = entries; undo = own } ≡ laid (record { cells = cells; outcome = record { place = 0; numbers = g.ns }; undo = g.us })
  unfolding laid told
  going_laid n e = λ j. record { told = record { place = 0; count = (e ∙ sym g.here) j; numbers = g.at_ns j }; entries = sym g.many j; undo = g.at_us j }

pub failed_laid : (cs : Cells) (p x : ℕ) → record { told = record { place = p; count = 1; numbers = x ∷ replicate 7 0 }; entries = 0; undo = replicate 16 0 } ≡ laid (record { cells = cs; outcome = tells p (Err x); undo = [] })
unfolding laid told padded
failed_laid cs p x = refl

-- the operations of a fragment, of a row of eight

pub unmapped : {X Y : Type 0} (f : X → Y) (l : List X) (n : ℕ) → length (map f l) ≡ n → length l ≡ n
unmapped f l n e = sym (length-map l f) ∙ e

take-least : {A : Type 0} (n m : ℕ) (l : List A) → length l ≡ m → take (min n m) l ≡ take n l
take-least n m l e = go (leb n m) refl
  where
    go : (b : Bool) → leb n m ≡ b → take (min n m) l ≡ take n l
    go true h = let k : n ≤ m = leb-true n m h in let z : min n m ≡ n = omega arith in ap (λ (x : ℕ). take x l) z
    go false h = let k : m < n = leb-false n m h in take_all (min n m) l (omega arith) ∙ sym (take_all n l (omega arith))

pub take_places : (n : ℕ) (l : List Op) → length l ≡ 8 → take (min n 8) l ≡ take n l
take_places n l e = take-least n 8 l e

pub drop-places : (n : ℕ) (l : List Op) → length l ≡ 8 → drop (min n 8) l ≡ drop n l
drop-places n l e = go (leb n 8) refl
  where
    go : (b : Bool) → leb n 8 ≡ b → drop (min n 8) l ≡ drop n l
    go true h = let k : n ≤ 8 = leb-true n 8 h in let z : min n 8 ≡ n = omega arith in ap (λ (x : ℕ). drop x l) z
    go false h = let k : 8 < n = leb-false n 8 h in drop_of_length-le l {i = min n 8} (omega arith) ∙ sym (drop_of_length-le l {i = n} (omega arith))

pub operations_of : (f : Fragment) → length f.row ≡ 8 → take (min f.count 8) f.row ≡ operations f
unfolding operations
operations_of f e = take-least f.count 8 f.row e

-- how many there are
pub operations_many : (f : Fragment) → length f.row ≡ 8 → length (operations f) ≡ min f.count 8
unfolding operations
operations_many f e = length-take f.count f.row ∙ ap (min f.count) e

-- the i-th
pub operations_next : (f : Fragment) (i : ℕ) (d : Op) → i < length (operations f) → drop i (operations f) ≡ get_or f.row i d ∷ drop (i + 1) (operations f)
unfolding operations
operations_next f i d h =
    drop-cons (take f.count f.row) i d h ∙ ap {B = List Op} (λ (x : Op). x ∷ drop (suc i) (take f.count f.row)) (get_or-take f.count f.row i d (omega (arith, length-take f.count f.row, h)))
    ∙ ap {B = List Op} (λ (x : ℕ). get_or f.row i d ∷ drop x (take f.count f.row)) (sym (add-one i))

-- what a read past the end of a row of operations would give
abbrev pub no_op : Op
no_op = record { code = 0; cell = 0; amount = 0 }

-- the operations of a fragment whose words start at b

-- the i-th of its row
pub op_of : (l : List ℕ) (b i : ℕ) (d : Op) → i < 8 → get_or (fragment_at l b).row i d ≡ op_at l (b + 4 + 3 * i)
unfolding fragment_at
op_of l b i d h =
    let all : (fragment_at l b).row ≡ threes (b + 4) 8 = simp add_assoc in
    ap (λ (x : List Op). get_or x i d) all ∙ at (b + 4) 8 i h
  where
    threes : ℕ → ℕ → List Op
    threes c zero = []
    threes c (suc n) = op_at l c ∷ threes (c + 3) n

    at : (c n k : ℕ) → k < n → get_or (threes c n) k d ≡ op_at l (c + 3 * k)
    at c zero k h = absurd (omega arith)
    at c (suc n) zero h = let e : c ≡ c + 3 * 0 = omega arith in ap (op_at l) e
    at c (suc n) (suc k) h = let e : c + 3 + 3 * k ≡ c + 3 * suc k = omega arith in at (c + 3) n k (omega arith) ∙ ap (op_at l) e

pub words_many : (l : List ℕ) (b : ℕ) → length (operations (fragment_at l b)) ≡ min (get_or l (b + 3) 0) 8
unfolding fragment_at
words_many l b = operations_many (fragment_at l b) refl

pub words_next : (l : List ℕ) (b i : ℕ) (o : Op) → i < length (operations (fragment_at l b)) → o ≡ op_at l (b + 4 + 3 * i) → drop i (operations (fragment_at l b)) ≡ o ∷ drop (i + 1) (operations (fragment_at l b))
words_next l b i o h e =
    operations_next (fragment_at l b) i no_op h ∙ ap {B = List Op} (λ (x : Op). x ∷ drop (i + 1) (operations (fragment_at l b))) (op_of l b i no_op (omega (arith, h, words_many l b)) ∙ sym e)

-- What a run tells is what it gives, without its entries

pub told_of : (R : Steps.Ran) (r : Ran) → r ≡ laid R → r.told ≡ told R
unfolding laid
told_of R r e = ap (λ (x : Ran). x.told) e

-- A later fragment

module _ (f : Fragment) (cs : Cells) (us : List Undo) (r : Ran) (e : r ≡ laid (run f cs [])) where
  place_is : r.told.place ≡ (run f cs []).outcome.place
  unfolding laid told
  place_is = ap (λ (x : Ran). x.told.place) e

  cells_by : (b : Bool) → eqb (run f cs []).outcome.place 0 ≡ b → (run f cs us).cells ≡ (joined_by b us (run f cs [])).cells
  cells_by b h = ap (λ (x : Steps.Ran). x.cells) (run_earlier f cs us) ∙ ap (λ (x : Bool). (joined_by x us (run f cs [])).cells) h

  pub later_fine : r.told.place ≡ 0 → (cs' : Cells) → cs' ≡ (run f cs []).cells → cs' ≡ (run f cs us).cells
  later_fine z cs' h = h ∙ sym (cells_by true (eq-eqb _ 0 (sym place_is ∙ z)))

  pub later_fails : (r.told.place ≡ 0 → ⊥) → (cs' : Cells) → cs' ≡ undone us (run f cs []).cells → cs' ≡ (run f cs us).cells
  later_fails z cs' h = h ∙ sym (cells_by false (ne_eqb _ 0 (λ k. z (place_is ∙ k))))
