-- A leaf's set of ways, by number: any part of the remaining ways, faults left out or not, is told by the numbers of that part.
-- So a leaf's ways are told by their own numbers, as a record tells them. Rests on specs/Leaf.antt.
use mathlib.Core.Path.{◌≡◌, refl, sym, ap, ◌∙◌, fun_ext}
use mathlib.Core.Bool.{Bool, true, false, ◌||◌, true≢false, beq}
use mathlib.Core.List.{List, [], ◌∷◌}
use mathlib.Core.Logic.{◌⊎◌, inl, inr}
use Prim.Native.Nat.{ℕ, suc, ◌≤◌, ◌<◌}
use native.Mathlib.Omega.{arith}
use lib.Dec.{eqb}
use lib.Bits.{bit_or}
use borrow.Author.Tests.{eq-eqb, ne_eqb}
use Rattle.rules.specs.Table.{Way, Table, rows, absent_rows, ways}
use Rattle.rules.specs.Leaf.{select, has_number, of_set, contradicted, dropped, remaining, drop_all, sift}
use Rattle.rules.specs.Group.{touches, part}
use Rattle.rules.specs.Common.{lowest}

-- ---- numbers rise

-- The numbers of the ways rise, and begin at i or above.
unfoldable pub Rising : ℕ → List Way → Type 0
Rising i [] = Unit {0}
Rising i (v ∷ vs) = (i ≤ v.number) × Rising (suc v.number) vs

-- Those of rows that have absent words alone do.
absent-rising : (i : ℕ) (qs : List ℕ) → Rising i (absent_rows i qs)
unfolding Rising absent_rows
absent-rising i [] = tt
absent-rising i (q ∷ qs) = (omega arith, absent-rising (suc i) qs)

-- Those of all rows do.
rows-rising : (i : ℕ) (ps qs : List ℕ) → Rising i (rows i ps qs)
unfolding Rising rows
rows-rising i [] qs = absent-rising i qs
rows-rising i (p ∷ ps) [] = (omega arith, rows-rising (suc i) ps [])
rows-rising i (p ∷ ps) (q ∷ qs) = (omega arith, rows-rising (suc i) ps qs)

-- So those of a table's ways do.
pub ways-rising : (t : Table) → Rising 0 (ways t)
unfolding ways
ways-rising t = rows-rising 0 t.present t.absent

-- A later start is no harm.
rising-from : (i j : ℕ) (vs : List Way) → i ≤ j → Rising j vs → Rising i vs
unfolding Rising
rising-from i j [] l k = tt
rising-from i j (v ∷ vs) l k = (omega (arith, l, k.0), k.1)

-- Selected ways stay in number order.
pub select-rising : (i : ℕ) (P : ℕ → Bool) (vs : List Way) → Rising i vs → Rising i (select P vs)
unfolding Rising select
select-rising i P [] k = tt
select-rising i P (v ∷ vs) k = by (P v.number) (select-rising (suc v.number) P vs k.1)
  where
    by : (b : Bool) → Rising (suc v.number) (select P vs) → Rising i (elim b as (λ b. List Way) [ true ↦ v ∷ select P vs | false ↦ select P vs ])
    by true ih = (k.0, ih)
    by false ih = rising-from i (suc v.number) (select P vs) (omega (arith, k.0)) ih

-- So does what remains of ways.
pub remaining-rising : (i present absent : ℕ) (vs : List Way) → Rising i vs → Rising i (remaining present absent vs)
unfolding Rising remaining
remaining-rising i present absent [] k = tt
remaining-rising i present absent (v ∷ vs) k = by (contradicted present absent v) (remaining-rising (suc v.number) present absent vs k.1)
  where
    by : (b : Bool) → Rising (suc v.number) (remaining present absent vs)
        → Rising i (elim b as (λ b. List Way) [ true ↦ remaining present absent vs | false ↦ dropped (bit_or present absent) v ∷ remaining present absent vs ])
    by true ih = rising-from i (suc v.number) (remaining present absent vs) (omega (arith, k.0)) ih
    by false ih = (k.0, ih)

-- So do ways with faults left out.
pub drop-rising : (i m : ℕ) (vs : List Way) → Rising i vs → Rising i (drop_all m vs)
unfolding Rising drop_all
drop-rising i m [] k = tt
drop-rising i m (v ∷ vs) k = (k.0, drop-rising (suc v.number) m vs k.1)

-- So does a part of ways.
pub sift-rising : (i : ℕ) (g : Way → Bool) (vs : List Way) → Rising i vs → Rising i (sift g vs)
unfolding Rising sift
sift-rising i g [] k = tt
sift-rising i g (v ∷ vs) k = by (g v) (sift-rising (suc v.number) g vs k.1)
  where
    by : (b : Bool) → Rising (suc v.number) (sift g vs) → Rising i (elim b as (λ b. List Way) [ true ↦ v ∷ sift g vs | false ↦ sift g vs ])
    by true ih = (k.0, ih)
    by false ih = rising-from i (suc v.number) (sift g vs) (omega (arith, k.0)) ih

-- Tests that agree from i on select the same of ways that begin there.
pub select-same : (i : ℕ) (vs : List Way) (P Q : ℕ → Bool) → Rising i vs → ((j : ℕ) → i ≤ j → P j ≡ Q j) → select P vs ≡ select Q vs
unfolding Rising select
select-same i [] P Q k h = refl
select-same i (v ∷ vs) P Q k h =
    by (P v.number) (Q v.number) (h v.number k.0) (select-same (suc v.number) vs P Q k.1 (λ j l. h j (omega (arith, k.0, l))))
  where
    by : (x y : Bool) → x ≡ y → select P vs ≡ select Q vs
        → ◌≡◌ {A = List Way} (elim x as (λ b. List Way) [ true ↦ v ∷ select P vs | false ↦ select P vs ])
        (elim y as (λ b. List Way) [ true ↦ v ∷ select Q vs | false ↦ select Q vs ])
    by true true e ih = ap (λ (r : List Way). v ∷ r) ih
    by true false e ih = absurd (true≢false e)
    by false true e ih = absurd (true≢false (sym e))
    by false false e ih = ih

-- A test that no number passes selects nothing.
pub select-none : (P : ℕ → Bool) → ((j : ℕ) → P j ≡ false) → (vs : List Way) → select P vs ≡ []
unfolding select
select-none P h [] = refl
select-none P h (v ∷ vs) = rw (select, h v.number) (select-none P h vs)

-- The ways with the numbers of a list, where its first number is that of the first way, and no later way has it.
first-selected : (u v : Way) (us vs : List Way) → u.number ≡ v.number → Rising (suc v.number) vs → of_set (u ∷ us) (v ∷ vs) ≡ v ∷ of_set us vs
unfolding select has_number
first-selected u v us vs e k =
    rw (eq-eqb u.number v.number e, select)
    (rw (select-same (suc v.number) vs (has_number (u ∷ us)) (has_number us) k (λ j l. rw (ne_eqb u.number j (λ q. omega arith)))))

-- ---- parts of the remaining ways

-- The part that a word touches, or does not, is such a part.
pub part-sift : (b : Bool) (m : ℕ) (vs : List Way) → part b m vs ≡ sift (λ v. beq b (touches m v)) vs
unfolding sift
part-sift b m [] = refl
part-sift b m (v ∷ vs) = by (beq b (touches m v)) (part-sift b m vs)
  where
    by : (x : Bool) → part b m vs ≡ sift (λ v. beq b (touches m v)) vs
        → ◌≡◌ {A = List Way} (elim x as (λ c. List Way) [ true ↦ v ∷ part b m vs | false ↦ part b m vs ])
        (elim x as (λ c. List Way) [ true ↦ v ∷ sift (λ v. beq b (touches m v)) vs | false ↦ sift (λ v. beq b (touches m v)) vs ])
    by true ih = ap (λ (r : List Way). v ∷ r) ih
    by false ih = ih

module _ (P A O : ℕ) (g : Way → Bool) (Q : ℕ → Bool) where
  -- A part of what remains of the selected ways, with faults left out.
  some_of : List Way → List Way
  some_of vs = sift g (drop_all O (remaining P A (select Q vs)))

  -- A way as it is then.
  abbrev seen : Way → Way
  seen v = dropped O (dropped (bit_or P A) v)

  -- The first way is out, or it is in with its fixed faults dropped and others left out.
  abbrev First : Way → List Way → Type 0
  First v vs = (some_of (v ∷ vs) ≡ some_of vs) ⊎ ((some_of (v ∷ vs) ≡ seen v ∷ some_of vs) × (contradicted P A v ≡ false))

  -- One of the two holds, by the three tests that it must pass.
  first_way : (v : Way) (vs : List Way) → First v vs
  unfolding some_of select sift remaining drop_all
  first_way v vs = by (Q v.number) refl (contradicted P A v) refl (g (seen v)) refl
    where
      by : (x : Bool) → Q v.number ≡ x → (y : Bool) → contradicted P A v ≡ y → (z : Bool) → g (seen v) ≡ z → First v vs
      by false p y c z q = inl (rw (p, select))
      by true p true c z q = inl (rw (p, select, c, remaining))
      by true p false c true q = inr (rw (p, select, c, remaining, drop_all, q, sift), c)
      by true p false c false q = inl (rw (p, select, c, remaining, drop_all, q, sift))

  -- A part of ways that begin at i has no number below i.
  none_below : (i j : ℕ) (vs : List Way) → Rising i vs → j < i → has_number (some_of vs) j ≡ false
  unfolding some_of Rising select has_number sift remaining drop_all
  none_below i j [] k l = refl
  none_below i j (v ∷ vs) k l = by (first_way v vs) (none_below (suc v.number) j vs k.1 (omega arith))
    where
      by : First v vs → has_number (some_of vs) j ≡ false → has_number (some_of (v ∷ vs)) j ≡ false
      by (inl e) ih = rw e ih
      by (inr e) ih = rw (e.0, ne_eqb v.number j (λ q. omega arith)) ih

  -- What remains of the ways with the numbers of a part is that part.
  part_back : (i : ℕ) (vs : List Way) → Rising i vs → drop_all O (remaining P A (of_set (some_of vs) vs)) ≡ some_of vs
  unfolding Rising select has_number sift some_of remaining drop_all
  part_back i [] k = refl
  part_back i (v ∷ vs) k = by (first_way v vs) (part_back (suc v.number) vs k.1)
    where
      by : First v vs → drop_all O (remaining P A (of_set (some_of vs) vs)) ≡ some_of vs
          → drop_all O (remaining P A (of_set (some_of (v ∷ vs)) (v ∷ vs))) ≡ some_of (v ∷ vs)
      by (inl e) ih = rw e (rw (none_below (suc v.number) v.number vs k.1 (omega arith), select) ih)
      by (inr e) ih = rw (e.0, first-selected (seen v) v (some_of vs) vs refl k.1) (rw (e.1, remaining, drop_all) (ap (λ (r : List Way). seen v ∷ r) ih))

-- ---- told by number

-- WHAT A RECORD TELLS: any part of what remains of selected ways, with faults left out, is the same of the ways with its own numbers.
pub part-told : (all : List Way) → Rising 0 all → (Q : ℕ → Bool) (P A O : ℕ) (vs : List Way) → vs ≡ drop_all O (remaining P A (select Q all))
    → (g : Way → Bool) → drop_all O (remaining P A (of_set (sift g vs) all)) ≡ sift g vs
unfolding some_of
part-told all r Q P A O vs e g = rw e (part_back P A O g Q 0 all r)

-- Leaving faults out changes no number.
drop-number : (m : ℕ) (us : List Way) (i : ℕ) → has_number (drop_all m us) i ≡ has_number us i
unfolding has_number drop_all
drop-number m [] i = refl
drop-number m (v ∷ us) i = ap (λ (b : Bool). eqb v.number i || b) (drop-number m us i)

-- So it selects the same.
pub drop-set : (m : ℕ) (us all : List Way) → of_set (drop_all m us) all ≡ of_set us all
drop-set m us all = ap (λ (P : ℕ → Bool). select P all) (fun_ext (drop-number m us))

-- The lowest numbered way, by itself, is a part by a test.
pub lowest-sift : (i : ℕ) (vs : List Way) → Rising i vs → (g : Way → Bool) × (lowest vs ≡ sift g vs)
unfolding Rising lowest sift
lowest-sift i [] k = (λ u. true, refl)
lowest-sift i (v ∷ vs) k = (
  λ u. eqb v.number u.number,
  rw (eq-eqb v.number v.number refl, sift) (ap (λ (r : List Way). v ∷ r) (sym (none (suc v.number) vs k.1 (omega arith)))),
)
  where
    none : (i : ℕ) (us : List Way) → Rising i us → v.number < i → sift (λ u. eqb v.number u.number) us ≡ []
    none i [] k l = refl
    none i (u ∷ us) k l = rw (ne_eqb v.number u.number (λ q. omega (arith, l, k.0, q)), sift) (none (suc u.number) us k.1 (omega (arith, l, k.0)))

-- All ways of a list, by number.
pub whole_set : (i : ℕ) (vs : List Way) → Rising i vs → of_set vs vs ≡ vs
unfolding Rising select
whole_set i [] k = refl
whole_set i (v ∷ vs) k = first-selected v v vs vs refl k.1 ∙ ap (λ (r : List Way). v ∷ r) (whole_set (suc v.number) vs k.1)
