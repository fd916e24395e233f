-- Parts of ways whose numbers rise: a part is told by the numbers that it has, a way by its own.
-- Rests on `rules`, Sets and Minimal.
use mathlib.Core.Path.{◌≡◌, refl, sym, ap, ◌∙◌, subst}
use mathlib.Core.Bool.{Bool, true, false, not, ◌&&◌, ◌||◌, true≢false, beq}
use mathlib.Core.List.Memᴰ
use mathlib.Core.List.{List, [], ◌∷◌, map}
use Prim.Native.Nat.{ℕ, suc, ◌≤◌, ◌<◌}
use native.Mathlib.Omega.{arith}
use lib.Bits.{bit_or}
use lib.Dec.{eqb}
use borrow.Author.Tests.{eqb-true, eq-eqb, ne_eqb}
use Rattle.std.specs.List.{list_any}
use Rattle.rules.specs.declared.Way.{Way}
use Rattle.rules.specs.Members.{In}
use Rattle.rules.specs.Leaf.{any, select, has_number, contradicted, dropped, remaining, drop_all, sift}
use Rattle.rules.specs.Group.{touches, part}
use Rattle.rules.proofs.Booleans.{or-first, or-second, same_test}
use Rattle.rules.proofs.Minimal.{sift-in, in-sift}
use Rattle.rules.proofs.Sets.{Rising, part-sift}

-- Tests that agree on the ways of a list keep the same of them.
pub sift-same : (f g : Way → Bool) (vs : List Way) → ((v : Way) → In v vs → f v ≡ g v) → sift f vs ≡ sift g vs
unfolding sift
sift-same f g [] h = refl
sift-same f g (v ∷ vs) h =
    rw (sift, h v (Memᴰ.head refl)) (ap (λ (us : List Way). elim (g v) as (λ b. List Way) [ true ↦ v ∷ us | false ↦ us ])
    (sift-same f g vs (λ u i. h u (Memᴰ.tail i))))

-- Ways are selected by a test of their numbers.
pub select-sift : (P : ℕ → Bool) (vs : List Way) → select P vs ≡ sift (λ v. P v.number) vs
unfolding select sift
select-sift P [] = refl
select-sift P (v ∷ vs) =
    ap (λ (us : List Way). elim (P v.number) as (λ b. List Way) [ true ↦ v ∷ us | false ↦ us ]) (select-sift P vs)

-- A way of a list has one of its numbers.
pub its-number : (vs : List Way) (v : Way) → In v vs → has_number vs v.number ≡ true
unfolding has_number
its-number [] v x'' = elim x'' [ ]
its-number (u ∷ vs) v (Memᴰ.head e) = or-first (eqb u.number v.number) _ (eq-eqb u.number v.number (sym (ap (λ (w : Way). w.number) e)))
its-number (u ∷ vs) v (Memᴰ.tail i) = or-second (eqb u.number v.number) _ (its-number vs v i)

-- One of its numbers is that of a way.
pub numbered : (vs : List Way) (i : ℕ) → has_number vs i ≡ true → (v : Way) × In v vs × (v.number ≡ i)
unfolding has_number
numbered [] i h = absurd (true≢false (sym h))
numbered (u ∷ vs) i h = by (eqb u.number i) refl h (numbered vs i)
  where
    by : (b : Bool) → eqb u.number i ≡ b → b || has_number vs i ≡ true → (has_number vs i ≡ true → (v : Way) × In v vs × (v.number ≡ i))
        → (v : Way) × In v (u ∷ vs) × (v.number ≡ i)
    by true e h ih = (u, Memᴰ.head refl, eqb-true u.number i e)
    by false e h ih = let k = ih h in (k.0, Memᴰ.tail k.1, k.2)

-- Beyond the first way of ways that rise the numbers are larger.
pub later : (i : ℕ) (vs : List Way) (v : Way) → Rising i vs → In v vs → i ≤ v.number
unfolding Rising
later i [] v k x'' = elim x'' [ ]
later i (u ∷ vs) v k (Memᴰ.head e) = omega (arith, k.0, ap (λ (w : Way). w.number) e)
later i (u ∷ vs) v k (Memᴰ.tail p) = omega (arith, k.0, later (suc u.number) vs v k.1 p)

-- So no later way has the number of the first.
pub first_alone : (i : ℕ) (v : Way) (vs : List Way) → Rising i (v ∷ vs) → has_number vs v.number ≡ false
unfolding Rising
first_alone i v vs k = by (has_number vs v.number) refl
  where
    by : (b : Bool) → has_number vs v.number ≡ b → b ≡ false
    by true e = let n = numbered vs v.number e in absurd (omega (arith, later (suc v.number) vs n.0 k.1 n.1, n.2))
    by false e = refl

-- Two ways of them with one number are one.
pub one_way : (i : ℕ) (vs : List Way) → Rising i vs → (u v : Way) → In u vs → In v vs → u.number ≡ v.number → u ≡ v
unfolding Rising
one_way i [] k u v x'' q e = elim x'' [ ]
one_way i (w ∷ vs) k u v (Memᴰ.head p) (Memᴰ.head q) e = p ∙ sym q
one_way i (w ∷ vs) k u v (Memᴰ.head p) (Memᴰ.tail q) e = absurd (omega (arith, later (suc w.number) vs v k.1 q, e, ap (λ (w : Way). w.number) p))
one_way i (w ∷ vs) k u v (Memᴰ.tail p) (Memᴰ.head q) e = absurd (omega (arith, later (suc w.number) vs u k.1 p, e, ap (λ (w : Way). w.number) q))
one_way i (w ∷ vs) k u v (Memᴰ.tail p) (Memᴰ.tail q) e = one_way (suc w.number) vs k.1 u v p q e

-- A way's number is one of a part's just if the way passes.
pub part-number : (i : ℕ) (vs : List Way) → Rising i vs → (g : Way → Bool) (v : Way) → In v vs → has_number (sift g vs) v.number ≡ g v
part-number i vs k g v p =
    same_test _ _
    (λ h. let n = numbered (sift g vs) v.number h in
    let q = in-sift g vs n.0 n.1 in ap g (sym (one_way i vs k n.0 v q.0 p n.2)) ∙ q.1)
    (λ h. its-number (sift g vs) v (sift-in g vs v p h))

-- A number of a part is one of the list.
pub part-in : (g : Way → Bool) (vs : List Way) (i : ℕ) → has_number (sift g vs) i ≡ true → has_number vs i ≡ true
part-in g vs i h =
    let n = numbered (sift g vs) i h in
    subst (λ (j : ℕ). has_number vs j ≡ true) n.2 (its-number vs n.0 (in-sift g vs n.0 n.1).0)

-- Only the first of them has the first number.
pub sift-first : (i : ℕ) (v : Way) (vs : List Way) → Rising i (v ∷ vs) → sift (λ u. eqb u.number v.number) (v ∷ vs) ≡ v ∷ []
unfolding Rising sift
sift-first i v vs k = rw (sift, eq-eqb v.number v.number refl) (ap (λ (us : List Way). v ∷ us) (none (suc v.number) vs k.1 (omega arith)))
  where
    none : (i : ℕ) (us : List Way) → Rising i us → v.number < i → sift (λ u. eqb u.number v.number) us ≡ []
    none i [] k l = refl
    none i (u ∷ us) k l = rw (sift, ne_eqb u.number v.number (λ q. omega (arith, l, k.0, q))) (none (suc u.number) us k.1 (omega (arith, l, k.0)))

-- ---- two tests

-- A part of a part passes both tests.
pub sift-twice : (f g : Way → Bool) (vs : List Way) → sift g (sift f vs) ≡ sift (λ v. f v && g v) vs
unfolding sift
sift-twice f g [] = refl
sift-twice f g (v ∷ vs) = by (f v) (λ us. refl) (sift-twice f g vs)
  where
    by : (b : Bool) → ((us : List Way) → sift g (v ∷ us) ≡ elim (g v) as (λ b. List Way) [ true ↦ v ∷ sift g us | false ↦ sift g us ])
        → sift g (sift f vs) ≡ sift (λ v. f v && g v) vs
        → sift g (elim b as (λ b. List Way) [ true ↦ v ∷ sift f vs | false ↦ sift f vs ])
        ≡ elim (b && g v) as (λ b. List Way) [ true ↦ v ∷ sift (λ v. f v && g v) vs | false ↦ sift (λ v. f v && g v) vs ]
    by true e ih = e (sift f vs) ∙ ap (λ (us : List Way). elim (g v) as (λ b. List Way) [ true ↦ v ∷ us | false ↦ us ]) ih
    by false e ih = ih

-- The test on a list of ways is the library's.
pub any-is : (h : Way → Bool) (vs : List Way) → list_any h vs ≡ any h vs
unfolding any
any-is h [] = refl
any-is h (v ∷ vs) = ap (λ (b : Bool). h v || b) (any-is h vs)

-- ---- what remains, what is left out and what is touched, as parts

-- What remains of ways is what is not contradicted, without the fixed faults.
pub remaining-is : (p q : ℕ) (vs : List Way) → remaining p q vs ≡ map (dropped (bit_or p q)) (sift (λ v. not (contradicted p q v)) vs)
unfolding remaining sift
remaining-is p q [] = refl
remaining-is p q (v ∷ vs) = by (contradicted p q v) (remaining-is p q vs)
  where
    by : (b : Bool) → remaining p q vs ≡ map (dropped (bit_or p q)) (sift (λ v. not (contradicted p q v)) vs)
        → ◌≡◌ {A = List Way} (elim b as (λ b. List Way) [ true ↦ remaining p q vs | false ↦ dropped (bit_or p q) v ∷ remaining p q vs ])
        (map (dropped (bit_or p q)) (elim (not b) as (λ b. List Way)
        [ true ↦ v ∷ sift (λ v. not (contradicted p q v)) vs | false ↦ sift (λ v. not (contradicted p q v)) vs ]))
    by true ih = ih
    by false ih = ap (λ (us : List Way). dropped (bit_or p q) v ∷ us) ih

-- Ways with faults left out.
pub drop-is : (m : ℕ) (vs : List Way) → drop_all m vs ≡ map (dropped m) vs
unfolding drop_all
drop-is m [] = refl
drop-is m (v ∷ vs) = ap (λ (us : List Way). dropped m v ∷ us) (drop-is m vs)

-- The ways that a word touches.
pub touched-is : (m : ℕ) (vs : List Way) → part true m vs ≡ sift (λ v. touches m v) vs
touched-is m vs = part-sift true m vs ∙ sift-same _ _ vs (λ v i. by (touches m v))
  where
    by : (b : Bool) → beq true b ≡ b
    by true = refl
    by false = refl

-- And those that it does not touch.
pub untouched-is : (m : ℕ) (vs : List Way) → part false m vs ≡ sift (λ v. not (touches m v)) vs
untouched-is m vs = part-sift false m vs ∙ sift-same _ _ vs (λ v i. by (touches m v))
  where
    by : (b : Bool) → beq false b ≡ not b
    by true = refl
    by false = refl

-- Dropping faults keeps the numbers.
pub dropped-number : (m : ℕ) (vs : List Way) (j : ℕ) → has_number (map (dropped m) vs) j ≡ has_number vs j
unfolding has_number
dropped-number m [] j = refl
dropped-number m (v ∷ vs) j = ap (λ (b : Bool). eqb v.number j || b) (dropped-number m vs j)
