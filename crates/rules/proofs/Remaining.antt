-- The remaining ways: fixing faults one after the other is fixing them all at once, and what remains after fixing a fault happens
-- exactly where the ways happen with that fault so set; and what leaving faults out does to them. Rests on Bits.antt.
use mathlib.Core.Path.{◌≡◌, refl, sym, ap, ap₂, ◌∙◌}
use mathlib.Core.Bool.{Bool, true, false, not, ◌&&◌, ◌||◌, true≢false}
use mathlib.Core.List.{List, [], ◌∷◌}
use Prim.Native.Nat.{ℕ, zero, suc, ◌/◌, ◌^◌, ◌<◌}
use native.Mathlib.Omega.{arith}
use lib.ListN.{length, set}
use lib.Dec.{eqb, eqb-zero-suc}
use lib.Bits.{bit_and, bit_or, and_zero_r, or_comm, or_zero_l, or_zero_r}
use borrow.Author.Tests.{eqb-true, eq-eqb, not-false}
use Rattle.rules.specs.Table.{odd, bit, Way, faults, Assignment, fits, fits_all, satisfies, happens}
use Rattle.rules.specs.Leaf.{any, contradicted, without, dropped, remaining, drop_all}
use Rattle.rules.specs.Tree.{occurs}
use Rattle.rules.proofs.Booleans.{and-false, and-true, or-neither, or-four, is_true, any_head, any-tail, any-cons}
use Rattle.rules.proofs.Bits.{bit-and, bit-or, bit-without, bit-pow, bit-nonzero, bits-zero, bits-ext, or-zero, without-half, apart-bit}

-- ---- tests that survive

-- A test that no way passes, and that dropping faults does not bring about, no remaining way passes.
pub remaining-any : (h : Way → Bool) → ((m : ℕ) (v : Way) → h v ≡ false → h (dropped m v) ≡ false) → (P A : ℕ) (vs : List Way)
    → any h vs ≡ false → any h (remaining P A vs) ≡ false
unfolding remaining any
remaining-any h f P A [] e = refl
remaining-any h f P A (v ∷ vs) e = by (contradicted P A v) (remaining-any h f P A vs (any-tail h v vs e))
  where
    by : (b : Bool) → any h (remaining P A vs) ≡ false
        → any h (elim b as (λ b. List Way) [ true ↦ remaining P A vs | false ↦ dropped (bit_or P A) v ∷ remaining P A vs ]) ≡ false
    by true ih = ih
    by false ih = any-cons h (dropped (bit_or P A) v) (remaining P A vs) (f (bit_or P A) v (any_head h v vs e)) ih

-- The faults of a way with some dropped.
pub dropped-faults : (i m : ℕ) (v : Way) → bit i (faults (dropped m v)) ≡ bit i (faults v) && not (bit i m)
dropped-faults i m v = simp (bit-or, bit-without) (spread (bit i v.present) (bit i v.absent) (bit i m))
  where
    spread : (x y z : Bool) → (x && not z) || (y && not z) ≡ (x || y) && not z
    spread true y true = and-false y
    spread true y false = refl
    spread false y z = refl

-- A fixed fault occurs in no remaining way.
pub fixed-gone : (f P A : ℕ) (vs : List Way) → bit f (bit_or P A) ≡ true → occurs f (remaining P A vs) ≡ false
unfolding occurs remaining any
fixed-gone f P A [] b = refl
fixed-gone f P A (v ∷ vs) b = by (contradicted P A v) (fixed-gone f P A vs b)
  where
    by : (c : Bool) → any (λ u. bit f (faults u)) (remaining P A vs) ≡ false
        → any (λ u. bit f (faults u)) (elim c as (λ b. List Way) [ true ↦ remaining P A vs | false ↦ dropped (bit_or P A) v ∷ remaining P A vs ]) ≡ false
    by true ih = ih
    by false ih = or-neither _ _ (dropped-faults f (bit_or P A) v ∙ ap (λ (x : Bool). bit f (faults v) && not x) b ∙ and-false (bit f (faults v))) ih

-- A fault that is not named stays unnamed.
pub unnamed-stays : (i m : ℕ) (v : Way) → bit i (faults v) ≡ false → bit i (faults (dropped m v)) ≡ false
unnamed-stays i m v h = dropped-faults i m v ∙ ap (λ (x : Bool). x && not (bit i m)) h

-- ---- fixing one fault

-- A fault fixed in state b contradicts what the two words say of it.
abbrev opposed : Bool → Bool → Bool → Bool
opposed true P Q = Q
opposed false P Q = P

fits-free : (b P Q : Bool) → opposed b P Q ≡ false → fits P Q b ≡ true
fits-free true true false h = refl
fits-free true false false h = refl
fits-free true P true h = absurd (true≢false h)
fits-free false true Q h = absurd (true≢false h)
fits-free false false true h = refl
fits-free false false false h = refl

fits-opposed : (b P Q : Bool) → opposed b P Q ≡ true → fits P Q b ≡ false
fits-opposed true true true h = refl
fits-opposed true false true h = refl
fits-opposed true P false h = absurd (true≢false (sym h))
fits-opposed false false Q h = absurd (true≢false (sym h))
fits-opposed false true true h = refl
fits-opposed false true false h = refl

-- Nothing dropped.
without-zero : (w : ℕ) → without 0 w ≡ w
without-zero w = omega (arith, and_zero_r w)

-- The lowest fault dropped.
drop-lowest : (w : ℕ) → odd (without (2 ^ 0) w) ≡ false
drop-lowest w = bit-without 0 (2 ^ 0) w ∙ and-false (odd w)

drop-lowest-rest : (w : ℕ) → without (2 ^ 0) w / 2 ≡ w / 2
drop-lowest-rest w = without-half (2 ^ 0) w ∙ without-zero (w / 2)

-- A higher fault dropped.
drop-higher : (f w : ℕ) → odd (without (2 ^ suc f) w) ≡ odd w
drop-higher f w = bit-without 0 (2 ^ suc f) w ∙ ap (λ (b : Bool). odd w && not b) (bit-pow 0 (suc f) ∙ eqb-zero-suc f) ∙ and-true (odd w)

drop-higher-rest : (f w : ℕ) → without (2 ^ suc f) w / 2 ≡ without (2 ^ f) (w / 2)
drop-higher-rest f w = let e : 2 ^ suc f / 2 ≡ 2 ^ f = omega arith in without-half (2 ^ suc f) w ∙ ap (λ (k : ℕ). without k (w / 2)) e

fits-dropped : (f p q : ℕ) (b : Bool) (a : Assignment) → f < length a → opposed b (bit f p) (bit f q) ≡ false
    → fits_all (without (2 ^ f) p) (without (2 ^ f) q) a ≡ fits_all p q (set a f b)
fits-dropped f p q b [] l h = absurd (omega arith)
fits-dropped zero p q b (c ∷ a) l h =
    rw (drop-lowest p, drop-lowest q, drop-lowest-rest p, drop-lowest-rest q, fits-free b (odd p) (odd q) h)
fits-dropped (suc f) p q b (c ∷ a) l h =
    rw (drop-higher f p, drop-higher f q, drop-higher-rest f p, drop-higher-rest f q)
    (ap (λ (r : Bool). fits (odd p) (odd q) c && r) (fits-dropped f (p / 2) (q / 2) b a (omega arith) h))

fits-contradicted : (f p q : ℕ) (b : Bool) (a : Assignment) → f < length a → opposed b (bit f p) (bit f q) ≡ true → fits_all p q (set a f b) ≡ false
fits-contradicted f p q b [] l h = absurd (omega arith)
fits-contradicted zero p q b (c ∷ a) l h = rw (fits-opposed b (odd p) (odd q) h)
fits-contradicted (suc f) p q b (c ∷ a) l h =
    rw (fits-contradicted f (p / 2) (q / 2) b a (omega arith) h) (and-false (fits (odd p) (odd q) c))

-- The words P and A fix just the fault f, in state b.
record Fixes (P A f : ℕ) (b : Bool) : Type 0 where
  only : bit_or P A ≡ 2 ^ f
  test : (v : Way) → contradicted P A v ≡ opposed b (bit f v.present) (bit f v.absent)

fixing : (P A f : ℕ) (b : Bool) → Fixes P A f b → (vs : List Way) (a : Assignment) → f < length a → happens (remaining P A vs) a ≡ happens vs (set a f b)
unfolding remaining
fixing P A f b k [] a l = refl
fixing P A f b k (v ∷ vs) a l = by (contradicted P A v) refl (fixing P A f b k vs a l)
  where
    by : (c : Bool) → contradicted P A v ≡ c → happens (remaining P A vs) a ≡ happens vs (set a f b)
        → happens (elim c as (λ b. List Way) [ true ↦ remaining P A vs | false ↦ dropped (bit_or P A) v ∷ remaining P A vs ]) a
        ≡ satisfies v (set a f b) || happens vs (set a f b)
    by true e ih = rw (fits-contradicted f v.present v.absent b a l (sym (k.test v) ∙ e)) ih
    by false e ih =
        ap₂ (λ (x y : Bool). x || y)
        (ap (λ (m : ℕ). satisfies (dropped m v) a) k.only ∙ fits-dropped f v.present v.absent b a l (sym (k.test v) ∙ e)) ih

-- A word meets a power of two exactly in that bit.
pub meets-pow : (w f : ℕ) → not (eqb (bit_and w (2 ^ f)) 0) ≡ bit f w
meets-pow w f = go (bit f w) refl
  where
    hit : bit f w ≡ true → bit f (bit_and w (2 ^ f)) ≡ true
    hit h = bit-and f w (2 ^ f) ∙ ap₂ (λ (x y : Bool). x && y) h (bit-pow f f ∙ eq-eqb f f refl)

    off : bit f w ≡ false → (i : ℕ) (c : Bool) → eqb i f ≡ c → bit i w && c ≡ false
    off h i true e = ap (λ (j : ℕ). bit j w && true) (eqb-true i f e) ∙ ap (λ (b : Bool). b && true) h
    off h i false e = and-false (bit i w)

    go : (b : Bool) → bit f w ≡ b → not (eqb (bit_and w (2 ^ f)) 0) ≡ b
    go true h = ap not (bit-nonzero f (bit_and w (2 ^ f)) (hit h))
    go false h =
        ap (λ (k : ℕ). not (eqb k 0))
        (bits-zero (bit_and w (2 ^ f)) (λ i. bit-and i w (2 ^ f) ∙ ap (λ (y : Bool). bit i w && y) (bit-pow i f) ∙ off h i (eqb i f) refl))

-- What remains with a fault fixed present happens where the ways happen with it present.
pub fix-present : (f : ℕ) (vs : List Way) (a : Assignment) → f < length a → happens (remaining (2 ^ f) 0 vs) a ≡ happens vs (set a f true)
fix-present f =
    fixing (2 ^ f) 0 f true
    (record {
      only = or_zero_r (2 ^ f);
      test =
          λ v. ap (λ (k : ℕ). not (eqb k 0))
          (ap (λ (x : ℕ). bit_or x (bit_and v.absent (2 ^ f))) (and_zero_r v.present) ∙ or_zero_l (bit_and v.absent (2 ^ f)))
          ∙ meets-pow v.absent f;
    })

-- The same for a fault fixed absent.
pub fix-absent : (f : ℕ) (vs : List Way) (a : Assignment) → f < length a → happens (remaining 0 (2 ^ f) vs) a ≡ happens vs (set a f false)
fix-absent f =
    fixing 0 (2 ^ f) f false
    (record {
      only = or_zero_l (2 ^ f);
      test =
          λ v. ap (λ (k : ℕ). not (eqb k 0))
          (ap (bit_or (bit_and v.present (2 ^ f))) (and_zero_r v.absent) ∙ or_zero_r (bit_and v.present (2 ^ f)))
          ∙ meets-pow v.present f;
    })

-- ---- fixing more faults

-- Either of two words has a bit just if both together have one.
pub nonzero-or : (x y : ℕ) → not (eqb (bit_or x y) 0) ≡ not (eqb x 0) || not (eqb y 0)
nonzero-or x y = go (eqb x 0) refl (eqb y 0) refl
  where
    go : (b : Bool) → eqb x 0 ≡ b → (c : Bool) → eqb y 0 ≡ c → not (eqb (bit_or x y) 0) ≡ not b || not c
    go true e true d = ap (λ (k : ℕ). not (eqb k 0)) (ap₂ bit_or (eqb-true x 0 e) (eqb-true y 0 d))
    go true e false d = ap (λ (k : ℕ). not (eqb k 0)) (ap (λ (k : ℕ). bit_or k y) (eqb-true x 0 e) ∙ or_zero_l y) ∙ ap not d
    go false e c d = is_true _ (λ z. true≢false (sym (eq-eqb x 0 (none z)) ∙ e))
      where
        none : not (eqb (bit_or x y) 0) ≡ false → x ≡ 0
        none z = (or-zero x y (eqb-true (bit_or x y) 0 (not-false (eqb (bit_or x y) 0) z))).0

-- The faults by which fixed faults contradict a way.
abbrev clash : ℕ → ℕ → Way → ℕ
clash P A v = bit_or (bit_and v.present A) (bit_and v.absent P)

contradicted-join : (P A P' A' : ℕ) (v : Way) → contradicted (bit_or P P') (bit_or A A') v ≡ contradicted P A v || contradicted P' A' v
contradicted-join P A P' A' v =
    ap (λ (k : ℕ). not (eqb k 0)) (bits-ext (clash (bit_or P P') (bit_or A A') v) (bit_or (clash P A v) (clash P' A' v)) at)
    ∙ nonzero-or (clash P A v) (clash P' A' v)
  where
    shuffle : (p q a a' b b' : Bool) → (p && (a || a')) || (q && (b || b')) ≡ ((p && a) || (q && b)) || ((p && a') || (q && b'))
    shuffle true q true a' b b' = refl
    shuffle true q false true true b' = left q
      where
        left : (q : Bool) → true ≡ (q && true) || true
        left true = refl
        left false = refl
    shuffle true q false true false b' = left q
      where
        left : (q : Bool) → true ≡ (q && false) || true
        left true = refl
        left false = refl
    shuffle true true false false true b' = refl
    shuffle true true false false false b' = refl
    shuffle true false false false b b' = refl
    shuffle false true a a' true b' = refl
    shuffle false true a a' false b' = refl
    shuffle false false a a' b b' = refl

    at : (i : ℕ) → bit i (clash (bit_or P P') (bit_or A A') v) ≡ bit i (bit_or (clash P A v) (clash P' A' v))
    at i = simp (bit-or, bit-and) (shuffle (bit i v.present) (bit i v.absent) (bit i A) (bit i A') (bit i P) (bit i P'))

contradicted-dropped : (m P A : ℕ) (v : Way) → not (eqb (bit_and m (bit_or P A)) 0) ≡ false → contradicted P A (dropped m v) ≡ contradicted P A v
contradicted-dropped m P A v h = ap (λ (k : ℕ). not (eqb k 0)) (bits-ext (clash P A (dropped m v)) (clash P A v) at)
  where
    keeps : (p q a b c : Bool) → (c ≡ true → b || a ≡ false) → ((p && not c) && a) || ((q && not c) && b) ≡ (p && a) || (q && b)
    keeps p q true b true e = absurd (true≢false (second b (e refl)))
      where
        second : (b : Bool) → b || true ≡ false → true ≡ false
        second true z = z
        second false z = z
    keeps p q false true true e = absurd (true≢false (e refl))
    keeps p q false false true e = simp (and-false)
    keeps p q a b false e = simp (and-true)

    at : (i : ℕ) → bit i (clash P A (dropped m v)) ≡ bit i (clash P A v)
    at i =
        simp (bit-or, bit-and, bit-without)
        (keeps (bit i v.present) (bit i v.absent) (bit i A) (bit i P) (bit i m) (λ e. sym (bit-or i P A) ∙ apart-bit m (bit_or P A) i h e))

without-twice : (m m' w : ℕ) → without m' (without m w) ≡ without (bit_or m m') w
without-twice m m' w = bits-ext (without m' (without m w)) (without (bit_or m m') w) (λ i. simp (bit-without, bit-or) (both (bit i w) (bit i m) (bit i m')))
  where
    both : (x y z : Bool) → (x && not y) && not z ≡ x && not (y || z)
    both true true z = refl
    both true false z = refl
    both false y z = refl

-- Faults dropped after others are dropped together.
pub dropped-twice : (m m' : ℕ) (v : Way) → dropped m' (dropped m v) ≡ dropped (bit_or m m') v
dropped-twice m m' v = λ i. record { number = v.number; present = without-twice m m' v.present i; absent = without-twice m m' v.absent i }

-- Four words joined by twos, either way.
pub or-regroup : (P A P' A' : ℕ) → bit_or (bit_or P A) (bit_or P' A') ≡ bit_or (bit_or P P') (bit_or A A')
or-regroup P A P' A' = bits-ext _ _ (λ i. simp (bit-or) (or-four (bit i P) (bit i A) (bit i P') (bit i A')))

-- Fixing faults that are not fixed yet, after others, is fixing them all at once.
pub fix-again : (P A P' A' : ℕ) → not (eqb (bit_and (bit_or P A) (bit_or P' A')) 0) ≡ false → (us : List Way)
    → remaining P' A' (remaining P A us) ≡ remaining (bit_or P P') (bit_or A A') us
unfolding remaining
fix-again P A P' A' h [] = refl
fix-again P A P' A' h (v ∷ us) = rw (contradicted-join P A P' A' v, remaining) (by (contradicted P A v) (contradicted P' A' v) refl (fix-again P A P' A' h us))
  where
    all : List Way
    all = remaining (bit_or P P') (bit_or A A') us

    m : ℕ
    m = bit_or P A

    by : (b c : Bool) → contradicted P' A' v ≡ c → remaining P' A' (remaining P A us) ≡ all
        → remaining P' A' (elim b as (λ b. List Way) [ true ↦ remaining P A us | false ↦ dropped m v ∷ remaining P A us ])
        ≡ (elim (b || c) as (λ b. List Way) [ true ↦ all | false ↦ dropped (bit_or (bit_or P P') (bit_or A A')) v ∷ all ])
    by true c e ih = ih
    by false true e ih = rw (contradicted-dropped m P' A' v h ∙ e, remaining) ih
    by false false e ih =
        rw (contradicted-dropped m P' A' v h ∙ e, remaining)
        (ap₂ (λ (x : Way) (y : List Way). x ∷ y) (dropped-twice m (bit_or P' A') v ∙ ap (λ (k : ℕ). dropped k v) (or-regroup P A P' A')) ih)

-- A way with no fault dropped.
drop-nothing : (v : Way) → dropped 0 v ≡ v
drop-nothing v = λ i. record { number = v.number; present = without-zero v.present i; absent = without-zero v.absent i }

-- Nothing fixed: all ways remain as they are.
pub fix_none : (us : List Way) → remaining 0 0 us ≡ us
unfolding remaining
fix_none [] = refl
fix_none (v ∷ us) = rw (free, remaining) (ap₂ (λ (x : Way) (y : List Way). x ∷ y) (drop-nothing v) (fix_none us))
  where
    free : contradicted 0 0 v ≡ false
    free = ap (λ (k : ℕ). not (eqb k 0)) (ap₂ bit_or (and_zero_r v.present) (and_zero_r v.absent))

-- ---- faults left out

-- A test that no way passes, and that dropping faults does not bring about, none passes with faults left out.
pub drop-any : (h : Way → Bool) → ((m : ℕ) (v : Way) → h v ≡ false → h (dropped m v) ≡ false) → (m : ℕ) (vs : List Way) → any h vs ≡ false
    → any h (drop_all m vs) ≡ false
unfolding drop_all any
drop-any h f m [] e = refl
drop-any h f m (v ∷ vs) e = any-cons h (dropped m v) (drop_all m vs) (f m v (any_head h v vs e)) (drop-any h f m vs (any-tail h v vs e))

-- A fault that is left out does not occur.
pub drop-gone : (f m : ℕ) (vs : List Way) → bit f m ≡ true → occurs f (drop_all m vs) ≡ false
unfolding drop_all occurs any
drop-gone f m [] b = refl
drop-gone f m (v ∷ vs) b =
    or-neither _ _ (dropped-faults f m v ∙ ap (λ (x : Bool). bit f (faults v) && not x) b ∙ and-false (bit f (faults v))) (drop-gone f m vs b)

-- Nothing left out.
pub drop-none : (vs : List Way) → drop_all 0 vs ≡ vs
unfolding drop_all
drop-none [] = refl
drop-none (v ∷ vs) = ap₂ (λ (x : Way) (y : List Way). x ∷ y) (drop-nothing v) (drop-none vs)

-- Faults left out after others are left out together.
pub drop-twice : (m m' : ℕ) (vs : List Way) → drop_all m' (drop_all m vs) ≡ drop_all (bit_or m m') vs
unfolding drop_all
drop-twice m m' [] = refl
drop-twice m m' (v ∷ vs) = ap₂ (λ (x : Way) (y : List Way). x ∷ y) (dropped-twice m m' v) (drop-twice m m' vs)

-- Leaving faults out and fixing others may change places.
pub drop-fixed : (O P A : ℕ) → not (eqb (bit_and O (bit_or P A)) 0) ≡ false → (us : List Way) → remaining P A (drop_all O us) ≡ drop_all O (remaining P A us)
unfolding remaining drop_all
drop-fixed O P A h [] = refl
drop-fixed O P A h (v ∷ us) = rw (contradicted-dropped O P A v h, remaining) (by (contradicted P A v) (drop-fixed O P A h us))
  where
    swapped : dropped (bit_or P A) (dropped O v) ≡ dropped O (dropped (bit_or P A) v)
    swapped = dropped-twice O (bit_or P A) v ∙ ap (λ (k : ℕ). dropped k v) (or_comm O (bit_or P A)) ∙ sym (dropped-twice (bit_or P A) O v)

    by : (b : Bool) → remaining P A (drop_all O us) ≡ drop_all O (remaining P A us)
        → ◌≡◌ {A = List Way}
        (elim b as (λ b. List Way) [ true ↦ remaining P A (drop_all O us) | false ↦ dropped (bit_or P A) (dropped O v) ∷ remaining P A (drop_all O us) ])
        (drop_all O (elim b as (λ b. List Way) [ true ↦ remaining P A us | false ↦ dropped (bit_or P A) v ∷ remaining P A us ]))
    by true ih = ih
    by false ih = ap₂ (λ (x : Way) (y : List Way). x ∷ y) swapped ih
