-- Words as sets of bits: what `&`, `|`, dropping bits and a power of two do to bit i, that equal bits make equal words,
-- and what a word is without its lowest bit.
-- Rests on the kit's laws of bit_and and bit_or, and on its count of trailing zeros.
use mathlib.Core.Path.{◌≡◌, refl, sym, ap, ◌∙◌}
use mathlib.Core.Bool.{Bool, true, false, not, ◌&&◌, ◌||◌, true≢false}
use Prim.Native.Nat.{ℕ, zero, suc, ◌+◌, ◌-◌, ◌*◌, ◌/◌, ◌%◌, ◌^◌, ◌≤◌, ◌<◌, min, max}
use native.Mathlib.Nat.{div-div-eq-div-mul, pow-succ', div-one}
use native.Mathlib.Decide.{dec_lt}
use native.Mathlib.Omega.{arith}
use lib.Arith.{bin_ind}
use lib.Dec.{eqb, eqb-zero-suc, eqb-suc-zero, eqb-suc-suc}
use lib.Bits.{bit_and, bit_or, and_step, or_step, and_le_l, and_self, or_comm}
use lib.Count.{count_trailing_zeros, under}
use borrow.Author.Tests.{eqb-true, ne_eqb, not-false}
use Rattle.rules.specs.Table.{odd, bit}
use Rattle.rules.specs.Leaf.{without}
use Rattle.rules.proofs.Booleans.{and_second, or_left, or_right}

-- ---- one digit

-- What a test of two tests gives at each of the four pairs of digits, it gives at the last digits of any two words.
digit_by : (f : Bool → Bool → Bool) (g : ℕ → ℕ → ℕ) → eqb (g 0 0) 1 ≡ f false false → eqb (g 0 1) 1 ≡ f false true → eqb (g 1 0) 1 ≡ f true false
    → eqb (g 1 1) 1 ≡ f true true → (x y : ℕ) → eqb (g (x % 2) (y % 2)) 1 ≡ f (odd x) (odd y)
digit_by f g a b c d x y = at (x % 2) (y % 2) (omega arith) (omega arith)
  where
    at : (m k : ℕ) → m < 2 → k < 2 → eqb (g m k) 1 ≡ f (eqb m 1) (eqb k 1)
    at zero zero h l = a
    at zero (suc zero) h l = b
    at (suc zero) zero h l = c
    at (suc zero) (suc zero) h l = d
    at zero (suc (suc k)) h l = absurd (omega arith)
    at (suc zero) (suc (suc k)) h l = absurd (omega arith)
    at (suc (suc m)) k h l = absurd (omega arith)

-- Digits that are 1 alike are equal.
digit-eq : (m k : ℕ) → m < 2 → k < 2 → eqb m 1 ≡ eqb k 1 → m ≡ k
digit-eq zero zero h l e = refl
digit-eq zero (suc zero) h l e = absurd (true≢false (sym e))
digit-eq zero (suc (suc k)) h l e = absurd (omega arith)
digit-eq (suc zero) zero h l e = absurd (true≢false e)
digit-eq (suc zero) (suc zero) h l e = refl
digit-eq (suc zero) (suc (suc k)) h l e = absurd (omega arith)
digit-eq (suc (suc m)) k h l e = absurd (omega arith)

-- ---- bit i of a word

-- Bit i is the digit that a shift by i leaves last.
pub bit-shift : (i w : ℕ) → bit i w ≡ odd (w / 2 ^ i)
bit-shift zero w = ap odd (sym (div-one w))
bit-shift (suc i) w = bit-shift i (w / 2) ∙ ap odd (div-div-eq-div-mul w 2 (2 ^ i) ∙ ap (λ (x : ℕ). w / x) (sym (pow-succ' 2 i)))

pub bit-zero : (i : ℕ) → bit i 0 ≡ false
bit-zero zero = refl
bit-zero (suc i) = bit-zero i

pub and-half : (x y : ℕ) → bit_and x y / 2 ≡ bit_and (x / 2) (y / 2)
and-half x y = omega (arith, and_step x y)

and-odd : (x y : ℕ) → bit_and x y % 2 ≡ min (x % 2) (y % 2)
and-odd x y = omega (arith, and_step x y)

or-half : (x y : ℕ) → bit_or x y / 2 ≡ bit_or (x / 2) (y / 2)
or-half x y = omega (arith, or_step x y)

or-odd : (x y : ℕ) → bit_or x y % 2 ≡ max (x % 2) (y % 2)
or-odd x y = omega (arith, or_step x y)

without-step : (m w : ℕ) → without m w ≡ 2 * without (m / 2) (w / 2) + (w % 2 - min (w % 2) (m % 2))
without-step m w = omega (arith, and_step w m, and_le_l (w / 2) (m / 2))

pub without-half : (m w : ℕ) → without m w / 2 ≡ without (m / 2) (w / 2)
without-half m w = omega (arith, without-step m w)

without-odd : (m w : ℕ) → without m w % 2 ≡ w % 2 - min (w % 2) (m % 2)
without-odd m w = omega (arith, without-step m w)

pub bit-and : (i x y : ℕ) → bit i (bit_and x y) ≡ bit i x && bit i y
bit-and zero x y = ap (λ (m : ℕ). eqb m 1) (and-odd x y) ∙ digit_by (λ a b. a && b) min refl refl refl refl x y
bit-and (suc i) x y = ap (bit i) (and-half x y) ∙ bit-and i (x / 2) (y / 2)

pub bit-or : (i x y : ℕ) → bit i (bit_or x y) ≡ bit i x || bit i y
bit-or zero x y = ap (λ (m : ℕ). eqb m 1) (or-odd x y) ∙ digit_by (λ a b. a || b) max refl refl refl refl x y
bit-or (suc i) x y = ap (bit i) (or-half x y) ∙ bit-or i (x / 2) (y / 2)

pub bit-without : (i m w : ℕ) → bit i (without m w) ≡ bit i w && not (bit i m)
bit-without zero m w = ap (λ (k : ℕ). eqb k 1) (without-odd m w) ∙ digit_by (λ a b. a && not b) (λ a b. a - min a b) refl refl refl refl w m
bit-without (suc i) m w = ap (bit i) (without-half m w) ∙ bit-without i (m / 2) (w / 2)

pub bit-pow : (i f : ℕ) → bit i (2 ^ f) ≡ eqb i f
bit-pow zero zero = refl
bit-pow zero (suc f) = let e : 2 ^ suc f % 2 ≡ 0 = omega arith in rw e (sym (eqb-zero-suc f))
bit-pow (suc i) zero = bit-zero i ∙ sym (eqb-suc-zero i)
bit-pow (suc i) (suc f) = let e : 2 ^ suc f / 2 ≡ 2 ^ f = omega arith in ap (bit i) e ∙ bit-pow i f ∙ sym (eqb-suc-suc i f)

-- A word without bits is 0.
pub bits-zero : (w : ℕ) → ((i : ℕ) → bit i w ≡ false) → w ≡ 0
bits-zero = bin_ind (λ w. ((i : ℕ) → bit i w ≡ false) → w ≡ 0) (λ h. refl) step
  where
    step : (n : ℕ) → (((i : ℕ) → bit i (n / 2) ≡ false) → n / 2 ≡ 0) → ((i : ℕ) → bit i n ≡ false) → n ≡ 0
    step n ih h = omega (arith, ih (λ i. h (suc i)), digit-eq (n % 2) 0 (omega arith) (omega arith) (h 0))

-- A word below 2 ^ n has no bit at or above n.
pub bit_high : (n i w : ℕ) → n ≤ i → w < 2 ^ n → bit i w ≡ false
bit_high zero i w l h = let e : w ≡ 0 = omega arith in ap (bit i) e ∙ bit-zero i
bit_high (suc n) zero w l h = absurd (omega arith)
bit_high (suc n) (suc i) w l h = bit_high n i (w / 2) (omega arith) (omega arith)

-- And the other way: a word without a bit at or above n is below 2 ^ n.
pub below-pow : (n w : ℕ) → ((i : ℕ) → n ≤ i → bit i w ≡ false) → w < 2 ^ n
below-pow zero w h = let e : w ≡ 0 = bits-zero w (λ i. h i (omega arith)) in omega arith
below-pow (suc n) w h = omega (arith, below-pow n (w / 2) (λ i l. h (suc i) (omega arith)))

-- ---- words with equal bits are equal

pub bits-ext : (x y : ℕ) → ((i : ℕ) → bit i x ≡ bit i y) → x ≡ y
bits-ext = bin_ind (λ x. (y : ℕ) → ((i : ℕ) → bit i x ≡ bit i y) → x ≡ y) (λ y h. sym (bits-zero y (λ i. sym (h i) ∙ bit-zero i))) step
  where
    step : (n : ℕ) → ((y : ℕ) → ((i : ℕ) → bit i (n / 2) ≡ bit i y) → n / 2 ≡ y) → (y : ℕ) → ((i : ℕ) → bit i n ≡ bit i y) → n ≡ y
    step n ih y h = omega (arith, ih (y / 2) (λ i. h (suc i)), digit-eq (n % 2) (y % 2) (omega arith) (omega arith) (h 0))

-- Two words that together have no bit are both 0.
pub or-zero : (x y : ℕ) → bit_or x y ≡ 0 → (x ≡ 0) × (y ≡ 0)
or-zero x y e = (bits-zero x (λ i. or_left (bit i x) (bit i y) (off i)), bits-zero y (λ i. or_right (bit i x) (bit i y) (off i)))
  where
    off : (i : ℕ) → bit i x || bit i y ≡ false
    off i = sym (bit-or i x y) ∙ ap (bit i) e ∙ bit-zero i

-- Cut down to an even word, a word is even.
pub cut-even : (x m : ℕ) → m % 2 ≡ 0 → odd (bit_and x m) ≡ false
cut-even x m e = let z : bit_and x m % 2 ≡ 0 = omega (arith, and-odd x m) in rw z

-- Cut down to an odd one, it keeps bit 0.
pub cut-odd : (x m : ℕ) → m % 2 ≡ 1 → odd (bit_and x m) ≡ odd x
cut-odd x m e = let z : bit_and x m % 2 ≡ x % 2 = omega (arith, and-odd x m) in ap (λ (k : ℕ). eqb k 1) z

-- Three words joined, either way.
pub or_assoc : (x y z : ℕ) → bit_or (bit_or x y) z ≡ bit_or x (bit_or y z)
or_assoc x y z = bits-ext _ _ (λ i. simp (bit-or) (assoc (bit i x) (bit i y) (bit i z)))
  where
    assoc : (x y z : Bool) → (x || y) || z ≡ x || (y || z)
    assoc true y z = refl
    assoc false y z = refl

-- Cut down to the bits that it has together with another, it stays as it is.
pub and_or_left : (x y : ℕ) → bit_and x (bit_or x y) ≡ x
and_or_left x y = bits-ext _ _ (λ i. simp (bit-and, bit-or) (same (bit i x) (bit i y)))
  where
    same : (a b : Bool) → a && (a || b) ≡ a
    same true b = refl
    same false b = refl

-- So does the other.
pub and_or_right : (x y : ℕ) → bit_and y (bit_or x y) ≡ y
and_or_right x y = ap (bit_and y) (or_comm x y) ∙ and_or_left y x

-- ---- a word without its lowest bit

-- The word without its lowest bit is even.
pub rest-even : (m : ℕ) → 0 < m → bit_and m (m - 1) % 2 ≡ 0
rest-even m h = omega (arith, and_step m (m - 1))

-- Where bit 0 is the lowest, what stands above it stays.
pub rest-odd-half : (m : ℕ) → m % 2 ≡ 1 → bit_and m (m - 1) / 2 ≡ m / 2
rest-odd-half m e =
    let h : (m - 1) / 2 ≡ m / 2 = omega arith in
    omega (arith, and_step m (m - 1), ap (bit_and (m / 2)) h, and_self (m / 2))

-- Where it is not, the lowest bit of the half goes.
pub rest-even-half : (m : ℕ) → 0 < m → m % 2 ≡ 0 → bit_and m (m - 1) / 2 ≡ bit_and (m / 2) (m / 2 - 1)
rest-even-half m l e =
    let h : (m - 1) / 2 ≡ m / 2 - 1 = omega arith in
    omega (arith, and_step m (m - 1), ap (bit_and (m / 2)) h)

-- The lowest bit of a word below 2 ^ k is one of its first k.
pub lowest-below : (k m : ℕ) → 0 < m → m < 2 ^ k → count_trailing_zeros k m < k
unfolding count_trailing_zeros
lowest-below zero m pos fits = absurd (omega arith)
lowest-below (suc k) m pos fits = go (m % 2) refl (λ l. lowest-below k (m / 2) l (omega arith))
  where
    go : (r : ℕ) → m % 2 ≡ r → (0 < m / 2 → count_trailing_zeros k (m / 2) < k) → under r (count_trailing_zeros k (m / 2)) < suc k
    go zero e ih = omega (arith, ih (omega arith))
    go (suc r) e ih = omega arith

-- It is set.
pub lowest_set : (k m : ℕ) → 0 < m → m < 2 ^ k → bit (count_trailing_zeros k m) m ≡ true
unfolding count_trailing_zeros
lowest_set zero m pos fits = absurd (omega arith)
lowest_set (suc k) m pos fits = go (m % 2) refl (λ l. lowest_set k (m / 2) l (omega arith))
  where
    go : (r : ℕ) → m % 2 ≡ r → (0 < m / 2 → bit (count_trailing_zeros k (m / 2)) (m / 2) ≡ true) → bit (under r (count_trailing_zeros k (m / 2))) m ≡ true
    go zero e ih = ih (omega arith)
    go (suc zero) e ih = rw e refl
    go (suc (suc r)) e ih = absurd (omega arith)

-- ---- tests for zero, by the bits

-- A word with a bit is not 0.
pub bit-nonzero : (i w : ℕ) → bit i w ≡ true → eqb w 0 ≡ false
bit-nonzero i w h = ne_eqb w 0 (λ e. true≢false (sym h ∙ ap (bit i) e ∙ bit-zero i))

-- Two words without a common bit: where one has a bit, the other has not.
pub apart-bit : (x y i : ℕ) → not (eqb (bit_and x y) 0) ≡ false → bit i x ≡ true → bit i y ≡ false
apart-bit x y i h b =
    and_second (bit i x) (bit i y) b (sym (bit-and i x y) ∙ ap (bit i) (eqb-true (bit_and x y) 0 (not-false (eqb (bit_and x y) 0) h)) ∙ bit-zero i)

-- The other way: words of which no bit is common have no common bit, as a test.
pub apart-test : (x y : ℕ) → ((i : ℕ) → bit i x ≡ true → bit i y ≡ false) → not (eqb (bit_and x y) 0) ≡ false
apart-test x y h = ap (λ (k : ℕ). not (eqb k 0)) (bits-zero (bit_and x y) (λ i. bit-and i x y ∙ go i (bit i x) refl))
  where
    go : (i : ℕ) (b : Bool) → bit i x ≡ b → b && bit i y ≡ false
    go i true e = h i e
    go i false e = refl

-- A word that is not 0, and has no bit at or above n, has a bit below n.
pub some-bit : (n w : ℕ) → (w ≡ 0 → ⊥) → ((i : ℕ) → n ≤ i → bit i w ≡ false) → (i : ℕ) × (i < n) × (bit i w ≡ true)
some-bit zero w q h = absurd (q (bits-zero w (λ i. h i (omega arith))))
some-bit (suc n) w q h = by (bit n w) refl (λ k. some-bit n w q k)
  where
    same : (i : ℕ) → n ≤ i → (n < i → ⊥) → n ≡ i
    same i l g = omega arith

    all : bit n w ≡ false → (i : ℕ) → n ≤ i → Dec (n < i) → bit i w ≡ false
    all e i l (yes g) = h i g
    all e i l (no g) = rw (← (same i l g)) e

    lift : (i : ℕ) × (i < n) × (bit i w ≡ true) → (i : ℕ) × (i < suc n) × (bit i w ≡ true)
    lift r = (r.0, omega (arith, r.1), r.2)

    by : (b : Bool) → bit n w ≡ b → (((i : ℕ) → n ≤ i → bit i w ≡ false) → (i : ℕ) × (i < n) × (bit i w ≡ true)) → (i : ℕ) × (i < suc n) × (bit i w ≡ true)
    by true e f = (n, omega arith, e)
    by false e f = lift (f (λ i l. all e i l (dec_lt n i)))
