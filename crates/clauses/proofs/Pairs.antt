-- The numbers in two words of bits, each by the word that has it: none, those below n, one, those of two sets, and the first.
-- Rests on the laws of bits (`rules`, Bits, and Words.antt), and on `chances`, First, for the lowest bit.
use mathlib.Core.Path.{◌≡◌, refl, sym, ap, ap₂, ◌∙◌}
use mathlib.Core.Bool.{Bool, true, false, not, ◌&&◌, ◌||◌}
use Prim.Native.Nat.{ℕ, ◌+◌, ◌-◌, ◌^◌, ◌<◌, ◌≤◌}
use native.Mathlib.Decide.{dec_lt}
use native.Mathlib.Omega.{arith}
use lib.Bits.{bit_and, bit_or}
use lib.Count.{count_trailing_zeros}
use lib.Dec.{eqb, ltb}
use lib.Pow.{pow_pos}
use borrow.Author.Tests.{ltb-true, ltb-false, lt-ltb, le-ltb, eqb-true, eq-eqb, ne_eqb}
use Rattle.rules.specs.Table.{bit}
use Rattle.rules.proofs.Booleans.{same_test}
use Rattle.rules.proofs.Bits.{bit-zero, bit-and, bit-or, bit-without, bit-pow, bit_high, bits-ext, or-zero, lowest-below}
use Rattle.records.specs.Records.{in_words}
use Rattle.chances.proofs.First.{First, lowest}
use Rattle.clauses.proofs.Words.{and-not, ones}

-- A number below 64 is a bit of the low word.
pub in-low : (a b i : ℕ) → i < 64 → in_words a b i ≡ bit i a
unfolding in_words
in-low a b i h = rw (in_words, lt-ltb i 64 h) refl

-- One from 64 on, less 64, is a bit of the high word.
pub in-high : (a b i : ℕ) → 64 ≤ i → in_words a b i ≡ bit (i - 64) b
unfolding in_words
in-high a b i h = rw (in_words, le-ltb i 64 h) refl

-- So a test that agrees with each word on its numbers agrees with the two.
in-words : (a b : ℕ) (R : ℕ → Bool) → ((i : ℕ) → i < 64 → bit i a ≡ R i) → ((i : ℕ) → 64 ≤ i → bit (i - 64) b ≡ R i) → (i : ℕ) → in_words a b i ≡ R i
in-words a b R low high i = by (dec_lt i 64)
  where
    by : Dec (i < 64) → in_words a b i ≡ R i
    by (yes g) = in-low a b i g ∙ low i g
    by (no g) = in-high a b i (omega arith) ∙ high i (omega arith)

-- ---- no number

-- Two words that joined are 0 have no number.
pub in-none : (a b : ℕ) → bit_or a b ≡ 0 → (i : ℕ) → in_words a b i ≡ false
in-none a b h =
    let z = or-zero a b h in
    in-words a b (λ i. false) (λ i g. ap (bit i) z.0 ∙ bit-zero i) (λ i g. ap (bit (i - 64)) z.1 ∙ bit-zero (i - 64))

-- ---- words with the same numbers

module _ (a b x y : ℕ) (same : (i : ℕ) → in_words a b i ≡ in_words x y i) where
  -- The low words are equal, where they fit 64 bits.
  pub same_low : a < 2 ^ 64 → x < 2 ^ 64 → a ≡ x
  same_low h k = bits-ext a x (λ i. by i (dec_lt i 64))
    where
      by : (i : ℕ) → Dec (i < 64) → bit i a ≡ bit i x
      by i (yes g) = sym (in-low a b i g) ∙ same i ∙ in-low x y i g
      by i (no g) = bit_high 64 i a (omega arith) h ∙ sym (bit_high 64 i x (omega arith) k)

  -- The high words are equal.
  pub same_high : b ≡ y
  same_high = bits-ext b y (λ i. at i (i + 64) (omega arith) (omega arith))
    where
      at : (i j : ℕ) → 64 ≤ j → j - 64 ≡ i → bit i b ≡ bit i y
      at i j h e = ap (λ (k : ℕ). bit k b) (sym e) ∙ sym (in-high a b j h) ∙ same j ∙ in-high x y j h ∙ ap (λ (k : ℕ). bit k y) e

-- Two words without a number are 0, where they fit 64 bits.
pub none-in : (a b : ℕ) → a < 2 ^ 64 → ((i : ℕ) → in_words a b i ≡ false) → bit_or a b ≡ 0
none-in a b fits none =
    let same : (i : ℕ) → in_words a b i ≡ in_words 0 0 i = λ i. none i ∙ sym (in-none 0 0 refl i) in
    ap₂ bit_or (same_low a b 0 0 same fits (omega arith)) (same_high a b 0 0 same)

-- ---- the numbers below n

-- The word of n ones has the bits below n.
ones-below : (n i m : ℕ) → m ≡ 2 ^ n - 1 → bit i m ≡ ltb i n
ones-below n i m e = ap (bit i) e ∙ by (ltb i n) refl
  where
    by : (t : Bool) → ltb i n ≡ t → bit i (2 ^ n - 1) ≡ t
    by true q = ones n i (ltb-true i n q)
    by false q = bit_high n i (2 ^ n - 1) (ltb-false i n q) (omega (arith, pow_pos n))

-- Where n is below 64, the low word has them all.
pub below_low : (n m : ℕ) → n < 64 → m ≡ 2 ^ n - 1 → (i : ℕ) → in_words m 0 i ≡ ltb i n
below_low n m h e =
    in-words m 0 (λ i. ltb i n) (λ i g. ones-below n i m e) (λ i g. bit-zero (i - 64) ∙ sym (le-ltb i n (omega arith)))

-- Otherwise the low word is full, and the high one has the others.
pub below_high : (n m : ℕ) → 64 ≤ n → m ≡ 2 ^ (n - 64) - 1 → (i : ℕ) → in_words (2 ^ 64 - 1) m i ≡ ltb i n
below_high n m h e =
    in-words (2 ^ 64 - 1) m (λ i. ltb i n) (λ i g. ones 64 i g ∙ sym (lt-ltb i n (omega arith))) (λ i g. ones-below (n - 64) (i - 64) m e ∙ less i g)
  where
    less : (i : ℕ) → 64 ≤ i → ltb (i - 64) (n - 64) ≡ ltb i n
    less i l = same_test _ _ (λ q. lt-ltb i n (omega (arith, ltb-true (i - 64) (n - 64) q))) (λ q. lt-ltb (i - 64) (n - 64) (omega (arith, ltb-true i n q)))

-- ---- one number

-- One below 64 is a bit of the low word.
pub one_low : (i p : ℕ) → i < 64 → p ≡ 2 ^ i → (j : ℕ) → in_words p 0 j ≡ eqb j i
one_low i p h e =
    in-words p 0 (λ j. eqb j i) (λ j g. ap (bit j) e ∙ bit-pow j i) (λ j g. bit-zero (j - 64) ∙ sym (ne_eqb j i (λ q. omega arith)))

-- One from 64 on, less 64, is a bit of the high word.
pub one_high : (i p : ℕ) → 64 ≤ i → p ≡ 2 ^ (i - 64) → (j : ℕ) → in_words 0 p j ≡ eqb j i
one_high i p h e =
    in-words 0 p (λ j. eqb j i) (λ j g. bit-zero j ∙ sym (ne_eqb j i (λ q. omega arith))) (λ j g. ap (bit (j - 64)) e ∙ bit-pow (j - 64) (i - 64) ∙ less j g)
  where
    less : (j : ℕ) → 64 ≤ j → eqb (j - 64) (i - 64) ≡ eqb j i
    less j g = same_test _ _ (λ q. eq-eqb j i (omega (arith, eqb-true (j - 64) (i - 64) q))) (λ q. eq-eqb (j - 64) (i - 64) (omega (arith, eqb-true j i q)))

-- ---- the numbers of two pairs of words

module _ (a b x y : ℕ) where
  -- Those of both.
  pub both_numbers : (i : ℕ) → in_words (bit_and a x) (bit_and b y) i ≡ (in_words a b i && in_words x y i)
  both_numbers =
      in-words _ _ (λ i. in_words a b i && in_words x y i)
      (λ i g. bit-and i a x ∙ ap₂ (λ (s t : Bool). s && t) (sym (in-low a b i g)) (sym (in-low x y i g)))
      (λ i g. bit-and (i - 64) b y ∙ ap₂ (λ (s t : Bool). s && t) (sym (in-high a b i g)) (sym (in-high x y i g)))

  -- Those of either.
  pub either_numbers : (i : ℕ) → in_words (bit_or a x) (bit_or b y) i ≡ (in_words a b i || in_words x y i)
  either_numbers =
      in-words _ _ (λ i. in_words a b i || in_words x y i)
      (λ i g. bit-or i a x ∙ ap₂ (λ (s t : Bool). s || t) (sym (in-low a b i g)) (sym (in-low x y i g)))
      (λ i g. bit-or (i - 64) b y ∙ ap₂ (λ (s t : Bool). s || t) (sym (in-high a b i g)) (sym (in-high x y i g)))

  -- Those of the first without those of the second, by complements in 64 bits.
  pub less_numbers : a < 2 ^ 64 → b < 2 ^ 64 → x < 2 ^ 64 → y < 2 ^ 64 → (i : ℕ)
      → in_words (bit_and a (2 ^ 64 - 1 - x)) (bit_and b (2 ^ 64 - 1 - y)) i ≡ (in_words a b i && not (in_words x y i))
  less_numbers h k l m =
      in-words _ _ (λ i. in_words a b i && not (in_words x y i))
      (λ i g. ap (bit i) (and-not 64 a x h l) ∙ bit-without i x a ∙ ap₂ (λ (s t : Bool). s && not t) (sym (in-low a b i g)) (sym (in-low x y i g)))
      (λ i g. ap (bit (i - 64)) (and-not 64 b y k m) ∙ bit-without (i - 64) y b
      ∙ ap₂ (λ (s t : Bool). s && not t) (sym (in-high a b i g)) (sym (in-high x y i g)))

-- ---- the first number

module _ (a b : ℕ) where
  -- It is in the low word, if that has one.
  pub first_low : 0 < a → a < 2 ^ 64 → First (in_words a b) (in_words (bit_and a (a - 1)) b) (count_trailing_zeros 64 a)
  first_low pos fits =
      record {
        before = λ j l. in-low a b j (omega (arith, l, inside)) ∙ f.before j l;
        numbers = in-words a b (λ j. eqb j t || in_words rest b j)
            (λ j g. f.numbers j ∙ ap (λ (x : Bool). eqb j t || x) (sym (in-low rest b j g)))
            (λ j g. sym (in-high rest b j g) ∙ ap (λ (x : Bool). x || in_words rest b j) (sym (ne_eqb j t (λ q. omega (arith, inside)))));
        gone = in-low rest b t inside ∙ f.gone;
      }
    where
      t : ℕ
      t = count_trailing_zeros 64 a

      rest : ℕ
      rest = bit_and a (a - 1)

      f : First (λ j. bit j a) (λ j. bit j rest) t
      f = lowest 64 a pos fits

      inside : t < 64
      inside = lowest-below 64 a pos fits

  -- Else it is in the high one, if that has one.
  pub first_high : a ≡ 0 → 0 < b → b < 2 ^ 64 → First (in_words a b) (in_words a (bit_and b (b - 1))) (64 + count_trailing_zeros 64 b)
  first_high z pos fits =
      record {
        before = λ j l. low j l (dec_lt j 64);
        numbers = in-words a b (λ j. eqb j (64 + t) || in_words a rest j)
            (λ j g. sym (in-low a rest j g) ∙ ap (λ (x : Bool). x || in_words a rest j) (sym (ne_eqb j (64 + t) (λ q. omega arith))))
            (λ j g. f.numbers (j - 64) ∙ ap₂ (λ (x y : Bool). x || y) (less j g) (sym (in-high a rest j g)));
        gone = let e : 64 + t - 64 ≡ t = omega arith in in-high a rest (64 + t) (omega arith) ∙ ap (λ (i : ℕ). bit i rest) e ∙ f.gone;
      }
    where
      t : ℕ
      t = count_trailing_zeros 64 b

      rest : ℕ
      rest = bit_and b (b - 1)

      f : First (λ j. bit j b) (λ j. bit j rest) t
      f = lowest 64 b pos fits

      low : (j : ℕ) → j < 64 + t → Dec (j < 64) → in_words a b j ≡ false
      low j l (yes g) = in-low a b j g ∙ ap (bit j) z ∙ bit-zero j
      low j l (no g) = in-high a b j (omega arith) ∙ f.before (j - 64) (omega arith)

      less : (j : ℕ) → 64 ≤ j → eqb (j - 64) t ≡ eqb j (64 + t)
      less j g = same_test _ _ (λ q. eq-eqb j (64 + t) (omega (arith, eqb-true (j - 64) t q))) (λ q. eq-eqb (j - 64) t (omega (arith, eqb-true j (64 + t) q)))
