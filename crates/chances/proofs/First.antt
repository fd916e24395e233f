-- The lowest set bit of a word, and the word without it: the set bits are that one and those that stay.
-- Rests on `rules`, Bits, for a word without its lowest bit, and on the kit's count of trailing zeros.
use mathlib.Core.Path.{◌≡◌, refl, sym, ap, ◌∙◌}
use mathlib.Core.Bool.{Bool, true, false, ◌||◌}
use mathlib.Core.List.{List, [], ◌∷◌}
use Prim.Native.Nat.{ℕ, zero, suc, ◌+◌, ◌-◌, ◌/◌, ◌%◌, ◌^◌, ◌<◌, ◌≤◌}
use native.Mathlib.Decide.{dec_lt}
use native.Mathlib.Omega.{arith}
use lib.Bits.{bit_and}
use lib.Count.{count_trailing_zeros, under}
use lib.Dec.{eqb, eqb-zero-suc, eqb-suc-zero, eqb-suc-suc}
use borrow.Author.Tests.{eq-eqb, ne_eqb}
use Rattle.std.specs.List.{filter, range_with_len, AllByRecursion}
use Rattle.rules.specs.Table.{odd, bit}
use Rattle.rules.proofs.Booleans.{or_right, or-first, or-second}
use Rattle.rules.proofs.Bits.{bit-zero, rest-even, rest-odd-half, rest-even-half, lowest-below}
use Rattle.chances.specs.Bits.{set_bits}

-- The number n is the first that passes P, and Q passes the others.
pub record First (P Q : ℕ → Bool) (n : ℕ) : Type 0 where
  pub before : (j : ℕ) → j < n → P j ≡ false
  pub numbers : (j : ℕ) → P j ≡ (eqb j n || Q j)
  pub gone : Q n ≡ false

module _ {P Q : ℕ → Bool} {n : ℕ} (f : First P Q n) where
  -- It passes.
  pub is_one : P n ≡ true
  is_one = f.numbers n ∙ or-first (eqb n n) (Q n) (eq-eqb n n refl)

  -- The others pass too.
  pub others_too : (j : ℕ) → Q j ≡ true → P j ≡ true
  others_too j h = f.numbers j ∙ or-second (eqb j n) (Q j) h

  -- No other comes before it.
  pub none_before : (j : ℕ) → j < n → Q j ≡ false
  none_before j l = or_right (eqb j n) (Q j) (sym (f.numbers j) ∙ f.before j l)

  -- Beyond it the tests agree.
  pub same_beyond : (j : ℕ) → n < j → P j ≡ Q j
  same_beyond j l = f.numbers j ∙ ap (λ (b : Bool). b || Q j) (ne_eqb j n (λ e. omega arith))

  -- So of numbers beyond it both pass the same.
  beyond : (i k : ℕ) → n < i → filter P (range_with_len i k) ≡ filter Q (range_with_len i k)
  beyond i zero l = refl
  beyond i (suc k) l = rw (same_beyond i l, beyond (i + 1) k (omega arith)) refl

  -- Of numbers among which it is, P passes it and those that Q passes.
  from : (i k : ℕ) → i ≤ n → n < i + k → filter P (range_with_len i k) ≡ n ∷ filter Q (range_with_len i k)
  from i zero l h = absurd (omega arith)
  from i (suc k) l h = by (dec_lt i n) (λ g. from (i + 1) k (omega arith) (omega arith))
    where
      by : Dec (i < n) → (i < n → filter P (range_with_len (i + 1) k) ≡ n ∷ filter Q (range_with_len (i + 1) k))
          → filter P (range_with_len i (suc k)) ≡ n ∷ filter Q (range_with_len i (suc k))
      by (yes g) ih = rw (f.before i g, none_before i g) (ih g)
      by (no g) ih =
          let same : i ≡ n = omega arith in
          rw (same, is_one, f.gone) (ap (λ (js : List ℕ). n ∷ js) (beyond (n + 1) k (omega arith)))

-- ---- a word

-- The set bits of a word: the lowest, and those that stay without it.
pub lowest : (k m : ℕ) → 0 < m → m < 2 ^ k → First (λ j. bit j m) (λ j. bit j (bit_and m (m - 1))) (count_trailing_zeros k m)
unfolding count_trailing_zeros
lowest zero m pos fits = absurd (omega arith)
lowest (suc k) m pos fits = go (m % 2) refl (λ l. lowest k (m / 2) l (omega arith))
  where
    t : ℕ
    t = count_trailing_zeros k (m / 2)

    next : ℕ
    next = bit_and m (m - 1)

    even : (x : ℕ) → x % 2 ≡ 0 → odd x ≡ false
    even x e = rw e

    go : (r : ℕ) → m % 2 ≡ r → (0 < m / 2 → First (λ j. bit j (m / 2)) (λ j. bit j (bit_and (m / 2) (m / 2 - 1))) t)
        → First (λ j. bit j m) (λ j. bit j next) (under r t)
    go zero e ih = record { before = low; numbers = all; gone = ap (bit t) half ∙ f.gone }
      where
        f : First (λ j. bit j (m / 2)) (λ j. bit j (bit_and (m / 2) (m / 2 - 1))) t
        f = ih (omega arith)

        half : next / 2 ≡ bit_and (m / 2) (m / 2 - 1)
        half = rest-even-half m pos e

        low : (j : ℕ) → j < suc t → bit j m ≡ false
        low zero l = even m e
        low (suc j) l = f.before j (omega arith)

        all : (j : ℕ) → bit j m ≡ (eqb j (suc t) || bit j next)
        all zero = rw (even m e, even next (rest-even m pos), eqb-zero-suc t) refl
        all (suc j) = rw (half, eqb-suc-suc j t) (f.numbers j)
    go (suc zero) e ih = record { before = λ j l. absurd (omega arith); numbers = all; gone = even next (rest-even m pos) }
      where
        all : (j : ℕ) → bit j m ≡ (eqb j zero || bit j next)
        all zero = rw e refl
        all (suc j) = rw (rest-odd-half m e, eqb-suc-zero j) refl
    go (suc (suc r)) e ih = absurd (omega arith)

-- ---- its set bits as a list

-- The lowest comes first.
pub first_set : (m : ℕ) → 0 < m → m < 2 ^ 64 → set_bits m ≡ count_trailing_zeros 64 m ∷ set_bits (bit_and m (m - 1))
unfolding set_bits
first_set m pos fits = from (lowest 64 m pos fits) 0 64 (omega arith) (lowest-below 64 m pos fits)

-- Of 0 there is none.
pub none_set : set_bits 0 ≡ []
unfolding set_bits
none_set = none 0 64
  where
    none : (i k : ℕ) → filter (λ j. bit j 0) (range_with_len i k) ≡ []
    none i zero = refl
    none i (suc k) = rw (bit-zero i) (none (i + 1) k)

-- Each is the number of one of 64 bits.
pub set_below : (w : ℕ) → AllByRecursion (λ i. i < 64) (set_bits w)
unfolding set_bits
set_below w = below 0 64 (omega arith)
  where
    below : (i k : ℕ) → i + k ≤ 64 → AllByRecursion (λ i. i < 64) (filter (λ i. bit i w) (range_with_len i k))
    below i zero l = tt
    below i (suc k) l = by (bit i w) refl (below (i + 1) k (omega arith))
      where
        by : (b : Bool) → bit i w ≡ b → AllByRecursion (λ i. i < 64) (filter (λ i. bit i w) (range_with_len (i + 1) k))
            → AllByRecursion (λ i. i < 64) (filter (λ i. bit i w) (range_with_len i (suc k)))
        by true e rest = rw e (omega arith, rest)
        by false e rest = rw e rest
