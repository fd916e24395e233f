-- Which fields are numbers, and a number read digit by digit: laws on plain lists.
-- Rests on `rules`, Decimal.
use Rattle.std.proofs.Common.{◌≡◌, refl, sym, ap, ap₂, ◌∙◌, subst, true, false, List, [], ◌∷◌, ◌++◌, ℕ, suc, ◌+◌, ◌-◌, ◌*◌, ◌/◌, ◌%◌, ◌^◌, ◌<◌, ◌≤◌, pow-suc, arith, add-one, length, length-append, get_or, leb, le-leb}
use Rattle.std.proofs.lemmas.Bool.{lt-leb}
use Rattle.rules.specs.Sheet.{same_numbers}
use Rattle.rules.proofs.Booleans.{and_both, and_right, is_false}
use Rattle.rules.specs.Text.{digits, decimal, value_after, decimal_value}
use Rattle.rules.proofs.Decimal.{AllDigits, decimal-value, decimal-digits, decimal-length, decimal-leading, decimal-one, decimal-more}
use Rattle.rules.proofs.Sheets.{same-equal, equal-same}
use Rattle.decimal.specs.Numerals.{is_numeral}

-- A number of ten digits at most is a numeral in decimal.
pub decimal-numeral : (n : ℕ) → n < 10 ^ 10 → is_numeral (decimal n) ≡ true
unfolding is_numeral
decimal-numeral n h = and_both _ _ (le-leb (length (decimal n)) 10 (decimal-length n 9 h)) (rw decimal-value (equal-same (decimal n)))

-- And a numeral is a number in decimal.
pub numeral-decimal : (f : List ℕ) → is_numeral f ≡ true → decimal (decimal_value f) ≡ f
unfolding is_numeral
numeral-decimal f h = same-equal (decimal (decimal_value f)) f (and_right (leb (length f) 10) _ h)

-- So what is no number in decimal is none.
not-numeral : (f : List ℕ) → ((n : ℕ) → decimal n ≡ f → ⊥) → is_numeral f ≡ false
not-numeral f h = is_false (is_numeral f) (λ e. h (decimal_value f) (numeral-decimal f e))

-- ---- what is none

-- The empty field.
pub none-not : is_numeral [] ≡ false
unfolding is_numeral same_numbers decimal digits decimal_value value_after
none-not = refl

-- One of more than ten bytes.
pub long-not : (f : List ℕ) → 10 < length f → is_numeral f ≡ false
unfolding is_numeral
long-not f h = rw (lt-leb (length f) 10 h)

-- A byte among digits is one.
digit-in : (p : List ℕ) (b : ℕ) (s : List ℕ) → AllDigits (p ++ b ∷ s) → (48 ≤ b) × (b ≤ 57)
digit-in [] b s h = (h.0, h.1)
digit-in (c ∷ p) b s h = digit-in p b s h.2

-- A field with a byte that is no digit.
pub letter-not : (p : List ℕ) (b : ℕ) (s : List ℕ) → (48 ≤ b → b ≤ 57 → ⊥) → is_numeral (p ++ b ∷ s) ≡ false
letter-not p b s h = not-numeral (p ++ b ∷ s) (λ n e. let d = digit-in p b s (subst AllDigits e (decimal-digits n)) in h d.0 d.1)

-- One that begins with 0 and goes on.
pub nought-not : (b : ℕ) (f : List ℕ) → is_numeral (48 ∷ b ∷ f) ≡ false
unfolding decimal digits
nought-not b f =
    not-numeral (48 ∷ b ∷ f) (λ n p.
    let zero_is : n ≡ 0 = (decimal-leading n).1 (ap (λ (l : List ℕ). get_or l 0 0) p) in
    let short : length (decimal 0) ≡ length (48 ∷ b ∷ f) = ap length (ap decimal (sym zero_is) ∙ p) in
    omega (arith, short))

-- ---- the digits read so far

-- The digits p, if there are any, are the number n in decimal.
pub record Read (p : List ℕ) (n : ℕ) : Type 0 where
  pub small : n < 10 ^ length p
  pub none : length p ≡ 0 → n ≡ 0
  pub some : 0 < length p → 0 < n
  pub whole : 0 < length p → decimal n ≡ p

-- At first there are none.
pub read-none : Read [] 0
read-none = record { small = omega arith; none = λ e. refl; some = λ h. absurd (omega arith); whole = λ h. absurd (omega arith) }

-- One digit more.
pub read-more : (p : List ℕ) (n b : ℕ) → Read p n → (length p ≡ 0 → b ≡ 48 → ⊥) → 48 ≤ b → b ≤ 57 → Read (p ++ b ∷ []) (10 * n + (b - 48))
read-more p n b r first low high =
    let size : length (p ++ b ∷ []) ≡ suc (length p) = simp length-append (add-one (length p)) in
    record {
      small = rw (size, pow-suc 10 (length p)) (omega (arith, r.small));
      none = λ e. absurd (omega (arith, size));
      some = λ h. some p r first;
      whole = λ h. whole p r;
    }
  where
    some : (p : List ℕ) → Read p n → (length p ≡ 0 → b ≡ 48 → ⊥) → 0 < 10 * n + (b - 48)
    some [] r first = let other = first refl in omega arith
    some (c ∷ p) r first = omega (arith, r.some (omega arith))

    whole : (p : List ℕ) → Read p n → decimal (10 * n + (b - 48)) ≡ p ++ b ∷ []
    whole [] r =
        let none : n ≡ 0 = r.none refl in
        let only : 48 + (10 * n + (b - 48)) ≡ b = omega arith in
        decimal-one (10 * n + (b - 48)) (omega arith) ∙ ap (λ (d : ℕ). d ∷ []) only
    whole (c ∷ p) r =
        let tens : (10 * n + (b - 48)) / 10 ≡ n = omega arith in
        let ones : 48 + (10 * n + (b - 48)) % 10 ≡ b = omega arith in
        decimal-more (10 * n + (b - 48)) (omega (arith, r.some (omega arith)))
        ∙ ap₂ (λ (m d : ℕ). decimal m ++ d ∷ []) tens ones
        ∙ ap (λ (l : List ℕ). l ++ b ∷ []) (r.whole (omega arith))
