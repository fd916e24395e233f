-- Numbers in decimal, as the text has them (specs/Text.antt): the digits' value is the number, and none stands in front that need not.
-- Rests on the list laws of the library and on nothing else of this crate.
use mathlib.Core.Path.{◌≡◌, refl, sym, ap, ◌∙◌}
use mathlib.Core.List.{List, [], ◌∷◌, ◌++◌}
use Prim.Native.Nat.{ℕ, zero, suc, ◌+◌, ◌-◌, ◌*◌, ◌/◌, ◌%◌, ◌^◌, ◌≤◌, ◌<◌}
use native.Mathlib.Nat.{pow-suc}
use native.Mathlib.Decide.{dec_lt}
use native.Mathlib.Omega.{arith}
use lib.ListN.{length, get_or, length-append, get_or-append}
use borrow.Author.Tests.{lt-ltb, le-ltb}
use Rattle.rules.specs.Text.{digits, decimal, value_after, decimal_value}

-- ---- what digits say

-- Every byte is one of the ten digits.
abbrev pub AllDigits : List ℕ → Type 0
AllDigits [] = Unit {0}
AllDigits (b ∷ bs) = (48 ≤ b) × (b ≤ 57) × AllDigits bs

-- One digit more is ten times as much, and that digit.
value-snoc : (n : ℕ) (bs : List ℕ) (b : ℕ) → value_after n (bs ++ b ∷ []) ≡ 10 * value_after n bs + (b - 48)
unfolding value_after
value-snoc n [] b = refl
value-snoc n (c ∷ bs) b = value-snoc (10 * n + (c - 48)) bs b

-- One digit more among digits.
digits-snoc : (bs : List ℕ) (b : ℕ) → AllDigits bs → 48 ≤ b → b ≤ 57 → AllDigits (bs ++ b ∷ [])
digits-snoc [] b h low high = (low, high, tt)
digits-snoc (c ∷ bs) b h low high = (h.0, h.1, digits-snoc bs b h.2 low high)

-- ---- how they are found

-- A number below 10 is its own digit.
digits-one : (k n : ℕ) → n < 10 → digits (suc k) n ≡ (48 + n) ∷ []
unfolding digits
digits-one k n h = rw (lt-ltb n 10 h, digits)

-- Any other has the digits of a tenth of it, and its last.
digits_more : (k n : ℕ) → 10 ≤ n → digits (suc k) n ≡ digits k (n / 10) ++ (48 + n % 10) ∷ []
unfolding digits
digits_more k n h = rw (le-ltb n 10 h, digits)

-- THE BOUND NEVER DECIDES: any above the number finds the same digits.
pub digits-bound : (j k n : ℕ) → n < j → n < k → digits j n ≡ digits k n
digits-bound zero k n h h' = absurd (omega arith)
digits-bound (suc j) zero n h h' = absurd (omega arith)
digits-bound (suc j) (suc k) n h h' = split (dec_lt n 10) (digits-bound j k (n / 10))
  where
    split : Dec (n < 10) → (n / 10 < j → n / 10 < k → digits j (n / 10) ≡ digits k (n / 10)) → digits (suc j) n ≡ digits (suc k) n
    split (yes one) rest = digits-one j n one ∙ sym (digits-one k n one)
    split (no more) rest =
        digits_more j n (omega arith)
        ∙ ap (λ (r : List ℕ). r ++ (48 + n % 10) ∷ []) (rest (omega arith) (omega arith))
        ∙ sym (digits_more k n (omega arith))

-- So a number below 10 is its own digit in decimal.
pub decimal-one : (n : ℕ) → n < 10 → decimal n ≡ (48 + n) ∷ []
unfolding decimal
decimal-one n h = digits-one n n h

-- And any other is a tenth of it in decimal, and its last digit.
pub decimal-more : (n : ℕ) → 10 ≤ n → decimal n ≡ decimal (n / 10) ++ (48 + n % 10) ∷ []
unfolding decimal
decimal-more n h =
    digits_more n n h
    ∙ ap (λ (r : List ℕ). r ++ (48 + n % 10) ∷ []) (digits-bound n (suc (n / 10)) (n / 10) (omega arith) (omega arith))

-- What holds of a single digit, and of one digit more, holds of every number in decimal.
decimal-by : (P : ℕ → List ℕ → Type 0) → ((n : ℕ) → n < 10 → P n ((48 + n) ∷ []))
    → ((n : ℕ) (bs : List ℕ) → 10 ≤ n → P (n / 10) bs → P n (bs ++ (48 + n % 10) ∷ [])) → (n : ℕ) → P n (decimal n)
unfolding decimal
decimal-by P one more n = go (suc n) n (omega arith)
  where
    go : (k n : ℕ) → n < k → P n (digits k n)
    go zero n h = absurd (omega arith)
    go (suc k) n h = split (dec_lt n 10) (go k (n / 10))
      where
        split : Dec (n < 10) → (n / 10 < k → P (n / 10) (digits k (n / 10))) → P n (digits (suc k) n)
        split (yes low) rest = rw (digits-one k n low) (one n low)
        split (no high) rest = rw (digits_more k n (omega arith)) (more n (digits k (n / 10)) (omega arith) (rest (omega arith)))

-- ---- decimal is right

-- THE DIGITS' VALUE is the number.
pub decimal-value : (n : ℕ) → decimal_value (decimal n) ≡ n
unfolding decimal_value value_after
decimal-value = decimal-by (λ n bs. decimal_value bs ≡ n) (λ n h. omega arith) (λ n bs h rest. omega (arith, value-snoc 0 bs (48 + n % 10)))

-- Every byte is a digit.
pub decimal-digits : (n : ℕ) → AllDigits (decimal n)
decimal-digits =
    decimal-by (λ n bs. AllDigits bs) (λ n h. (omega arith, omega arith, tt))
    (λ n bs h rest. digits-snoc bs (48 + n % 10) rest (omega arith) (omega arith))

-- There is a digit, and the first is 0 for the number 0 only.
pub decimal-leading : (n : ℕ) → (0 < length (decimal n)) × (get_or (decimal n) 0 0 ≡ 48 → n ≡ 0)
decimal-leading =
    decimal-by (λ n bs. (0 < length bs) × (get_or bs 0 0 ≡ 48 → n ≡ 0)) (λ n h. (omega arith, λ e. omega arith))
    (λ n bs h rest. (
      omega (arith, rest.0, length-append bs ((48 + n % 10) ∷ [])),
      λ e. absurd (omega (arith, h, rest.1 (sym (get_or-append bs ((48 + n % 10) ∷ []) 0 0 rest.0) ∙ e))),
    ))

-- A number below a power of ten has at most so many digits.
pub decimal-length : (n d : ℕ) → n < 10 ^ suc d → length (decimal n) ≤ suc d
decimal-length = decimal-by (λ n bs. (d : ℕ) → n < 10 ^ suc d → length bs ≤ suc d) (λ n h d l. omega arith) more
  where
    more : (n : ℕ) (bs : List ℕ) → 10 ≤ n → ((d : ℕ) → n / 10 < 10 ^ suc d → length bs ≤ suc d) → (d : ℕ) → n < 10 ^ suc d
        → length (bs ++ (48 + n % 10) ∷ []) ≤ suc d
    more n bs h rest zero l = absurd (omega (arith, pow-suc 10 0))
    more n bs h rest (suc d) l =
        let tenth : n / 10 < 10 ^ suc d = omega (arith, pow-suc 10 (suc d)) in
        omega (arith, length-append bs ((48 + n % 10) ∷ []), rest d tenth)

-- A number of at most a billion has at most ten.
pub billion-digits : (n : ℕ) → n ≤ 1000000000 → length (decimal n) ≤ 10
billion-digits n h = decimal-length n 9 (omega arith)
