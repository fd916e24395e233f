-- The text of a fault that a way names: a comma, a minus if it is absent, and one digit or two.
-- Rests on `rules`, Decimal, and on `csv_text`, Texts.
use Rattle.std.proofs.Common.{◌≡◌, ℕ, ◌+◌, ◌/◌, ◌%◌, ◌<◌, ◌≤◌, Bool, true, false, List, [], ◌∷◌, ◌++◌, refl, ap, ◌∙◌, add-one, arith}
use Rattle.rules.specs.Text.{decimal}
use Rattle.rules.proofs.Decimal.{decimal-one, decimal-more}
use Rattle.csv_text.specs.declared.Fault.{Fault}
use Rattle.csv_text.specs.Texts.{fault_text}
use Rattle.writer.specs.Pieces.{if_meant}

-- A number of two digits.
pub decimal_two : (n : ℕ) → 10 ≤ n → n < 100 → decimal n ≡ (48 + n / 10) ∷ (48 + n % 10) ∷ []
decimal_two n low high = decimal-more n low ∙ ap (λ (d : List ℕ). d ++ (48 + n % 10) ∷ []) (decimal-one (n / 10) (omega arith))

-- Digits behind a minus, if a test says so.
abbrev sign : Bool → List ℕ → List ℕ
sign true d = 45 ∷ d
sign false d = d

-- A fault is its digits behind its sign.
signed : (f : Fault) → fault_text f ≡ sign f.absent (decimal (f.place + 1))
unfolding fault_text
signed f = split f.absent refl
  where
    split : (b : Bool) → f.absent ≡ b → fault_text f ≡ sign b (decimal (f.place + 1))
    split true e = rw (e, fault_text) (rw add-one)
    split false e = rw (e, fault_text) (rw add-one)

-- A comma and a fault of one digit: its minus, if it is meant, and the digit.
pub fault_short : (f : Fault) → f.place + 1 < 10 → 44 ∷ fault_text f ≡ 44 ∷ (if_meant f.absent 45 ++ (48 + (f.place + 1)) ∷ [])
fault_short f h = ap (λ (t : List ℕ). 44 ∷ t) (signed f ∙ rw (decimal-one (f.place + 1) h) (by_sign f.absent _))
  where
    by_sign : (b : Bool) (d : List ℕ) → sign b d ≡ if_meant b 45 ++ d
    by_sign true d = refl
    by_sign false d = refl

-- Of two: the second stands behind.
pub fault_long : (f : Fault) → 10 ≤ f.place + 1 → f.place + 1 < 100
    → 44 ∷ fault_text f ≡ (44 ∷ (if_meant f.absent 45 ++ (48 + (f.place + 1) / 10) ∷ [])) ++ (48 + (f.place + 1) % 10) ∷ []
fault_long f low high = ap (λ (t : List ℕ). 44 ∷ t) (signed f ∙ rw (decimal_two (f.place + 1) low high) (by_sign f.absent _ _))
  where
    by_sign : (b : Bool) (t o : ℕ) → sign b (t ∷ o ∷ []) ≡ (if_meant b 45 ++ t ∷ []) ++ o ∷ []
    by_sign true t o = refl
    by_sign false t o = refl
