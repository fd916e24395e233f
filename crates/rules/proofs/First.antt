-- Laws of `first`, the number of the first refusal that applies (specs/Refusals.antt).
-- Rests on Booleans.antt.
use mathlib.Core.Path.{◌≡◌, refl, sym, ◌∙◌}
use mathlib.Core.Bool.{Bool, true, false, ◌&&◌}
use mathlib.Core.List.{List, [], ◌∷◌, ◌++◌}
use Prim.Native.Nat.{ℕ, suc, ◌<◌}
use native.Mathlib.Omega.{arith}
use lib.Dec.{ltb}
use borrow.Author.Tests.{ltb-true}
use Rattle.rules.specs.Refusals.{Test, number, first}
use Rattle.rules.specs.declared.Refusal.{Refusal}
use Rattle.rules.proofs.Booleans.{and_split}

-- No refusal of a list applies.
abbrev pub NoneApplies : List Test → Type 0
NoneApplies [] = Unit {0}
NoneApplies (x ∷ xs) = (x.applies ≡ false) × NoneApplies xs

-- The number of a refusal is above 0, which stands for none.
pub number-above : (r : Refusal) → 0 < number r
number-above Refusal.NoHead = omega arith
number-above Refusal.CountsOutside = omega arith
number-above Refusal.ModeAbove = omega arith
number-above Refusal.TooShort = omega arith
number-above Refusal.NotRising = omega arith
number-above Refusal.Crowded = omega arith
number-above Refusal.Misplaced = omega arith
number-above Refusal.WrongLength = omega arith
number-above Refusal.FaultsOutside = omega arith
number-above Refusal.Overweight = omega arith
number-above Refusal.WordsAmiss = omega arith
number-above Refusal.NamesBeyond = omega arith
number-above Refusal.NamesBoth = omega arith
number-above Refusal.AllowanceAbove = omega arith
number-above Refusal.BudgetAbove = omega arith
number-above Refusal.NotGood = omega arith
number-above Refusal.NoLeaf = omega arith
number-above Refusal.Closed = omega arith
number-above Refusal.Full = omega arith
number-above Refusal.Impossible = omega arith
number-above Refusal.Disagree = omega arith
number-above Refusal.NoRoom = omega arith
number-above Refusal.Misread = omega arith
number-above Refusal.Unjudged = omega arith
number-above Refusal.Beyond = omega arith

-- An empty list refuses nothing.
pub first-none : first [] ≡ 0
unfolding first
first-none = refl

-- The first applies.
pub first-here : (x : Test) (xs : List Test) → x.applies ≡ true → first (x ∷ xs) ≡ number x.refusal
unfolding first
first-here x xs e = rw (e, first)

-- The first does not apply.
pub first-later : (x : Test) (xs : List Test) → x.applies ≡ false → first (x ∷ xs) ≡ first xs
unfolding first
first-later x xs e = rw (e, first)

-- Two lists with the same first refusal, whose numbers agree where it does not apply.
pub first-same : (x : Test) (xs ys : List Test) → (x.applies ≡ false → first xs ≡ first ys) → first (x ∷ xs) ≡ first (x ∷ ys)
first-same x xs ys h = split x.applies refl
  where
    split : (b : Bool) → x.applies ≡ b → first (x ∷ xs) ≡ first (x ∷ ys)
    split true e = first-here x xs e ∙ sym (first-here x ys e)
    split false e = first-later x xs e ∙ h e ∙ sym (first-later x ys e)

-- Where the number is 0 no refusal applies.
pub none-applies : (xs : List Test) → first xs ≡ 0 → NoneApplies xs
none-applies [] h = tt
none-applies (x ∷ xs) h = split x.applies refl (none-applies xs)
  where
    split : (b : Bool) → x.applies ≡ b → (first xs ≡ 0 → NoneApplies xs) → NoneApplies (x ∷ xs)
    split true e rest = absurd (omega (arith, first-here x xs e, number-above x.refusal))
    split false e rest = (e, rest (sym (first-later x xs e) ∙ h))

-- A list that refuses nothing is passed over whole.
pub first-after : (xs ys : List Test) → NoneApplies xs → first (xs ++ ys) ≡ first ys
first-after [] ys k = refl
first-after (x ∷ xs) ys k = first-later x (xs ++ ys) k.0 ∙ first-after xs ys k.1

-- A number that a list gives, it gives with more behind it.
pub first-before : (xs ys : List Test) (n : ℕ) → first xs ≡ suc n → first (xs ++ ys) ≡ suc n
first-before [] ys n h = absurd (omega (arith, h, first-none))
first-before (x ∷ xs) ys n h = split x.applies refl (first-before xs ys n)
  where
    split : (b : Bool) → x.applies ≡ b → (first xs ≡ suc n → first (xs ++ ys) ≡ suc n) → first (x ∷ xs ++ ys) ≡ suc n
    split true e rest = first-here x (xs ++ ys) e ∙ sym (first-here x xs e) ∙ h
    split false e rest = first-later x (xs ++ ys) e ∙ rest (sym (first-later x xs e) ∙ h)

-- What refuses nothing at the end of a list changes nothing.
pub first-end : (xs ys : List Test) → first ys ≡ 0 → first (xs ++ ys) ≡ first xs
first-end [] ys h = h ∙ sym first-none
first-end (x ∷ xs) ys h = first-same x (xs ++ ys) xs (λ e. first-end xs ys h)

-- Every refusal of a list has a number below a limit.
abbrev pub numbers_below : ℕ → List Test → Bool
numbers_below n [] = true
numbers_below n (x ∷ xs) = ltb (number x.refusal) n && numbers_below n xs

-- So has the first that applies.
pub first_below : (n : ℕ) (xs : List Test) → 0 < n → numbers_below n xs ≡ true → first xs < n
first_below n [] h p = omega (arith, first-none)
first_below n (x ∷ xs) h p =
    let here = and_split (ltb (number x.refusal) n) _ p in
    split x.applies refl (ltb-true (number x.refusal) n here.0) (first_below n xs h here.1)
  where
    split : (b : Bool) → x.applies ≡ b → number x.refusal < n → first xs < n → first (x ∷ xs) < n
    split true e l rest = omega (arith, first-here x xs e)
    split false e l rest = omega (arith, first-later x xs e)
