-- Fractions: their sums, weights and comparisons, with 24 and 25 in the order in which each call tries them (RULES 14.4 to 14.11).
-- A fraction is the pair of its numbers, never reduced. Rests on Logs.antt and on `rules`, Refusals.
use Rattle.std.specs.Prelude.{ℕ, ◌+◌, ◌-◌, ◌*◌, ◌/◌, Bool, false, ◌||◌, List, [], ◌∷◌, map, ◌==◌, nat_lt, Result, Ok, Err}
use Rattle.std.specs.Ordering.{nat_cmp}
use Rattle.std.specs.declared.cmp.Ordering.{Ordering}
use Rattle.rules.specs.Rounding.{S}
use Rattle.rules.specs.Refusals.{Test, test, number, first, answered}
use Rattle.rules.specs.declared.Refusal.{Refusal}
use Rattle.captures.specs.declared.Fraction.{Fraction}
use Rattle.captures.specs.Logs.{fraction_of, limit}

-- A fraction by its numbers.
abbrev pub fraction : ℕ → ℕ → Fraction
fraction d j = record { discarded = d; judged = j }

-- ---- the tests

-- 24: no packet judged.
unfoldable pub unjudged : Fraction → Bool
unjudged x = x.judged == 0

-- 25: judged packets above 4,000,000,000, or discarded above judged.
unfoldable pub beyond : Fraction → Bool
beyond x = nat_lt limit x.judged || nat_lt x.judged x.discarded

-- 25 applies to some fraction of a list.
unfoldable pub some_beyond : List Fraction → Bool
some_beyond [] = false
some_beyond (x ∷ xs) = beyond x || some_beyond xs

-- ---- a fraction by itself, as a log gives it

-- Only 25.
unfoldable pub fraction_refusals : Fraction → List Test
fraction_refusals x = test Refusal.Beyond (beyond x) ∷ []

-- The answer of a fraction.
unfoldable pub fraction_answer : Fraction → Result Fraction Refusal
fraction_answer x = answered (fraction_refusals x) x

-- The answer of a log.
abbrev pub log_answer : List ℕ → Result Fraction Refusal
log_answer bs = fraction_answer (fraction_of bs)

-- ---- sums

-- Two fractions added: both numbers are.
abbrev pub plus : Fraction → Fraction → Fraction
plus x y = fraction (x.discarded + y.discarded) (x.judged + y.judged)

-- The sum of a list.
unfoldable pub sum_of : List Fraction → Fraction
sum_of [] = fraction 0 0
sum_of (x ∷ xs) = plus x (sum_of xs)

-- 25, for each fraction and for the sum.
unfoldable pub total_refusals : List Fraction → List Test
total_refusals xs = test Refusal.Beyond (some_beyond xs || beyond (sum_of xs)) ∷ []

-- The number of a sum.
unfoldable pub total_number : List Fraction → ℕ
total_number xs = first (total_refusals xs)

-- The answer of a sum.
unfoldable pub total_answer : List Fraction → Result Fraction Refusal
total_answer xs = answered (total_refusals xs) (sum_of xs)

-- The answer of several logs of a node.
abbrev pub logs_answer : List (List ℕ) → Result Fraction Refusal
logs_answer ls = total_answer (map fraction_of ls)

-- Two answers joined: refused if either is, else the sum of the two.
unfoldable pub joined : Result Fraction Refusal → Result Fraction Refusal → Result Fraction Refusal
joined (Ok x) (Ok y) = total_answer (x ∷ y ∷ [])
joined (Ok x) (Err r) = Err r
joined (Err r) b = Err r

-- The fractions that two lists of numbers give: as many as the longer one has, and a number that the other lacks is 0.
unfoldable pub fractions_in : List ℕ → List ℕ → List Fraction
fractions_in [] [] = []
fractions_in [] (j ∷ js) = fraction 0 j ∷ fractions_in [] js
fractions_in (d ∷ ds) [] = fraction d 0 ∷ fractions_in ds []
fractions_in (d ∷ ds) (j ∷ js) = fraction d j ∷ fractions_in ds js

-- ---- weights

-- discarded × S / judged, rounded up.
unfoldable pub weight_of : Fraction → ℕ
weight_of x = (x.discarded * S + (x.judged - 1)) / x.judged

-- 24, then 25.
unfoldable pub weight_refusals : Fraction → List Test
weight_refusals x = test Refusal.Unjudged (unjudged x) ∷ fraction_refusals x

-- The number of making a weight.
unfoldable pub weight_number : Fraction → ℕ
weight_number x = first (weight_refusals x)

-- The answer of making a weight.
unfoldable pub weight_answer : Fraction → Result ℕ Refusal
weight_answer x = answered (weight_refusals x) (weight_of x)

-- ---- comparisons

-- The order of two fractions: that of their numerators over the product of both denominators.
abbrev pub order_of : Fraction → Fraction → Ordering
order_of x y = nat_cmp (x.discarded * y.judged) (y.discarded * x.judged)

-- 24 over both fractions, then 25 over both.
unfoldable pub compare_refusals : Fraction → Fraction → List Test
compare_refusals x y = test Refusal.Unjudged (unjudged x || unjudged y) ∷ test Refusal.Beyond (beyond x || beyond y) ∷ []

-- The number of a comparison.
unfoldable pub compare_number : Fraction → Fraction → ℕ
compare_number x y = first (compare_refusals x y)

-- The answer of a comparison.
unfoldable pub compare_answer : Fraction → Fraction → Result Ordering Refusal
compare_answer x y = answered (compare_refusals x y) (order_of x y)

-- ---- what each answer tells (RULES 14.10): the number, 0 if accepted; and refused, 0 of 0, weight 0, comparison 0

-- The number of any answer.
abbrev pub number_told : {A : Type 0} → Result A Refusal → ℕ
number_told (Ok a) = 0
number_told (Err r) = number r

-- The fraction.
abbrev pub fraction_told : Result Fraction Refusal → Fraction
fraction_told (Ok x) = x
fraction_told (Err r) = fraction 0 0

-- The weight.
abbrev pub weight_told : Result ℕ Refusal → ℕ
weight_told (Ok w) = w
weight_told (Err r) = 0

-- The order: 1 the first is less, 2 equal, 3 greater.
abbrev pub order_told : Result Ordering Refusal → ℕ
order_told (Ok Ordering.Less) = 1
order_told (Ok Ordering.Equal) = 2
order_told (Ok Ordering.Greater) = 3
order_told (Err r) = 0
