-- Weights and comparisons are exact: a weight is the smallest that is not below the fraction, a comparison is that of the rationals.
-- Rests on specs/Fractions.antt and Promises.antt, and on Sums.antt for 25.
use Rattle.std.proofs.Common.{◌≡◌, ℕ, suc, ◌+◌, ◌-◌, ◌*◌, ◌/◌, ◌<◌, ◌≤◌, Bool, true, false, ◌||◌, [], sym, refl, ap, ◌∙◌, subst, true≢false, le_trans, mod-lt, mul-le-mul, lt_of_mul-lt-mul_right, mul-lt-mul_of_pos_right, div-add-mod', arith}
use Rattle.std.specs.Prelude.{Ok, Err, is_ok}
use Rattle.std.specs.Ordering.{nat_cmp, MatchOrdering}
use Rattle.std.specs.declared.cmp.Ordering.{Ordering}
use Rattle.std.specs.Cmp.{nat_cmp_is}
use Rattle.std.proofs.lemmas.Cmp.{ranked}
use mathlib.Core.Bool.{or_comm}
use native.Mathlib.Nat.{eq_of_mul-eq-mul_right}
use borrow.Author.Tests.{eqb-false}
use Rattle.rules.specs.Rounding.{S}
use Rattle.rules.specs.Refusals.{test}
use Rattle.rules.specs.declared.Refusal.{Refusal}
use Rattle.rules.proofs.Answering.{answered-none, answered-here, answered-later}
use Rattle.rules.proofs.Booleans.{or_split}
use Rattle.captures.specs.declared.Fraction.{Fraction}
use Rattle.captures.specs.Fractions.{unjudged, beyond, fraction_refusals, weight_of, weight_refusals, weight_number, weight_answer}
use Rattle.captures.specs.Fractions.{order_of, compare_refusals, compare_number, compare_answer, number_told}
use Rattle.captures.specs.Promises.{Weighed, Over, Compared}
use Rattle.captures.proofs.Sums.{within-is, told}

-- What is not refused by 24 has a packet judged.
pub judged-some : (x : Fraction) → unjudged x ≡ false → 0 < x.judged
unfolding unjudged
judged-some x h = positive x.judged (eqb-false x.judged 0 h)
  where
    positive : (n : ℕ) → (n ≡ 0 → ⊥) → 0 < n
    positive n h = omega (arith, h)

-- ---- rounding up

-- (n + (j − 1)) / j, times j, is at least n,
up-enough : (n j : ℕ) → 0 < j → n ≤ (n + (j - 1)) / j * j
up-enough n j h =
    let split = div-add-mod' (n + (j - 1)) j in
    let rest = mod-lt (n + (j - 1)) h in
    omega (arith, split, rest, h)

-- and whatever else does so is not smaller.
up-smallest : (n j w : ℕ) → 0 < j → n ≤ w * j → (n + (j - 1)) / j ≤ w
up-smallest n j w h le =
    let split = div-add-mod' (n + (j - 1)) j in
    below ((n + (j - 1)) / j) w (lt_of_mul-lt-mul_right j (omega (arith, split, le, h)))
  where
    below : (a b : ℕ) → a < suc b → a ≤ b
    below a b h = omega (arith, h)

-- ---- weights

-- 24 first.
pub weight-unjudged : (x : Fraction) → unjudged x ≡ true → weight_answer x ≡ Err Refusal.Unjudged
unfolding weight_answer weight_refusals
weight-unjudged x h = answered-here (test Refusal.Unjudged (unjudged x)) (fraction_refusals x) (weight_of x) h

-- Then 25.
pub weight-beyond : (x : Fraction) → unjudged x ≡ false → beyond x ≡ true → weight_answer x ≡ Err Refusal.Beyond
unfolding weight_answer weight_refusals fraction_refusals
weight-beyond x h k =
    answered-later (test Refusal.Unjudged (unjudged x)) (fraction_refusals x) (weight_of x) h
    ∙ answered-here (test Refusal.Beyond (beyond x)) [] (weight_of x) k

-- Else the weight.
pub weight-accepted : (x : Fraction) → unjudged x ≡ false → beyond x ≡ false → weight_answer x ≡ Ok (weight_of x)
unfolding weight_answer weight_refusals fraction_refusals
weight-accepted x h k =
    answered-later (test Refusal.Unjudged (unjudged x)) (fraction_refusals x) (weight_of x) h
    ∙ answered-later (test Refusal.Beyond (beyond x)) [] (weight_of x) k
    ∙ answered-none (weight_of x)

-- The weight of an accepted fraction is at most S.
pub weight-bound : (x : Fraction) → 0 < x.judged → x.discarded ≤ x.judged → weight_of x ≤ S
unfolding weight_of
weight-bound x some h = up-smallest (x.discarded * S) x.judged S some (omega (arith, h))

-- It is not below the fraction,
weight-enough : (x : Fraction) → 0 < x.judged → x.discarded * S ≤ weight_of x * x.judged
unfolding weight_of
weight-enough x some = up-enough (x.discarded * S) x.judged some

-- and whatever else is not below it is not smaller.
weight-least : (x : Fraction) → 0 < x.judged → (v : ℕ) → x.discarded * S ≤ v * x.judged → weight_of x ≤ v
unfolding weight_of
weight-least x some v le = up-smallest (x.discarded * S) x.judged v some le

-- The answer tells the number.
weight-told : (x : Fraction) → number_told (weight_answer x) ≡ weight_number x
unfolding weight_answer weight_number
weight-told x = told (weight_refusals x) (weight_of x)

-- The first product of a comparison fits a word.
pub product-fits : (x y : Fraction) → beyond x || beyond y ≡ false → x.discarded * y.judged < 18446744073709551616
product-fits x y h =
    let both = or_split (beyond x) (beyond y) h in
    let wx = within-is x both.0 in
    let wy = within-is y both.1 in
    omega (arith, mul-le-mul (le_trans wx.discarded wx.judged) wy.judged)

-- So does the other one.
pub product-fits-turned : (x y : Fraction) → beyond x || beyond y ≡ false → y.discarded * x.judged < 18446744073709551616
product-fits-turned x y h = product-fits y x (or_comm (beyond y) (beyond x) ∙ h)

-- THE WEIGHT: the answer that is defined keeps the promise.
pub weighed : (x : Fraction) → Weighed x (weight_answer x)
weighed x = by (unjudged x) (beyond x) refl refl
  where
    refused : (r : Refusal) → weight_answer x ≡ Err r → Weighed x (weight_answer x)
    refused r e = record { answer = refl; number = weight-told x; at_most = rw e tt; enough = rw e tt; smallest = rw e tt }

    accepted : weight_answer x ≡ Ok (weight_of x) → 0 < x.judged → x.discarded ≤ x.judged → Weighed x (weight_answer x)
    accepted e some h =
        record {
          answer = refl;
          number = weight-told x;
          at_most = rw e (weight-bound x some h);
          enough = rw e (weight-enough x some);
          smallest = rw e (weight-least x some);
        }

    by : (a b : Bool) → unjudged x ≡ a → beyond x ≡ b → Weighed x (weight_answer x)
    by true b h _ = refused Refusal.Unjudged (weight-unjudged x h)
    by false true h k = refused Refusal.Beyond (weight-beyond x h k)
    by false false h k = accepted (weight-accepted x h k) (judged-some x h) (within-is x k).discarded

-- ---- comparisons

-- 24 first, over both.
pub compare-unjudged : (x y : Fraction) → unjudged x || unjudged y ≡ true → compare_answer x y ≡ Err Refusal.Unjudged
unfolding compare_answer compare_refusals
compare-unjudged x y h = answered-here (test Refusal.Unjudged (unjudged x || unjudged y)) _ (order_of x y) h

-- Then 25, over both.
pub compare-beyond : (x y : Fraction) → unjudged x || unjudged y ≡ false → beyond x || beyond y ≡ true → compare_answer x y ≡ Err Refusal.Beyond
unfolding compare_answer compare_refusals
compare-beyond x y h k =
    answered-later (test Refusal.Unjudged (unjudged x || unjudged y)) _ (order_of x y) h
    ∙ answered-here (test Refusal.Beyond (beyond x || beyond y)) [] (order_of x y) k

-- Else the order.
pub compare-accepted : (x y : Fraction) → unjudged x || unjudged y ≡ false → beyond x || beyond y ≡ false → compare_answer x y ≡ Ok (order_of x y)
unfolding compare_answer compare_refusals
compare-accepted x y h k =
    answered-later (test Refusal.Unjudged (unjudged x || unjudged y)) _ (order_of x y) h
    ∙ answered-later (test Refusal.Beyond (beyond x || beyond y)) [] (order_of x y) k
    ∙ answered-none (order_of x y)

-- The answer tells the number.
compare-told : (x y : Fraction) → number_told (compare_answer x y) ≡ compare_number x y
unfolding compare_answer compare_number
compare-told x y = told (compare_refusals x y) (order_of x y)

-- Numbers p and q that are to m as a and b are to k have the order of a and b.
order-scaled : (p q a b m k : ℕ) → 0 < m → 0 < k → p * m ≡ a * k → q * m ≡ b * k → nat_cmp p q ≡ nat_cmp a b
order-scaled p q a b m k hm hk ep eq = nat_cmp_is a b (nat_cmp p q) (alike (nat_cmp p q) (ranked p q (nat_cmp p q) refl))
  where
    smaller : (p q a b : ℕ) → p * m ≡ a * k → q * m ≡ b * k → p < q → a < b
    smaller p q a b ep eq h = lt_of_mul-lt-mul_right k (subst (λ z. z < b * k) ep (subst (λ z. p * m < z) eq (mul-lt-mul_of_pos_right h hm)))

    alike : (o : Ordering) → MatchOrdering o (p < q) (p ≡ q) (q < p) → MatchOrdering o (a < b) (a ≡ b) (b < a)
    alike Ordering.Less h = smaller p q a b ep eq h
    alike Ordering.Equal e = eq_of_mul-eq-mul_right k hk a b (sym ep ∙ ap (λ z. z * m) e ∙ eq)
    alike Ordering.Greater h = smaller q p b a eq ep h

-- The products of both denominators with either numerator are whole over the product of both denominators,
crossed : (x y : Fraction) → 0 < x.judged → 0 < y.judged → Over x y (x.judged * y.judged) (x.discarded * y.judged) (y.discarded * x.judged)
crossed x y hx hy = record { some = omega (arith, mul-lt-mul_of_pos_right hx hy); first = omega arith; second = omega arith }

-- and have the order of the numerators over any common denominator.
order-of-numerators : (x y : Fraction) (m a b : ℕ) → 0 < x.judged → 0 < y.judged → Over x y m a b → order_of x y ≡ nat_cmp a b
order-of-numerators x y m a b hx hy over =
    order-scaled
    (x.discarded * y.judged)
    (y.discarded * x.judged)
    a
    b
    m
    (x.judged * y.judged)
    over.some
    (crossed x y hx hy).some
    (omega (arith, ap (λ z. z * y.judged) over.first))
    (omega (arith, ap (λ z. z * x.judged) over.second))

-- THE COMPARISON: the answer that is defined keeps the promise.
pub compared : (x y : Fraction) → Compared x y (compare_answer x y)
compared x y = by (unjudged x || unjudged y) (beyond x || beyond y) refl refl
  where
    refused : (r : Refusal) → compare_answer x y ≡ Err r → Compared x y (compare_answer x y)
    refused r e = record { answer = refl; number = compare-told x y; exact = rw e tt; common = λ ok. absurd (true≢false (sym ok ∙ ap is_ok e)) }

    accepted : compare_answer x y ≡ Ok (order_of x y) → 0 < x.judged → 0 < y.judged → Compared x y (compare_answer x y)
    accepted e hx hy =
        record {
          answer = refl;
          number = compare-told x y;
          exact = rw e (λ m a b over. order-of-numerators x y m a b hx hy over);
          common = λ _. (x.judged * y.judged, x.discarded * y.judged, y.discarded * x.judged, crossed x y hx hy);
        }

    by : (a b : Bool) → unjudged x || unjudged y ≡ a → beyond x || beyond y ≡ b → Compared x y (compare_answer x y)
    by true b h _ = refused Refusal.Unjudged (compare-unjudged x y h)
    by false true h k = refused Refusal.Beyond (compare-beyond x y h k)
    by false false h k =
        let some = or_split (unjudged x) (unjudged y) h in
        accepted (compare-accepted x y h k) (judged-some x some.0) (judged-some y some.1)

-- ---- for the check's tactics

-- A weight that is made.
pub ruleset rounding = (judged-some, weight-bound, within-is)

-- A comparison.
pub ruleset comparing = (product-fits, product-fits-turned)
