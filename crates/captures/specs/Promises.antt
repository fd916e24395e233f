-- What each call promises, for any bytes and any numbers, whether it is refused or not.
-- Rests on Logs.antt and Fractions.antt; proofs/Claims.antt shows that the answers defined there keep these promises.
use Rattle.std.specs.Prelude.{◌≡◌, ℕ, ◌+◌, ◌-◌, ◌*◌, ◌<◌, ◌≤◌, ◌↔◌, List, map, length, Result, IfOk, IsOk, IsErrOf}
use Rattle.std.specs.Ordering.{nat_cmp}
use Rattle.std.specs.declared.cmp.Ordering.{Ordering}
use mathlib.Core.List.{Permᴰ}
use Rattle.rules.specs.Rounding.{S}
use Rattle.rules.specs.declared.Refusal.{Refusal}
use Rattle.captures.specs.declared.Fraction.{Fraction}
use Rattle.captures.specs.Logs.{fraction_of, limit}
use Rattle.captures.specs.Fractions.{log_answer, logs_answer, total_number, total_answer, weight_number, weight_answer, compare_number, compare_answer}
use Rattle.captures.specs.Fractions.{number_told}

-- A LOG: it is refused exactly if it is too long, every packet but the first is judged, and no more are discarded.
pub record LogCounted (bs : List ℕ) (r : Result Fraction Refusal) : Type 0 where
  pub answer : r ≡ log_answer bs
  pub too_long : IsErrOf r Refusal.Beyond ↔ (limit + 1 < length bs)
  pub judged : IfOk r (λ x. x.judged ≡ length bs - 1)
  pub discarded : IfOk r (λ x. x.discarded ≤ x.judged)

-- SEVERAL LOGS: in every order the answer is the same.
pub record LogsCounted (ls : List (List ℕ)) (r : Result Fraction Refusal) : Type 0 where
  pub answer : r ≡ logs_answer ls
  pub number : number_told r ≡ total_number (map fraction_of ls)
  pub any_order : (ms : List (List ℕ)) → Permᴰ ls ms → r ≡ logs_answer ms

-- A SUM of fractions: likewise.
pub record Added (xs : List Fraction) (r : Result Fraction Refusal) : Type 0 where
  pub answer : r ≡ total_answer xs
  pub number : number_told r ≡ total_number xs
  pub any_order : (ys : List Fraction) → Permᴰ xs ys → r ≡ total_answer ys

-- A WEIGHT: at most S, and of all whole numbers of billionths that are not below the fraction it is the smallest.
pub record Weighed (x : Fraction) (r : Result ℕ Refusal) : Type 0 where
  pub answer : r ≡ weight_answer x
  pub number : number_told r ≡ weight_number x
  pub at_most : IfOk r (λ w. w ≤ S)
  pub enough : IfOk r (λ w. x.discarded * S ≤ w * x.judged)
  pub smallest : IfOk r (λ w. (v : ℕ) → x.discarded * S ≤ v * x.judged → w ≤ v)

-- Both fractions are whole over a common denominator m, the one as a / m and the other as b / m.
pub record Over (x y : Fraction) (m a b : ℕ) : Type 0 where
  pub some : 0 < m
  pub first : x.discarded * m ≡ a * x.judged
  pub second : y.discarded * m ≡ b * y.judged

-- A COMPARISON: that of the rationals. Over whatever common denominator both fractions are whole, it is that of their numerators; and there is such a one.
pub record Compared (x y : Fraction) (r : Result Ordering Refusal) : Type 0 where
  pub answer : r ≡ compare_answer x y
  pub number : number_told r ≡ compare_number x y
  pub exact : IfOk r (λ o. (m a b : ℕ) → Over x y m a b → o ≡ nat_cmp a b)
  pub common : IsOk r → (m : ℕ) × (a : ℕ) × (b : ℕ) × Over x y m a b
