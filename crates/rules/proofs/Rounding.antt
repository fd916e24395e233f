-- Rounding: each rounded number bounds the exact one on its side, and none moves outwards when what it is made of moves inwards.
-- Every fact is stated once for both directions; leaves and all kinds of inner nodes use these. Rests on specs/ alone.
use mathlib.Core.Path.{◌≡◌, ap}
use Prim.Native.Nat.{ℕ, ◌+◌, ◌-◌, ◌*◌, ◌≤◌, ◌<◌, min, max}
use native.Mathlib.Nat.{mul-le-mul, mul-le-mul_left, mul-le-mul_right, mul-sub, sub-le-sub_left, le_of_mul-le-mul_right}
use native.Mathlib.Decide.{dec_le}
use native.Mathlib.Omega.{arith}
use Rattle.rules.specs.Rounding.{S, flip, Le, over}
use Rattle.rules.specs.declared.Direction.{Direction}
use Rattle.rules.specs.declared.Direction.TheVariants.{Down, Up}
use Rattle.rules.specs.Leaf.{either}
use Rattle.rules.specs.Tree.{mean, overlap}

-- ---- bounds and their order

-- Equal numbers bound each other.
pub le-self : (d : Direction) {a b : ℕ} → a ≡ b → Le d a b
le-self Down e = omega arith
le-self Up e = omega arith

-- ---- one division

-- A rounded quotient bounds the exact one.
pub over-bound : (d : Direction) (x : ℕ) → Le d (S * over d x) x
over-bound Down x = omega arith
over-bound Up x = omega arith

-- And does not move outwards.
pub over-mono : (d : Direction) (x y : ℕ) → Le d x y → Le d (over d x) (over d y)
over-mono Down x y h = omega arith
over-mono Up x y h = omega arith

-- ---- the two combinations and the overlap keep a bound

-- What x says of E, S less x says of the rest of N.
rest-bound : (d : Direction) (x N E M : ℕ) → E + M ≡ N → Le d (x * N) (S * E) → Le (flip d) ((S - x) * N) (S * M)
rest-bound Down x N E M e h = omega (arith, mul-sub N S x, ap (λ (k : ℕ). S * k) e)
rest-bound Up x N E M e h = omega (arith, mul-sub N S x, ap (λ (k : ℕ). S * k) e)

-- Turned twice, a direction is itself.
unflip : (d : Direction) (a b : ℕ) → Le (flip (flip d)) a b → Le d a b
unflip Down a b h = h
unflip Up a b h = h

-- THE COMMON PART: a rounded product of bounds on two independent parts bounds their joint part.
pub product-bound : (e : Direction) (X Y N M₁ M₂ M : ℕ) → 0 < N → M * N ≡ M₁ * M₂ → Le e (X * N) (S * M₁) → Le e (Y * N) (S * M₂)
    → Le e (over e (X * Y) * N) (S * M)
product-bound Down X Y N M₁ M₂ M pos e p q =
    let k : X * Y * N * N ≤ S * (S * M) * N = omega (arith, mul-le-mul p q, e) in
    let c : X * Y * N ≤ S * (S * M) = le_of_mul-le-mul_right k pos in
    omega (arith, mul-le-mul_right N (over-bound Down (X * Y)))
product-bound Up X Y N M₁ M₂ M pos e p q =
    let k : S * (S * M) * N ≤ X * Y * N * N = omega (arith, mul-le-mul p q, e) in
    let c : S * (S * M) ≤ X * Y * N = le_of_mul-le-mul_right k pos in
    omega (arith, mul-le-mul_right N (over-bound Up (X * Y)))

-- INDEPENDENCE: bounds on two independent events give one on either of them. M₁, M₂ and M are what the events do not reach.
pub either-bound : (d : Direction) (x y N E₁ E₂ E M₁ M₂ M : ℕ) → 0 < N → E₁ + M₁ ≡ N → E₂ + M₂ ≡ N → E + M ≡ N → M * N ≡ M₁ * M₂
    → Le d (x * N) (S * E₁) → Le d (y * N) (S * E₂) → Le d (either d x y * N) (S * E)
either-bound d x y N E₁ E₂ E M₁ M₂ M pos c₁ c₂ c e p q =
    unflip d _ _
    (rest-bound (flip d) (over (flip d) ((S - x) * (S - y))) N M E (omega (arith, c))
    (product-bound (flip d) (S - x) (S - y) N M₁ M₂ M pos e (rest-bound d x N E₁ M₁ c₁ p) (rest-bound d y N E₂ M₂ c₂ q)))

-- A FAULT: bounds on both sides of a split give one on the whole.
pub mean-bound : (d : Direction) (w x y N E₁ E₂ E : ℕ) → S * E ≡ w * E₁ + (S - w) * E₂
    → Le d (x * N) (S * E₁) → Le d (y * N) (S * E₂) → Le d (mean d w x y * N) (S * E)
mean-bound Down w x y N E₁ E₂ E e p q =
    omega (arith, e, mul-le-mul_left w p, mul-le-mul_left (S - w) q, mul-le-mul_right N (over-bound Down (w * x + (S - w) * y)))
mean-bound Up w x y N E₁ E₂ E e p q =
    omega (arith, e, mul-le-mul_left w p, mul-le-mul_left (S - w) q, mul-le-mul_right N (over-bound Up (w * x + (S - w) * y)))

-- THE OVERLAP bounds what both intervals bound.
pub overlap-bound : (d : Direction) (x y N Z : ℕ) → Le d (x * N) Z → Le d (y * N) Z → Le d (overlap d x y * N) Z
overlap-bound Down x y N Z p q = pick (dec_le x y)
  where
    pick : Dec (x ≤ y) → max x y * N ≤ Z
    pick (yes h) = let e : max x y ≡ y = omega arith in rw e q
    pick (no h) = let e : max x y ≡ x = omega arith in rw e p
overlap-bound Up x y N Z p q = pick (dec_le x y)
  where
    pick : Dec (x ≤ y) → Z ≤ min x y * N
    pick (yes h) = let e : min x y ≡ x = omega arith in rw e p
    pick (no h) = let e : min x y ≡ y = omega arith in rw e q

-- ---- none moves outwards: `Le d x x'` says that x' is no looser than x

-- The overlap is no looser than the first interval.
pub overlap-left : (d : Direction) (x y : ℕ) → Le d x (overlap d x y)
overlap-left Down x y = omega arith
overlap-left Up x y = omega arith

-- The overlap, independence, the common part and a fault: none is looser when what it is made of is not.
pub overlap-mono : (d : Direction) (x x' y y' : ℕ) → Le d x x' → Le d y y' → Le d (overlap d x y) (overlap d x' y')
overlap-mono Down x x' y y' p q = omega arith
overlap-mono Up x x' y y' p q = omega arith

pub either-mono : (d : Direction) (x x' y y' : ℕ) → Le d x x' → Le d y y' → Le d (either d x y) (either d x' y')
either-mono Down x x' y y' p q =
    omega (arith, over-mono Up ((S - x) * (S - y)) ((S - x') * (S - y')) (mul-le-mul (sub-le-sub_left p S) (sub-le-sub_left q S)))
either-mono Up x x' y y' p q =
    omega (arith, over-mono Down ((S - x) * (S - y)) ((S - x') * (S - y')) (mul-le-mul (sub-le-sub_left p S) (sub-le-sub_left q S)))

pub product-mono : (d : Direction) (x x' y y' : ℕ) → Le d x x' → Le d y y' → Le d (over d (x * y)) (over d (x' * y'))
product-mono Down x x' y y' p q = over-mono Down (x * y) (x' * y') (mul-le-mul p q)
product-mono Up x x' y y' p q = over-mono Up (x * y) (x' * y') (mul-le-mul p q)

pub mean-mono : (d : Direction) (w x x' y y' : ℕ) → Le d x x' → Le d y y' → Le d (mean d w x y) (mean d w x' y')
mean-mono Down w x x' y y' p q = over-mono Down _ _ (omega (arith, mul-le-mul_left w p, mul-le-mul_left (S - w) q))
mean-mono Up w x x' y y' p q = over-mono Up _ _ (omega (arith, mul-le-mul_left w p, mul-le-mul_left (S - w) q))
