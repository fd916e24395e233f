-- A way's exact sum is the product of the weights that it names, and its low and high chance bound it.
-- Rests on Sum.antt and Rounding.antt.
use mathlib.Core.Path.{◌≡◌, refl, ap, ◌∙◌}
use mathlib.Core.Bool.{Bool, true, false, ◌&&◌, true≢false}
use mathlib.Core.List.{List, [], ◌∷◌}
use Prim.Native.Nat.{ℕ, zero, suc, ◌+◌, ◌-◌, ◌*◌, ◌/◌, ◌%◌, ◌^◌, ◌≤◌, ◌<◌, min}
use native.Mathlib.Nat.{mul-le-mul_right, pow-suc}
use native.Mathlib.Omega.{arith}
use lib.ListN.{length}
use lib.Dec.{eqb}
use lib.Bits.{bit_and, and_step}
use Rattle.rules.specs.Rounding.{S, Le}
use Rattle.rules.specs.declared.Direction.{Direction}
use Rattle.rules.specs.declared.Direction.TheVariants.{Down, Up}
use Rattle.rules.specs.Table.{odd, Way, Assignment, fits, fits_all, satisfies}
use Rattle.rules.specs.Leaf.{step, chance_from, chance}
use Rattle.rules.proofs.Sum.{expect, mass, Weights, sides, mass-never}
use Rattle.rules.proofs.Rounding.{le-self, over-bound}

-- ---- the exact sum of one way

-- What a fault of weight w contributes to the sum of a way.
abbrev factor : ℕ → Bool → Bool → ℕ
factor w true true = 0
factor w true false = w
factor w false true = S - w
factor w false false = S

-- The product of what all faults contribute.
abbrev factors : List ℕ → ℕ → ℕ → ℕ
factors [] p q = 1
factors (w ∷ ws) p q = factor w (odd p) (odd q) * factors ws (p / 2) (q / 2)

first-fault : (ws : List ℕ) (G : Assignment → Bool) (w : ℕ) → w ≤ S → (P Q : Bool)
    → w * mass ws (λ (a : Assignment). fits P Q true && G a) + (S - w) * mass ws (λ (a : Assignment). fits P Q false && G a) ≡ factor w P Q * mass ws G
first-fault ws G w h true true = rw mass-never (omega arith)
first-fault ws G w h true false = rw mass-never (omega arith)
first-fault ws G w h false true = rw mass-never (omega arith)
first-fault ws G w h false false = sides (mass ws G) h

way-mass : (ws : List ℕ) → Weights ws → (p q : ℕ) → mass ws (fits_all p q) ≡ factors ws p q
unfolding mass expect
way-mass [] k p q = refl
way-mass (w ∷ ws) k p q =
    first-fault ws (fits_all (p / 2) (q / 2)) w k.0 (odd p) (odd q)
    ∙ ap (λ (x : ℕ). factor w (odd p) (odd q) * x) (way-mass ws k.1 (p / 2) (q / 2))

-- ---- the low and the high chance

step-bound : (d : Direction) (w : ℕ) (P Q : Bool) → P && Q ≡ false → (c : ℕ) → Le d (S * step d w P Q c) (c * factor w P Q)
step-bound d w true true e c = absurd (true≢false e)
step-bound d w true false e c = over-bound d (c * w)
step-bound d w false true e c = over-bound d (c * (S - w))
step-bound d w false false e c = le-self d (omega arith)

chain : (d : Direction) (x N c' P c f : ℕ) → Le d (x * N) (c' * P) → Le d (S * c') (c * f) → Le d (x * (N * S)) (c * (f * P))
chain Down x N c' P c f p q = omega (arith, mul-le-mul_right P q)
chain Up x N c' P c f p q = omega (arith, mul-le-mul_right P q)

-- Words without a common bit have none in their lowest digit, nor in the rest.
apart-digit : (p q : ℕ) → bit_and p q ≡ 0 → odd p && odd q ≡ false
apart-digit p q e = go (p % 2) (q % 2) (omega arith) (omega arith) (omega (arith, and_step p q, e))
  where
    go : (m k : ℕ) → m < 2 → k < 2 → min m k ≡ 0 → eqb m 1 && eqb k 1 ≡ false
    go zero k h l z = refl
    go (suc zero) zero h l z = refl
    go (suc zero) (suc zero) h l z = absurd (omega arith)
    go (suc zero) (suc (suc k)) h l z = absurd (omega arith)
    go (suc (suc m)) k h l z = absurd (omega arith)

apart-rest : (p q : ℕ) → bit_and p q ≡ 0 → bit_and (p / 2) (q / 2) ≡ 0
apart-rest p q e = omega (arith, and_step p q, e)

chance-bound : (d : Direction) (ws : List ℕ) (p q c : ℕ) → bit_and p q ≡ 0 → Le d (chance_from d ws p q c * S ^ length ws) (c * factors ws p q)
chance-bound d [] p q c e = le-self d refl
chance-bound d (w ∷ ws) p q c e =
    rw pow-suc
    (chain d (chance_from d ws (p / 2) (q / 2) (step d w (odd p) (odd q) c)) (S ^ length ws) (step d w (odd p) (odd q) c)
    (factors ws (p / 2) (q / 2)) c (factor w (odd p) (odd q))
    (chance-bound d ws (p / 2) (q / 2) (step d w (odd p) (odd q) c) (apart-rest p q e))
    (step-bound d w (odd p) (odd q) (apart-digit p q e) c))

-- A way that names no fault in both senses: its low and its high chance bound its exact sum.
pub way-bound : (d : Direction) (ws : List ℕ) → Weights ws → (v : Way) → bit_and v.present v.absent ≡ 0
    → Le d (chance d ws v * S ^ length ws) (S * mass ws (satisfies v))
way-bound d ws k v e = rw (way-mass ws k v.present v.absent) (chance-bound d ws v.present v.absent S e)
