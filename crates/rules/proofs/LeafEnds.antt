-- The ends of a leaf: leaf low and leaf high bound the exact sum of its ways, and are at most S.
-- Rests on Chance.antt, Rounding.antt and, for the kept ways, on independence (RULES 3.9, 3.10).
use mathlib.Core.Path.{◌≡◌, refl, sym, ◌∙◌}
use mathlib.Core.Bool.{Bool, true, false, not, true≢false}
use mathlib.Core.List.{List, [], ◌∷◌}
use mathlib.Core.Logic.{◌⊎◌, inl, inr}
use Prim.Native.Nat.{ℕ, ◌*◌, ◌^◌, ◌≤◌}
use native.Mathlib.Nat.{mul_comm}
use native.Mathlib.Omega.{arith}
use lib.ListN.{length}
use lib.Bits.{bit_and}
use borrow.Author.Tests.{eqb-true, not-false}
use Rattle.rules.specs.Rounding.{S, Le}
use Rattle.rules.specs.declared.Direction.{Direction}
use Rattle.rules.specs.declared.Direction.TheVariants.{Down, Up}
use Rattle.rules.specs.Table.{bit, Way, faults, Assignment, satisfies, happens}
use Rattle.rules.specs.Leaf.{any, chance, shares, shares_any, keep, kept, either, either_all, leaf_low, chances, leaf_high, leaf_end}
use Rattle.rules.specs.Tree.{occurs}
use Rattle.rules.specs.Refusals.{names_both}
use Rattle.rules.proofs.Booleans.{or_left, or_right, or-neither, or-first, or-second, or_cases, any_head, any-tail}
use Rattle.rules.proofs.Bits.{apart-bit}
use Rattle.rules.proofs.Sum.{mass, Weights, Ignores, Apart, mass-never, mass-or, mass-mono, mass-not, mass-neither, pow-S-pos}
use Rattle.rules.proofs.Rounding.{either-bound, overlap-bound}
use Rattle.rules.proofs.Chance.{way-bound}
use Rattle.rules.proofs.Ways.{satisfies-ignores, happens-ignores}

-- What 13 lets through: the first way names no fault in both senses, nor does a later one.
both-head : (v : Way) (vs : List Way) → names_both (v ∷ vs) ≡ false → bit_and v.present v.absent ≡ 0
unfolding names_both
both-head v vs h = eqb-true (bit_and v.present v.absent) 0 (not-false _ (any_head _ v vs h))

both-tail : (v : Way) (vs : List Way) → names_both (v ∷ vs) ≡ false → names_both vs ≡ false
unfolding names_both
both-tail v vs h = any-tail _ v vs h

-- ---- the high end

chances-bound : (ws : List ℕ) → Weights ws → (vs : List Way) → names_both vs ≡ false → S * mass ws (happens vs) ≤ chances ws vs * S ^ length ws
chances-bound ws k [] c = rw mass-never (omega arith)
chances-bound ws k (v ∷ vs) c =
    omega (arith, mass-or ws (satisfies v) (happens vs), way-bound Up ws k v (both-head v vs c), chances-bound ws k vs (both-tail v vs c))

high-bound : (ws : List ℕ) → Weights ws → (vs : List Way) → names_both vs ≡ false → S * mass ws (happens vs) ≤ leaf_high ws vs * S ^ length ws
high-bound ws k vs c =
    overlap-bound Up S (chances ws vs) (S ^ length ws) (S * mass ws (happens vs)) (omega (arith, mass-not ws k (happens vs))) (chances-bound ws k vs c)

-- ---- the low end

-- A way that shares no fault with any of a list: what it names occurs in none of them.
unshared : (v : Way) (us : List Way) (i : ℕ) → shares_any v us ≡ false → bit i (faults v) ≡ true → occurs i us ≡ false
unfolding occurs any
unshared v [] i h b = refl
unshared v (u ∷ us) i h b =
    or-neither (bit i (faults u)) _ (apart-bit (faults v) (faults u) i (or_left (shares v u) (shares_any v us) h) b)
    (unshared v us i (or_right (shares v u) (shares_any v us) h) b)

-- Such a way is independent of them.
kept-independent : (v : Way) (us : List Way) → shares_any v us ≡ false → Apart (satisfies v) (happens us)
kept-independent v us h i = go (bit i (faults v)) refl
  where
    go : (b : Bool) → bit i (faults v) ≡ b → Ignores (satisfies v) i ⊎ Ignores (happens us) i
    go true e = inr (happens-ignores us i (unshared v us i h e))
    go false e = inl (satisfies-ignores v i e)

keep_one : (ws : List ℕ) → Weights ws → (v : Way) (before : List Way) (a : ℕ) → bit_and v.present v.absent ≡ 0 → shares_any v before ≡ false
    → a * S ^ length ws ≤ S * mass ws (happens before)
    → either Down a (chance Down ws v) * S ^ length ws ≤ S * mass ws (happens (v ∷ before))
keep_one ws k v before a c e h =
    either-bound Down a (chance Down ws v) (S ^ length ws)
    (mass ws (happens before)) (mass ws (satisfies v)) (mass ws (happens (v ∷ before)))
    (mass ws (λ x. not (happens before x))) (mass ws (λ x. not (satisfies v x))) (mass ws (λ x. not (happens (v ∷ before) x)))
    (pow-S-pos (length ws)) (mass-not ws k (happens before)) (mass-not ws k (satisfies v)) (mass-not ws k (happens (v ∷ before)))
    (mass-neither ws k (satisfies v) (happens before) (kept-independent v before e) ∙ mul_comm _ _)
    h (way-bound Down ws k v c)

abbrev Implies : (Assignment → Bool) → (Assignment → Bool) → Type 0
Implies F G = (a : Assignment) → F a ≡ true → G a ≡ true

keep-bound : (ws : List ℕ) → Weights ws → (F : Assignment → Bool) (vs before : List Way) (a : ℕ) → names_both vs ≡ false
    → Implies (happens vs) F → Implies (happens before) F → a * S ^ length ws ≤ S * mass ws (happens before)
    → either_all ws (keep before vs) a * S ^ length ws ≤ S * mass ws F
keep-bound ws k F [] before a c hv hk h = omega (arith, mass-mono ws (happens before) F hk)
keep-bound ws k F (v ∷ vs) before a c hv hk h = go (shares_any v before) refl
    (keep-bound ws k F vs before a (both-tail v vs c) (λ x t. hv x (or-second (satisfies v x) (happens vs x) t)) hk h)
    (keep-bound ws k F vs (v ∷ before) a' (both-tail v vs c)
    (λ x t. hv x (or-second (satisfies v x) (happens vs x) t))
    (λ x. or_cases (satisfies v x) (happens before x) (λ t. hv x (or-first (satisfies v x) (happens vs x) t)) (hk x)))
  where
    a' : ℕ
    a' = either Down a (chance Down ws v)

    go : (b : Bool) → shares_any v before ≡ b → either_all ws (keep before vs) a * S ^ length ws ≤ S * mass ws F
        → (a' * S ^ length ws ≤ S * mass ws (happens (v ∷ before)) → either_all ws (keep (v ∷ before) vs) a' * S ^ length ws ≤ S * mass ws F)
        → either_all ws (elim b as (λ b. List Way) [ true ↦ keep before vs | false ↦ v ∷ keep (v ∷ before) vs ]) a * S ^ length ws ≤ S * mass ws F
    go true e p q = p
    go false e p q = q (keep_one ws k v before a (both-head v vs c) e h)

low-bound : (ws : List ℕ) → Weights ws → (vs : List Way) → names_both vs ≡ false → leaf_low ws vs * S ^ length ws ≤ S * mass ws (happens vs)
low-bound ws k vs c = keep-bound ws k (happens vs) vs [] 0 c (λ x t. t) (λ x t. absurd (true≢false (sym t))) (omega arith)

-- LEAF: both ends bound the exact sum of the leaf's ways.
pub leaf-bound : (d : Direction) (ws : List ℕ) → Weights ws → (vs : List Way) → names_both vs ≡ false
    → Le d (leaf_end d ws vs * S ^ length ws) (S * mass ws (happens vs))
leaf-bound Down ws k vs c = low-bound ws k vs c
leaf-bound Up ws k vs c = high-bound ws k vs c

-- ---- both ends are at most S

either-all-le : (ws : List ℕ) (vs : List Way) (a : ℕ) → a ≤ S → either_all ws vs a ≤ S
either-all-le ws [] a h = h
either-all-le ws (v ∷ vs) a h = either-all-le ws vs (either Down a (chance Down ws v)) (omega arith)

pub leaf-le : (d : Direction) (ws : List ℕ) (vs : List Way) → leaf_end d ws vs ≤ S
leaf-le Down ws vs = either-all-le ws (kept vs) 0 (omega arith)
leaf-le Up ws vs = omega arith
