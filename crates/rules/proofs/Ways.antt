-- Ways and assignments: what a way asks, fault by fault, and that ways look at no fault that they do not name.
-- Rests on Bits.antt and on independence as Sum.antt has it.
use mathlib.Core.Path.{◌≡◌, refl, sym, ap, ap₂, ◌∙◌}
use mathlib.Core.Bool.{Bool, true, false, ◌&&◌, ◌||◌, true≢false}
use mathlib.Core.List.{List, [], ◌∷◌}
use mathlib.Core.Logic.{◌⊎◌, inl, inr}
use Prim.Native.Nat.{ℕ, zero, suc, ◌/◌, ◌<◌}
use native.Mathlib.Omega.{arith}
use lib.ListN.{length, set, get_or}
use Rattle.rules.specs.Table.{odd, bit, Way, faults, Assignment, fits, fits_all, satisfies, happens}
use Rattle.rules.specs.Tree.{occurs}
use Rattle.rules.proofs.Booleans.{and_left, and_right, and_both, or_left, or_right, any_head, any-tail}
use Rattle.rules.proofs.Bits.{bit-or}
use Rattle.rules.proofs.Sum.{Ignores, Apart}

-- ---- what a way asks

-- Fault i is as the two words ask.
abbrev pub Asks : ℕ → ℕ → Assignment → ℕ → Type 0
Asks p q a i = (bit i p ≡ true → get_or a i false ≡ true) × (bit i q ≡ true → get_or a i false ≡ false)

fits-asks : (P Q b : Bool) → fits P Q b ≡ true → (P ≡ true → b ≡ true) × (Q ≡ true → b ≡ false)
fits-asks true true true h = (λ e. refl, λ e. sym h)
fits-asks true true false h = (λ e. h, λ e. refl)
fits-asks true false true h = (λ e. refl, λ e. absurd (true≢false (sym e)))
fits-asks true false false h = (λ e. h, λ e. refl)
fits-asks false true true h = (λ e. refl, λ e. sym h)
fits-asks false true false h = (λ e. absurd (true≢false (sym e)), λ e. refl)
fits-asks false false true h = (λ e. refl, λ e. absurd (true≢false (sym e)))
fits-asks false false false h = (λ e. absurd (true≢false (sym e)), λ e. refl)

asks-fits : (P Q b : Bool) → (P ≡ true → b ≡ true) → (Q ≡ true → b ≡ false) → fits P Q b ≡ true
asks-fits true true true h k = sym (k refl)
asks-fits true true false h k = h refl
asks-fits true false true h k = refl
asks-fits true false false h k = h refl
asks-fits false true true h k = sym (k refl)
asks-fits false true false h k = refl
asks-fits false false true h k = refl
asks-fits false false false h k = refl

-- An assignment that satisfies a way has every fault as the way asks.
pub satisfied-asks : (p q : ℕ) (a : Assignment) → fits_all p q a ≡ true → (i : ℕ) → i < length a → Asks p q a i
satisfied-asks p q [] h i l = absurd (omega arith)
satisfied-asks p q (b ∷ a) h zero l = fits-asks (odd p) (odd q) b (and_left (fits (odd p) (odd q) b) (fits_all (p / 2) (q / 2) a) h)
satisfied-asks p q (b ∷ a) h (suc i) l = satisfied-asks (p / 2) (q / 2) a (and_right (fits (odd p) (odd q) b) (fits_all (p / 2) (q / 2) a) h) i (omega arith)

-- And the other way round.
pub asks-satisfied : (p q : ℕ) (a : Assignment) → ((i : ℕ) → i < length a → Asks p q a i) → fits_all p q a ≡ true
asks-satisfied p q [] h = refl
asks-satisfied p q (b ∷ a) h =
    and_both (fits (odd p) (odd q) b) (fits_all (p / 2) (q / 2) a)
    (asks-fits (odd p) (odd q) b (h 0 (omega arith)).0 (h 0 (omega arith)).1)
    (asks-satisfied (p / 2) (q / 2) a (λ i l. h (suc i) (omega arith)))

-- ---- what a way does not look at

fits-ignores : (i p q : ℕ) → bit i p ≡ false → bit i q ≡ false → (a : Assignment) (b : Bool) → fits_all p q (set a i b) ≡ fits_all p q a
fits-ignores i p q hp hq [] b = refl
fits-ignores zero p q hp hq (c ∷ a) b = rw (hp, hq)
fits-ignores (suc i) p q hp hq (c ∷ a) b = ap (λ (r : Bool). fits (odd p) (odd q) c && r) (fits-ignores i (p / 2) (q / 2) hp hq a b)

-- A way does not look at a fault that it does not name.
pub satisfies-ignores : (v : Way) (i : ℕ) → bit i (faults v) ≡ false → Ignores (satisfies v) i
satisfies-ignores v i h =
    let e : bit i v.present || bit i v.absent ≡ false = sym (bit-or i v.present v.absent) ∙ h in
    fits-ignores i v.present v.absent (or_left (bit i v.present) (bit i v.absent) e) (or_right (bit i v.present) (bit i v.absent) e)

-- Ways do not look at a fault that occurs in none of them.
pub happens-ignores : (vs : List Way) (i : ℕ) → occurs i vs ≡ false → Ignores (happens vs) i
unfolding occurs
happens-ignores [] i h a b = refl
happens-ignores (v ∷ vs) i h a b =
    ap₂ (λ (x y : Bool). x || y) (satisfies-ignores v i (any_head _ v vs h) a b) (happens-ignores vs i (any-tail _ v vs h) a b)

-- Two lists of ways are independent if no fault occurs in both.
pub independent : (vs us : List Way) → ((i : ℕ) → (occurs i vs ≡ false) ⊎ (occurs i us ≡ false)) → Apart (happens vs) (happens us)
independent vs us h i = by (h i)
  where
    by : (occurs i vs ≡ false) ⊎ (occurs i us ≡ false) → Ignores (happens vs) i ⊎ Ignores (happens us) i
    by (inl e) = inl (happens-ignores vs i e)
    by (inr e) = inr (happens-ignores us i e)
