-- The faults of ways, counted by set bits: each set bit of a word adds one to its fault's count, and each way its word.
-- Rests on `chances`, Bits, and on `rules`, Run.
use mathlib.Core.Path.{◌≡◌, refl, ap, ◌∙◌}
use mathlib.Core.Bool.{Bool, true, false}
use mathlib.Core.List.{List, [], ◌∷◌}
use Prim.Native.Nat.{ℕ, zero, suc, ◌+◌, ◌≤◌, ◌<◌}
use native.Mathlib.Decide.{ℕ_discrete}
use native.Mathlib.Omega.{arith}
use lib.ListN.{length, get_or, replicate, get_or-replicate}
use lib.Dec.{eqb}
use borrow.Author.Tests.{eq-eqb, ne_eqb}
use Rattle.std.specs.Prelude.{cond}
use Rattle.std.specs.List.{filter, range_with_len, AllByRecursion}
use Rattle.rules.specs.declared.Way.{Way}
use Rattle.rules.specs.Table.{bit, faults, indicator}
use Rattle.rules.specs.Run.{named}
use Rattle.chances.specs.Bits.{set_bits}
use Rattle.chances.proofs.First.{set_below}

-- ---- how often a number stands in a list

abbrev pub times_in : ℕ → List ℕ → ℕ
times_in f [] = 0
times_in f (i ∷ is) = indicator (eqb f i) + times_in f is

-- Of numbers from i on, those that pass a test: not one below i, and each other one as the test says.
times-passing : (P : ℕ → Bool) (f i k : ℕ) → (f < i → times_in f (filter P (range_with_len i k)) ≡ 0)
    × (i ≤ f → f < i + k → times_in f (filter P (range_with_len i k)) ≡ indicator (P f))
times-passing P f i zero = (λ l. refl, λ l h. absurd (omega arith))
times-passing P f i (suc k) = by (P i) refl (ℕ_discrete f i) (times-passing P f (i + 1) k)
  where
    rest : List ℕ
    rest = filter P (range_with_len (i + 1) k)

    by : (b : Bool) → P i ≡ b → Dec (f ≡ i) → (f < i + 1 → times_in f rest ≡ 0) × (i + 1 ≤ f → f < i + 1 + k → times_in f rest ≡ indicator (P f))
        → (f < i → times_in f (cond b (i ∷ rest) rest) ≡ 0) × (i ≤ f → f < i + suc k → times_in f (cond b (i ∷ rest) rest) ≡ indicator (P f))
    by true e (yes q) ih = (
      λ l. absurd (omega arith),
      λ l h. omega (arith, ih.0 (omega arith), ap indicator (eq-eqb f i q), ap indicator (ap P q ∙ e)),
    )
    by true e (no q) ih = (
      λ l. omega (arith, ih.0 (omega arith), ap indicator (ne_eqb f i q)),
      λ l h. omega (arith, ih.1 (omega arith) (omega arith), ap indicator (ne_eqb f i q)),
    )
    by false e (yes q) ih = (λ l. absurd (omega arith), λ l h. omega (arith, ih.0 (omega arith), ap indicator (ap P q ∙ e)))
    by false e (no q) ih = (λ l. ih.0 (omega arith), λ l h. ih.1 (omega arith) (omega arith))

-- A fault stands once among the set bits of a word that has it.
pub times-set : (f w : ℕ) → f < 64 → times_in f (set_bits w) ≡ indicator (bit f w)
unfolding set_bits
times-set f w l = (times-passing (λ i. bit i w) f 0 64).1 (omega arith) (omega arith)

-- ---- one word

-- Each count, with the bits to come, makes what it was with all bits of the word. Each of these is one of 64.
pub record Adding (old : List ℕ) (w : ℕ) (n fs : List ℕ) : Type 0 where
  pub below : AllByRecursion (λ i. i < 64) fs
  pub long : length n ≡ 64
  pub sum : (f : ℕ) → f < 64 → get_or n f 0 + times_in f fs ≡ get_or old f 0 + indicator (bit f w)

-- At first all are to come.
pub begun : (old : List ℕ) (w : ℕ) → length old ≡ 64 → Adding old w old (set_bits w)
begun old w l = record { below = set_below w; long = l; sum = λ f h. ap (λ (x : ℕ). get_or old f 0 + x) (times-set f w h) }

-- ---- all ways

-- One way more.
pub named_step : (f : ℕ) (v : Way) (vs : List Way) → named f (v ∷ vs) ≡ indicator (bit f (faults v)) + named f vs
unfolding named
named_step f v vs = by (bit f (faults v))
  where
    by : (b : Bool) → (elim b as (λ b. ℕ) [ true ↦ suc (named f vs) | false ↦ named f vs ]) ≡ indicator b + named f vs
    by true = omega arith
    by false = omega arith

-- A test counts for at most one.
one_at_most : (b : Bool) → indicator b ≤ 1
one_at_most true = omega arith
one_at_most false = omega arith

-- No fault is named in more ways than there are.
pub named-le : (f : ℕ) (vs : List Way) → named f vs ≤ length vs
unfolding named
named-le f [] = omega arith
named-le f (v ∷ vs) = omega (arith, named_step f v vs, one_at_most (bit f (faults v)), named-le f vs)

-- Each count, with that of the ways to come, makes the count in all ways.
abbrev pub Counting : List Way → List Way → List ℕ → Type 0
Counting all left n = (f : ℕ) → f < 64 → get_or n f 0 + named f left ≡ named f all

-- At first every count is 0, and all ways are to come.
pub none_counted : (all left : List Way) → left ≡ all → Counting all left (replicate 64 0)
none_counted all left e f h = omega (arith, get_or-replicate {A = ℕ} 64 f 0 0 h, ap (named f) e)

module _ (all left : List Way) (n : List ℕ) (c : Counting all left n) where
  -- Every count is small.
  pub small : length all ≤ 128 → (f : ℕ) → f < 64 → get_or n f 0 ≤ 128
  small few f h = omega (arith, c f h, named-le f all)

  -- One turn: the next way's faults are added.
  pub one_counted : (v : Way) (vs : List Way) → left ≡ v ∷ vs → (w : ℕ) → w ≡ faults v → (k : List ℕ)
      → ((f : ℕ) → f < 64 → get_or k f 0 ≡ get_or n f 0 + indicator (bit f w)) → Counting all vs k
  one_counted v vs e w q k a f h =
      omega (arith, c f h, a f h, ap (named f) e, named_step f v vs, ap (λ (x : ℕ). indicator (bit f x)) q)

  -- At the end none is to come.
  pub all_counted : left ≡ [] → (f : ℕ) → f < 64 → get_or n f 0 ≡ named f all
  unfolding named
  all_counted e f h = omega (arith, c f h, ap (named f) e)
