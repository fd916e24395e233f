-- What holds of a table that none of 9 to 13 refuses.
-- Rests on First.antt.
use mathlib.Core.Path.{◌≡◌, refl, sym, ap, ◌∙◌}
use mathlib.Core.Bool.{true, false, not, ◌||◌}
use mathlib.Core.List.{List, [], ◌∷◌}
use Prim.Native.Nat.{ℕ, zero, suc, ◌^◌, ◌≤◌, ◌<◌, max}
use native.Mathlib.Omega.{arith}
use lib.ListN.{length}
use lib.Dec.{eqb, ltb, leb}
use borrow.Author.Tests.{ltb-false, le-ltb, leb-false, lt-leb, eqb-true, eqb-false, eq-eqb, ne_eqb, not-false}
use Rattle.rules.specs.Rounding.{S}
use Rattle.rules.specs.Table.{bit, Way, Table, absent_rows, rows, ways, faults}
use Rattle.rules.specs.Refusals.{faults_outside, some_above, overweight, words_amiss, names_beyond, names_both}
use Rattle.rules.specs.Refusals.{way_refusals, table_refusals, table_number, Accepted}
use Rattle.rules.proofs.Booleans.{or_left, or_right, or-neither, or_split}
use Rattle.rules.proofs.Bits.{bit-or, bit_high, below-pow, apart-bit, apart-test}
use Rattle.rules.proofs.First.{none-applies, first-later, first-none}
use Rattle.rules.proofs.Members.{In}
use Rattle.rules.proofs.Groups.{none_passes, each-fails}
use Rattle.rules.proofs.Sum.{Weights}
use Rattle.rules.specs.Tree.{root_ways}
use Rattle.rules.proofs.Minimal.{minimal-any}

-- What 2 and 9 let through: a number from 1 up to a limit.
pub not-outside : (m n : ℕ) → eqb n 0 || ltb m n ≡ false → (0 < n) × (n ≤ m)
not-outside m n h = (above_zero n (eqb-false n 0 (or_left (eqb n 0) _ h)), ltb-false m n (or_right (eqb n 0) _ h))
  where
    above_zero : (k : ℕ) → (k ≡ 0 → ⊥) → 0 < k
    above_zero zero f = absurd (f refl)
    above_zero (suc k) f = omega arith

-- The other way.
pub from_one : (m n : ℕ) → 0 < n → n ≤ m → eqb n 0 || ltb m n ≡ false
from_one m n some few = or-neither (eqb n 0) (ltb m n) (ne_eqb n 0 (λ e. omega arith)) (le-ltb m n few)

-- What 10 lets through: every weight is at most S.
pub weights-of : (ws : List ℕ) → overweight ws ≡ false → Weights ws
unfolding overweight some_above
weights-of [] h = tt
weights-of (w ∷ ws) h = (ltb-false S w (or_left (ltb S w) _ h), weights-of ws (or_right (ltb S w) _ h))

-- The tests of 9 to 13, none of which applies.
record Passes (t : Table) : Type 0 where
  nine : faults_outside (length t.weights) ≡ false
  ten : overweight t.weights ≡ false
  eleven : words_amiss t.present t.absent ≡ false
  twelve : names_beyond (length t.weights) (ways t) ≡ false
  thirteen : names_both (ways t) ≡ false

passes : (t : Table) → Accepted t → Passes t
unfolding table_number table_refusals way_refusals
passes t ok =
    let n = none-applies (table_refusals t) ok in
    record { nine = n.0; ten = n.1.0; eleven = n.1.1.0; twelve = n.1.1.1.0; thirteen = n.1.1.1.1.0 }

module _ (t : Table) (ok : Accepted t) where
  -- At most 64 faults, and at least one.
  pub few_faults : length t.weights ≤ 64
  unfolding faults_outside
  few_faults = (not-outside 64 (length t.weights) (passes t ok).nine).1

  pub some_fault : 0 < length t.weights
  unfolding faults_outside
  some_fault = (not-outside 64 (length t.weights) (passes t ok).nine).0

  -- At most 128 ways, with as many absent words as present words.
  pub few_ways : length t.present ≤ 128
  unfolding words_amiss
  few_ways = ltb-false 128 (length t.present) (or_left (ltb 128 (length t.present)) _ (passes t ok).eleven)

  pub paired_words : length t.present ≡ length t.absent
  unfolding words_amiss
  paired_words =
      eqb-true (length t.present) (length t.absent) (not-false _ (or_right (ltb 128 (length t.present)) _ (passes t ok).eleven))

  -- No way names a fault beyond the table's, nor one in both senses.
  pub inside : names_beyond (length t.weights) (ways t) ≡ false
  inside = (passes t ok).twelve

  pub one_sense : names_both (ways t) ≡ false
  one_sense = (passes t ok).thirteen

  -- Nor does one at the root.
  pub root_inside : names_beyond (length t.weights) (root_ways t) ≡ false
  unfolding names_beyond root_ways
  root_inside = minimal-any _ (ways t) inside

  pub root_one_sense : names_both (root_ways t) ≡ false
  unfolding names_both root_ways
  root_one_sense = minimal-any _ (ways t) one_sense

  -- Every weight is at most S.
  pub light : overweight t.weights ≡ false
  light = (passes t ok).ten

  pub weights_fit : Weights t.weights
  weights_fit = weights-of t.weights light

-- ---- exactly the listed limits

-- A table inside the limits, in plain terms: 1 to 64 weights of at most S, at most 128 ways given by as many present as absent words,
-- each naming only faults of the table and none in both senses.
pub record Inside (t : Table) : Type 0 where
  pub some_faults : 0 < length t.weights
  pub few_faults : length t.weights ≤ 64
  pub weights : Weights t.weights
  pub few_ways : length t.present ≤ 128
  pub paired : length t.present ≡ length t.absent
  pub faults_known : (v : Way) → In v (ways t) → (i : ℕ) → length t.weights ≤ i → bit i (faults v) ≡ false
  pub one_sense_each : (v : Way) → In v (ways t) → (i : ℕ) → bit i v.present ≡ true → bit i v.absent ≡ false

-- An accepted table is inside the limits.
pub accepted-inside : (t : Table) → Accepted t → Inside t
unfolding names_beyond names_both
accepted-inside t ok =
    record {
      some_faults = some_fault t ok;
      few_faults = few_faults t ok;
      weights = weights_fit t ok;
      few_ways = few_ways t ok;
      paired = paired_words t ok;
      faults_known = known;
      one_sense_each = λ v m i b. apart-bit v.present v.absent i (none_passes _ (ways t) v (one_sense t ok) m) b;
    }
  where
    n : ℕ
    n = length t.weights

    known : (v : Way) → In v (ways t) → (i : ℕ) → length t.weights ≤ i → bit i (faults v) ≡ false
    known v m i l =
        let e = or_split (leb (2 ^ n) v.present) (leb (2 ^ n) v.absent) (none_passes _ (ways t) v (inside t ok) m) in
        bit-or i v.present v.absent
        ∙ or-neither _ _ (bit_high n i v.present l (leb-false (2 ^ n) v.present e.0))
        (bit_high n i v.absent l (leb-false (2 ^ n) v.absent e.1))

weights-test : (ws : List ℕ) → Weights ws → overweight ws ≡ false
unfolding overweight some_above
weights-test [] k = refl
weights-test (w ∷ ws) k = or-neither _ _ (le-ltb S w k.0) (weights-test ws k.1)

-- And a table inside the limits is accepted.
pub inside-accepted : (t : Table) → Inside t → Accepted t
unfolding table_number table_refusals way_refusals faults_outside words_amiss names_beyond names_both
inside-accepted t k =
    first-later _ _ (from_one 64 n k.some_faults k.few_faults)
    ∙ first-later _ _ (weights-test t.weights k.weights)
    ∙ first-later _ _
    (or-neither _ _ (le-ltb 128 (length t.present) k.few_ways) (ap not (eq-eqb (length t.present) (length t.absent) k.paired)))
    ∙ first-later _ _ (each-fails _ (ways t) below)
    ∙ first-later _ _ (each-fails _ (ways t) (λ v m. apart-test v.present v.absent (k.one_sense_each v m)))
    ∙ first-none
  where
    n : ℕ
    n = length t.weights

    off : (v : Way) → In v (ways t) → (i : ℕ) → n ≤ i → (bit i v.present ≡ false) × (bit i v.absent ≡ false)
    off v m i l = or_split (bit i v.present) (bit i v.absent) (sym (bit-or i v.present v.absent) ∙ k.faults_known v m i l)

    below : (v : Way) → In v (ways t) → leb (2 ^ n) v.present || leb (2 ^ n) v.absent ≡ false
    below v m =
        or-neither _ _ (lt-leb (2 ^ n) v.present (below-pow n v.present (λ i l. (off v m i l).0)))
        (lt-leb (2 ^ n) v.absent (below-pow n v.absent (λ i l. (off v m i l).1)))

-- ---- the number of ways

absent-length : (i : ℕ) (qs : List ℕ) → length (absent_rows i qs) ≡ length qs
unfolding absent_rows
absent-length i [] = refl
absent-length i (q ∷ qs) = ap suc (absent-length (suc i) qs)

rows-length : (i : ℕ) (ps qs : List ℕ) → length (rows i ps qs) ≡ max (length ps) (length qs)
unfolding rows
rows-length i [] qs = omega (arith, absent-length i qs)
rows-length i (p ∷ ps) [] = omega (arith, rows-length (suc i) ps [])
rows-length i (p ∷ ps) (q ∷ qs) = omega (arith, rows-length (suc i) ps qs)

-- An accepted table has at most 128 ways.
pub ways-few : (t : Table) → Accepted t → length (ways t) ≤ 128
unfolding ways
ways-few t ok = omega (arith, rows-length 0 t.present t.absent, few_ways t ok, paired_words t ok)
