-- A record's two words are the set of its ways' numbers, and with its fixed faults and those left out they give its remaining ways back.
-- Rests on the rules' HandedDown.antt, which says that a node's own numbers may stand for its set, and on Bits.antt.
use mathlib.Core.Path.{◌≡◌, refl, sym, ap, ap₂, ◌∙◌}
use mathlib.Core.Bool.{Bool, true, false, ◌||◌}
use mathlib.Core.List.{List, [], ◌∷◌}
use mathlib.Core.Option.{Option, some}
use Prim.Native.Nat.{ℕ, ◌-◌, ◌^◌, ◌<◌, ◌≤◌}
use native.Mathlib.Omega.{arith}
use lib.Pow.{pow-lt, pow_pos}
use lib.Dec.{eqb, ltb}
use lib.Bits.{bit_or, or_lt}
use borrow.Author.Tests.{ltb-true, ltb-false, eqb-true, eq-eqb, ne_eqb}
use Rattle.rules.specs.Table.{bit, Table, ways}
use Rattle.rules.specs.declared.Way.{Way}
use Rattle.rules.specs.Leaf.{select, has_number, remaining, drop_all}
use Rattle.rules.specs.Tree.{Place, Refinement, tree, Subtree, subtree, series}
use Rattle.rules.specs.Tree.{Node as Spot}
use Rattle.rules.proofs.Booleans.{same_test, eqb_swap}
use Rattle.rules.proofs.Bits.{bit-zero, bit-or, bit-pow}
use Rattle.rules.proofs.Sets.{ways-rising, select-same}
use Rattle.rules.proofs.HandedDown.{handed-own}
use Rattle.records.specs.Records.{low_word, high_word, in_words, record_ways, subtree_or, record_at}

-- ---- the words hold the numbers

-- A test for equality, the other way round and both less 64.
eqb-less : (m n : ℕ) → 64 ≤ m → 64 ≤ n → eqb (m - 64) (n - 64) ≡ eqb n m
eqb-less m n h k =
    same_test _ _ (λ q. eq-eqb n m (omega (arith, eqb-true (m - 64) (n - 64) q))) (λ q. eq-eqb (m - 64) (n - 64) (omega (arith, eqb-true n m q)))

-- A number is in the two words of some ways exactly if one of them has it.
pub words-number : (us : List Way) (i : ℕ) → in_words (low_word us) (high_word us) i ≡ has_number us i
unfolding in_words has_number low_word high_word
words-number [] i = by (ltb i 64)
  where
    by : (b : Bool) → (elim b as (λ x. Bool) [ true ↦ bit i 0 | false ↦ bit (i - 64) 0 ]) ≡ false
    by true = bit-zero i
    by false = bit-zero (i - 64)
words-number (v ∷ us) i = by (ltb v.number 64) refl (ltb i 64) refl (words-number us i)
  where
    other : (v.number ≡ i → ⊥) → has_number us i ≡ eqb v.number i || has_number us i
    other f = ap (λ (z : Bool). z || has_number us i) (sym (ne_eqb v.number i f))

    low-high : v.number < 64 → 64 ≤ i → v.number ≡ i → ⊥
    low-high h k e = omega arith

    high-low : 64 ≤ v.number → i < 64 → v.number ≡ i → ⊥
    high-low h k e = omega arith

    by : (x : Bool) → ltb v.number 64 ≡ x → (y : Bool) → ltb i 64 ≡ y
        → (elim y as (λ x. Bool) [ true ↦ bit i (low_word us) | false ↦ bit (i - 64) (high_word us) ]) ≡ has_number us i
        → (elim y as (λ x. Bool) [
          | true ↦ bit i (elim x as (λ b. ℕ) [ true ↦ bit_or (2 ^ v.number) (low_word us) | false ↦ low_word us ])
          | false ↦ bit (i - 64) (elim x as (λ b. ℕ) [ true ↦ high_word us | false ↦ bit_or (2 ^ (v.number - 64)) (high_word us) ])
        ]) ≡ eqb v.number i || has_number us i
    by true e true q ih = bit-or i (2 ^ v.number) (low_word us) ∙ ap₂ (λ (x y : Bool). x || y) (bit-pow i v.number ∙ eqb_swap i v.number) ih
    by true e false q ih = ih ∙ other (low-high (ltb-true v.number 64 e) (ltb-false i 64 q))
    by false e true q ih = ih ∙ other (high-low (ltb-false v.number 64 e) (ltb-true i 64 q))
    by false e false q ih =
        bit-or (i - 64) (2 ^ (v.number - 64)) (high_word us)
        ∙ ap₂ (λ (x y : Bool). x || y) (bit-pow (i - 64) (v.number - 64) ∙ eqb-less i v.number (ltb-false i 64 q) (ltb-false v.number 64 e)) ih

-- THE WAYS OF A RECORD are those that remain at its place.
pub record-ways : (t : Table) (ns : List Refinement) → series t ns ≡ true → (p : Place) (x : Subtree) → subtree t p (tree ns) ≡ some x
    → record_ways t (record_at t ns p) ≡ x.node.ways
unfolding record_ways record_at subtree_or
record-ways t ns h p x e =
    ap (λ (o : Option Subtree). told (subtree_or o).node) e
    ∙ ap (λ (vs : List Way). drop_all x.node.out (remaining x.node.present x.node.absent vs))
    (select-same 0 (ways t) (in_words (low_word us) (high_word us)) (has_number us) (ways-rising t) (λ j l. words-number us j))
    ∙ handed-own t ns h p x e
  where
    us : List Way
    us = x.node.ways

    told : Spot → List Way
    told y = drop_all y.out (remaining y.present y.absent (select (in_words (low_word y.ways) (high_word y.ways)) (ways t)))

-- ---- the low word fits 64 bits

-- The low word of any ways.
pub low_fits : (us : List Way) → low_word us < 2 ^ 64
unfolding low_word
low_fits [] = pow_pos 64
low_fits (v ∷ us) = by (ltb v.number 64) refl (low_fits us)
  where
    by : (b : Bool) → ltb v.number 64 ≡ b → low_word us < 2 ^ 64
        → (elim b as (λ b. ℕ) [ true ↦ bit_or (2 ^ v.number) (low_word us) | false ↦ low_word us ]) < 2 ^ 64
    by true e ih = or_lt 64 (2 ^ v.number) (low_word us) (pow-lt (ltb-true v.number 64 e)) ih
    by false e ih = ih
