-- Comparing records by their bits: what was unlike in some words is 0 exactly if they are equal.
-- Rests on the rules' Bits.antt and on `same_nodes` of specs/Records.antt.
use Rattle.std.proofs.Common.{◌≡◌, sym, ◌∙◌, ap, ap₂, ◌&&◌, ℕ, eqb, arith, bit_or}
use Rattle.std.proofs.Math.Bool.{and_assoc}
use lib.Bits.{bit_xor, xor_add_and, xor_self, and_le_l, and_le_r}
use borrow.Author.Tests.{eqb-true, eq-eqb}
use Rattle.rules.proofs.Booleans.{same_test, and_left, and_right, and_both}
use Rattle.rules.proofs.Bits.{or-zero}

-- Two words together are 0 exactly if both are.
pub eqb-or : (m n : ℕ) → eqb (bit_or m n) 0 ≡ eqb m 0 && eqb n 0
eqb-or m n =
    same_test _ _
    (λ h. let z = or-zero m n (eqb-true (bit_or m n) 0 h) in and_both _ _ (eq-eqb m 0 z.0) (eq-eqb n 0 z.1))
    (λ h. eq-eqb (bit_or m n) 0 (ap₂ bit_or (eqb-true m 0 (and_left _ _ h)) (eqb-true n 0 (and_right (eqb m 0) _ h))))

-- Two words differ in no bit exactly if they are equal.
pub eqb-xor : (m n : ℕ) → eqb (bit_xor m n) 0 ≡ eqb m n
eqb-xor m n =
    same_test _ _
    (λ h. eq-eqb m n (omega (arith, eqb-true (bit_xor m n) 0 h, xor_add_and m n, and_le_l m n, and_le_r m n)))
    (λ h. eq-eqb (bit_xor m n) 0 (ap (bit_xor m) (sym (eqb-true m n h)) ∙ xor_self m))

pub ruleset comparing = (eqb-or, and_assoc)
