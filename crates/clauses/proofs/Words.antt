-- Words as the code makes them: bits dropped by a complement, and all bits.
-- Rests on the kit's laws of bits.
use mathlib.Core.Path.{◌≡◌, ap, ◌∙◌}
use mathlib.Core.Bool.{true}
use Prim.Native.Nat.{ℕ, zero, suc, ◌+◌, ◌-◌, ◌/◌, ◌%◌, ◌^◌, ◌<◌}
use native.Mathlib.Omega.{arith}
use lib.Bits.{bit_and, and_step, and_le_l}
use lib.Pow.{pow_pos}
use borrow.Author.Tests.{eq-eqb}
use Rattle.rules.specs.Table.{bit}
use Rattle.rules.specs.Leaf.{without}

-- Where y and m are complements in k bits, a word has each of its bits in just one of them.
split-bits : (k w y m : ℕ) → w < 2 ^ k → y + m + 1 ≡ 2 ^ k → bit_and w y + bit_and w m ≡ w
split-bits zero w y m h e = omega (arith, and_le_l w y, and_le_l w m)
split-bits (suc k) w y m h e =
    omega (arith, and_step w y, and_step w m, split-bits k (w / 2) (y / 2) (m / 2) (omega arith) (omega arith))

-- Bits are dropped by the complement of their word.
pub and-not : (k w m : ℕ) → w < 2 ^ k → m < 2 ^ k → bit_and w (2 ^ k - 1 - m) ≡ without m w
and-not k w m h l = omega (arith, split-bits k w (2 ^ k - 1 - m) m h (omega arith))

-- The word of k ones has every bit below k.
pub ones : (k i : ℕ) → i < k → bit i (2 ^ k - 1) ≡ true
ones zero i h = absurd (omega arith)
ones (suc k) zero h = eq-eqb ((2 ^ suc k - 1) % 2) 1 (omega (arith, pow_pos k))
ones (suc k) (suc i) h = let e : (2 ^ suc k - 1) / 2 ≡ 2 ^ k - 1 = omega (arith, pow_pos k) in ap (bit i) e ∙ ones k i (omega arith)
