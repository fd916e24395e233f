-- The lowest bytes of a number, as the library gives those of a word and as the rules do.
-- Rests on the library's laws of division and on `rules`, Sheet.
use Rattle.std.proofs.Common.{◌≡◌, ℕ, zero, suc, ◌/◌, ◌%◌, ◌≤◌, List, ◌∷◌, take, refl, ap, ◌∙◌, arith, w64}
use Rattle.std.proofs.Math.Nat.{div-div-eq-div-mul}
use Rattle.std.specs.Int.{to_le_bytes}
use Rattle.rules.specs.Sheet.{little}

-- The first k of n bytes.
take-little : (k n x : ℕ) → k ≤ n → take k (little n x) ≡ little k x
unfolding little
take-little zero n x h = refl
take-little (suc k) zero x h = absurd (omega arith)
take-little (suc k) (suc n) x h = ap (λ (bytes : List ℕ). x % 256 ∷ bytes) (take-little k n (x / 256) (omega arith))

-- The bytes of a word.
le_bytes : (x : ℕ) → to_le_bytes w64 x ≡ little 8 x
unfolding little
le_bytes x = simp div-div-eq-div-mul

-- The first k of them.
pub take-le_bytes : (k x : ℕ) → k ≤ 8 → take k (to_le_bytes w64 x) ≡ little k x
take-le_bytes k x h = ap (take k) (le_bytes x) ∙ take-little k 8 x h
