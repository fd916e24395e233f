-- Eight bits as the machine reads them: the wrapping difference read as signed, and the test of it.
-- Rests on Circle.antt and on the toolchain's integers.
use Rattle.std.proofs.Common.{◌≡◌, ℕ, ◌+◌, ◌-◌, ◌%◌, ◌<◌, ◌&&◌, ℤ, pos, negsuc, sym, ap, ◌∙◌, arith, to_z-of_z, w8, SFits, to_z, of_z}
use Rattle.std.proofs.lemmas.Int.{ints}
use lib.Signed.{le_z, lt_z}
use Rattle.captures.specs.Logs.{difference, signed, discards}

-- Eight bits read as signed are the machine's i8.
signed-bits : (d : ℕ) → d < 256 → to_z w8 d ≡ signed d
unfolding signed
signed-bits d h = grind (arith, ints)

-- The wrapping difference is the one that is defined.
difference-bits : (last new : ℕ) → last < 256 → (new + (256 - last)) % 256 ≡ difference last new
unfolding difference
difference-bits last new h = omega arith

-- THE TEST, by the signed difference z as the code has it.
pub discards_bits : (last new : ℕ) (z : ℤ) → last < 256 → SFits w8 z → z ≡ to_z w8 ((new + (256 - last)) % 256)
    → discards last new ≡ le_z (to_z w8 (of_z w8 z)) (pos 0) && lt_z (negsuc 19) (to_z w8 (of_z w8 z))
unfolding discards
discards_bits last new z l fits e =
    ap (λ (d : ℤ). le_z d (pos 0) && lt_z (negsuc 19) d)
    (sym (to_z-of_z fits ∙ e ∙ signed-bits ((new + (256 - last)) % 256) (omega arith) ∙ ap signed (difference-bits last new l)))
