-- Which numbers are discarded after the last accepted one: on the circle of 256 it is that number and the 19 before it.
-- Rests on specs/Logs.antt.
use Rattle.std.proofs.Common.{◌≡◌, ℕ, suc, ◌+◌, ◌-◌, ◌%◌, ◌<◌, ◌≤◌, true, false, ◌&&◌, ltb, ◌↔◌, ℤ, pos, negsuc, sym, ap, ◌∙◌, arith, ltb-true, le-ltb, lt-ltb}
use Rattle.std.proofs.lemmas.Int.{ints}
use native.Mathlib.Decide.{dec_lt}
use lib.Signed.{le_z, lt_z}
use lib.Dec.{leb-suc-suc}
use borrow.Author.Tests.{lt-leb}
use Rattle.captures.specs.Logs.{difference, signed, discards}

-- ---- eight bits read as signed

-- Below 128 they are the number itself.
signed_low : (d : ℕ) → d < 128 → signed d ≡ pos d
unfolding signed
signed_low d h = grind (arith, ints)

-- From 128 on they are 256 − d below 0; `negsuc n` stands for −(n + 1).
signed_high : (d : ℕ) → 128 ≤ d → d < 256 → signed d ≡ negsuc (255 - d)
unfolding signed
signed_high d low high = grind (arith, ints)

-- ---- the difference

-- It is on eight bits.
pub difference_below : (last new : ℕ) → difference last new < 256
unfolding difference
difference_below last new = omega arith

-- ---- the test

-- By the signed difference.
discards-at : (last new : ℕ) (z : ℤ) → signed (difference last new) ≡ z → discards last new ≡ le_z z (pos 0) && lt_z (negsuc 19) z
unfolding discards
discards-at last new z e = ap (λ (z : ℤ). le_z z (pos 0) && lt_z (negsuc 19) z) e

-- The last accepted number itself is discarded.
discards-same : (last new : ℕ) → difference last new ≡ 0 → discards last new ≡ true
discards-same last new e = discards-at last new (pos 0) (ap signed e ∙ signed_low 0 (omega arith))

-- A number up to 127 ahead is not.
discards-ahead : (last new : ℕ) → 0 < difference last new → difference last new < 128 → discards last new ≡ false
discards-ahead last new some h =
    discards-at last new (pos (difference last new)) (signed_low (difference last new) h)
    ∙ ap (λ b. b && lt_z (negsuc 19) (pos (difference last new))) (lt-leb (difference last new) 0 some)

-- A number behind is discarded if it is less than 20 behind.
discards-behind : (last new : ℕ) → 128 ≤ difference last new → discards last new ≡ ltb (255 - difference last new) 19
discards-behind last new h =
    discards-at last new (negsuc (255 - difference last new)) (signed_high (difference last new) h (difference_below last new))

-- How far behind the last accepted number the new one is, going back on the circle.
unfoldable pub behind : ℕ → ℕ → ℕ
behind last new = (last + 256 - new) % 256

-- The same number is less than 20 behind.
same-behind : (last new : ℕ) → last < 256 → new < 256 → difference last new ≤ 0 → behind last new < 20
unfolding difference behind
same-behind last new l n h = omega arith

-- One that is up to 127 ahead is 20 or more behind.
ahead-behind : (last new : ℕ) → last < 256 → new < 256 → 0 < difference last new → difference last new < 128 → 20 ≤ behind last new
unfolding difference behind
ahead-behind last new l n some h = omega arith

-- Every other one is as far behind as the difference is below 256.
far-behind : (last new : ℕ) → last < 256 → new < 256 → 128 ≤ difference last new → behind last new ≡ suc (255 - difference last new)
unfolding difference behind
far-behind last new l n h = omega arith

-- So many steps back from the last accepted number stands the new one.
there : (last new : ℕ) → last < 256 → new < 256 → new ≡ (last + 256 - behind last new) % 256
unfolding behind
there last new l n = omega arith

-- A number that stands less than 20 steps back is less than 20 behind.
near : (last new k : ℕ) → last < 256 → new < 256 → k < 20 → new ≡ (last + 256 - k) % 256 → behind last new < 20
unfolding behind
near last new k l n few e = omega arith

-- DISCARDED is what is less than 20 behind.
pub discards-is : (last new : ℕ) → last < 256 → new < 256 → discards last new ≡ ltb (behind last new) 20
discards-is last new l n = cases (dec_lt 0 (difference last new)) (dec_lt (difference last new) 128)
  where
    cases : Dec (0 < difference last new) → Dec (difference last new < 128) → discards last new ≡ ltb (behind last new) 20
    cases (no none) _ =
        let e : difference last new ≤ 0 = omega (arith, none) in
        discards-same last new (omega (arith, e)) ∙ sym (lt-ltb (behind last new) 20 (same-behind last new l n e))
    cases (yes some) (yes h) = discards-ahead last new some h ∙ sym (le-ltb (behind last new) 20 (ahead-behind last new l n some h))
    cases (yes some) (no h) =
        let high : 128 ≤ difference last new = omega (arith, h) in
        discards-behind last new high ∙ sym (ap (λ k. ltb k 20) (far-behind last new l n high) ∙ leb-suc-suc (suc (255 - difference last new)) 19)

-- THE NUMBERS DISCARDED after the last accepted one are that number, the one before it, and so on to the 19th before it, on the circle of 256.
pub discards-exactly : (last new : ℕ) → last < 256 → new < 256
    → (discards last new ≡ true) ↔ ((k : ℕ) × (k < 20) × (new ≡ (last + 256 - k) % 256))
discards-exactly last new l n = (out, back)
  where
    out : discards last new ≡ true → (k : ℕ) × (k < 20) × (new ≡ (last + 256 - k) % 256)
    out e = (behind last new, ltb-true (behind last new) 20 (sym (discards-is last new l n) ∙ e), there last new l n)

    back : (k : ℕ) × (k < 20) × (new ≡ (last + 256 - k) % 256) → discards last new ≡ true
    back (k, few, e) = discards-is last new l n ∙ lt-ltb (behind last new) 20 (near last new k l n few e)
