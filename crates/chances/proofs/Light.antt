-- Weights that the test of refusal 10 lets through: each is at most S.
-- Rests on `rules`, Refusals.
use mathlib.Core.Path.{◌≡◌}
use mathlib.Core.Bool.{false}
use mathlib.Core.List.{List, [], ◌∷◌}
use Prim.Native.Nat.{ℕ, zero, suc, ◌≤◌}
use native.Mathlib.Omega.{arith}
use lib.ListN.{get_or}
use lib.Dec.{ltb}
use borrow.Author.Tests.{ltb-false}
use Rattle.rules.specs.Rounding.{S}
use Rattle.rules.specs.Refusals.{overweight, some_above}
use Rattle.rules.proofs.Booleans.{or_left, or_right}

-- Weight i is at most S, and so is the 0 past the end.
pub weight-le : (ws : List ℕ) (i : ℕ) → overweight ws ≡ false → get_or ws i 0 ≤ S
unfolding overweight some_above
weight-le [] i h = omega arith
weight-le (w ∷ ws) zero h = ltb-false S w (or_left (ltb S w) (some_above S ws) h)
weight-le (w ∷ ws) (suc i) h = weight-le ws i (or_right (ltb S w) (some_above S ws) h)
