-- One billion, and division by it rounded down or up (RULES 1).
-- The direction is data, so that each fact about rounding is stated once for low and high ends. Rests on the native numbers.
use Rattle.std.specs.Prelude.{ℕ, ◌+◌, ◌/◌, ◌≤◌}
use Rattle.rules.specs.declared.Direction.{Direction}
use Rattle.rules.specs.declared.Direction.TheVariants.{Down, Up}

-- One billion (RULES 1.1): weights, chances and intervals are counted in billionths.
abbrev pub S : ℕ
S = 1000000000

-- The other direction.
abbrev pub flip : Direction → Direction
flip Down = Up
flip Up = Down

-- a bounds b: from below where the direction is down, from above where it is up.
abbrev pub Le : Direction → ℕ → ℕ → Type 0
Le Down a b = a ≤ b
Le Up a b = b ≤ a

-- x divided by S, rounded.
abbrev pub over : Direction → ℕ → ℕ
over Down x = x / S
over Up x = (x + 999999999) / S
