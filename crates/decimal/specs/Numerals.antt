-- Fields that are numbers in decimal (RULES 13.4).
-- Rests on `rules`, Text.
use Rattle.std.specs.Prelude.{Bool, ◌&&◌, List, ℕ, length, leb}
use Rattle.rules.specs.Sheet.{same_numbers}
use Rattle.rules.specs.Text.{decimal, decimal_value}

-- The bytes of some number in decimal, at most ten of them: so there is one, and neither a plus nor a leading zero.
unfoldable pub is_numeral : List ℕ → Bool
is_numeral f = leb (length f) 10 && same_numbers (decimal (decimal_value f)) f
