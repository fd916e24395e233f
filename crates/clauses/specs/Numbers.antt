-- The numbers of some ways, as a test.
-- Rests on `records`, Records, for the two words of numbers.
use Rattle.std.specs.Prelude.{Bool, ℕ}
use Rattle.records.specs.Records.{in_words}
use Rattle.clauses.specs.declared.sets.Numbers.{Numbers}

-- The number is in the set.
abbrev pub is_in : Numbers → ℕ → Bool
is_in n i = in_words n.low n.high i
