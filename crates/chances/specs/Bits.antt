-- The set bits of a word.
-- Rests on `rules`, Table.
use Rattle.std.specs.Prelude.{ℕ, List, filter}
use Rattle.std.specs.List.{range_with_len}
use Rattle.rules.specs.Table.{bit}

-- Of the numbers below 64 those whose bits are set, in order.
unfoldable pub set_bits : ℕ → List ℕ
set_bits w = filter (λ i. bit i w) (range_with_len 0 64)
