-- An array of which the first numbers are meant, with zeros behind them.
-- Rests on nothing but lists.
use Rattle.std.specs.Prelude.{◌≡◌, List, ℕ, ◌-◌, ◌≤◌, length, drop, replicate}

-- Of an array of m numbers the first n are meant.
pub record Kept (m n : ℕ) (xs : List ℕ) : Type 0 where
  pub few : n ≤ m
  pub long : length xs ≡ m
  pub behind : drop n xs ≡ replicate (m - n) 0
