-- A test on each number of a list, as the library's `any` makes it, is the rules' test that some number is above a limit.
-- Rests on the definition of `some_above`.
use mathlib.Core.Path.{◌≡◌, refl, ap}
use mathlib.Core.Bool.{◌||◌}
use mathlib.Core.List.{List, [], ◌∷◌}
use Prim.Native.Nat.{ℕ}
use Rattle.std.specs.Prelude.{nat_lt}
use Rattle.std.specs.List.{list_any}
use Rattle.rules.specs.Refusals.{some_above}

pub above_some : (limit : ℕ) (xs : List ℕ) → list_any (λ x. nat_lt limit x) xs ≡ some_above limit xs
unfolding some_above
above_some limit [] = refl
above_some limit (x ∷ xs) = ap (λ b. nat_lt limit x || b) (above_some limit xs)
