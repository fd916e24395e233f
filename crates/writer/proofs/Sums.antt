-- The sum of a list of counts, as the rules have it and as the library does.
-- Rests on the library's laws of sums and on `rules`, Sheet.
use Rattle.std.proofs.Common.{◌≡◌, ℕ, ◌+◌, List, [], ◌∷◌, sum, refl, ap, ◌∙◌}
use Rattle.std.proofs.lemmas.List.Sums.{sum_by-cons}
use Rattle.rules.specs.Sheet.{total}

-- They are the same.
pub sum_is : (xs : List ℕ) → sum xs ≡ total xs
unfolding total
sum_is [] = refl
sum_is (x ∷ xs) = sum_by-cons (λ n. n) x xs ∙ ap (λ n. x + n) (sum_is xs)
