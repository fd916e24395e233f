-- A list at a fixed length: its first numbers, with zeros for those that it lacks (specs/Handed.antt, sized).
-- Rests on that definition alone.
use Rattle.std.proofs.Common.{◌≡◌, ℕ, zero, suc, ◌≤◌, List, [], ◌∷◌, ◌++◌, length, take, drop, replicate, refl, ap, arith, sym}
use Rattle.std.proofs.lemmas.Grind.{common_steps}
use Rattle.sheet.specs.Handed.{sized}

-- As many numbers as asked for.
pub length-sized : (m : ℕ) (xs : List ℕ) → length (sized m xs) ≡ m
unfolding sized
length-sized zero xs = refl
length-sized (suc m) [] = ap suc (length-sized m [])
length-sized (suc m) (x ∷ xs) = ap suc (length-sized m xs)

-- Of a list that is long enough, its front.
pub sized_long : (m : ℕ) (xs : List ℕ) → m ≤ length xs → sized m xs ≡ take m xs
unfolding sized
sized_long zero xs h = refl
sized_long (suc m) [] h = absurd (omega arith)
sized_long (suc m) (x ∷ xs) h = ap (λ r. x ∷ r) (sized_long m xs (omega arith))

-- Of no numbers, zeros.
pub sized-none : (m : ℕ) → replicate m 0 ≡ sized m []
unfolding sized
sized-none zero = refl
sized-none (suc m) = ap (λ r. 0 ∷ r) (sized-none m)

-- Of a list that is too short, all of it over zeros.
pub sized_short : (m : ℕ) (xs : List ℕ) → length xs ≤ m → sized m xs ≡ xs ++ drop (length xs) (replicate m 0)
unfolding sized
sized_short m [] h = sym (sized-none m)
sized_short zero (x ∷ xs) h = absurd (omega arith)
sized_short (suc m) (x ∷ xs) h = ap (λ r. x ∷ r) (sized_short m xs (omega arith))

-- How bytes that may be too few are made as many as are asked for.
pub ruleset sizing = (common_steps, sized_long, sized_short)
