-- A number of fixed width as the code puts it together, from bytes in place of which there are zeros beyond the end.
-- Rests on the definitions of `rules`, Sheet, and of Handed.
use Rattle.std.proofs.Common.{◌≡◌, ℕ, zero, suc, ◌+◌, ◌*◌, ◌^◌, List, [], ◌∷◌, take, drop, get_or, slice_index, refl, sym, ap, ◌∙◌, arith, take_all}
use Rattle.std.specs.Int.{sum_through, byte_worth}
use native.Mathlib.Nat.{pow-suc}
use lib.Seq.{take-nil}
use Rattle.rules.specs.Sheet.{value, field}
use Rattle.sheet.specs.Handed.{sized}
use Rattle.sheet.proofs.Sized.{length-sized}

-- Zeros behind count for nothing.
value-sized : (n : ℕ) (xs : List ℕ) → value (sized n xs) ≡ value (take n xs)
unfolding sized value
value-sized zero xs = refl
value-sized (suc n) [] = omega (arith, value-sized n [] ∙ ap value (take-nil n))
value-sized (suc n) (x ∷ xs) = omega (arith, value-sized n xs)

-- One byte more.
value-next : (m : ℕ) (bs : List ℕ) → value (take (suc m) bs) ≡ value (take m bs) + 256 ^ m * get_or bs m 0
unfolding value
value-next zero [] = refl
value-next zero (b ∷ bs) = omega arith
value-next (suc m) [] = omega arith
value-next (suc m) (b ∷ bs) = rw pow-suc (omega (arith, value-next m bs))

-- What a byte is worth.
worth : (i b : ℕ) → byte_worth i b ≡ 256 ^ i * b
worth zero b = omega arith
worth (suc i) b = omega arith

-- The sum of what they are worth.
value-sum : (m : ℕ) (bs : List ℕ) → sum_through (λ i. byte_worth i (slice_index bs i)) m ≡ value (take (suc m) bs)
unfolding value
value-sum zero [] = refl
value-sum zero (b ∷ bs) = omega arith
value-sum (suc m) bs = omega (arith, value-sum m bs, value-next (suc m) bs, worth (suc m) (get_or bs (suc m) 0))

-- The number at i is what the bytes there, padded with zeros, give.
pub padded : (m i : ℕ) (bs : List ℕ) → field (suc m) i bs ≡ sum_through (λ j. byte_worth j (slice_index (sized (suc m) (drop i bs)) j)) m
unfolding field
padded m i bs =
    let n : ℕ = suc m in
    let xs = drop i bs in
    sym (value-sum m (sized n xs) ∙ ap value (take_all n (sized n xs) (omega (arith, length-sized n xs))) ∙ value-sized n xs)
