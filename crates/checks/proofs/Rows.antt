-- A test of all rows of two lists, as tests of the lists: where 0 passes no test, what one list lacks changes nothing.
-- Rests on `rules`, Table, Refusals and Booleans.
use Rattle.std.proofs.Common.{◌≡◌, ℕ, suc, Bool, false, ◌||◌, not, eqb, leb, ◌^◌, List, [], ◌∷◌, refl, sym, ap, ◌∙◌, arith}
use Rattle.std.proofs.Math.Nat.{one-le-pow}
use Rattle.std.proofs.lemmas.Bool.{lt-leb}
use Rattle.std.specs.Int.Bits.{bit_and, and_zero_l, and_zero_r}
use Rattle.std.specs.List.{list_any, zip}
use Rattle.rules.specs.Table.{rows, absent_rows}
use Rattle.rules.specs.Leaf.{any}
use Rattle.rules.specs.Refusals.{names_beyond, names_both}
use Rattle.rules.proofs.Booleans.{or-four}

-- A row passes if one of its words does: one list has such a word, or the other.
any_either : (t : ℕ → Bool) → t 0 ≡ false → (k : ℕ) (ps qs : List ℕ) → (list_any t ps || list_any t qs) ≡ any (λ v. t v.present || t v.absent) (rows k ps qs)
unfolding any rows absent_rows
any_either t none k [] [] = refl
any_either t none k [] (q ∷ qs) = rw none (ap (λ b. t q || b) (any_either t none (suc k) [] qs))
any_either t none k (p ∷ ps) [] = rw none (or-four (t p) (list_any t ps) false false ∙ ap (λ b. (t p || false) || b) (any_either t none (suc k) ps []))
any_either t none k (p ∷ ps) (q ∷ qs) = or-four (t p) (list_any t ps) (t q) (list_any t qs) ∙ ap (λ b. (t p || t q) || b) (any_either t none (suc k) ps qs)

-- No pairs with nothing.
zip_none : (ps : List ℕ) → zip {X = ℕ} ps [] ≡ []
zip_none [] = refl
zip_none (p ∷ ps) = refl

-- A row that has only one word passes no test that both have to pass.
any_both : (f : ℕ → ℕ → Bool) → ((p : ℕ) → f p 0 ≡ false) → ((q : ℕ) → f 0 q ≡ false) → (k : ℕ) (ps qs : List ℕ)
    → list_any (λ x. f x.0 x.1) (zip ps qs) ≡ any (λ v. f v.present v.absent) (rows k ps qs)
unfolding any rows absent_rows
any_both f right left k [] [] = refl
any_both f right left k [] (q ∷ qs) = rw left (any_both f right left (suc k) [] qs)
any_both f right left k (p ∷ ps) [] = rw right (rw (zip_none ps) at (any_both f right left (suc k) ps []))
any_both f right left k (p ∷ ps) (q ∷ qs) = ap (λ b. f p q || b) (any_both f right left (suc k) ps qs)

-- 12: a row names a fault at or above n if one of its words does.
pub beyond_either : (n : ℕ) (ps qs : List ℕ) → names_beyond n (rows 0 ps qs) ≡ (list_any (leb (2 ^ n)) ps || list_any (leb (2 ^ n)) qs)
unfolding names_beyond
beyond_either n ps qs = sym (any_either (leb (2 ^ n)) (lt-leb (2 ^ n) 0 (one-le-pow n 2 (omega arith))) 0 ps qs)

-- 13: a row that names a fault in both senses has both words.
pub both_pairs : (ps qs : List ℕ) → names_both (rows 0 ps qs) ≡ list_any (λ x. not (eqb (bit_and x.0 x.1) 0)) (zip ps qs)
unfolding names_both
both_pairs ps qs =
    sym (any_both (λ p q. not (eqb (bit_and p q) 0)) (λ p. ap (λ x. not (eqb x 0)) (and_zero_r p)) (λ q. ap (λ x. not (eqb x 0)) (and_zero_l q)) 0 ps qs)
