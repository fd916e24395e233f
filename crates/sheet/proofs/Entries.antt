-- What the contents and the columns hold at one position: the number there, the numbers before it, where a body starts.
-- Rests on the definitions of `rules`, Sheet.
use mathlib.Core.Path.{◌≡◌, refl, ap, ◌∙◌}
use mathlib.Core.List.{List, [], ◌∷◌}
use Prim.Native.Nat.{ℕ, zero, suc, ◌+◌, ◌*◌, ◌≤◌, ◌<◌}
use native.Mathlib.Nat.{mul-suc}
use native.Mathlib.Omega.{arith}
use lib.ListN.{length, take, drop, get_or}
use Rattle.rules.specs.Sheet.{field, column, total, starts}

module _ (k stride : ℕ) (bs : List ℕ) where
  -- The number at i.
  pub column_get_d : (p n i : ℕ) → i < n → get_or (column k stride p n bs) i 0 ≡ field k (p + stride * i) bs
  unfolding column
  column_get_d p zero i h = absurd (omega arith)
  column_get_d p (suc n) zero h =
      let here : p ≡ p + stride * 0 = omega arith in
      ap (λ (j : ℕ). field k j bs) here
  column_get_d p (suc n) (suc i) h =
      let here : p + stride + stride * i ≡ p + stride * suc i = omega (arith, mul-suc stride i) in
      column_get_d (p + stride) n i (omega arith) ∙ ap (λ (j : ℕ). field k j bs) here

  -- The first i numbers.
  pub column_front : (p n i : ℕ) → i ≤ n → take i (column k stride p n bs) ≡ column k stride p i bs
  unfolding column
  column_front p n zero h = refl
  column_front p zero (suc i) h = absurd (omega arith)
  column_front p (suc n) (suc i) h = ap (λ (r : List ℕ). field k p bs ∷ r) (column_front (p + stride) n i (omega arith))

  -- m numbers from the j-th on.
  pub column_part : (p n j m : ℕ) → j + m ≤ n → take m (drop j (column k stride p n bs)) ≡ column k stride (p + stride * j) m bs
  unfolding column
  column_part p n zero m h =
      let here : p ≡ p + stride * 0 = omega arith in
      column_front p n m (omega arith) ∙ ap (λ (at : ℕ). column k stride at m bs) here
  column_part p zero (suc j) m h = absurd (omega arith)
  column_part p (suc n) (suc j) m h =
      let here : p + stride + stride * j ≡ p + stride * suc j = omega (arith, mul-suc stride j) in
      column_part (p + stride) n j m (omega arith) ∙ ap (λ (at : ℕ). column k stride at m bs) here

-- A body starts where those before it end.
pub starts-get_d : (p : ℕ) (ks : List ℕ) (i : ℕ) → i < length ks → get_or (starts p ks) i 0 ≡ p + 16 * total (take i ks)
unfolding starts total
starts-get_d p [] i h = absurd (omega arith)
starts-get_d p (k ∷ ks) zero h = omega arith
starts-get_d p (k ∷ ks) (suc i) h = omega (arith, starts-get_d (p + 16 * k) ks i (omega arith))
