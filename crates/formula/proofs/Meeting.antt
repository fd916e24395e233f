-- The loop that finds the common part: what the first way's words have in common with the ways left, so far and at either end.
-- Rests on the definitions of `rules`, Common.
use mathlib.Core.Path.{◌≡◌, refl, sym, ap, ap₂, ◌∙◌}
use mathlib.Core.List.{List, [], ◌∷◌}
use Prim.Native.Nat.{ℕ}
use lib.Bits.{bit_or, and_zero_l}
use Rattle.rules.specs.declared.Way.{Way}
use Rattle.rules.specs.Common.{meet_from, meet, shared}
use Rattle.rules.proofs.Bits.{or-zero}

-- A word without faults has nothing in common with any ways.
meet-none : (g : Way → ℕ) (vs : List Way) → meet_from g 0 vs ≡ 0
unfolding meet_from
meet-none g [] = refl
meet-none g (v ∷ vs) = ap (λ (m : ℕ). meet_from g m vs) (and_zero_l (g v)) ∙ meet-none g vs

-- What two words, one of each sense, have in common with ways.
abbrev pub common : ℕ → ℕ → List Way → ℕ × ℕ
common p q vs = (meet_from (λ v. v.present) p vs, meet_from (λ v. v.absent) q vs)

-- In the midst of it: the words so far have in common with the ways left (ws) what the first way has with the others (vs).
module _ (us : List Way) (u : Way) (vs : List Way) (e : us ≡ u ∷ vs) (p q : ℕ) (ws : List Way)
    (inv : common p q ws ≡ common u.present u.absent vs) where
  -- So both together are the common part.
  so_far : bit_or (common p q ws).0 (common p q ws).1 ≡ shared us
  unfolding shared meet
  so_far = ap (λ (x : ℕ × ℕ). bit_or x.0 x.1) inv ∙ sym (ap shared e)

  -- No fault is left in the words: nothing is common.
  pub cut_short : bit_or p q ≡ 0 → 0 ≡ shared us
  cut_short z =
      let k = or-zero p q z in
      sym (ap₂ bit_or (ap (λ (m : ℕ). meet_from (λ v. v.present) m ws) k.0 ∙ meet-none (λ v. v.present) ws)
      (ap (λ (m : ℕ). meet_from (λ v. v.absent) m ws) k.1 ∙ meet-none (λ v. v.absent) ws))
      ∙ so_far

  -- No way is left: the words are the common part.
  pub at_end : ws ≡ [] → bit_or p q ≡ shared us
  unfolding meet_from
  at_end z = sym (ap (λ (xs : List Way). bit_or (common p q xs).0 (common p q xs).1) z) ∙ so_far
