-- Three bytes written one behind the other, where the last stands over the second unless that one is meant.
-- Rests on the library's laws of lists.
use Rattle.std.proofs.Common.{◌≡◌, ℕ, ◌+◌, ◌≤◌, ◌<◌, Bool, true, false, List, [], ◌∷◌, ◌++◌, length, take, drop, set, refl, sym, ap, ◌∙◌, append_assoc, rules, arith}
use Rattle.std.proofs.Common.{length-drop}
use Rattle.std.proofs.lemmas.List.{take_more_set, take-set, drop-set-lt, drop-drop}
use Rattle.writer.specs.Pieces.{if_meant}

-- How far the last byte stands behind the first.
abbrev pub reach : Bool → ℕ
reach true = 2
reach false = 1

-- The list after the three writes, the last one n behind the first.
abbrev around : List ℕ → ℕ → ℕ → ℕ → ℕ → ℕ → List ℕ
around xs i f m l n = set (set (set xs i f) (i + 1) m) (i + n) l

module _ (xs : List ℕ) (i f m l : ℕ) where
  -- Up to the last byte: what stood before, and the bytes that are meant.
  pub around_written : (b : Bool) (n : ℕ) → n ≡ reach b → length (f ∷ (if_meant b m ++ l ∷ [])) ≤ length (drop i xs)
      → take (i + n + 1) (around xs i f m l n) ≡ take i xs ++ f ∷ (if_meant b m ++ l ∷ [])
  around_written true n e h =
      let fits : i + 2 < length xs = omega (arith, h, length-drop i xs) in
      let there : i + 2 < length (set (set xs i f) (i + 1) m) = search rules in
      let second : i + 1 < length (set xs i f) = search rules in
      let first : i < length xs = omega (arith, fits) in
      let two : i + 2 ≡ i + 1 + 1 = omega arith in
      rw e (
      take_more_set (set (set xs i f) (i + 1) m) (i + 2) l there
      ∙ ap (λ (t : List ℕ). t ++ l ∷ []) (
      rw two (take_more_set (set xs i f) (i + 1) m second) ∙ ap (λ (t : List ℕ). t ++ m ∷ []) (take_more_set xs i f first)
      )
      ∙ append_assoc (take i xs ++ f ∷ []) (m ∷ []) (l ∷ [])
      ∙ append_assoc (take i xs) (f ∷ []) (m ∷ l ∷ [])
      )
  around_written false n e h =
      let fits : i + 1 < length xs = omega (arith, h, length-drop i xs) in
      let there : i + 1 < length (set (set xs i f) (i + 1) m) = search rules in
      let first : i < length xs = omega (arith, fits) in
      rw e (
      take_more_set (set (set xs i f) (i + 1) m) (i + 1) l there
      ∙ ap (λ (t : List ℕ). t ++ l ∷ []) (take-set (set xs i f) (i + 1) m ∙ take_more_set xs i f first)
      ∙ append_assoc (take i xs) (f ∷ []) (l ∷ [])
      )

  -- What is behind it stands.
  pub around_left : (b : Bool) (n : ℕ) → n ≡ reach b
      → drop (i + n + 1) (around xs i f m l n) ≡ drop (length (f ∷ (if_meant b m ++ l ∷ []))) (drop i xs)
  around_left b n e =
      let behind : reach b + 1 ≡ length (f ∷ (if_meant b m ++ l ∷ [])) = counted b in
      let some : 1 ≤ n = omega (arith, e, far b) in
      let all : i + n + 1 ≡ i + length (f ∷ (if_meant b m ++ l ∷ [])) = omega (arith, e, behind) in
      drop-set-lt (i + n + 1) (set (set xs i f) (i + 1) m) (i + n) l (omega arith)
      ∙ drop-set-lt (i + n + 1) (set xs i f) (i + 1) m (omega (arith, some))
      ∙ drop-set-lt (i + n + 1) xs i f (omega arith)
      ∙ ap (λ (k : ℕ). drop k xs) all
      ∙ sym (drop-drop (length (f ∷ (if_meant b m ++ l ∷ []))) i xs)
    where
      counted : (b : Bool) → reach b + 1 ≡ length (f ∷ (if_meant b m ++ l ∷ []))
      counted true = refl
      counted false = refl

      far : (b : Bool) → 1 ≤ reach b
      far true = omega arith
      far false = omega arith
