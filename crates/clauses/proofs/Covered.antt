-- A way that each of some ways subsumes, made by joining what they name: one turn of the loop, and its end.
-- Rests on `rules`, Minimal.
use mathlib.Core.Path.{◌≡◌, ap, ◌∙◌, subst}
use mathlib.Core.Bool.{true}
use mathlib.Core.List.Memᴰ
use mathlib.Core.List.{List, [], ◌∷◌}
use mathlib.Core.Logic.{◌⊎◌, inl, inr}
use Prim.Native.Nat.{ℕ}
use lib.Bits.{bit_or}
use Rattle.rules.specs.declared.Way.{Way}
use Rattle.rules.specs.Members.{In}
use Rattle.rules.specs.Table.{bit}
use Rattle.rules.specs.Leaf.{subsumes}
use Rattle.rules.proofs.Booleans.{or-first, or-second}
use Rattle.rules.proofs.Bits.{bit-or}
use Rattle.rules.proofs.Minimal.{subsumes-inside, inside-subsumes}

-- A way of two words.
abbrev pub of_words : ℕ → ℕ → Way
of_words p q = record { number = 0; present = p; absent = q }

-- What subsumes a way subsumes it with more faults.
with_more : (u v : Way) (p q : ℕ) → subsumes u (of_words p q) ≡ true → subsumes u (of_words (bit_or p v.present) (bit_or q v.absent)) ≡ true
with_more u v p q h =
    let k = subsumes-inside u (of_words p q) h in
    inside-subsumes u (of_words (bit_or p v.present) (bit_or q v.absent))
    (λ i b. bit-or i p v.present ∙ or-first _ _ (k.0 i b), λ i b. bit-or i q v.absent ∙ or-first _ _ (k.1 i b))

-- A way subsumes whatever it is joined to.
joined : (v : Way) (p q : ℕ) → subsumes v (of_words (bit_or p v.present) (bit_or q v.absent)) ≡ true
joined v p q =
    inside-subsumes v (of_words (bit_or p v.present) (bit_or q v.absent))
    (λ i b. bit-or i p v.present ∙ or-second (bit i p) _ b, λ i b. bit-or i q v.absent ∙ or-second (bit i q) _ b)

module _ (vs : List Way) where
  -- In the midst of the loop: each way is still to come, or subsumes what was joined so far.
  pub record Covers (p q : ℕ) (ws : List Way) : Type 0 where
    pub each : (v : Way) → In v vs → In v ws ⊎ (subsumes v (of_words p q) ≡ true)

  -- At first all are still to come.
  pub begun : (p q : ℕ) → Covers p q vs
  begun p q = record { each = λ v i. inl i }

  module _ (p q : ℕ) (ws : List Way) (k : Covers p q ws) where
    -- One turn: the way that comes is joined.
    pub turn : (v : Way) (us : List Way) → ws ≡ v ∷ us → Covers (bit_or p v.present) (bit_or q v.absent) us
    turn v us e = record { each = λ u i. by u (k.each u i) }
      where
        now : (u : Way) → (u ≡ v) ⊎ In u us → In u us ⊎ (subsumes u (of_words (bit_or p v.present) (bit_or q v.absent)) ≡ true)
        now u (inl s) = inr (ap (λ (w : Way). subsumes w (of_words (bit_or p v.present) (bit_or q v.absent))) s ∙ joined v p q)
        now u (inr i) = inl i

        by : (u : Way) → In u ws ⊎ (subsumes u (of_words p q) ≡ true) → In u us ⊎ (subsumes u (of_words (bit_or p v.present) (bit_or q v.absent)) ≡ true)
        by u (inl i) = now u (Memᴰ.cases_cons (subst (λ (xs : List Way). In u xs) e i))
        by u (inr s) = inr (with_more u v p q s)

    -- At the end none is.
    pub covered : ws ≡ [] → (v : Way) → In v vs → subsumes v (of_words p q) ≡ true
    covered z v i = by (k.each v i)
      where
        by : In v ws ⊎ (subsumes v (of_words p q) ≡ true) → subsumes v (of_words p q) ≡ true
        by (inl n) = absurd (Memᴰ.not-nil (subst (λ (xs : List Way). In v xs) z n))
        by (inr s) = s
