-- A way's chance as a walk over the faults that it names: each that has a weight is multiplied in, in the order of their numbers.
-- Rests on the laws of bits (`rules`, Bits).
use mathlib.Core.Path.{◌≡◌, refl, sym, ap, ap₂, ◌∙◌}
use mathlib.Core.Bool.{Bool, true, false, ◌||◌}
use Rattle.std.specs.Prelude.{cond}
use mathlib.Core.List.{List, ◌∷◌}
use Prim.Native.Nat.{ℕ, zero, suc, ◌+◌, ◌/◌, ◌^◌, ◌<◌, ◌≤◌}
use native.Mathlib.Decide.{dec_lt}
use native.Mathlib.Nat.{div-div-eq-div-mul, div-one, pow-suc}
use native.Mathlib.Omega.{arith}
use lib.Bits.{bit_or}
use lib.Dec.{ltb}
use lib.ListN.{length, get_or, drop, drop_of_length-le}
use lib.Seq.{drop-cons}
use borrow.Author.Tests.{lt-ltb, le-ltb}
use Rattle.std.specs.List.{filter, fold, range_with_len}
use Rattle.rules.specs.Rounding.{S}
use Rattle.rules.specs.declared.Direction.{Direction}
use Rattle.rules.specs.Table.{bit, odd}
use Rattle.rules.specs.Leaf.{step, chance_from}
use Rattle.rules.proofs.Bits.{bit-or, bit-shift, bit_high}
use Rattle.rules.proofs.Booleans.{or_left, or_right}
use Rattle.chances.specs.Bits.{set_bits}

module _ (d : Direction) (ws : List ℕ) (p q : ℕ) where
  -- A fault that has a weight counts as the two words say.
  abbrev pub counted : ℕ → ℕ → ℕ
  counted c i = elim (ltb i (length ws)) as (λ b. ℕ) [ true ↦ step d (get_or ws i 0) (bit i p) (bit i q) c | false ↦ c ]

  -- It has one.
  weighed : (c i : ℕ) → i < length ws → counted c i ≡ step d (get_or ws i 0) (bit i p) (bit i q) c
  weighed c i l = rw (counted, lt-ltb i (length ws) l) refl

  -- It has none.
  weightless : (c i : ℕ) → length ws ≤ i → counted c i ≡ c
  weightless c i l = rw (counted, le-ltb i (length ws) l) refl

  -- One of the two words names it.
  abbrev named : ℕ → Bool
  named i = bit i (bit_or p q)

  -- One that neither names does not count.
  not_named : (w c i : ℕ) → named i ≡ false → step d w (bit i p) (bit i q) c ≡ c
  not_named w c i e =
      let h : bit i p || bit i q ≡ false = sym (bit-or i p q) ∙ e in
      rw (or_left (bit i p) (bit i q) h, or_right (bit i p) (bit i q) h) refl

  -- Beyond the last weight none counts.
  beyond : (i k c : ℕ) → length ws ≤ i → fold counted c (filter named (range_with_len i k)) ≡ c
  beyond i zero c l = refl
  beyond i (suc k) c l = by (named i) (beyond (i + 1) k c (omega arith))
    where
      rest : List ℕ
      rest = filter named (range_with_len (i + 1) k)

      by : (b : Bool) → fold counted c rest ≡ c → fold counted c (cond b (i ∷ rest) rest) ≡ c
      by true ih = ap (λ (x : ℕ). fold counted x rest) (weightless c i l) ∙ ih
      by false ih = ih

  -- The weights from fault i on, with the words from there on.
  abbrev from : ℕ → ℕ → ℕ
  from i c = chance_from d (drop i ws) (p / 2 ^ i) (q / 2 ^ i) c

  -- The weight of fault i counts first.
  from-first : (i c : ℕ) → i < length ws → from i c ≡ from (suc i) (step d (get_or ws i 0) (bit i p) (bit i q) c)
  from-first i c l =
      ap (λ (us : List ℕ). chance_from d us (p / 2 ^ i) (q / 2 ^ i) c) (drop-cons ws i 0 l)
      ∙ ap₂ (λ (x y : ℕ). chance_from d (drop (suc i) ws) x y (step d (get_or ws i 0) (odd (p / 2 ^ i)) (odd (q / 2 ^ i)) c)) (half p) (half q)
      ∙ ap₂ (λ (x y : Bool). from (suc i) (step d (get_or ws i 0) x y c)) (sym (bit-shift i p)) (sym (bit-shift i q))
    where
      half : (w : ℕ) → w / 2 ^ i / 2 ≡ w / 2 ^ suc i
      half w = div-div-eq-div-mul w (2 ^ i) 2 ∙ ap (λ (x : ℕ). w / x) (sym (pow-suc 2 i))

  -- Behind the last weight nothing is left to do.
  done : (i c : ℕ) → length ws ≤ i → from i c ≡ c
  done i c l = ap (λ (us : List ℕ). chance_from d us (p / 2 ^ i) (q / 2 ^ i) c) (drop_of_length-le ws {i = i} l)

  -- Nor where no fault from i on is named, and n weights are left.
  unnamed : (n i c : ℕ) → length ws ≤ i + n → ((j : ℕ) → i ≤ j → named j ≡ false) → from i c ≡ c
  unnamed zero i c l h = done i c (omega arith)
  unnamed (suc n) i c l h = by (dec_lt i (length ws)) (unnamed n (suc i) c (omega arith) (λ j g. h j (omega arith)))
    where
      by : Dec (i < length ws) → from (suc i) c ≡ c → from i c ≡ c
      by (yes g) ih = from-first i c g ∙ ap (from (suc i)) (not_named (get_or ws i 0) c i (h i (omega arith))) ∙ ih
      by (no g) ih = done i c (omega arith)

  -- What is left to do from fault i on, where none is named beyond the next k.
  walk : (k i c : ℕ) → ((j : ℕ) → i + k ≤ j → named j ≡ false) → from i c ≡ fold counted c (filter named (range_with_len i k))
  walk zero i c h = unnamed (length ws) i c (omega arith) (λ j l. h j (omega arith))
  walk (suc k) i c h = by (dec_lt i (length ws)) (λ x. walk k (suc i) x (λ j l. h j (omega arith)))
    where
      rest : List ℕ
      rest = filter named (range_with_len (i + 1) k)

      next : (x : ℕ) → from (suc i) x ≡ fold counted x (filter named (range_with_len (suc i) k)) → from (suc i) x ≡ fold counted x rest
      next x h = let e : suc i ≡ i + 1 = omega arith in h ∙ ap (λ (n : ℕ). fold counted x (filter named (range_with_len n k))) e

      one : (b : Bool) → named i ≡ b → i < length ws → ((x : ℕ) → from (suc i) x ≡ fold counted x rest)
          → from i c ≡ fold counted c (cond b (i ∷ rest) rest)
      one true e g ih = from-first i c g ∙ ih _ ∙ ap (λ (x : ℕ). fold counted x rest) (sym (weighed c i g))
      one false e g ih = from-first i c g ∙ ap (from (suc i)) (not_named (get_or ws i 0) c i e) ∙ ih c

      by : Dec (i < length ws) → ((x : ℕ) → from (suc i) x ≡ fold counted x (filter named (range_with_len (suc i) k)))
          → from i c ≡ fold counted c (filter named (range_with_len i (suc k)))
      by (yes g) ih = one (named i) refl g (λ x. next x (ih x))
      by (no g) ih = done i c (omega arith) ∙ sym (beyond i (suc k) c (omega arith))

  -- SO A CHANCE IS A WALK OVER THE FAULTS THAT THE TWO WORDS NAME.
  pub chance-walk : p < 2 ^ 64 → q < 2 ^ 64 → chance_from d ws p q S ≡ fold counted S (set_bits (bit_or p q))
  unfolding set_bits
  chance-walk a b =
      ap₂ (λ (x y : ℕ). chance_from d ws x y S) (sym (div-one p)) (sym (div-one q))
      ∙ walk 64 0 S (λ j l. bit-or j p q ∙ ap₂ (λ (x y : Bool). x || y) (bit_high 64 j p l a) (bit_high 64 j q l b))
