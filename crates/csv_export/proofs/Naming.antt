-- The faults that two words name, place by place.
-- Rests on the definitions of Parts, on `rules`, Bits, and on `chances`, Bits, for the places.
use Rattle.std.proofs.Common.{◌≡◌, ℕ, zero, suc, ◌+◌, ◌*◌, ◌/◌, ◌%◌, ◌^◌, ◌<◌, Bool, true, false, refl, sym, ap, ap₂, ◌∙◌, add-one, arith}
use Rattle.std.proofs.Common.{List, [], ◌∷◌, map, length}
use Rattle.std.proofs.lemmas.Bool.{eqb-false}
use Rattle.std.proofs.Math.Nat.{pow-suc, div-div-eq-div-mul}
use Rattle.std.specs.List.{filter, range_with_len}
use Rattle.std.specs.Int.Bits.{bit_and, bit_or}
use Rattle.rules.specs.Table.{odd, bit}
use Rattle.rules.specs.Text.{bytes}
use Rattle.rules.proofs.Bits.{bit-shift, bit-zero, bit-and, bit-or, or-zero}
use Rattle.chances.specs.Bits.{set_bits}
use Rattle.chances.proofs.First.{set_below}
use Rattle.rules.specs.declared.Words.{Words}
use Rattle.csv_text.specs.declared.Fault.{Fault}
use Rattle.csv_text.specs.Texts.{fault_text, mark, faults_from, or_zero, further_fields}
use Rattle.csv_export.specs.Parts.{Apart, faults_text}

-- ---- words that share no fault

module _ (p q : ℕ) (apart : bit_and p q ≡ 0) where
  -- What they name at a place that one of them names: absent, if the second does.
  abbrev fault_at : ℕ → Fault
  fault_at i = record { place = i; absent = bit i q }

  -- One place: no fault, or one.
  one_place : (i : ℕ) (fs : List Fault) (places : List ℕ) → fs ≡ map fault_at (filter (λ i. bit i (bit_or p q)) places)
      → mark (bit i p) (record { place = i; absent = false }) (mark (bit i q) (record { place = i; absent = true }) fs)
      ≡ map fault_at (filter (λ i. bit i (bit_or p q)) (i ∷ places))
  unfolding mark
  one_place i fs places e = split (bit i p) refl (bit i q) refl
    where
      split : (b : Bool) → bit i p ≡ b → (c : Bool) → bit i q ≡ c
          → mark b (record { place = i; absent = false }) (mark c (record { place = i; absent = true }) fs)
          ≡ map fault_at (filter (λ i. bit i (bit_or p q)) (i ∷ places))
      split true h true k = absurd (cc (h, k, bit-and i p q, ap (bit i) apart, bit-zero i))
      split true h false k = rw (bit-or i p q, h, k) (ap (λ (r : List Fault). record { place = i; absent = false } ∷ r) e)
      split false h true k =
          rw (bit-or i p q, h, k) (ap₂ (λ (b : Bool) (r : List Fault). record { place = i; absent = b } ∷ r) (sym k) e)
      split false h false k = rw (bit-or i p q, h, k) e

  -- Those among places from i on.
  from_place : (i n : ℕ) → faults_from i n (p / 2 ^ i) (q / 2 ^ i) ≡ map fault_at (filter (λ i. bit i (bit_or p q)) (range_with_len i n))
  unfolding faults_from
  from_place i zero = refl
  from_place i (suc n) =
      let twice : 2 ^ i * 2 ≡ 2 ^ suc i = omega (arith, pow-suc 2 i) in
      let half : (w : ℕ) → w / 2 ^ i / 2 ≡ w / 2 ^ suc i = λ w. div-div-eq-div-mul w (2 ^ i) 2 ∙ ap (λ x. w / x) twice in
      rw (half p, half q, ← bit-shift i p, ← bit-shift i q) (one_place i _ (range_with_len (i + 1) n) (rw add-one (from_place (suc i) n)))

  -- Of 64 faults, those at the places of either word.
  named : faults_from 0 64 p q ≡ map fault_at (set_bits (bit_or p q))
  unfolding set_bits
  named = all 64
    where
      all : (n : ℕ) → faults_from 0 n p q ≡ map fault_at (filter (λ i. bit i (bit_or p q)) (range_with_len 0 n))
      all n = let whole : (w : ℕ) → w ≡ w / 2 ^ 0 = λ w. omega arith in
          ap₂ (faults_from 0 n) (whole p) (whole q) ∙ from_place 0 n

-- A way's, likewise.
pub named_places : (w : Words) → Apart w
    → faults_from 0 64 w.present w.absent ≡ map (λ i. record { place = i; absent = bit i w.absent }) (set_bits (bit_or w.present w.absent))
named_places w apart = named w.present w.absent apart

-- The text of faults at places, each absent if a word says so.
abbrev pub places_text : ℕ → List ℕ → List ℕ
places_text q places = further_fields (map fault_text (map (λ i. record { place = i; absent = bit i q }) places))

-- ---- the whole way

-- Words of 0 name nothing.
pub none_named : (i n : ℕ) → faults_from i n 0 0 ≡ []
unfolding faults_from mark
none_named i zero = refl
none_named i (suc n) = none_named (suc i) n

-- Words that name nothing among all places are 0.
named-zero : (i n p q : ℕ) → p < 2 ^ n → q < 2 ^ n → faults_from i n p q ≡ [] → (p ≡ 0) × (q ≡ 0)
unfolding faults_from mark
named-zero i zero p q hp hq e = (omega arith, omega arith)
named-zero i (suc n) p q hp hq e =
    split (odd p) refl (odd q) refl e
    (named-zero (suc i) n (p / 2) (q / 2) (omega (arith, pow-suc 2 n)) (omega (arith, pow-suc 2 n)))
  where
    split : (a : Bool) → odd p ≡ a → (b : Bool) → odd q ≡ b
        → mark a (record { place = i; absent = false }) (mark b (record { place = i; absent = true }) (faults_from (suc i) n (p / 2) (q / 2))) ≡ []
        → (faults_from (suc i) n (p / 2) (q / 2) ≡ [] → (p / 2 ≡ 0) × (q / 2 ≡ 0)) → (p ≡ 0) × (q ≡ 0)
    split true ea b eb e rest = absurd (omega (arith, ap length e))
    split false ea true eb e rest = absurd (omega (arith, ap length e))
    split false ea false eb e rest =
        let z = rest e in
        let even-p : p % 2 ≡ 1 → ⊥ = eqb-false (p % 2) 1 ea in
        let even-q : q % 2 ≡ 1 → ⊥ = eqb-false (q % 2) 1 eb in
        (omega (arith, z.0), omega (arith, z.1))

-- The empty way is `0`.
pub empty_way : (w : Words) → bit_or w.present w.absent ≡ 0 → faults_text w ≡ 44 ∷ 48 ∷ []
unfolding faults_text or_zero further_fields bytes
empty_way w e =
    let z = or-zero w.present w.absent e in
    rw (z.0, z.1) (ap (λ (fs : List Fault). further_fields (or_zero (map fault_text fs))) (none_named 0 64))

-- Any other is its faults.
pub some_way : (w : Words) → w.present < 2 ^ 64 → w.absent < 2 ^ 64 → (bit_or w.present w.absent ≡ 0 → ⊥)
    → faults_text w ≡ further_fields (map fault_text (faults_from 0 64 w.present w.absent))
unfolding faults_text or_zero
some_way w hp hq h = split (faults_from 0 64 w.present w.absent) refl
  where
    split : (fs : List Fault) → faults_from 0 64 w.present w.absent ≡ fs → further_fields (or_zero (map fault_text fs)) ≡ further_fields (map fault_text fs)
    split [] e = let z = named-zero 0 64 w.present w.absent hp hq e in absurd (h (ap₂ bit_or z.0 z.1))
    split (f ∷ fs) e = refl

-- What the text of a way's faults rests on.
pub ruleset naming = (empty_way, some_way, named_places, set_below)
