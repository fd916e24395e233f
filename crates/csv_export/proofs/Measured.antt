-- How long the parts of a text are: of pieces by each of them, of a way by the bits of its words, of a record by its fields.
-- Rests on the library's counts of bits, on Faults.antt, Naming.antt and Records.antt, and on `rules`, Decimal.
use Rattle.std.proofs.Common.{◌≡◌, ℕ, zero, suc, ◌+◌, ◌*◌, ◌/◌, ◌%◌, ◌^◌, ◌<◌, ◌≤◌, Bool, true, false, refl, ap, ◌∙◌, add-one, arith}
use Rattle.std.proofs.Common.{List, [], ◌∷◌, ◌++◌, map, flat_map, length, length-append}
use Rattle.std.proofs.lemmas.Bool.{eqb-true, eqb-false}
use Rattle.std.proofs.Math.Nat.{pow-suc}
use Rattle.std.specs.Int.Bits.{bit_or}
use lib.Count.{ones, ones_step, ones-le}
use Rattle.rules.specs.Table.{odd}
use Rattle.rules.specs.declared.Limits.{Limits}
use Rattle.rules.specs.Sheet.{total}
use Rattle.rules.specs.Text.{bytes, decimal}
use Rattle.rules.proofs.Decimal.{decimal-one}
use Rattle.rules.specs.declared.Words.{Words}
use Rattle.csv_text.specs.declared.Fault.{Fault}
use Rattle.csv_text.specs.Texts.{fault_text, mark, faults_from, mode_fields, run_record, weights_record, further_fields}
use Rattle.csv_export.specs.Parts.{faults_text, way_text, ended}
use Rattle.csv_export.proofs.Faults.{decimal_two}
use Rattle.csv_export.proofs.Naming.{some_way}
use Rattle.csv_export.proofs.Records.{limits_bytes, weights_bytes}

-- The text of the faults among n places from i on.
abbrev fields_from : ℕ → ℕ → ℕ → ℕ → List ℕ
fields_from i n p q = further_fields (map fault_text (faults_from i n p q))

-- A fault in front of others counts if its bit is set.
marked : (w k : ℕ) (f : Fault) (fs : List Fault) → length (fault_text f) ≡ k
    → length (further_fields (map fault_text (mark (odd w) f fs))) ≡ w % 2 * suc k + length (further_fields (map fault_text fs))
unfolding mark further_fields
marked w k f fs e = split (odd w) refl
  where
    split : (b : Bool) → odd w ≡ b
        → length (further_fields (map fault_text (mark b f fs))) ≡ w % 2 * suc k + length (further_fields (map fault_text fs))
    split true h =
        let one : w % 2 ≡ 1 = eqb-true (w % 2) 1 h in
        rw one (omega (arith, e, length-append (fault_text f) (further_fields (map fault_text fs))))
    split false h =
        let ne : w % 2 ≡ 1 → ⊥ = eqb-false (w % 2) 1 h in
        let none : w % 2 ≡ 0 = omega arith in
        rw none (omega arith)

-- One place and those behind it, by the digits of its number.
place-length : (i n p q k : ℕ) → length (decimal (i + 1)) ≡ k
    → length (fields_from i (suc n) p q) ≡ p % 2 * suc k + (q % 2 * suc (suc k) + length (fields_from (suc i) n (p / 2) (q / 2)))
unfolding faults_from fault_text
place-length i n p q k e =
    let digits = rw add-one at e in
    marked p k (record { place = i; absent = false }) _ digits
    ∙ ap (λ m. p % 2 * suc k + m) (marked q (suc k) (record { place = i; absent = true }) _ (ap suc digits))

-- The first nine faults have one digit.
one-digit : (i : ℕ) → i < 9 → length (decimal (i + 1)) ≡ 1
one-digit i h = ap length (decimal-one (i + 1) (omega arith))

-- From the tenth on, two.
two-digits : (i : ℕ) → 9 ≤ i → i < 99 → length (decimal (i + 1)) ≡ 2
two-digits i h l = ap length (decimal_two (i + 1) (omega arith) (omega arith))

-- The faults from the tenth on: three bytes, four if absent.
high-length : (n i p q : ℕ) → 9 ≤ i → i + n ≤ 99 → p < 2 ^ n → q < 2 ^ n → length (fields_from i n p q) ≡ 3 * ones p + 4 * ones q
unfolding faults_from further_fields
high-length zero i p q low few hp hq = omega (arith, ones-le 0 p hp, ones-le 0 q hq)
high-length (suc n) i p q low few hp hq =
    let rest = high-length n (suc i) (p / 2) (q / 2) (omega arith) (omega arith) (omega (arith, pow-suc 2 n)) (omega (arith, pow-suc 2 n)) in
    omega (arith, place-length i n p q 2 (two-digits i low (omega arith)), rest, ones_step p, ones_step q)

-- A word halved k times.
abbrev halves : ℕ → ℕ → ℕ
halves zero w = w
halves (suc k) w = halves k (w / 2)

-- The faults from k before the tenth on: one byte less for each of those.
low-length : (k n i p q : ℕ) → i + k ≡ 9 → k ≤ n → i + n ≤ 99 → p < 2 ^ n → q < 2 ^ n
    → length (fields_from i n p q) ≡ (2 * ones p + ones (halves k p)) + (3 * ones q + ones (halves k q))
low-length zero n i p q e l few hp hq = omega (arith, high-length n i p q (omega arith) few hp hq)
low-length (suc k) zero i p q e l few hp hq = absurd (omega arith)
low-length (suc k) (suc n) i p q e l few hp hq =
    let rest = low-length k n (suc i) (p / 2) (q / 2) (omega arith) (omega arith) (omega arith) (omega (arith, pow-suc 2 n)) (omega (arith, pow-suc 2 n)) in
    omega (arith, place-length i n p q 1 (one-digit i (omega arith)), rest, ones_step p, ones_step q)

module _ (w : Words) (hp : w.present < 2 ^ 64) (hq : w.absent < 2 ^ 64) where
  -- THE LENGTH OF A WAY that is not empty, by the bits of its words.
  pub way_bits : (bit_or w.present w.absent ≡ 0 → ⊥)
      → length (faults_text w) ≡ (2 * ones w.present + ones (w.present / 512)) + (3 * ones w.absent + ones (w.absent / 512))
  way_bits h =
      let nine : (v : ℕ) → halves 9 v ≡ v / 512 = λ v. omega arith in
      ap length (some_way w hp hq h)
      ∙ rw (← nine w.present, ← nine w.absent) (low-length 9 64 0 w.present w.absent refl (omega arith) (omega arith) hp hq)

  -- Each count of bits is at most 64.
  pub few_bits : (ones w.present ≤ 64) × (ones (w.present / 512) ≤ 64) × (ones w.absent ≤ 64) × (ones (w.absent / 512) ≤ 64)
  few_bits = (
    ones-le 64 w.present hp,
    ones-le 64 (w.present / 512) (omega arith),
    ones-le 64 w.absent hq,
    ones-le 64 (w.absent / 512) (omega arith),
  )

-- The record of a way.
pub way_length : (d : List ℕ) (w : Words) → length (way_text d w) ≡ length d + 2 + length (faults_text w)
unfolding way_text
way_length d w = omega (arith, length-append (d ++ faults_text w) (13 ∷ 10 ∷ []), length-append d (faults_text w))

-- The limits: the word and the end take 5 bytes.
pub limits_counted : (m : Limits)
    → length (ended (run_record m)) ≡ 5 + length (44 ∷ decimal m.allowance) + length (44 ∷ decimal m.budget) + length (further_fields (mode_fields m.mode))
limits_counted m =
    let a = 44 ∷ decimal m.allowance in
    let b = 44 ∷ decimal m.budget in
    let mode = further_fields (mode_fields m.mode) in
    let word : List ℕ = 114 ∷ 117 ∷ 110 ∷ [] in
    omega (
      arith,
      ap length (limits_bytes m),
      length-append (word ++ a ++ b ++ mode) (13 ∷ 10 ∷ []),
      length-append (word ++ a ++ b) mode,
      length-append (word ++ a) b,
    )

-- A TEXT OF PIECES is as long as they are together.
pub length_pieces : {A : Type 0} (f : A → List ℕ) (xs : List A) → total (map (λ x. length (f x)) xs) ≡ length (flat_map f xs)
unfolding total
length_pieces f [] = refl
length_pieces f (x ∷ xs) = omega (arith, length_pieces f xs, length-append (f x) (flat_map f xs))

-- Fields behind another are each a comma and a number.
fields_together : (ws : List ℕ) → further_fields (map decimal ws) ≡ flat_map (λ w. 44 ∷ decimal w) ws
unfolding further_fields
fields_together [] = refl
fields_together (w ∷ ws) = ap (λ fs. 44 ∷ decimal w ++ fs) (fields_together ws)

-- The weights: the word and the end take 9 bytes.
pub weights_counted : (ws : List ℕ) → length (ended (weights_record ws)) ≡ 9 + total (map (λ w. length (44 ∷ decimal w)) ws)
unfolding bytes
weights_counted ws =
    omega (
      arith,
      ap length (weights_bytes ws),
      ap length (fields_together ws),
      length_pieces (λ w. 44 ∷ decimal w) ws,
      length-append (further_fields (map decimal ws)) (13 ∷ 10 ∷ []),
    )
