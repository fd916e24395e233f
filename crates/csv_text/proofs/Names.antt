-- Numbers and the faults of a way that are written are read again (RULES 13.4, 13.7, 13.13).
-- Rests on Written.antt for plain fields, on `rules`, Decimal, and on the definitions.
use mathlib.Core.Path.{◌≡◌, refl, ap, ap₂, ◌∙◌}
use mathlib.Core.Bool.{Bool, true, false}
use mathlib.Core.List.{List, [], ◌∷◌, map}
use Prim.Native.Nat.{ℕ, zero, suc, ◌+◌, ◌*◌, ◌/◌, ◌%◌, ◌^◌, ◌<◌, ◌≤◌}
use native.Mathlib.Nat.{pow-suc, one-le-pow, zero-lt-suc}
use native.Mathlib.Omega.{arith}
use lib.Dec.{eqb, ltb}
use lib.Bits.{bit_or, or_shifted_r}
use borrow.Author.Tests.{lt-ltb, ne_eqb}
use Rattle.rules.specs.Table.{odd, indicator}
use Rattle.rules.specs.Sheet.{same_numbers, AllBelow}
use Rattle.rules.specs.Text.{bytes, decimal}
use Rattle.rules.proofs.Booleans.{and_both, and-false, or-neither, is_false}
use Rattle.rules.specs.Text.{decimal_value, value_after}
use Rattle.rules.proofs.Decimal.{AllDigits, decimal-value, decimal-digits}
use Rattle.rules.proofs.Sheets.{same-equal}
use Rattle.decimal.proofs.Numerals.{decimal-numeral}
use Rattle.csv_text.specs.Shapes.{Fault, all_numerals, signed, unsigned, is_fault, fault_in, same_sense, among, repeats, word_of}
use Rattle.csv_text.specs.Texts.{fault_text, mark, faults_from}
use Rattle.csv_text.proofs.Written.{Every, Plain}

-- ---- numbers

-- Digits are plain.
digits-plain : (bs : List ℕ) → AllDigits bs → Plain bs
digits-plain [] h = tt
digits-plain (b ∷ bs) h = (omega arith, digits-plain bs h.2)

-- So is a number in decimal.
pub decimal-plain : (n : ℕ) → Plain (decimal n)
decimal-plain n = digits-plain (decimal n) (decimal-digits n)

-- Numbers of ten digits at most, in decimal, are numerals, say those numbers, and are plain.
pub all-decimal : (ns : List ℕ) → AllBelow (10 ^ 10) ns
    → (all_numerals (map decimal ns) ≡ true) × (map decimal_value (map decimal ns) ≡ ns) × Every Plain (map decimal ns)
unfolding all_numerals
all-decimal [] h = (refl, refl, tt)
all-decimal (n ∷ ns) h =
    let rest = all-decimal ns h.1 in (
      and_both _ _ (decimal-numeral n h.0) rest.0,
      ap₂ (λ (x : ℕ) (xs : List ℕ). x ∷ xs) (decimal-value n) rest.1,
      (decimal-plain n, rest.2),
    )

-- ---- one fault

-- Digits have no minus in front.
bare-digits : (bs : List ℕ) → AllDigits bs → (signed bs ≡ false) × (unsigned bs ≡ bs)
unfolding signed unsigned
bare-digits [] h = (refl, refl)
bare-digits (b ∷ bs) h = let e = ne_eqb b 45 (λ e. omega arith) in (e, rw (e, unsigned))

-- A field that says a fault.
pub record SaysFault (f : List ℕ) (x : Fault) : Type 0 where
  pub fault : is_fault f ≡ true
  pub says : fault_in f ≡ x
  pub plain : Plain f
  -- It is not the `0` of the empty way.
  pub more : same_numbers f (bytes "0") ≡ false

-- A number above 0 in decimal does not say 0.
not-nought : (i : ℕ) → decimal_value (decimal (suc i)) ≡ decimal_value (bytes "0") → ⊥
unfolding decimal_value value_after bytes
not-nought i e = omega (arith, decimal-value (suc i), e)

-- It says a number above 0.
above-nought : (i : ℕ) → ltb 0 (decimal_value (decimal (suc i))) ≡ true
above-nought i = lt-ltb 0 (decimal_value (decimal (suc i))) (omega (arith, decimal-value (suc i)))

-- A fault that is written says that fault.
pub says-fault : (i : ℕ) (b : Bool) → i < 64 → SaysFault (fault_text (record { place = i; absent = b })) (record { place = i; absent = b })
unfolding fault_text is_fault fault_in same_numbers bytes signed unsigned
says-fault i true h =
    record {
      fault = and_both _ _ (decimal-numeral (suc i) (omega arith)) (above-nought i);
      says = ap (λ (n : ℕ). record { place = n; absent = true }) (omega (arith, decimal-value (suc i)));
      plain = (omega arith, decimal-plain (suc i));
      more = refl;
    }
says-fault i false h =
    let d = bare-digits (decimal (suc i)) (decimal-digits (suc i)) in
    record {
      fault = rw d.1 (and_both _ _ (decimal-numeral (suc i) (omega arith)) (above-nought i));
      says = rw (d.0, d.1) (ap (λ (n : ℕ). record { place = n; absent = false }) (omega (arith, decimal-value (suc i))));
      plain = decimal-plain (suc i);
      more = is_false _ (λ e. not-nought i (ap decimal_value (same-equal (decimal (suc i)) (bytes "0") e)));
    }

-- ---- the faults of a way

-- Every fault is at a place from lo on and below hi.
abbrev pub Placed : ℕ → ℕ → List Fault → Type 0
Placed lo hi [] = Unit {0}
Placed lo hi (f ∷ fs) = (lo ≤ f.place) × (f.place < hi) × Placed lo hi fs

-- Places in a wider range.
placed-wider : (lo hi lo' hi' : ℕ) (fs : List Fault) → lo' ≤ lo → hi ≤ hi' → Placed lo hi fs → Placed lo' hi' fs
placed-wider lo hi lo' hi' [] l m h = tt
placed-wider lo hi lo' hi' (f ∷ fs) l m h = (omega arith, omega arith, placed-wider lo hi lo' hi' fs l m h.2)

-- A fault more, if it is in the range.
placed-mark : (lo hi : ℕ) (b : Bool) (f : Fault) (fs : List Fault) → lo ≤ f.place → f.place < hi → Placed lo hi fs → Placed lo hi (mark b f fs)
unfolding mark
placed-mark lo hi true f fs l m h = (l, m, h)
placed-mark lo hi false f fs l m h = h

-- The faults that two words name among n, from place i on.
faults-placed : (i n p q : ℕ) → Placed i (i + n) (faults_from i n p q)
unfolding faults_from
faults-placed i zero p q = tt
faults-placed i (suc n) p q =
    let fs : List Fault = faults_from (suc i) n (p / 2) (q / 2) in
    let rest = placed-wider (suc i) (suc i + n) i (i + suc n) fs (omega arith) (omega arith) (faults-placed (suc i) n (p / 2) (q / 2)) in
    placed-mark i (i + suc n) (odd p) _ _ (omega arith) (omega arith) (placed-mark i (i + suc n) (odd q) _ _ (omega arith) (omega arith) rest)

-- No place is above 63, if there are 64 faults at most.
pub faults-below : (n p q : ℕ) → n ≤ 64 → Placed 0 64 (faults_from 0 n p q)
faults-below n p q h = placed-wider 0 (0 + n) 0 64 (faults_from 0 n p q) (omega arith) (omega arith) (faults-placed 0 n p q)

-- A fault before all others is not among them.
not-among : (x : Fault) (hi : ℕ) (fs : List Fault) → Placed (suc x.place) hi fs → among x fs ≡ false
unfolding among
not-among x hi [] h = refl
not-among x hi (f ∷ fs) h = rw (ne_eqb x.place f.place (λ e. omega arith)) (not-among x hi fs h.2)

-- The fault at a place in front of others, in either sense if a test says so.
abbrev two_marks : ℕ → Bool → Bool → List Fault → List Fault
two_marks i a b fs = mark a (record { place = i; absent = false }) (mark b (record { place = i; absent = true }) fs)

-- In front of faults at later places, none of which is named twice, neither is.
two-marks : (i hi : ℕ) (a b : Bool) (fs : List Fault) → Placed (suc i) hi fs → repeats fs ≡ false
    → repeats (two_marks i a b fs) ≡ false
unfolding mark repeats among same_sense
two-marks i hi true true fs h e =
    let present : Fault = record { place = i; absent = false } in
    let absent : Fault = record { place = i; absent = true } in
    or-neither _ _ (or-neither _ _ (and-false (eqb i i)) (not-among present hi fs h)) (or-neither _ _ (not-among absent hi fs h) e)
two-marks i hi true false fs h e = or-neither _ _ (not-among (record { place = i; absent = false }) hi fs h) e
two-marks i hi false true fs h e = or-neither _ _ (not-among (record { place = i; absent = true }) hi fs h) e
two-marks i hi false false fs h e = e

-- No fault is named twice in the same sense.
pub none-twice : (i n p q : ℕ) → repeats (faults_from i n p q) ≡ false
unfolding faults_from repeats
none-twice i zero p q = refl
none-twice i (suc n) p q =
    let fs : List Fault = faults_from (suc i) n (p / 2) (q / 2) in
    two-marks i (suc i + n) (odd p) (odd q) fs (faults-placed (suc i) n (p / 2) (q / 2)) (none-twice (suc i) n (p / 2) (q / 2))

-- A bit below others.
bit_below : (i k : ℕ) → bit_or (2 ^ i) (k * 2 ^ suc i) ≡ 2 ^ i + k * 2 ^ suc i
bit_below i k =
    let pos : 1 ≤ 2 ^ i = one-le-pow i 2 (zero-lt-suc 1) in
    let low : 2 ^ i < 2 ^ suc i = omega (arith, pow-suc 2 i) in
    or_shifted_r k (suc i) (2 ^ i) low ∙ omega arith

-- The words of two marks in front of others.
marked : (i k : ℕ) (a b : Bool) (fs : List Fault)
    → (word_of false fs ≡ k * 2 ^ suc i → word_of false (two_marks i a b fs) ≡ indicator a * 2 ^ i + k * 2 ^ suc i)
    × (word_of true fs ≡ k * 2 ^ suc i → word_of true (two_marks i a b fs) ≡ indicator b * 2 ^ i + k * 2 ^ suc i)
unfolding mark word_of same_sense
marked i k true true fs = (λ e. rw e (bit_below i k ∙ omega arith), λ e. rw e (bit_below i k ∙ omega arith))
marked i k true false fs = (λ e. rw e (bit_below i k ∙ omega arith), λ e. e ∙ omega arith)
marked i k false true fs = (λ e. e ∙ omega arith, λ e. rw e (bit_below i k ∙ omega arith))
marked i k false false fs = (λ e. e ∙ omega arith, λ e. e ∙ omega arith)

-- A number below 2 by whether it is 1.
digit-odd : (m : ℕ) → m < 2 → indicator (eqb m 1) ≡ m
digit-odd zero h = refl
digit-odd (suc zero) h = refl
digit-odd (suc (suc m)) h = absurd (omega arith)

-- A word is its lowest bit and its half.
halves : (i w : ℕ) → indicator (odd w) * 2 ^ i + w / 2 * 2 ^ suc i ≡ w * 2 ^ i
halves i w =
    let e : 2 * (w / 2) + w % 2 ≡ w = omega arith in
    rw (digit-odd (w % 2) (omega arith), pow-suc 2 i) (omega (arith, ap (λ (k : ℕ). k * 2 ^ i) e))

-- The words that name faults are the words of those faults.
pub words_back : (i n p q : ℕ) → p < 2 ^ n → q < 2 ^ n
    → (word_of false (faults_from i n p q) ≡ p * 2 ^ i) × (word_of true (faults_from i n p q) ≡ q * 2 ^ i)
unfolding faults_from word_of
words_back i zero p q h k =
    let e : p ≡ 0 = omega arith in
    let e' : q ≡ 0 = omega arith in
    (rw e (omega arith), rw e' (omega arith))
words_back i (suc n) p q h k =
    let rest = words_back (suc i) n (p / 2) (q / 2) (omega arith) (omega arith) in
    ((marked i (p / 2) (odd p) (odd q) _).0 rest.0 ∙ halves i p, (marked i (q / 2) (odd p) (odd q) _).1 rest.1 ∙ halves i q)
