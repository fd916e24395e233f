-- The longest text that import accepts has 1,180,521 bytes (RULES 13.16): no longer one is accepted, and one as long is. Every field is quoted: 30 bytes
-- for the run, whose allowance is a share, 843 for 64 weights, and 384 for each of 24 times 128 ways that name 64 faults absent.
-- Rests on Imports.antt for the sheet of an accepted text, on Longest.antt for the sheet of the longest, on Order.antt, and on `rules`, Bits and Decimal.
use mathlib.Core.Path.{◌≡◌, refl, sym, ap, ap₂, ◌∙◌}
use mathlib.Core.Bool.{Bool, true, false, not, ◌&&◌, ◌||◌, true≢false}
use mathlib.Core.List.Memᴰ
use mathlib.Core.List.{List, [], ◌∷◌, ◌++◌, map}
use Rattle.std.specs.Prelude.{Option, Some, None}
use Prim.Native.Nat.{ℕ, zero, suc, ◌+◌, ◌-◌, ◌*◌, ◌^◌, ◌≤◌, ◌<◌, max}
use native.Mathlib.Decide.{dec_lt, ℕ_discrete}
use native.Mathlib.Omega.{arith}
use lib.ListN.{length, drop, length-append, length-take, length-drop, length-map}
use lib.Dec.{eqb, ltb, leb}
use borrow.Author.Tests.{ltb-true, leb-true, eqb-true, eq-eqb, ne_eqb, not-true}
use Rattle.std.proofs.lemmas.List.Sums.{sum_by-cons}
use Rattle.rules.specs.declared.Way.{Way}
use Rattle.rules.specs.Table.{bit, rows, ways, faults}
use Rattle.rules.specs.Members.{In}
use Rattle.rules.specs.Sheet.{Cue, Sheet, Within, encode, same_numbers}
use Rattle.rules.specs.Text.{bytes, decimal, decimal_value}
use Rattle.rules.proofs.Bits.{bit-zero, bit-or, bit-pow}
use Rattle.rules.proofs.Booleans.{and_split, and_left, and_right, and_both, and-true, and-false, and_second}
use Rattle.rules.proofs.Booleans.{or_right, or-first, or-second, or_split, or_cases, is_false}
use Rattle.rules.proofs.Decimal.{decimal-length}
use Rattle.rules.proofs.Sheets.{same-equal}
use Rattle.decimal.specs.Numerals.{is_numeral}
use Rattle.decimal.proofs.Numerals.{numeral-decimal}
use Rattle.csv_text.specs.Cut.{onto, lines_in, raw_fields, quoted, unquoted, fields_in, records_in}
use Rattle.csv_text.specs.Shapes.{Fault, all_numerals, is_run, limits_said, is_weights, weights_said, signed, unsigned, is_fault, fault_in, all_faults}
use Rattle.csv_text.specs.Shapes.{among, repeats, word_of, is_empty_way, is_names, is_row, faults_named, row_in, follows, misread_rows, misread_weights}
use Rattle.csv_text.specs.Shapes.{same_sense, misread_records, misread, attach, grouped, sheet_said, sheet_in}
use Rattle.csv_text.specs.Texts.{sheet_records, further_fields, record_text, rendered, csv_of}
use Rattle.csv_text.specs.Calls.{import_number}
use Rattle.csv_text.proofs.Written.{Every, Pairwise, Clean, Plain, PlainRecord, Stands, StandTable, cut_by, lines_cut, quotes, plain-stands}
use Rattle.csv_text.proofs.Written.{records-standing, import-same}
use Rattle.csv_text.proofs.Order.{sense-itself}
use Rattle.csv_text.proofs.First.{Joins, follows-joins}
use Rattle.csv_text.proofs.RunRecord.{RunForm, by-distance, by-share, run-form}
use Rattle.csv_text.proofs.Imports.{row-paired, not_misread, import_within}
use Rattle.csv_text.proofs.Exports.{csv_plain, csv_records, csv_imported}
use Rattle.csv_text.proofs.Longest.{absent_width, absent_room, room-all, fields_of, rendered-cons, csv-widest}

-- ---- a text is no longer than its records with every field quoted

-- The bytes of some pieces, and k more for each.
lengths : ℕ → List (List ℕ) → ℕ
lengths k [] = 0
lengths k (p ∷ ps) = k + length p + lengths k ps

-- The bytes of fields, each in quotes and with a comma.
abbrev quoted_length : List (List ℕ) → ℕ
quoted_length fs = lengths 3 fs

-- The bytes of records whose fields are all quoted: each has a comma less, and CR LF.
records_length : List (List (List ℕ)) → ℕ
records_length [] = 0
records_length (r ∷ rs) = suc (quoted_length r) + records_length rs

-- A byte more in front of the first piece.
onto-length : (k b : ℕ) (ps : List (List ℕ)) → suc (lengths k ps) ≤ lengths k (onto b ps)
unfolding onto lengths
onto-length k b [] = omega arith
onto-length k b (p ∷ ps) = omega arith

-- The pieces of a line, with a comma each, are no shorter than the line and a comma.
line-pieces : (l : List ℕ) → suc (length l) ≤ lengths 1 (raw_fields l)
unfolding raw_fields lengths
line-pieces [] = omega arith
line-pieces (b ∷ bs) = split (eqb b 44) refl (line-pieces bs)
  where
    split : (x : Bool) → eqb b 44 ≡ x → suc (length bs) ≤ lengths 1 (raw_fields bs) → suc (length (b ∷ bs)) ≤ lengths 1 (raw_fields (b ∷ bs))
    split true e rest = rw (e, raw_fields) (omega (arith, rest))
    split false e rest = rw (e, raw_fields) (omega (arith, rest, onto-length 1 b (raw_fields bs)))

-- A piece is longer than its field by two quotes at most.
piece-length : (p : List ℕ) → length p ≤ 2 + length (unquoted p)
unfolding unquoted
piece-length p = split (quoted p) refl
  where
    split : (x : Bool) → quoted p ≡ x → length p ≤ 2 + length (unquoted p)
    split true e = rw (e, unquoted) (omega (arith, length-take (length p - 2) (drop 1 p), length-drop 1 p))
    split false e = rw (e, unquoted) (omega arith)

-- So are pieces than their fields.
pieces-length : (ps : List (List ℕ)) → lengths 1 ps ≤ quoted_length (map unquoted ps)
unfolding lengths
pieces-length [] = omega arith
pieces-length (p ∷ ps) = omega (arith, piece-length p, pieces-length ps)

-- A text is no longer than its lines with CR LF.
text-lines : (t : List ℕ) → length t ≤ lengths 2 (lines_in t)
unfolding lines_in lengths cut_by
text-lines [] = omega arith
text-lines (b ∷ []) = omega arith
text-lines (b ∷ c ∷ bs) = split (eqb b 13 && eqb c 10) refl (text-lines bs) (text-lines (c ∷ bs))
  where
    split : (x : Bool) → eqb b 13 && eqb c 10 ≡ x → length bs ≤ lengths 2 (lines_in bs) → length (c ∷ bs) ≤ lengths 2 (lines_in (c ∷ bs))
        → length (b ∷ c ∷ bs) ≤ lengths 2 (lines_in (b ∷ c ∷ bs))
    split true e rest more = rw (lines_cut b c bs true e) (omega (arith, rest))
    split false e rest more = rw (lines_cut b c bs false e) (omega (arith, more, onto-length 2 b (lines_in (c ∷ bs))))

-- Lines are no longer than their records.
lines-length : (ls : List (List ℕ)) → lengths 2 ls ≤ records_length (map fields_in ls)
unfolding lengths records_length fields_in
lines-length [] = omega arith
lines-length (l ∷ ls) = omega (arith, line-pieces l, pieces-length (raw_fields l), lines-length ls)

-- So is a text.
text_length : (t : List ℕ) → length t ≤ records_length (records_in t)
unfolding records_in
text_length t = omega (arith, text-lines t, lines-length (lines_in t))

-- ---- the faults of a way

-- A fault of either sense.
abbrev at : ℕ → Bool → Fault
at i b = record { place = i; absent = b }

-- Some fault is at this place.
has : ℕ → List Fault → Bool
has i [] = false
has i (x ∷ xs) = eqb i x.place || has i xs

-- The bytes of a field that names the fault at a place absent, in quotes and with a comma.
abbrev width : ℕ → ℕ
width i = 2 + absent_width i

-- The bytes of one place, if a test says so.
width_if : Bool → ℕ → ℕ
width_if true i = width i
width_if false i = 0

-- The bytes of those of n places, from i on, that some faults are at.
taken : List Fault → ℕ → ℕ → ℕ
taken xs i zero = 0
taken xs i (suc n) = width_if (has i xs) i + taken xs (suc i) n

-- They are no more than those of all n places.
taken-most : (xs : List Fault) (i n : ℕ) → taken xs i n ≤ 2 * n + absent_room i n
unfolding taken absent_room width_if
taken-most xs i zero = omega arith
taken-most xs i (suc n) = omega (arith, one (has i xs), taken-most xs (suc i) n)
  where
    one : (b : Bool) → width_if b i ≤ width i
    one true = omega arith
    one false = omega arith

-- A fault before the first place takes none of them.
taken-before : (x : Fault) (xs : List Fault) (i n : ℕ) → x.place < i → taken (x ∷ xs) i n ≡ taken xs i n
unfolding taken has
taken-before x xs i zero h = refl
taken-before x xs i (suc n) h =
    rw (ne_eqb i x.place (λ e. omega arith)) (ap (λ (k : ℕ). width_if (has i xs) i + k) (taken-before x xs (suc i) n (omega arith)))

-- A fault at one of the places where none is yet takes its own.
taken_more : (x : Fault) (xs : List Fault) (i n : ℕ) → i ≤ x.place → x.place < i + n → has x.place xs ≡ false
    → taken (x ∷ xs) i n ≡ width x.place + taken xs i n
unfolding taken has width_if
taken_more x xs i zero l h free = absurd (omega arith)
taken_more x xs i (suc n) l h free = split (ℕ_discrete i x.place) (λ k m. taken_more x xs (suc i) n k m free)
  where
    split : Dec (i ≡ x.place) → (suc i ≤ x.place → x.place < suc i + n → taken (x ∷ xs) (suc i) n ≡ width x.place + taken xs (suc i) n)
        → taken (x ∷ xs) i (suc n) ≡ width x.place + taken xs i (suc n)
    split (yes e) rest =
        let old : has i xs ≡ false = rw e free in
        let new : eqb i x.place ≡ true = eq-eqb i x.place e in
        rw (new, old) (omega (arith, ap width e, taken-before x xs (suc i) n (omega arith)))
    split (no e) rest =
        let other : eqb i x.place ≡ false = ne_eqb i x.place e in
        rw other (omega (arith, rest (omega arith) (omega arith)))

-- The word of a sense has the bits of the faults that are among them in that sense.
word-bits : (b : Bool) (i : ℕ) (xs : List Fault) → bit i (word_of b xs) ≡ among (at i b) xs
unfolding word_of among
word-bits b i [] = bit-zero i
word-bits b i (x ∷ xs) = split (same_sense b x.absent) refl (word-bits b i xs)
  where
    split : (s : Bool) → same_sense b x.absent ≡ s → bit i (word_of b xs) ≡ among (at i b) xs → bit i (word_of b (x ∷ xs)) ≡ among (at i b) (x ∷ xs)
    split true e rest =
        rw (e, word_of)
        (bit-or i (2 ^ x.place) (word_of b xs) ∙ ap₂ (λ (c d : Bool). c || d) (bit-pow i x.place ∙ sym (and-true (eqb i x.place))) rest)
    split false e rest = rw (e, word_of) (rest ∙ ap (λ (c : Bool). c || among (at i b) xs) (sym (and-false (eqb i x.place))))

-- What is not of one sense is of the other.
other-sense : (b c : Bool) → same_sense b c ≡ false → same_sense (not b) c ≡ true
unfolding same_sense
other-sense true true h = absurd (true≢false h)
other-sense true false h = refl
other-sense false true h = refl
other-sense false false h = absurd (true≢false h)

-- A place that has a fault, but none of one sense, has one of the other.
has-among : (i : ℕ) (b : Bool) (xs : List Fault) → has i xs ≡ true → among (at i b) xs ≡ false → among (at i (not b)) xs ≡ true
unfolding has among
has-among i b [] h k = absurd (true≢false (sym h))
has-among i b (x ∷ xs) h k =
    let apart = or_split (eqb i x.place && same_sense b x.absent) (among (at i b) xs) k in
    or_cases (eqb i x.place) (has i xs)
    (λ e.
    let differs : same_sense b x.absent ≡ false = and_second (eqb i x.place) (same_sense b x.absent) e apart.0 in
    or-first (eqb i x.place && same_sense (not b) x.absent) (among (at i (not b)) xs)
    (and_both (eqb i x.place) (same_sense (not b) x.absent) e (other-sense b x.absent differs)))
    (λ e. or-second (eqb i x.place && same_sense (not b) x.absent) (among (at i (not b)) xs) (has-among i b xs e apart.1)) h

-- The faults are at places below 64, and none is named in both senses.
record Sound (xs : List Fault) : Type 0 where
  low : (i : ℕ) (b : Bool) → among (at i b) xs ≡ true → i < 64
  single : (i : ℕ) (b : Bool) → among (at i b) xs ≡ true → among (at i (not b)) xs ≡ false

-- So are those behind the first.
sound-tail : (x : Fault) (xs : List Fault) → Sound (x ∷ xs) → Sound xs
unfolding among
sound-tail x xs s =
    record {
      low = λ i b h. s.low i b (or-second (eqb i x.place && same_sense b x.absent) (among (at i b) xs) h);
      single = λ i b h.
          or_right (eqb i x.place && same_sense (not b) x.absent) (among (at i (not b)) xs)
          (s.single i b (or-second (eqb i x.place && same_sense b x.absent) (among (at i b) xs) h));
    }

-- The first is among them.
among-head : (x : Fault) (xs : List Fault) → among (at x.place x.absent) (x ∷ xs) ≡ true
unfolding among
among-head x xs =
    or-first (eqb x.place x.place && same_sense x.absent x.absent) (among (at x.place x.absent) xs)
    (and_both _ _ (eq-eqb x.place x.place refl) (sense-itself x.absent))

-- If it is not named twice in its sense, no other is at its place.
head_apart : (x : Fault) (xs : List Fault) → Sound (x ∷ xs) → among x xs ≡ false → has x.place xs ≡ false
unfolding among
head_apart x xs s k =
    is_false (has x.place xs) (λ h.
    let other : among (at x.place (not x.absent)) xs ≡ true = has-among x.place x.absent xs h k in
    let never : among (at x.place (not x.absent)) xs ≡ false =
    or_right (eqb x.place x.place && same_sense (not x.absent) x.absent) (among (at x.place (not x.absent)) xs)
    (s.single x.place x.absent (among-head x xs))
    in
    true≢false (sym other ∙ never))

-- A field is longer than what stands behind its minus by that at most.
unsigned-length : (f : List ℕ) → length f ≤ suc (length (unsigned f))
unfolding unsigned signed
unsigned-length [] = omega arith
unsigned-length (b ∷ bs) = split (eqb b 45) refl
  where
    split : (x : Bool) → eqb b 45 ≡ x → length (b ∷ bs) ≤ suc (length (unsigned (b ∷ bs)))
    split true e = rw (e, unsigned) (omega arith)
    split false e = rw (e, unsigned) (omega arith)

-- A field that names a fault takes no more than its place does.
fault_length : (f : List ℕ) → is_fault f ≡ true → 3 + length f ≤ width (fault_in f).place
unfolding is_fault fault_in absent_width
fault_length f h =
    let both = and_split (is_numeral (unsigned f)) (ltb 0 (decimal_value (unsigned f))) h in
    let positive : 0 < decimal_value (unsigned f) = ltb-true 0 (decimal_value (unsigned f)) both.1 in
    let next : suc (decimal_value (unsigned f) - 1) ≡ decimal_value (unsigned f) = omega arith in
    let same : length (decimal (suc (decimal_value (unsigned f) - 1))) ≡ length (unsigned f) =
    ap (λ (n : ℕ). length (decimal n)) next ∙ ap length (numeral-decimal (unsigned f) both.0)
    in
    rw same (omega (arith, unsigned-length f))

-- Fields that name faults take no more than their places do.
faults-length : (fs : List (List ℕ)) → all_faults fs ≡ true → repeats (map fault_in fs) ≡ false → Sound (map fault_in fs)
    → quoted_length fs ≤ taken (map fault_in fs) 0 64
unfolding all_faults repeats lengths
faults-length [] a r s = omega arith
faults-length (f ∷ fs) a r s =
    let all = and_split (is_fault f) (all_faults fs) a in
    let once = or_split (among (fault_in f) (map fault_in fs)) (repeats (map fault_in fs)) r in
    one (fault_in f) (map fault_in fs) s once.0 (fault_length f all.0)
    (faults-length fs all.1 once.1 (sound-tail (fault_in f) (map fault_in fs) s))
  where
    one : (x : Fault) (xs : List Fault) → Sound (x ∷ xs) → among x xs ≡ false → 3 + length f ≤ width x.place → quoted_length fs ≤ taken xs 0 64
        → quoted_length (f ∷ fs) ≤ taken (x ∷ xs) 0 64
    one x xs s k here rest =
        let low : x.place < 0 + 64 = s.low x.place x.absent (among-head x xs) in
        rw (taken_more x xs 0 64 (omega arith) low (head_apart x xs s k)) (omega (arith, here, rest))

-- ---- the record of a way

-- The empty way takes four bytes.
empty-length : (fs : List (List ℕ)) → is_empty_way fs ≡ true → quoted_length fs ≤ 4
unfolding is_empty_way lengths bytes
empty-length [] h = omega arith
empty-length (f ∷ []) h = omega (arith, ap length (same-equal f (bytes "0") h))
empty-length (f ∷ g ∷ fs) h = absurd (true≢false (sym h))

-- What stands behind a cue number takes 375 bytes at most: nine faults of 5 and 55 of 6.
names-length : (fs : List (List ℕ)) → is_names fs ≡ true → Sound (faults_named fs) → quoted_length fs ≤ 375
unfolding is_names faults_named
names-length fs h s = split (is_empty_way fs) refl
  where
    split : (x : Bool) → is_empty_way fs ≡ x → quoted_length fs ≤ 375
    split true e = omega (arith, empty-length fs e)
    split false e =
        let named : Sound (map fault_in fs) = rw (e, faults_named) at s in
        let fine : all_faults fs && not (repeats (map fault_in fs)) ≡ true =
        or_cases (is_empty_way fs) (all_faults fs && not (repeats (map fault_in fs))) (λ k. absurd (true≢false (sym k ∙ e))) (λ k. k) h
        in
        let both = and_split (all_faults fs) (not (repeats (map fault_in fs))) fine in
        omega (
          arith,
          faults-length fs both.0 (not-true (repeats (map fault_in fs)) both.1) named,
          taken-most (map fault_in fs) 0 64,
          room-all,
        )

-- A numeral has at most ten digits.
numeral-ten : (f : List ℕ) → is_numeral f ≡ true → length f ≤ 10
unfolding is_numeral
numeral-ten f h = leb-true (length f) 10 (and_left (leb (length f) 10) _ h)

-- One below a power of ten has no more than so many.
numeral-length : (f : List ℕ) (d : ℕ) → is_numeral f ≡ true → decimal_value f < 10 ^ suc d → length f ≤ suc d
numeral-length f d h l = omega (arith, ap length (numeral-decimal f h), decimal-length (decimal_value f) d l)

-- A cue number has at most five.
cue-length : (c : List ℕ) (fs : List (List ℕ)) → is_row (c ∷ fs) ≡ true → length c ≤ 5
unfolding is_row
cue-length c fs h =
    let both = and_split (is_numeral c) (ltb (decimal_value c) 65536) (and_left (is_numeral c && ltb (decimal_value c) 65536) (is_names fs) h) in
    let low : decimal_value c < 65536 = ltb-true (decimal_value c) 65536 both.1 in
    numeral-length c 4 both.0 (omega arith)

-- Two words of a way: no bit from 64 on, and none in both.
record Fair (p q : ℕ) : Type 0 where
  low : (i : ℕ) → 64 ≤ i → (bit i p ≡ false) × (bit i q ≡ false)
  single : (i : ℕ) → bit i p ≡ true → bit i q ≡ false

-- A test that no number from 64 on passes.
below_64 : (i : ℕ) (b : Bool) → b ≡ true → (64 ≤ i → b ≡ false) → i < 64
below_64 i b h k = split (dec_lt i 64)
  where
    split : Dec (i < 64) → i < 64
    split (yes l) = l
    split (no l) = absurd (true≢false (sym h ∙ k (omega arith)))

-- Faults whose words are such are sound.
fair-sound : (xs : List Fault) → Fair (word_of false xs) (word_of true xs) → Sound xs
fair-sound xs w = record { low = low; single = single }
  where
    low : (i : ℕ) (b : Bool) → among (at i b) xs ≡ true → i < 64
    low i false h = below_64 i (among (at i false) xs) h (λ far. sym (word-bits false i xs) ∙ (w.low i far).0)
    low i true h = below_64 i (among (at i true) xs) h (λ far. sym (word-bits true i xs) ∙ (w.low i far).1)

    single : (i : ℕ) (b : Bool) → among (at i b) xs ≡ true → among (at i (not b)) xs ≡ false
    single i false h = sym (word-bits true i xs) ∙ w.single i (word-bits false i xs ∙ h)
    single i true h =
        is_false (among (at i false) xs) (λ k. true≢false (sym h ∙ sym (word-bits true i xs) ∙ w.single i (word-bits false i xs ∙ k)))

-- The words of ways, pair by pair.
abbrev FairWays : List ℕ → List ℕ → Type 0
FairWays [] qs = Unit {0}
FairWays (p ∷ ps) [] = Unit {0}
FairWays (p ∷ ps) (q ∷ qs) = Fair p q × FairWays ps qs

-- Those of a cue.
abbrev FairCue : Cue → Type 0
FairCue c = FairWays c.present c.absent

-- The record of a way takes 383 bytes at most.
row-length : (r : List (List ℕ)) → is_row r ≡ true → FairCue (row_in r) → quoted_length r ≤ 383
unfolding is_row row_in lengths
row-length [] h w = omega arith
row-length (c ∷ []) h w = omega (arith, cue-length c [] h)
row-length (c ∷ f ∷ fs) h w =
    let named : is_names (f ∷ fs) ≡ true = and_right (is_numeral c && ltb (decimal_value c) 65536) (is_names (f ∷ fs)) h in
    omega (arith, cue-length c (f ∷ fs) h, names-length (f ∷ fs) named (fair-sound (faults_named (f ∷ fs)) w.0))

-- ---- the ways of a sheet within the limits

-- The words of ways that name only faults of the sheet, none of them in both senses.
rows-fair : (n k : ℕ) (ps qs : List ℕ) → n ≤ 64 → ((v : Way) → In v (rows k ps qs) → (i : ℕ) → n ≤ i → bit i (faults v) ≡ false)
    → ((v : Way) → In v (rows k ps qs) → (i : ℕ) → bit i v.present ≡ true → bit i v.absent ≡ false) → FairWays ps qs
unfolding rows
rows-fair n k [] qs few known one = tt
rows-fair n k (p ∷ ps) [] few known one = tt
rows-fair n k (p ∷ ps) (q ∷ qs) few known one = (
  record {
    low = λ i far. or_split (bit i p) (bit i q) (sym (bit-or i p q) ∙ known _ (Memᴰ.head refl) i (omega arith));
    single = one _ (Memᴰ.head refl);
  },
  rows-fair n (suc k) ps qs few (λ v m. known v (Memᴰ.tail m)) (λ v m. one v (Memᴰ.tail m)),
)

-- So are those of every cue.
within-fair : (s : Sheet) → Within s → (c : Cue) → In c s.cues → FairCue c
unfolding ways
within-fair s w c i = rows-fair (length s.weights) 0 c.present c.absent w.few_faults (w.faults_known c i) (w.one_sense_each c i)

-- What holds of each cue holds of all.
all_fair : (cs : List Cue) → ((c : Cue) → In c cs → FairCue c) → Every FairCue cs
all_fair [] h = tt
all_fair (c ∷ cs) h = (h c (Memᴰ.head refl), all_fair cs (λ d i. h d (Memᴰ.tail i)))

-- Words in pairs in front of others.
fair-parts : (ps qs ps' qs' : List ℕ) → length qs ≡ length ps → FairWays (ps ++ ps') (qs ++ qs') → FairWays ps qs × FairWays ps' qs'
fair-parts [] [] ps' qs' e h = (tt, h)
fair-parts [] (q ∷ qs) ps' qs' e h = absurd (omega arith)
fair-parts (p ∷ ps) [] ps' qs' e h = absurd (omega arith)
fair-parts (p ∷ ps) (q ∷ qs) ps' qs' e h = let rest = fair-parts ps qs ps' qs' (omega arith) h.1 in ((h.0, rest.0), rest.1)

-- A cue that is joined to others.
attach-fair : (c : Cue) (cs : List Cue) → length c.absent ≡ length c.present → Every FairCue (attach c cs) → FairCue c × Every FairCue cs
unfolding attach
attach-fair c [] e h = (h.0, tt)
attach-fair c (d ∷ ds) e h = split (eqb c.number d.number) refl
  where
    split : (x : Bool) → eqb c.number d.number ≡ x → FairCue c × Every FairCue (d ∷ ds)
    split true q =
        let joined : FairWays (c.present ++ d.present) (c.absent ++ d.absent) × Every FairCue ds = rw (q, attach) at h in
        let parts = fair-parts c.present c.absent d.present d.absent e joined.0 in
        (parts.0, (parts.1, joined.1))
    split false q = let apart : FairCue c × Every FairCue (d ∷ ds) = rw (q, attach) at h in apart

-- So the words of each record are such where those of the cues are.
grouped-fair : (rs : List (List (List ℕ))) → Every FairCue (grouped (map row_in rs)) → Every (λ (r : List (List ℕ)). FairCue (row_in r)) rs
unfolding grouped
grouped-fair [] h = tt
grouped-fair (r ∷ rs) h =
    let parts = attach-fair (row_in r) (grouped (map row_in rs)) (row-paired r) h in
    (parts.0, grouped-fair rs parts.1)

-- ---- how many records there are

-- The records of some cues: as many as ways, and one at least for each.
records_of : List Cue → ℕ
records_of [] = 0
records_of (c ∷ cs) = max 1 (length c.present) + records_of cs

-- Cues of at most 128 ways.
records-few : (cs : List Cue) → ((c : Cue) → In c cs → length c.present ≤ 128) → records_of cs ≤ 128 * length cs
unfolding records_of
records-few [] h = omega arith
records-few (c ∷ cs) h = omega (arith, h c (Memᴰ.head refl), records-few cs (λ d i. h d (Memᴰ.tail i)))

-- A cue stands well before the first of others.
abbrev JoinsFirst : Cue → List Cue → Type 0
JoinsFirst c [] = Unit {0}
JoinsFirst c (d ∷ ds) = Joins c d

-- Then it is a record more.
attach-count : (c : Cue) (cs : List Cue) → JoinsFirst c cs → suc (records_of cs) ≤ records_of (attach c cs)
unfolding attach records_of
attach-count c [] j = omega arith
attach-count c (d ∷ ds) j = split (eqb c.number d.number) refl
  where
    split : (x : Bool) → eqb c.number d.number ≡ x → suc (records_of (d ∷ ds)) ≤ records_of (attach c (d ∷ ds))
    split true q =
        let both = j (eqb-true c.number d.number q) in
        rw (q, attach) (omega (arith, both.0, both.1, length-append c.present d.present))
    split false q = rw (q, attach) (omega arith)

-- What stands well before a cue does so before those that it is joined to.
joins-attach : (b c : Cue) (cs : List Cue) → Joins b c → JoinsFirst b (attach c cs)
unfolding attach
joins-attach b c [] j = j
joins-attach b c (d ∷ ds) j = split (eqb c.number d.number) refl
  where
    split : (x : Bool) → eqb c.number d.number ≡ x → JoinsFirst b (attach c (d ∷ ds))
    split true q = rw (q, attach) (λ e. ((j e).0, omega (arith, (j e).1, length-append c.present d.present)))
    split false q = rw (q, attach) j

-- So does a record before those behind it, if none is misread.
rows-joined : (k : ℕ) (c : Cue) (rs : List (List (List ℕ))) → misread_rows (suc k) (Some c) rs ≡ 0 → JoinsFirst c (grouped (map row_in rs))
unfolding misread_rows grouped
rows-joined k c [] e = tt
rows-joined k c (r ∷ rs) e = split (is_row r && follows (Some c) (row_in r)) refl
  where
    split : (x : Bool) → is_row r && follows (Some c) (row_in r) ≡ x → JoinsFirst c (attach (row_in r) (grouped (map row_in rs)))
    split true q = joins-attach c (row_in r) (grouped (map row_in rs)) (follows-joins c (row_in r) (and_right (is_row r) (follows (Some c) (row_in r)) q))
    split false q = absurd (let z : suc k ≡ 0 = rw (q, misread_rows) at e in omega arith)

-- Records of ways: their bytes, and how many there are.
abbrev RowsLength : List (List (List ℕ)) → Type 0
RowsLength rs = (records_length rs ≤ 384 * length rs) × (length rs ≤ records_of (grouped (map row_in rs)))

-- So are they, if none of them is misread.
rows-length : (k : ℕ) (o : Option Cue) (rs : List (List (List ℕ))) → misread_rows (suc k) o rs ≡ 0
    → Every (λ (r : List (List ℕ)). FairCue (row_in r)) rs → RowsLength rs
unfolding misread_rows grouped records_length
rows-length k o [] e w = (omega arith, omega arith)
rows-length k o (r ∷ rs) e w = split (is_row r && follows o (row_in r)) refl (λ z. rows-length (suc k) (Some (row_in r)) rs z w.1)
  where
    split : (x : Bool) → is_row r && follows o (row_in r) ≡ x → (misread_rows (suc (suc k)) (Some (row_in r)) rs ≡ 0 → RowsLength rs) → RowsLength (r ∷ rs)
    split true q rest =
        let z : misread_rows (suc (suc k)) (Some (row_in r)) rs ≡ 0 = rw (q, misread_rows) at e in
        let both = rest z in (
          omega (arith, both.0, row-length r (and_left (is_row r) (follows o (row_in r)) q) w.0),
          omega (arith, both.1, attach-count (row_in r) (grouped (map row_in rs)) (rows-joined (suc k) (row_in r) rs z)),
        )
    split false q rest = absurd (let z : suc k ≡ 0 = rw (q, misread_rows) at e in omega arith)

-- ---- the first two records

-- The run takes 29 bytes.
run_length : (r : List (List ℕ)) → RunForm r → (limits_said r).budget ≤ 255 → quoted_length r ≤ 29
unfolding limits_said lengths bytes
run_length _ (by-distance {a = a} {b = b} h k) l = omega (arith, numeral-ten a h, numeral-length b 2 k (omega (arith, l)))
run_length _ (by-share {a = a} {b = b} h k) l = omega (arith, numeral-ten a h, numeral-length b 2 k (omega (arith, l)))

-- Numerals take 13 each.
numerals-length : (fs : List (List ℕ)) → all_numerals fs ≡ true → quoted_length fs ≤ 13 * length fs
unfolding all_numerals lengths
numerals-length [] h = omega arith
numerals-length (f ∷ fs) h =
    let both = and_split (is_numeral f) (all_numerals fs) h in
    omega (arith, numeral-ten f both.0, numerals-length fs both.1)

-- So 64 weights take 842.
weights-length : (r : List (List ℕ)) → is_weights r ≡ true → length (weights_said r) ≤ 64 → quoted_length r ≤ 842
unfolding is_weights weights_said lengths bytes
weights-length [] h l = absurd (true≢false (sym h))
weights-length (w ∷ fs) h l =
    let both = and_split (same_numbers w (bytes "weights")) (all_numerals fs) h in
    let few : length (map decimal_value fs) ≤ 64 = l in
    omega (arith, ap length (same-equal w (bytes "weights") both.0), numerals-length fs both.1, length-map fs decimal_value, few)

-- ---- all records

-- The first two are of their shapes, and none of the others is misread.
read-parts : (r w : List (List ℕ)) (rs : List (List (List ℕ))) → misread_records (r ∷ w ∷ rs) ≡ 0
    → (is_run r ≡ true) × (is_weights w ≡ true) × (misread_rows 3 None rs ≡ 0)
unfolding misread_records misread_weights
read-parts r w rs e = split (is_run r) (is_weights w) refl refl
  where
    split : (x y : Bool) → is_run r ≡ x → is_weights w ≡ y → (is_run r ≡ true) × (is_weights w ≡ true) × (misread_rows 3 None rs ≡ 0)
    split true true x y = (x, y, rw (y, misread_weights) at (rw (x, misread_records) at e))
    split true false x y = absurd (let z : ◌≡◌ {A = ℕ} 2 0 = rw (y, misread_weights) at (rw (x, misread_records) at e) in omega arith)
    split false y' x y = absurd (let z : ◌≡◌ {A = ℕ} 1 0 = rw (x, misread_records) at e in omega arith)

-- The records of a sheet within the limits.
records-length : (rs : List (List (List ℕ))) → misread_records rs ≡ 0 → Within (sheet_said rs) → records_length rs ≤ 1180521
unfolding sheet_said weights_said records_length
records-length [] e s = absurd (omega (arith, s.some_faults))
records-length (r ∷ []) e s = absurd (omega (arith, s.some_faults))
records-length (r ∷ w ∷ rs) e s =
    let cues : List Cue = grouped (map row_in rs) in
    let parts = read-parts r w rs e in
    let fair = grouped-fair rs (all_fair cues (within-fair (sheet_said (r ∷ w ∷ rs)) s)) in
    let both = rows-length 2 None rs parts.2 fair in
    let few : length cues ≤ 24 = s.few_cues in
    omega (
      arith,
      run_length r (run-form r parts.0) s.budget,
      weights-length w parts.1 s.few_faults,
      both.0,
      both.1,
      records-few cues s.few_ways,
      few,
    )

-- A TEXT THAT IMPORT ACCEPTS has at most 1,180,521 bytes.
pub import-length : (t : List ℕ) (n : ℕ) → import_number t n ≡ 0 → length t ≤ 1180521
unfolding misread sheet_in
import-length t n h = omega (arith, text_length t, records-length (records_in t) (not_misread t n h) (import_within t n h))

-- ---- a text as long

-- Fields behind another, all quoted.
further-quoted : (fs : List (List ℕ)) → length (further_fields (map quotes fs)) ≡ length (further_fields fs) + 2 * length fs
unfolding further_fields
further-quoted [] = refl
further-quoted (f ∷ fs) =
    omega (
      arith,
      length-append (f ++ 34 ∷ []) (further_fields (map quotes fs)),
      length-append f (34 ∷ []),
      length-append f (further_fields fs),
      further-quoted fs,
    )

-- A record whose fields are all quoted is longer by two bytes for each.
record-quoted : (r : List (List ℕ)) → length (record_text (map quotes r)) ≡ length (record_text r) + 2 * length r
unfolding further_fields record_text
record-quoted [] = refl
record-quoted (f ∷ fs) = omega (arith, further-quoted (f ∷ fs))

-- So is a text.
rendered-quoted : (rs : List (List (List ℕ))) → length (rendered (map (map quotes) rs)) ≡ length (rendered rs) + 2 * fields_of rs
unfolding rendered
rendered-quoted [] = refl
rendered-quoted (r ∷ rs) =
    omega (
      arith,
      rendered-cons (map quotes r) (map (map quotes) rs),
      rendered-cons r rs,
      sum_by-cons length r rs,
      record-quoted r,
      rendered-quoted rs,
    )

-- Plain fields in quotes stand for themselves.
fields-stand : (fs : List (List ℕ)) → Every Plain fs → Pairwise (λ (f p : List ℕ). Clean f × Stands f p) fs (map quotes fs)
fields-stand [] h = tt
fields-stand (f ∷ fs) h = (((plain-stands f h.0).0, Stands.in_quotes), fields-stand fs h.1)

-- So do records of them.
records-stand : (rs : List (List (List ℕ))) → Every PlainRecord rs → StandTable rs (map (map quotes) rs)
records-stand [] h = tt
records-stand (r ∷ rs) h = ((h.0.0, fields-stand r h.0.1), records-stand rs h.1)

-- The text of a sheet with every field quoted is imported like its text.
quoted-imported : (s : Sheet) → Within s → import_number (rendered (map (map quotes) (sheet_records s))) (length (encode s)) ≡ 0
quoted-imported s w =
    let records : records_in (rendered (map (map quotes) (sheet_records s))) ≡ sheet_records s =
    records-standing (sheet_records s) (map (map quotes) (sheet_records s)) (records-stand (sheet_records s) (csv_plain s w))
    in
    (import-same (rendered (map (map quotes) (sheet_records s))) (csv_of s) (records ∙ sym (csv_records s w))).number (length (encode s))
    ∙ csv_imported s w (length (encode s)) (omega arith)

-- A TEXT THAT IMPORT ACCEPTS is as long.
pub import-attained : (t : List ℕ) × (n : ℕ) × (import_number t n ≡ 0) × (length t ≡ 1180521)
unfolding csv_of
import-attained =
    let s : Sheet = csv-widest.0 in (
      rendered (map (map quotes) (sheet_records s)),
      length (encode s),
      quoted-imported s csv-widest.1,
      rendered-quoted (sheet_records s) ∙ total (length (csv_of s)) (fields_of (sheet_records s)) csv-widest.2 csv-widest.3,
    )
  where
    total : (a b : ℕ) → a ≡ 781023 → b ≡ 199749 → a + 2 * b ≡ 1180521
    total a b e f = omega arith
