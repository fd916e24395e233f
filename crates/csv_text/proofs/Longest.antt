-- The longest text of a sheet has 781,023 bytes (RULES 13.16): no text of a sheet within the limits is longer, and one is as long.
-- 22 bytes for the run, whose allowance is a share, 713 for 64 weights, and 254 for each of 24 times 128 ways that name 64 faults absent.
-- Rests on the definitions of Texts, on the library's laws of sums and on `rules`, Decimal and WithinLimits.
use mathlib.Core.Path.{◌≡◌, refl, ap, ◌∙◌}
use mathlib.Core.Bool.{Bool, true, false, ◌&&◌, true≢false}
use mathlib.Core.List.Memᴰ
use mathlib.Core.List.{List, [], ◌∷◌, ◌++◌, map}
use Prim.Native.Nat.{ℕ, zero, suc, ◌+◌, ◌*◌, ◌/◌, ◌≤◌, ◌<◌}
use native.Mathlib.Nat.{mul-suc}
use native.Mathlib.Omega.{arith}
use lib.ListN.{length, replicate, length-append, length-replicate}
use lib.Dec.{eqb}
use Rattle.std.specs.List.{sum_by}
use Rattle.std.proofs.lemmas.List.Sums.{sum_by-cons, sum_by-append}
use borrow.Author.Tests.{eqb-true}
use Rattle.rules.specs.Rounding.{S}
use Rattle.rules.specs.declared.Limits.{Limits}
use Rattle.rules.specs.declared.Way.{Way}
use Rattle.rules.specs.Table.{odd, bit, rows, ways}
use Rattle.rules.specs.Members.{In}
use Rattle.rules.specs.Refusals.{first}
use Rattle.rules.specs.Sheet.{Cue, Sheet, AllBelow, numbers_of, lists_of, lists_refusals, Within}
use Rattle.rules.specs.Text.{bytes, digits, decimal}
use Rattle.rules.proofs.Booleans.{and_split}
use Rattle.rules.proofs.Computing.{of-writing}
use Rattle.rules.proofs.Decimal.{decimal-length, billion-digits}
use Rattle.rules.proofs.Laid.{Paired, paired_none, paired-cons}
use Rattle.rules.proofs.WithinLimits.{tested-within}
use Rattle.csv_text.specs.Shapes.{Fault}
use Rattle.csv_text.specs.Texts.{fault_text, mark, faults_from, or_zero, way_record, way_records, or_alone, cue_records, mode_fields, run_record}
use Rattle.csv_text.specs.Texts.{weights_record, sheet_records, further_fields, record_text, rendered, csv_of}

-- ---- the faults of a way

-- No fault is named in both senses.
abbrev Senses : ℕ → ℕ → Type 0
Senses p q = (i : ℕ) → bit i p ≡ true → bit i q ≡ false

-- The bytes of a fault that is named absent: comma, minus, digits.
unfoldable pub absent_width : ℕ → ℕ
absent_width i = 2 + length (decimal (suc i))

-- The bytes of n faults from place i on, all named absent.
unfoldable pub absent_room : ℕ → ℕ → ℕ
absent_room i zero = 0
absent_room i (suc n) = absent_width i + absent_room (suc i) n

-- The bytes that name some faults.
abbrev naming : List Fault → ℕ
naming fs = length (further_fields (map fault_text fs))

-- One place takes no more than if it is absent.
place-length : (x y : Bool) (i : ℕ) (fs : List Fault) → (x ≡ true → y ≡ false)
    → naming (mark x (record { place = i; absent = false }) (mark y (record { place = i; absent = true }) fs)) ≤ absent_width i + naming fs
unfolding mark fault_text further_fields absent_width
place-length true true i fs h = absurd (true≢false (h refl))
place-length true false i fs h = omega (arith, length-append (decimal (suc i)) (further_fields (map fault_text fs)))
place-length false true i fs h = omega (arith, length-append (decimal (suc i)) (further_fields (map fault_text fs)))
place-length false false i fs h = omega arith

-- So do n places.
names-length : (i n p q : ℕ) → Senses p q → naming (faults_from i n p q) ≤ absent_room i n
unfolding faults_from absent_room further_fields
names-length i zero p q h = omega arith
names-length i (suc n) p q h =
    omega (
      arith,
      place-length (odd p) (odd q) i (faults_from (suc i) n (p / 2) (q / 2)) (h 0),
      names-length (suc i) n (p / 2) (q / 2) (λ j. h (suc j)),
    )

-- Fewer places take no more.
room-fewer : (i n m : ℕ) → n ≤ m → absent_room i n ≤ absent_room i m
unfolding absent_room
room-fewer i zero m h = omega arith
room-fewer i (suc n) zero h = absurd (omega arith)
room-fewer i (suc n) (suc m) h = omega (arith, room-fewer (suc i) n m (omega arith))

-- 64 places take 247 bytes: nine of 3 and 55 of 4.
pub room-all : absent_room 0 64 ≡ 247
unfolding absent_room absent_width decimal digits
room-all = refl

-- The empty way takes two.
zero-length : (fs : List (List ℕ)) (m : ℕ) → 2 ≤ m → length (further_fields fs) ≤ m → length (further_fields (or_zero fs)) ≤ m
unfolding or_zero further_fields bytes
zero-length [] m h k = h
zero-length (f ∷ fs) m h k = k

-- ---- records

-- A record of a way has at most 252 bytes.
way-length : (n c p q : ℕ) → n ≤ 64 → c < 65536 → Senses p q → length (record_text (way_record n c p q)) ≤ 252
unfolding way_record record_text
way-length n c p q few h k =
    let fs : List Fault = faults_from 0 n p q in
    let named : naming fs ≤ 247 = omega (arith, names-length 0 n p q k, room-fewer 0 n 64 few, room-all) in
    omega (
      arith,
      length-append (decimal c) (further_fields (or_zero (map fault_text fs))),
      decimal-length c 4 (omega arith),
      zero-length (map fault_text fs) 247 (omega arith) named,
    )

-- A record in front: its bytes and CR LF.
pub rendered-cons : (r : List (List ℕ)) (rs : List (List (List ℕ))) → length (rendered (r ∷ rs)) ≡ length (record_text r) + 2 + length (rendered rs)
unfolding rendered
rendered-cons r rs = omega (arith, length-append (record_text r) (13 ∷ 10 ∷ rendered rs))

-- Records behind others: the bytes add up.
rendered-both : (rs ss : List (List (List ℕ))) → length (rendered (rs ++ ss)) ≡ length (rendered rs) + length (rendered ss)
unfolding rendered
rendered-both [] ss = omega arith
rendered-both (r ∷ rs) ss = omega (arith, rendered-cons r (rs ++ ss), rendered-cons r rs, rendered-both rs ss)

-- The records of a cue's ways.
ways-length : (k n c : ℕ) (ps qs : List ℕ) → n ≤ 64 → c < 65536 → ((v : Way) → In v (rows k ps qs) → Senses v.present v.absent)
    → length (rendered (way_records n c ps qs)) ≤ 254 * length ps
unfolding way_records rows rendered
ways-length k n c [] qs few h one = omega arith
ways-length k n c (p ∷ ps) [] few h one = omega arith
ways-length k n c (p ∷ ps) (q ∷ qs) few h one =
    omega (
      arith,
      rendered-cons (way_record n c p q) (way_records n c ps qs),
      way-length n c p q few h (one _ (Memᴰ.head refl)),
      ways-length (suc k) n c ps qs few h (λ v m. one v (Memᴰ.tail m)),
    )

-- Those of a cue, which has one at least.
alone-length : (c m : ℕ) (rs : List (List (List ℕ))) → c < 65536 → 7 ≤ m → length (rendered rs) ≤ m → length (rendered (or_alone c rs)) ≤ m
unfolding or_alone rendered record_text further_fields
alone-length c m [] h l k =
    omega (arith, rendered-cons (decimal c ∷ []) [], length-append (decimal c) [], decimal-length c 4 (omega arith))
alone-length c m (r ∷ rs) h l k = k

-- Those of cues, of at most m bytes each.
cues-length : (n m : ℕ) (cs : List Cue)
    → ((c : Cue) → In c cs → length (rendered (or_alone c.number (way_records n c.number c.present c.absent))) ≤ m)
    → length (rendered (cue_records n cs)) ≤ m * length cs
unfolding cue_records rendered
cues-length n m [] h = omega arith
cues-length n m (c ∷ cs) h =
    omega (
      arith,
      rendered-both (or_alone c.number (way_records n c.number c.present c.absent)) (cue_records n cs),
      h c (Memᴰ.head refl),
      cues-length n m cs (λ d i. h d (Memᴰ.tail i)),
      mul-suc m (length cs),
    )

-- The mode takes a comma and a digit, if it is written.
mode-length : (k : ℕ) → k ≤ 1 → length (further_fields (mode_fields k)) ≤ 2
unfolding mode_fields further_fields decimal digits
mode-length zero h = omega arith
mode-length (suc zero) h = omega arith
mode-length (suc (suc k)) h = absurd (omega arith)

-- The limits.
run_length : (m : Limits) → m.allowance ≤ S → m.budget ≤ 255 → m.mode ≤ 1 → length (record_text (run_record m)) ≤ 20
unfolding run_record record_text further_fields bytes
run_length m h k l =
    let a : List ℕ = decimal m.allowance in
    let b : List ℕ = decimal m.budget in
    let mode : List ℕ = further_fields (mode_fields m.mode) in
    omega (
      arith,
      length-append a (44 ∷ b ++ mode),
      length-append b mode,
      billion-digits m.allowance h,
      decimal-length m.budget 2 (omega arith),
      mode-length m.mode l,
    )

-- A comma and at most ten digits for each weight.
weights-length : (ws : List ℕ) → ((w : ℕ) → In w ws → w ≤ S) → length (further_fields (map decimal ws)) ≤ 11 * length ws
unfolding further_fields
weights-length [] h = omega arith
weights-length (w ∷ ws) h =
    omega (
      arith,
      length-append (decimal w) (further_fields (map decimal ws)),
      billion-digits w (h w (Memᴰ.head refl)),
      weights-length ws (λ x i. h x (Memᴰ.tail i)),
    )

-- THE TEXT OF A SHEET within the limits has at most 781,023 bytes.
pub csv-length : (s : Sheet) → Within s → length (csv_of s) ≤ 781023
unfolding csv_of sheet_records weights_record record_text bytes ways
csv-length s w =
    let cues : List (List (List ℕ)) = cue_records (length s.weights) s.cues in
    omega (
      arith,
      rendered-cons (run_record s.limits) (weights_record s.weights ∷ cues),
      rendered-cons (weights_record s.weights) cues,
      run_length s.limits w.allowance w.budget w.mode,
      weights-length s.weights w.weights,
      w.few_faults,
      w.few_cues,
      cues-length (length s.weights) 32512 s.cues cue-length,
    )
  where
    cue-length : (c : Cue) → In c s.cues
        → length (rendered (or_alone c.number (way_records (length s.weights) c.number c.present c.absent))) ≤ 32512
    cue-length c i =
        let all = ways-length 0 (length s.weights) c.number c.present c.absent w.few_faults (w.two_bytes c i) (w.one_sense_each c i) in
        alone-length c.number 32512 _ (w.two_bytes c i) (omega arith) (omega (arith, all, w.few_ways c i))

-- ---- a sheet whose text is as long

-- The word of 64 faults.
abbrev every : ℕ
every = 18446744073709551615

-- A cue of 128 ways that each name 64 faults absent.
widest : ℕ → Cue
widest c = record { number = c; present = replicate 128 0; absent = replicate 128 every }

-- k such cues, numbered from c on.
widest_from : ℕ → ℕ → List Cue
widest_from c zero = []
widest_from c (suc k) = widest c ∷ widest_from (suc c) k

-- The highest limits, by share.
abbrev highest : Limits
highest = record { allowance = S; budget = 255; mode = 1 }

-- These, 64 of the highest weight, and 24 such cues with numbers of five digits.
wordiest : Sheet
wordiest = record { limits = highest; weights = replicate 64 S; cues = widest_from 10000 24 }

-- Its parts, by computing.
every-length : length (further_fields (or_zero (map fault_text (faults_from 0 64 0 every)))) ≡ 247
unfolding faults_from mark fault_text or_zero further_fields decimal digits
every-length = refl

-- The record of a way that names 64 faults absent.
way-exact : (c : ℕ) → length (decimal c) ≡ 5 → length (record_text (way_record 64 c 0 every)) ≡ 252
unfolding way_record record_text
way-exact c h = omega (arith, length-append (decimal c) (further_fields (or_zero (map fault_text (faults_from 0 64 0 every)))), every-length)

-- So many of them.
ways-exact : (k c : ℕ) → length (decimal c) ≡ 5 → length (rendered (way_records 64 c (replicate k 0) (replicate k every))) ≡ 254 * k
unfolding way_records rendered
ways-exact zero c h = refl
ways-exact (suc k) c h =
    omega (arith, rendered-cons (way_record 64 c 0 every) (way_records 64 c (replicate k 0) (replicate k every)), way-exact c h, ways-exact k c h)

-- The numbers from c on have five digits.
fives : ℕ → ℕ → Bool
fives c zero = true
fives c (suc k) = eqb (length (decimal c)) 5 && fives (suc c) k

-- A cue with ways has their records alone.
some-ways : (c : ℕ) → or_alone c (way_records 64 c (replicate 128 0) (replicate 128 every)) ≡ way_records 64 c (replicate 128 0) (replicate 128 every)
unfolding or_alone way_records
some-ways c = refl

-- The records of such cues.
cues-exact : (c k : ℕ) → fives c k ≡ true → length (rendered (cue_records 64 (widest_from c k))) ≡ 32512 * k
unfolding cue_records widest_from widest rendered fives
cues-exact c zero h = refl
cues-exact c (suc k) h =
    let both = and_split (eqb (length (decimal c)) 5) (fives (suc c) k) h in
    omega (
      arith,
      rendered-both (or_alone c (way_records 64 c (replicate 128 0) (replicate 128 every))) (cue_records 64 (widest_from (suc c) k)),
      ap (λ (rs : List (List (List ℕ))). length (rendered rs)) (some-ways c),
      ways-exact 128 c (eqb-true (length (decimal c)) 5 both.0),
      cues-exact (suc c) k both.1,
    )

-- Each has as many absent words as present words.
widest-paired : (c k : ℕ) → Paired (widest_from c k)
unfolding widest_from widest
widest-paired c zero = paired_none
widest-paired c (suc k) = paired-cons (widest c) (widest_from (suc c) k) refl (widest-paired (suc c) k)

-- Its numbers fit two bytes.
wordiest-numbered : AllBelow 65536 (numbers_of wordiest.cues)
unfolding wordiest numbers_of widest_from widest
wordiest-numbered = below 10000 24 (omega arith)
  where
    below : (c k : ℕ) → c + k ≤ 65536 → AllBelow 65536 (numbers_of (widest_from c k))
    below c zero h = tt
    below c (suc k) h = (omega arith, below (suc c) k (omega arith))

-- The tests of the writer let it through.
wordiest-kept : first (lists_refusals (lists_of wordiest)) ≡ 0
unfolding wordiest widest_from widest of-writing
wordiest-kept = refl

-- Its numbers have five digits.
wordiest-fives : fives 10000 24 ≡ true
unfolding fives decimal digits
wordiest-fives = refl

-- Its first record.
abbrev run : List (List ℕ)
run = run_record highest

-- Its second.
abbrev weights : List (List ℕ)
weights = weights_record (replicate 64 S)

-- The two have 731 bytes.
wordiest-front : length (record_text run) + length (record_text weights) ≡ 731
unfolding mode_fields run_record weights_record record_text further_fields bytes decimal digits
wordiest-front = refl

-- It is within the limits.
wordiest-within : Within wordiest
unfolding wordiest
wordiest-within = tested-within wordiest (record { numbered = wordiest-numbered; paired = widest-paired 10000 24; kept = wordiest-kept })

-- Its text has 781,023 bytes.
wordiest-length : length (csv_of wordiest) ≡ 781023
unfolding csv_of sheet_records wordiest
wordiest-length =
    ap (λ (n : ℕ). length (rendered (run ∷ weights ∷ cue_records n (widest_from 10000 24)))) (length-replicate 64 S)
    ∙ omega (
      arith,
      rendered-cons run (weights ∷ cue_records 64 (widest_from 10000 24)),
      rendered-cons weights (cue_records 64 (widest_from 10000 24)),
      wordiest-front,
      cues-exact 10000 24 wordiest-fives,
    )

-- ---- its fields

-- The number of fields of some records.
abbrev pub fields_of : List (List (List ℕ)) → ℕ
fields_of rs = sum_by length rs

-- A way that names 64 faults has 65.
way-fields : (c : ℕ) → length (way_record 64 c 0 every) ≡ 65
unfolding way_record faults_from mark or_zero
way-fields c = refl

-- So many of them.
ways-fields : (k c : ℕ) → fields_of (way_records 64 c (replicate k 0) (replicate k every)) ≡ 65 * k
unfolding way_records
ways-fields zero c = refl
ways-fields (suc k) c =
    omega (arith, sum_by-cons length (way_record 64 c 0 every) (way_records 64 c (replicate k 0) (replicate k every)), way-fields c, ways-fields k c)

-- So many cues.
cues-fields : (c k : ℕ) → fields_of (cue_records 64 (widest_from c k)) ≡ 8320 * k
unfolding cue_records widest_from widest
cues-fields c zero = refl
cues-fields c (suc k) =
    omega (
      arith,
      sum_by-append length (or_alone c (way_records 64 c (replicate 128 0) (replicate 128 every))) (cue_records 64 (widest_from (suc c) k)),
      ap fields_of (some-ways c),
      ways-fields 128 c,
      cues-fields (suc c) k,
    )

-- Its first two records have 69.
front-fields : length run + length weights ≡ 69
unfolding mode_fields run_record weights_record
front-fields = refl

-- It has 199,749.
wordiest-fields : fields_of (sheet_records wordiest) ≡ 199749
unfolding sheet_records wordiest
wordiest-fields =
    ap (λ (n : ℕ). fields_of (run ∷ weights ∷ cue_records n (widest_from 10000 24))) (length-replicate 64 S)
    ∙ omega (
      arith,
      sum_by-cons length run (weights ∷ cue_records 64 (widest_from 10000 24)),
      sum_by-cons length weights (cue_records 64 (widest_from 10000 24)),
      front-fields,
      cues-fields 10000 24,
    )

-- A TEXT IS AS LONG, and has so many fields.
pub csv-widest : (s : Sheet) × Within s × (length (csv_of s) ≡ 781023) × (fields_of (sheet_records s) ≡ 199749)
csv-widest = (wordiest, wordiest-within, wordiest-length, wordiest-fields)

-- So the bound on an exported text is attained.
pub csv-attained : (s : Sheet) × Within s × (length (csv_of s) ≡ 781023)
csv-attained = (csv-widest.0, csv-widest.1, csv-widest.2)
