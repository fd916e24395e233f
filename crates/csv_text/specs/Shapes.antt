-- The shapes of records, what each says, and the first record that is missing or of no shape (RULES 13.4 to 13.10).
-- A record of a way is read as a cue of its own with that way only; cues of one number that follow each other are joined.
use Rattle.std.specs.Prelude.{Bool, true, false, not, ◌&&◌, ◌||◌, List, [], ◌∷◌, ◌++◌, map, ℕ, suc, ◌-◌, ◌^◌, length, drop, get_or, eqb, ltb, Option, Some, None}
use Rattle.std.specs.Int.Bits.{bit_or}
use Rattle.rules.specs.declared.Limits.{Limits}
use Rattle.rules.specs.Sheet.{Cue, Sheet, same_numbers}
use Rattle.rules.specs.Text.{bytes, decimal_value}
use Rattle.decimal.specs.Numerals.{is_numeral}
-- A fault as a way names it: its place counted from 0, and whether it is absent.
pub use Rattle.csv_text.specs.declared.Fault.{Fault}
use Rattle.csv_text.specs.Cut.{records_in}

-- ---- run and weights

-- All fields are numbers.
unfoldable pub all_numerals : List (List ℕ) → Bool
all_numerals [] = true
all_numerals (f ∷ fs) = is_numeral f && all_numerals fs

-- What may stand behind the two numbers: nothing, or `1`: the allowance is a share.
unfoldable pub is_mode : List (List ℕ) → Bool
is_mode [] = true
is_mode (f ∷ []) = same_numbers f (bytes "1")
is_mode (f ∷ g ∷ fs) = false

-- `run`, allowance, budget, and `1` behind them where the allowance is a share.
unfoldable pub is_run : List (List ℕ) → Bool
is_run [] = false
is_run (w ∷ []) = false
is_run (w ∷ a ∷ []) = false
is_run (w ∷ a ∷ b ∷ fs) = same_numbers w (bytes "run") && (is_numeral a && (is_numeral b && is_mode fs))

-- The limits that it says. Where no third number stands, the mode is 0: the allowance is a distance.
unfoldable pub limits_said : List (List ℕ) → Limits
limits_said r = record { allowance = decimal_value (get_or r 1 []); budget = decimal_value (get_or r 2 []); mode = decimal_value (get_or r 3 []) }

-- `weights`, then each weight, if any.
unfoldable pub is_weights : List (List ℕ) → Bool
is_weights [] = false
is_weights (w ∷ fs) = same_numbers w (bytes "weights") && all_numerals fs

-- The weights that it says.
unfoldable pub weights_said : List (List ℕ) → List ℕ
weights_said r = map decimal_value (drop 1 r)

-- ---- faults

-- A minus in front.
unfoldable pub signed : List ℕ → Bool
signed [] = false
signed (b ∷ bs) = eqb b 45

-- The bytes behind it.
unfoldable pub unsigned : List ℕ → List ℕ
unsigned f = elim (signed f) as (λ x. List ℕ) [ true ↦ drop 1 f | false ↦ f ]

-- A numeral above 0, perhaps behind a minus.
unfoldable pub is_fault : List ℕ → Bool
is_fault f = is_numeral (unsigned f) && ltb 0 (decimal_value (unsigned f))

-- The fault that such a field names.
unfoldable pub fault_in : List ℕ → Fault
fault_in f = record { place = decimal_value (unsigned f) - 1; absent = signed f }

-- All fields are faults.
unfoldable pub all_faults : List (List ℕ) → Bool
all_faults [] = true
all_faults (f ∷ fs) = is_fault f && all_faults fs

-- Both absent, or both present.
unfoldable pub same_sense : Bool → Bool → Bool
same_sense true b = b
same_sense false b = not b

-- The fault is among those, in the same sense.
unfoldable pub among : Fault → List Fault → Bool
among x [] = false
among x (f ∷ fs) = (eqb x.place f.place && same_sense x.absent f.absent) || among x fs

-- Some fault is named twice in the same sense.
unfoldable pub repeats : List Fault → Bool
repeats [] = false
repeats (f ∷ fs) = among f fs || repeats fs

-- The word of the faults of one sense, of any size.
unfoldable pub word_of : Bool → List Fault → ℕ
word_of b [] = 0
word_of b (f ∷ fs) = elim (same_sense b f.absent) as (λ x. ℕ) [ true ↦ bit_or (2 ^ f.place) (word_of b fs) | false ↦ word_of b fs ]

-- ---- ways

-- The field `0` alone: the empty way.
unfoldable pub is_empty_way : List (List ℕ) → Bool
is_empty_way [] = false
is_empty_way (f ∷ []) = same_numbers f (bytes "0")
is_empty_way (f ∷ g ∷ fs) = false

-- The fields behind a cue number: `0` alone, or faults, none of them twice in the same sense. There may be none.
unfoldable pub is_names : List (List ℕ) → Bool
is_names fs = is_empty_way fs || (all_faults fs && not (repeats (map fault_in fs)))

-- A cue number, then these.
unfoldable pub is_row : List (List ℕ) → Bool
is_row [] = false
is_row (c ∷ fs) = (is_numeral c && ltb (decimal_value c) 65536) && is_names fs

-- The faults that they name: none for `0` alone.
unfoldable pub faults_named : List (List ℕ) → List Fault
faults_named fs = elim (is_empty_way fs) as (λ x. List Fault) [ true ↦ [] | false ↦ map fault_in fs ]

-- The cue that a record says: without ways for the number alone, else with one way.
unfoldable pub row_in : List (List ℕ) → Cue
row_in [] = record { number = 0; present = []; absent = [] }
row_in (c ∷ []) = record { number = decimal_value c; present = []; absent = [] }
row_in (c ∷ f ∷ fs) =
    record {
      number = decimal_value c;
      present = word_of false (faults_named (f ∷ fs)) ∷ [];
      absent = word_of true (faults_named (f ∷ fs)) ∷ [];
    }

-- A cue without ways is its only record.
unfoldable pub follows : Option Cue → Cue → Bool
follows None c = true
follows (Some b) c = not (eqb b.number c.number) || (ltb 0 (length b.present) && ltb 0 (length c.present))

-- ---- the whole text

-- The number of the first record that is of no way or does not follow the one before, 0 if there is none; they are numbered from k.
unfoldable pub misread_rows : ℕ → Option Cue → List (List (List ℕ)) → ℕ
misread_rows k before [] = 0
misread_rows k before (r ∷ rs) =
    elim (is_row r && follows before (row_in r)) as (λ x. ℕ) [ true ↦ misread_rows (suc k) (Some (row_in r)) rs | false ↦ k ]

-- From the second record on, which must be that of the weights.
unfoldable pub misread_weights : List (List (List ℕ)) → ℕ
misread_weights [] = 2
misread_weights (w ∷ rs) = elim (is_weights w) as (λ x. ℕ) [ true ↦ misread_rows 3 None rs | false ↦ 2 ]

-- From the first record on, which must be that of the run.
unfoldable pub misread_records : List (List (List ℕ)) → ℕ
misread_records [] = 1
misread_records (r ∷ rs) = elim (is_run r) as (λ x. ℕ) [ true ↦ misread_weights rs | false ↦ 1 ]

-- 0, or the number, from 1, of the first record that is missing, of the first two, or of no shape after those before it.
unfoldable pub misread : List ℕ → ℕ
misread t = misread_records (records_in t)

-- A cue in front of others: joined with the first of them if that has the same number.
unfoldable pub attach : Cue → List Cue → List Cue
attach c [] = c ∷ []
attach c (d ∷ ds) =
    elim (eqb c.number d.number) as (λ x. List Cue) [
      | true ↦ record { number = c.number; present = c.present ++ d.present; absent = c.absent ++ d.absent } ∷ ds
      | false ↦ c ∷ d ∷ ds
    ]

-- A cue begins where the number changes.
unfoldable pub grouped : List Cue → List Cue
grouped [] = []
grouped (c ∷ cs) = attach c (grouped cs)

-- The sheet that records say; its words and weights are of any size.
unfoldable pub sheet_said : List (List (List ℕ)) → Sheet
sheet_said rs = record { limits = limits_said (get_or rs 0 []); weights = weights_said (get_or rs 1 []); cues = grouped (map row_in (drop 2 rs)) }

-- The sheet that a text says.
unfoldable pub sheet_in : List ℕ → Sheet
sheet_in t = sheet_said (records_in t)
