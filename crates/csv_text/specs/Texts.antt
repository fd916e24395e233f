-- The text of a sheet: bare fields, faults rising, CR LF after every record (RULES 13.13).
-- Rests on `rules`, Sheet and Text.
use Rattle.std.specs.Prelude.{Bool, true, false, List, [], ◌∷◌, ◌++◌, map, ℕ, zero, suc, ◌/◌, length}
use Rattle.rules.specs.declared.Limits.{Limits}
use Rattle.rules.specs.Table.{odd}
use Rattle.rules.specs.Sheet.{Cue, Sheet}
use Rattle.rules.specs.Text.{bytes, decimal}
use Rattle.csv_text.specs.Shapes.{Fault}

-- ---- fields

-- A fault, counted from 1, with a minus if it is absent.
unfoldable pub fault_text : Fault → List ℕ
fault_text f = elim f.absent as (λ x. List ℕ) [ true ↦ 45 ∷ decimal (suc f.place) | false ↦ decimal (suc f.place) ]

-- A fault in front of others, if a test says so.
unfoldable pub mark : Bool → Fault → List Fault → List Fault
mark true f fs = f ∷ fs
mark false f fs = fs

-- The faults that two words name among n, the first of which is at place i; rising.
unfoldable pub faults_from : ℕ → ℕ → ℕ → ℕ → List Fault
faults_from i zero p q = []
faults_from i (suc n) p q =
    mark (odd p) (record { place = i; absent = false }) (mark (odd q) (record { place = i; absent = true }) (faults_from (suc i) n (p / 2) (q / 2)))

-- The fields of a way; `0` for the empty one.
unfoldable pub or_zero : List (List ℕ) → List (List ℕ)
or_zero [] = bytes "0" ∷ []
or_zero (f ∷ fs) = f ∷ fs

-- ---- records

-- A way of cue c among n faults: the cue, then the faults that its words name.
unfoldable pub way_record : ℕ → ℕ → ℕ → ℕ → List (List ℕ)
way_record n c p q = decimal c ∷ or_zero (map fault_text (faults_from 0 n p q))

-- The ways of a cue, one after the other.
unfoldable pub way_records : ℕ → ℕ → List ℕ → List ℕ → List (List (List ℕ))
way_records n c [] qs = []
way_records n c (p ∷ ps) [] = []
way_records n c (p ∷ ps) (q ∷ qs) = way_record n c p q ∷ way_records n c ps qs

-- A cue without ways is a record with its number alone.
unfoldable pub or_alone : ℕ → List (List (List ℕ)) → List (List (List ℕ))
or_alone c [] = (decimal c ∷ []) ∷ []
or_alone c (r ∷ rs) = r ∷ rs

-- The records of all cues, one cue after the other.
unfoldable pub cue_records : ℕ → List Cue → List (List (List ℕ))
cue_records n [] = []
cue_records n (c ∷ cs) = or_alone c.number (way_records n c.number c.present c.absent) ++ cue_records n cs

-- The mode, which is written where it is not 0.
unfoldable pub mode_fields : ℕ → List (List ℕ)
mode_fields zero = []
mode_fields (suc k) = decimal (suc k) ∷ []

-- The limits.
unfoldable pub run_record : Limits → List (List ℕ)
run_record m = bytes "run" ∷ decimal m.allowance ∷ decimal m.budget ∷ mode_fields m.mode

-- The weights.
unfoldable pub weights_record : List ℕ → List (List ℕ)
weights_record ws = bytes "weights" ∷ map decimal ws

-- The limits, the weights, and then the cues.
unfoldable pub sheet_records : Sheet → List (List (List ℕ))
sheet_records s = run_record s.limits ∷ weights_record s.weights ∷ cue_records (length s.weights) s.cues

-- ---- bytes

-- Fields behind another: a comma in front of each.
unfoldable pub further_fields : List (List ℕ) → List ℕ
further_fields [] = []
further_fields (f ∷ fs) = 44 ∷ f ++ further_fields fs

-- A record's bytes.
unfoldable pub record_text : List (List ℕ) → List ℕ
record_text [] = []
record_text (f ∷ fs) = f ++ further_fields fs

-- The bytes of records, CR LF after each.
unfoldable pub rendered : List (List (List ℕ)) → List ℕ
rendered [] = []
rendered (r ∷ rs) = record_text r ++ 13 ∷ 10 ∷ rendered rs

-- The text of a sheet.
unfoldable pub csv_of : Sheet → List ℕ
csv_of s = rendered (sheet_records s)
