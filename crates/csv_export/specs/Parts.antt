-- The text of a sheet in the parts that are written one behind the other.
-- A word has 64 bits, so what it names of 64 faults is all that it names: in an accepted sheet, the faults of the sheet (proofs/Words.antt).
-- Rests on `csv_text`, Texts, and on `sheet`, Parts, for the ways of an entry.
use Rattle.std.specs.Prelude.{◌≡◌, bit_and, Bool, true, false, List, [], ◌∷◌, ◌++◌, map, ℕ}
use Rattle.std.specs.List.{flat_map}
use Rattle.rules.specs.Sheet.{limits_in, weights_in}
use Rattle.rules.specs.declared.Entry.{Entry}
use Rattle.sheet.specs.Parts.{words_in}
use Rattle.sheet.specs.Reading.{entries_in}
use Rattle.rules.specs.declared.Words.{Words}
use Rattle.csv_text.specs.Texts.{fault_text, faults_from, or_zero, way_records, or_alone, further_fields, run_record, weights_record, record_text, rendered}

-- A way names no fault in both senses.
abbrev pub Apart : Words → Type 0
Apart w = bit_and w.present w.absent ≡ 0

-- What stands behind the cue in the record of a way.
unfoldable pub faults_text : Words → List ℕ
faults_text w = further_fields (or_zero (map fault_text (faults_from 0 64 w.present w.absent)))

-- The record of a way behind the digits of its cue, with its end.
unfoldable pub way_text : List ℕ → Words → List ℕ
way_text d w = d ++ faults_text w ++ 13 ∷ 10 ∷ []

-- The ways of an entry, as they stand in the bytes of a sheet.
abbrev pub ways_of : List ℕ → Entry → List Words
ways_of bs e = words_in e.start e.ways bs

-- The records of a cue.
unfoldable pub cue_text : ℕ → List Words → List ℕ
cue_text c ws = rendered (or_alone c (way_records 64 c (map (λ w. w.present) ws) (map (λ w. w.absent) ws)))

-- Those of an entry.
abbrev pub entry_text : List ℕ → Entry → List ℕ
entry_text bs e = cue_text e.cue (ways_of bs e)

-- Those of all entries.
abbrev pub entries_text : List ℕ → List ℕ
entries_text bs = flat_map (entry_text bs) (entries_in bs)

-- A record with its end.
unfoldable pub ended : List (List ℕ) → List ℕ
ended r = record_text r ++ 13 ∷ 10 ∷ []

-- The whole.
abbrev pub sheet_text : List ℕ → List ℕ
sheet_text bs = ended (run_record (limits_in bs)) ++ ended (weights_record (weights_in bs)) ++ entries_text bs
