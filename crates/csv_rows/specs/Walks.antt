-- What the steps of a walk over the faults of a way tell.
-- Rests on `csv_text`, Shapes.
-- Faults at places below 64 are near: they have a bit in the words of a sheet. A far one has none.
use Rattle.std.specs.Prelude.{Bool, true, false, not, ◌&&◌, ◌||◌, if◌then◌else◌, List, [], ◌∷◌, map, ℕ, ◌^◌, ltb}
use Rattle.std.specs.Int.Bits.{bit_or}
use Rattle.rules.specs.Table.{bit}
use Rattle.csv_text.specs.declared.Fault.{Fault}
use Rattle.csv_text.specs.Shapes.{fault_in, all_faults, among, repeats, word_of}
use Rattle.rules.specs.declared.Words.{Words}
use Rattle.csv_rows.specs.declared.Named.{Named}
use Rattle.csv_rows.specs.declared.Named.TheVariants.{Near, Far}
use Rattle.csv_rows.specs.declared.ways.Seen.{Seen}

-- The word of a sense.
abbrev pub word_for : Bool → Words → ℕ
word_for true w = w.absent
word_for false w = w.present

-- The fault is among the near ones so far.
unfoldable pub holds : Seen → Fault → Bool
holds s f = bit f.place (word_for f.absent s.words)

-- A bit more in the word of a sense.
unfoldable pub with_bit : Bool → ℕ → Words → Words
with_bit true m w = record { present = w.present; absent = bit_or w.absent m }
with_bit false m w = record { present = bit_or w.present m; absent = w.absent }

-- One fault more.
unfoldable pub with_fault : Seen → Fault → Seen
with_fault s f =
    if ltb f.place 64 then record { words = with_bit f.absent (2 ^ f.place) s.words; far = s.far }
    else record { words = s.words; far = true }

-- A near fault is looked for among those so far, a far one among those behind it.
unfoldable pub twice : Seen → Fault → List Fault → Bool
twice s f fs = if ltb f.place 64 then holds s f else among f fs

-- Some near fault of those to come is among those so far.
unfoldable pub clash : Seen → List Fault → Bool
clash s [] = false
clash s (f ∷ fs) = (ltb f.place 64 && holds s f) || clash s fs

-- Some fault is far.
unfoldable pub some_far : List Fault → Bool
some_far [] = false
some_far (f ∷ fs) = not (ltb f.place 64) || some_far fs

-- The fields are faults, none of them twice in the same sense.
abbrev pub apart : List (List ℕ) → Bool
apart fs = all_faults fs && not (repeats (map fault_in fs))

-- The faults so far as they are handed over.
abbrev pub named : Seen → Named
named s = if s.far then Far else Near s.words

-- Faults by their words, unless one is far.
unfoldable pub named_in : List Fault → Named
named_in fs = if some_far fs then Far else Near (record { present = word_of false fs; absent = word_of true fs })
