-- The figures of sheets as text (RULES 13): what imports tell and write, and what exports write, as one list with one claim about it.
-- The checker computes all of them from the definitions. They pin what the theorems leave open: which record is counted, which refusal comes first,
-- what is a shape. Rests on `rules`, Computing.antt and Paper.antt, whose sheet is the one printed in RULES 11.7.
use mathlib.Core.Path.{◌≡◌, refl}
use mathlib.Core.Bool.{Bool, true, ◌&&◌}
use mathlib.Core.List.{List, [], ◌∷◌, ◌++◌}
use Prim.Native.Nat.{ℕ, zero, suc}
use Prim.Native.String.{String}
use lib.ListN.{length, take, drop, replicate}
use lib.Dec.{eqb}
use Rattle.rules.specs.Refusals
use Rattle.rules.specs.Answers
use Rattle.rules.specs.Answers.{Reply, counted_by, write_reply}
use Rattle.rules.specs.Sheet
use Rattle.rules.specs.Sheet.{Cue, Sheet, encode, decode, same_numbers}
use Rattle.rules.specs.Text
use Rattle.rules.specs.Text.{bytes, decimal}
use Rattle.rules.proofs.Computing.{of-reading, of-writing}
use Rattle.rules.proofs.Paper.{show}
use Rattle.decimal.specs.Numerals
use Rattle.csv_text.specs.Cut
use Rattle.csv_text.specs.Shapes
use Rattle.csv_text.specs.Texts
use Rattle.csv_text.specs.Calls
use Rattle.csv_text.specs.Texts.{csv_of}
use Rattle.csv_text.specs.Calls.{import_reply, import_answer, imported, export_number, export_answer, exported}
use Rattle.csv_text.specs.Promises.{told}

-- ---- what the checker computes with

-- A text cut into records.
unfoldable of-cutting : Unit {0}
unfolding Cut.onto Cut.lines_in Cut.raw_fields Cut.quoted Cut.unquoted Cut.fields_in Cut.records_in
of-cutting = tt

-- What records say.
unfoldable of-shapes : Unit {0}
unfolding of-cutting Text.bytes Text.digits Text.decimal Text.value_after Text.decimal_value Sheet.same_numbers Numerals.is_numeral
    Shapes.all_numerals Shapes.is_mode Shapes.is_run Shapes.limits_said Shapes.is_weights Shapes.weights_said Shapes.signed Shapes.unsigned Shapes.is_fault
    Shapes.fault_in Shapes.all_faults Shapes.same_sense Shapes.among Shapes.repeats Shapes.word_of Shapes.is_empty_way Shapes.is_names Shapes.is_row
    Shapes.faults_named Shapes.row_in Shapes.follows Shapes.misread_rows Shapes.misread_weights Shapes.misread_records Shapes.misread Shapes.attach
    Shapes.grouped Shapes.sheet_said Shapes.sheet_in
of-shapes = tt

-- An import.
unfoldable of-import : Unit {0}
unfolding of-shapes of-writing Refusals.answered Sheet.write_answer Sheet.written_by Calls.text_lists Calls.import_refusals Calls.import_number
    Calls.taken_over Calls.import_answer_by Calls.import_answer Calls.import_count Calls.imported
of-import = tt

-- An export.
unfoldable of-export : Unit {0}
unfolding of-reading Answers.counted_by Text.bytes Text.digits Text.decimal Refusals.answered Sheet.written_by
    Texts.fault_text Texts.mark Texts.faults_from Texts.or_zero
    Texts.way_record Texts.way_records Texts.or_alone Texts.cue_records Texts.mode_fields Texts.run_record Texts.weights_record Texts.sheet_records
    Texts.further_fields Texts.record_text Texts.rendered Texts.csv_of Calls.export_refusals Calls.export_number Calls.export_answer Calls.exported
of-export = tt

-- ---- the form of a figure

-- A call: the import of a text, or the export of a sheet's bytes.
pub data CsvCall : Type 0 where
  importing : List ℕ → CsvCall
  exporting : List ℕ → CsvCall

-- A figure: a call, the length of the lent space, the number and the count that are told, and what the space holds afterwards.
record Figure : Type 0 where
  call : CsvCall
  space : ℕ
  number : ℕ
  count : ℕ
  held : List ℕ

-- A call that is taken and writes n bytes, these: it needs just as many.
abbrev taken : ℕ → CsvCall → List ℕ → Figure
taken n c out = record { call = c; space = n; number = 0; count = n; held = out }

-- A call that is refused with a number and leaves the space as it was.
abbrev refused_in : ℕ → ℕ → CsvCall → Figure
refused_in space n c = record { call = c; space = space; number = n; count = 0; held = replicate space 0 }

-- So with a space of three bytes.
abbrev refused_by : ℕ → CsvCall → Figure
refused_by n c = refused_in 3 n c

-- An import that is misread at record k.
abbrev misread_at : ℕ → CsvCall → Figure
misread_at k c = record { call = c; space = 3; number = 23; count = k; held = replicate 3 0 }

-- What is told with a space of n bytes, by the answer.
abbrev by_answer : CsvCall → ℕ → Reply
by_answer (importing t) n = import_reply (import_answer t n)
by_answer (exporting bs) n = write_reply (export_answer bs n)

-- By the refusals in their order.
abbrev by_refusals : CsvCall → ℕ → Reply
by_refusals (importing t) n = told t n
by_refusals (exporting bs) n = counted_by (export_number bs n) (length (csv_of (decode bs)))

-- A space of n zeros afterwards.
abbrev left : CsvCall → ℕ → List ℕ
left (importing t) n = imported t (replicate n 0)
left (exporting bs) n = exported bs (replicate n 0)

-- A reply has the number and the count of a figure.
abbrev tells : Figure → Reply → Bool
tells f r = eqb r.number f.number && eqb r.count f.count

-- The call tells and writes what the figure says.
abbrev holds : Figure → Bool
holds f =
    tells f (by_answer f.call f.space)
    && (tells f (by_refusals f.call f.space) && same_numbers (left f.call f.space) f.held)

-- So for every figure.
abbrev all_hold : List Figure → Bool
all_hold [] = true
all_hold (f ∷ fs) = holds f && all_hold fs

-- ---- texts and sheets

-- The import of a quoted text.
abbrev quote : String → CsvCall
quote s = importing (bytes s)

-- A run, one weight, and then this.
abbrev after : List ℕ → CsvCall
after t = importing (bytes "run,1,2\r\nweights,5\r\n" ++ t)

-- So with a quoted text behind.
abbrev one : String → CsvCall
one s = after (bytes s)

-- Records of the cues from n on, k of them, each with its number alone.
abbrev lines_up : ℕ → ℕ → List ℕ
lines_up n zero = []
lines_up n (suc k) = decimal n ++ bytes "\r\n" ++ lines_up (suc n) k

-- k records of cue 7.
abbrev sevens : ℕ → List ℕ
sevens zero = []
sevens (suc k) = bytes "7,1\r\n" ++ sevens k

-- A sheet with the limits 1 and 2, in a mode.
abbrev in_mode : ℕ → List ℕ → List Cue → Sheet
in_mode m ws cs = record { limits = record { allowance = 1; budget = 2; mode = m }; weights = ws; cues = cs }

-- By a distance.
abbrev plain : List ℕ → List Cue → Sheet
plain ws cs = in_mode 0 ws cs

-- A cue.
abbrev cue : ℕ → List ℕ → List ℕ → Cue
cue n ps qs = record { number = n; present = ps; absent = qs }

-- The cues from n on, k of them, without ways.
abbrev cues_up : ℕ → ℕ → List Cue
cues_up n zero = []
cues_up n (suc k) = cue n [] [] ∷ cues_up (suc n) k

-- The bytes of such a sheet of one weight, 5, and one cue.
abbrev small : Cue → List ℕ
small c = encode (plain (5 ∷ []) (c ∷ []))

-- The text of the sheet of RULES 11.7.
abbrev printed : List ℕ
printed = bytes "run,10000000,40\r\nweights,500000000,500000000,200000000\r\n7,1,2\r\n7,1,3\r\n9\r\n"

-- The text of a sheet of three weights and one cue of two ways, with these limits in front.
abbrev limited : String → List ℕ
limited run = bytes run ++ bytes "\r\nweights,500000000,500000000,200000000\r\n7,1,2\r\n7,1,3\r\n"

-- The head of such a sheet, of allowance 76923077 and budget 255, by the two bytes of its mode.
abbrev headed : ℕ → ℕ → List ℕ
headed low high = 0x03 ∷ 0x00 ∷ 0x01 ∷ 0x00 ∷ 0xC5 ∷ 0xC0 ∷ 0x95 ∷ 0x04 ∷ 0xFF ∷ 0x00 ∷ low ∷ high ∷ []

-- The whole sheet: behind the head it is the sheet of RULES 11.7 without its second cue.
abbrev whole : ℕ → ℕ → List ℕ
whole low high = headed low high ++ drop 12 (encode (record { limits = (show 40).limits; weights = (show 40).weights; cues = take 1 (show 40).cues }))

-- A run, and behind it one weight and a cue.
abbrev run : String → CsvCall
run s = importing (bytes s ++ bytes "\r\nweights,5\r\n7\r\n")

-- The bytes of that sheet by share.
abbrev by_share : List ℕ
by_share = encode (in_mode 1 (5 ∷ []) (cue 7 [] [] ∷ []))

-- ---- the figures

-- Each is a call with what it is to tell and to write.
abbrev figures : List Figure
figures =
    -- The sheet of RULES 11.7: 72 bytes, 73 as text; with one byte less it is 22.
    taken 72 (importing printed) (encode (show 40))
    ∷ refused_in 71 22 (importing printed)
    ∷ taken 73 (exporting (encode (show 40))) printed
    ∷ refused_in 72 22 (exporting (encode (show 40)))
    -- Every field quoted, no CR LF at the end.
    ∷ taken 40 (quote "\"run\",\"1\",\"2\"\r\n\"weights\",\"5\"\r\n\"7\",\"-1\"") (small (cue 7 (0 ∷ []) (1 ∷ [])))
    -- By share: `1` behind the two numbers, bare or quoted, and mode 1 in the head; by distance neither.
    ∷ taken 64 (importing (limited "run,76923077,255,1")) (whole 1 0)
    ∷ taken 73 (exporting (whole 1 0)) (limited "run,76923077,255,1")
    ∷ refused_in 72 22 (exporting (whole 1 0))
    ∷ taken 64 (importing (limited "run,76923077,255")) (whole 0 0)
    ∷ taken 71 (exporting (whole 0 0)) (limited "run,76923077,255")
    ∷ refused_by 3 (exporting (whole 2 0))
    ∷ refused_by 3 (exporting (whole 0 1))
    ∷ refused_by 3 (exporting (whole 255 255))
    ∷ taken 24 (run "run,1,2,1") by_share
    ∷ taken 24 (run "run,1,2,\"1\"") by_share
    ∷ taken 24 (run "\"run\",\"1\",\"2\",\"1\"") by_share
    -- Nothing else may stand there, and nothing behind it.
    ∷ misread_at 1 (run "run,1,2,0")
    ∷ misread_at 1 (run "run,1,2,\"0\"")
    ∷ misread_at 1 (run "run,1,2,2")
    ∷ misread_at 1 (run "run,1,2,01")
    ∷ misread_at 1 (run "run,1,2,11")
    ∷ misread_at 1 (run "run,1,2,-1")
    ∷ misread_at 1 (run "run,1,2,")
    ∷ misread_at 1 (run "run,1,2,\"\"")
    ∷ misread_at 1 (run "run,1,2,1,1")
    ∷ misread_at 1 (run "run,1,2,1,")
    ∷ misread_at 1 (run "run,1,,1")
    -- No record of a cue is 2; so are no weights.
    ∷ refused_by 2 (one "")
    ∷ refused_by 2 (quote "run,1,2\r\nweights\r\n")
    ∷ refused_by 2 (quote "run,1,2\r\nweights\r\n7\r\n")
    -- The cue alone: no ways. With `0`: the empty way. A minus before 0, and 0 among others, are of no shape.
    ∷ taken 24 (one "7\r\n") (small (cue 7 [] []))
    ∷ taken 24 (one "7") (small (cue 7 [] []))
    ∷ taken 40 (one "7,0\r\n") (small (cue 7 (0 ∷ []) (0 ∷ [])))
    ∷ misread_at 3 (one "7,-0\r\n")
    ∷ misread_at 3 (one "7,0,1\r\n")
    ∷ misread_at 3 (one "7,1,0\r\n")
    ∷ misread_at 3 (one "7,0,0\r\n")
    -- An empty line is a record with one empty field, also the last one.
    ∷ misread_at 4 (one "7\r\n\r\n")
    ∷ misread_at 3 (one "\r\n7\r\n")
    ∷ misread_at 3 (one "7,\r\n")
    -- A cue without ways is its only record; a number that comes again later is 5. Ways of one cue stand together.
    ∷ misread_at 4 (one "7\r\n7,1\r\n")
    ∷ misread_at 4 (one "7,1\r\n7\r\n")
    ∷ misread_at 4 (one "7\r\n7\r\n")
    ∷ refused_by 5 (one "7\r\n8\r\n7,1\r\n")
    ∷ refused_by 5 (one "8,1\r\n7,1\r\n")
    ∷ taken 80 (one "7,1\r\n7,-1\r\n8,0\r\n") (encode (plain (5 ∷ []) (cue 7 (1 ∷ 0 ∷ []) (0 ∷ 1 ∷ []) ∷ cue 8 (0 ∷ []) (0 ∷ []) ∷ [])))
    -- Cue 0 is a number and so 5; 65535 is the last.
    ∷ refused_by 5 (one "0,1\r\n")
    ∷ taken 40 (one "65535,1\r\n") (small (cue 65535 (1 ∷ []) (0 ∷ [])))
    ∷ misread_at 3 (one "65536,1\r\n")
    -- A fault twice in the same sense is 23 whatever the weights are, in both senses it is 12 or 13.
    ∷ misread_at 3 (one "7,1,1\r\n")
    ∷ misread_at 3 (one "7,-1,-1\r\n")
    ∷ misread_at 3 (one "7,100,100\r\n")
    ∷ refused_by 12 (one "7,100,-100\r\n")
    ∷ refused_by 12 (one "7,1,65\r\n")
    ∷ refused_by 13 (one "7,1,-1\r\n")
    -- Numbers: ten digits at most, no plus, no leading zero, no blank.
    ∷ refused_by 14 (run "run,9999999999,2")
    ∷ refused_by 14 (run "run,9999999999,2,1")
    ∷ misread_at 1 (run "run,10000000000,2")
    ∷ refused_by 15 (run "run,1,256")
    ∷ refused_by 15 (run "run,1,256,1")
    ∷ refused_by 10 (quote "run,1,2\r\nweights,1000000001\r\n7,2\r\n")
    ∷ misread_at 1 (run "run,01,2")
    ∷ misread_at 1 (run "run,+1,2")
    ∷ misread_at 1 (run "run, 1,2")
    ∷ misread_at 1 (run "run,-1,2")
    ∷ misread_at 1 (run "run,,2")
    -- The first two records: their words, the number of fields, the end of a line.
    ∷ misread_at 1 (quote "")
    ∷ misread_at 2 (quote "run,1,2")
    ∷ misread_at 2 (quote "run,1,2\r\n7,1\r\n")
    ∷ misread_at 2 (quote "run,1,2\r\n\r\nweights,5\r\n7\r\n")
    ∷ misread_at 1 (quote "weights,5\r\nrun,1,2\r\n7\r\n")
    ∷ misread_at 1 (quote "Run,1,2\r\nweights,5\r\n7\r\n")
    ∷ misread_at 1 (run "run,1")
    ∷ misread_at 1 (quote "run,1,2\nweights,5\n7\n")
    ∷ misread_at 1 (importing (239 ∷ 187 ∷ 191 ∷ bytes "run,1,2\r\nweights,5\r\n7\r\n"))
    ∷ misread_at 3 (one "7\n")
    ∷ misread_at 3 (one "7\r")
    -- Quotes: doubled ones, a line end between them, a stray one.
    ∷ misread_at 3 (one "7,\"\"1\"\"\r\n")
    ∷ misread_at 3 (one "\"7\r\n8\"\r\n")
    ∷ misread_at 3 (one "7,\"1,2\"\r\n")
    ∷ misread_at 3 (one "7,\"12\r\n")
    ∷ misread_at 3 (one "7,1\"\r\n")
    -- The first record that is amiss is told, of several, and before any other refusal.
    ∷ misread_at 3 (one "x\r\n7,1,1\r\n")
    ∷ misread_at 4 (one "0,1\r\n7,1,1\r\n")
    ∷ misread_at 3 (quote "run,9999999999,256\r\nweights\r\n7,x\r\n")
    -- 24 cues are taken, 25 are 2; a 26th record that is of no shape is 23 all the same. 128 ways of a cue are taken, 129 are 6.
    ∷ taken 208 (after (lines_up 1 24)) (encode (plain (5 ∷ []) (cues_up 1 24)))
    ∷ refused_by 2 (after (lines_up 1 25))
    ∷ misread_at 28 (after (lines_up 1 25 ++ bytes "26,x"))
    ∷ taken 2072 (after (sevens 128)) (small (cue 7 (replicate 128 1) (replicate 128 0)))
    ∷ refused_by 6 (after (sevens 129))
    -- Faults in any order are read; export has them rising, and a cue without ways by its number alone.
    ∷ taken 48 (quote "run,1,2\r\nweights,5,5,5\r\n7,3,-1") (encode (plain (5 ∷ 5 ∷ 5 ∷ []) (cue 7 (4 ∷ []) (1 ∷ []) ∷ [])))
    ∷ taken 32 (exporting (encode (plain (5 ∷ 5 ∷ 5 ∷ []) (cue 7 (4 ∷ []) (1 ∷ []) ∷ [])))) (bytes "run,1,2\r\nweights,5,5,5\r\n7,-1,3\r\n")
    ∷ taken 25 (exporting (small (cue 7 (0 ∷ []) (0 ∷ [])))) (bytes "run,1,2\r\nweights,5\r\n7,0\r\n")
    ∷ taken 23 (exporting (small (cue 7 [] []))) (bytes "run,1,2\r\nweights,5\r\n7\r\n")
    -- Export refuses with the reader's own numbers.
    ∷ refused_by 1 (exporting [])
    ∷ refused_by 13 (exporting (small (cue 7 (1 ∷ []) (1 ∷ []))))
    ∷ []

-- ALL OF THEM HOLD.
pub text-figures : all_hold figures ≡ true
unfolding of-import of-export
text-figures = refl
