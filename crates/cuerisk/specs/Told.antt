-- What each call promises whose answer is told in numbers: the promise of the call that it stands for, whole, and the numbers of that very
-- answer. Rests on `cue_numbers`, Numbers, on Into.antt, on `dtree`, `csv_text` and `captures`, Promises, on `page`, Widest, and on `rules`, Sheet.
use Rattle.std.specs.Prelude.{◌≡◌, Result, List, ℕ, ◌<◌, length, take, get_or}
use Rattle.rules.specs.Answers.{counted_by}
use Rattle.rules.specs.Table.{Table, table}
use Rattle.rules.specs.Tree.{tree}
use Rattle.rules.specs.Refusals.{Accepted}
use Rattle.rules.specs.Calls.{open_answer, hand_answer, run_answer}
use Rattle.rules.specs.Sheet.{Cue, table_of, Lists, sheet_of, encode, cues_in, decode, read_number, read_answer, entry_answer, write_number, write_answer, written}
use Rattle.rules.specs.Text.{text}
use Rattle.rules.specs.declared.Kind.{Kind}
use Rattle.rules.specs.declared.Limits.{Limits}
use Rattle.rules.specs.declared.Ended.{Ended}
use Rattle.rules.specs.declared.Figures.{Figures}
use Rattle.rules.specs.declared.Refusal.{Refusal}
use Rattle.records.specs.Records.{history, bad}
use Rattle.records.specs.declared.Node.{Node}
use Rattle.records.specs.declared.Tree.{Tree}
use Rattle.dtree.specs.Promises.{Opening, Refining, Running}
use Rattle.page.specs.Widest.{widest_of, WidestLaw}
use Rattle.csv_text.specs.Calls.{import_answer, export_answer}
use Rattle.csv_text.specs.Promises.{Importing, Exporting}
use Rattle.captures.specs.declared.Fraction.{Fraction}
use Rattle.captures.specs.Fractions.{log_answer, logs_answer, total_answer, weight_answer, compare_answer}
use Rattle.captures.specs.Promises.{LogCounted, LogsCounted, Added, Weighed, Compared}
use Rattle.cue_numbers.specs.Numbers.{flat, flat_answer, flat_run, flat_write, flat_import, flat_spot, flat_sheet, flat_entry, flat_table_at}
use Rattle.cue_numbers.specs.Numbers.{flat_fraction, flat_weight, flat_order}
use Rattle.cuerisk.specs.Into.{report_number, report_answer, reported}
use Rattle.cue_numbers.specs.declared.CueAnswer.{CueAnswer}
use Rattle.cue_numbers.specs.declared.CueSpot.{CueSpot}
use Rattle.cue_numbers.specs.declared.CueSheet.{CueSheet}
use Rattle.cue_numbers.specs.declared.CueEntry.{CueEntry}
use Rattle.cue_numbers.specs.declared.CueTable.{CueTable}
use Rattle.cue_numbers.specs.declared.CueFraction.{CueFraction}
use Rattle.cue_numbers.specs.declared.CueWeight.{CueWeight}
use Rattle.cue_numbers.specs.declared.CueOrder.{CueOrder}

-- The answer of a hand refinement on any tree, 16 judged by the records.
abbrev pub refine_answer : Table → Tree → List ℕ → Kind → Result Figures Refusal
refine_answer t x bs k = hand_answer t (bad t x) (tree (history x)) bs k

-- The answer of a run on any tree.
abbrev pub run_on_answer : Table → Tree → Limits → Result Ended Refusal
run_on_answer t x m = run_answer t (bad t x) (tree (history x)) m

-- AN OPENING of any table: the tree after it, and the numbers handed back.
pub record OpeningTold (t : Table) (y : Tree) (r : CueAnswer) : Type 0 where
  pub numbers : r ≡ flat_answer (open_answer t)
  pub promise : Opening t y (open_answer t)

-- A HAND REFINEMENT on any table and any tree x.
pub record RefiningTold (t : Table) (x : Tree) (bs : List ℕ) (k : Kind) (y : Tree) (r : CueAnswer) : Type 0 where
  pub numbers : r ≡ flat_answer (refine_answer t x bs k)
  pub promise : Refining t x bs k y (refine_answer t x bs k)

-- A RUN on any table and any tree x.
pub record RunningTold (t : Table) (x : Tree) (m : Limits) (y : Tree) (r : CueAnswer) : Type 0 where
  pub numbers : r ≡ flat_run (run_on_answer t x m)
  pub promise : Running t x m y (run_on_answer t x m)

-- THE SEARCH of any records.
pub record SearchTold (xs : List Node) (r : CueSpot) : Type 0 where
  pub numbers : r ≡ flat_spot (widest_of xs)
  pub promise : WidestLaw xs (widest_of xs)

-- READING a whole sheet: the numbers, and which number it is.
pub record ReadingTold (bs : List ℕ) (r : CueSheet) : Type 0 where
  pub numbers : r ≡ flat_sheet (read_answer bs)
  pub number_is : r.number ≡ read_number bs

-- A READER'S CALL at any position.
pub record EntryTold (bs : List ℕ) (i : ℕ) (r : CueEntry) : Type 0 where
  pub numbers : r ≡ flat_entry (entry_answer bs i)
  pub number_is : r.number ≡ read_number bs

-- The table that an answer holds: the first `faults` of its weights, and the first `ways` of its words of each kind.
abbrev pub table_held : CueTable → Table
table_held r = table (take r.faults r.weights) (take r.ways r.present) (take r.ways r.absent)

-- A CALL FOR THE TABLE of the cue at any position.
pub record TableTold (bs : List ℕ) (i : ℕ) (r : CueTable) : Type 0 where
  pub numbers : r ≡ flat_table_at bs i
  pub number_is : r.number ≡ read_number bs
  -- Of an accepted sheet, before the end of its cues: the sheet's weights and the words of the i-th cue, whatever `get_or` would give behind the last.
  pub table_is : read_number bs ≡ 0 → i < cues_in bs → (d : Cue) → table_held r ≡ table_of (decode bs).weights (get_or (decode bs).cues i d)
  -- Every call on a tree accepts this table.
  pub accepted : read_number bs ≡ 0 → i < cues_in bs → Accepted (table_held r)

-- The lists that a call hands over.
abbrev pub lists : List ℕ → List ℕ → List ℕ → List ℕ → List ℕ → Limits → Lists
lists ws ns ks ps qs m = record { limits = m; weights = ws; numbers = ns; counts = ks; present = ps; absent = qs }

-- WRITING the sheet that lists give into a space: the numbers, the number and the bytes that they count, and the space afterwards.
pub record WritingTold (x : Lists) (before after : List ℕ) (r : CueAnswer) : Type 0 where
  pub numbers : r ≡ flat_write (write_answer x (length before))
  pub counts : r ≡ flat (counted_by (write_number x (length before)) (length (encode (sheet_of x))))
  pub space : after ≡ written x before

-- REPORTING on a sheet into a space.
pub record ReportingTold (bs before after : List ℕ) (r : CueAnswer) : Type 0 where
  pub numbers : r ≡ flat_write (report_answer bs (length before))
  pub counts : r ≡ flat (counted_by (report_number bs (length before)) (length (text bs)))
  pub space : after ≡ reported bs before

-- IMPORTING any text into a space.
pub record ImportingTold (t before after : List ℕ) (r : CueAnswer) : Type 0 where
  pub numbers : r ≡ flat_import (import_answer t (length before))
  pub promise : Importing t before after (import_answer t (length before))

-- EXPORTING a sheet into a space.
pub record ExportingTold (bs before after : List ℕ) (r : CueAnswer) : Type 0 where
  pub numbers : r ≡ flat_write (export_answer bs (length before))
  pub promise : Exporting bs before after (export_answer bs (length before))

-- COUNTING one log.
pub record LogTold (bs : List ℕ) (r : CueFraction) : Type 0 where
  pub numbers : r ≡ flat_fraction (log_answer bs)
  pub promise : LogCounted bs (log_answer bs)

-- COUNTING several logs.
pub record LogsTold (ls : List (List ℕ)) (r : CueFraction) : Type 0 where
  pub numbers : r ≡ flat_fraction (logs_answer ls)
  pub promise : LogsCounted ls (logs_answer ls)

-- ADDING fractions.
pub record AddingTold (xs : List Fraction) (r : CueFraction) : Type 0 where
  pub numbers : r ≡ flat_fraction (total_answer xs)
  pub promise : Added xs (total_answer xs)

-- MAKING A WEIGHT of a fraction.
pub record WeighingTold (x : Fraction) (r : CueWeight) : Type 0 where
  pub numbers : r ≡ flat_weight (weight_answer x)
  pub promise : Weighed x (weight_answer x)

-- COMPARING a fraction with another.
pub record ComparingTold (x y : Fraction) (r : CueOrder) : Type 0 where
  pub numbers : r ≡ flat_order (compare_answer x y)
  pub promise : Compared x y (compare_answer x y)
