-- The numbers that stand for each answer, the refinement that numbers ask for, and the version of them all.
-- What is told of an answer is the reply that `rules`, Answers, gives it, with a code for the verdict and a run's figure (docs/RULES.md, 8.4 to 8.9).
use Rattle.std.specs.Prelude.{Option, Some, None, Result, Ok, Err, true, false, List, [], ◌∷◌, ℕ, zero, suc, eqb, length, drop}
use Rattle.std.specs.declared.cmp.Ordering.{Ordering}
use Rattle.rules.specs.Table.{Table, table}
use Rattle.rules.specs.Sheet.{Cue, table_of, decode, read_number}
use Rattle.rules.specs.Answers.{Reply, verdict_number, answer_reply, run_reply, run_verdict, run_figure, read_reply, entry_reply, handed_over, write_reply}
use Rattle.rules.specs.declared.Kind.{Kind}
use Rattle.rules.specs.declared.Verdict.{Verdict}
use Rattle.rules.specs.declared.Ended.{Ended}
use Rattle.rules.specs.declared.Entry.{Entry}
use Rattle.rules.specs.declared.Figures.{Figures}
use Rattle.rules.specs.declared.Head.{Head}
use Rattle.rules.specs.declared.Refusal.{Refusal}
use Rattle.csv_text.specs.declared.ImportError.{ImportError}
use Rattle.captures.specs.declared.Fraction.{Fraction}
use Rattle.csv_text.specs.Calls.{import_reply}
use Rattle.captures.specs.Fractions.{number_told, fraction_told, weight_told, order_told}
use Rattle.sheet.specs.Handed.{sized}
use Rattle.cue_numbers.specs.declared.CueAnswer.{CueAnswer}
use Rattle.cue_numbers.specs.declared.CueSpot.{CueSpot}
use Rattle.cue_numbers.specs.declared.CueSheet.{CueSheet}
use Rattle.cue_numbers.specs.declared.CueEntry.{CueEntry}
use Rattle.cue_numbers.specs.declared.CueTable.{CueTable}
use Rattle.cue_numbers.specs.declared.CueFraction.{CueFraction}
use Rattle.cue_numbers.specs.declared.CueWeight.{CueWeight}
use Rattle.cue_numbers.specs.declared.CueOrder.{CueOrder}

-- The version: another one for every change of a struct or of a call, and for every new one. CUE_VERSION in include/cue_risk.h.
abbrev pub version : ℕ
version = 6

-- The refinement asked for (docs/RULES.md, 5.4): 0 is independence, 1 the fault named, 2 the common part. Any other number asks for fault 64, which no
-- accepted table has.
unfoldable pub kind_asked : ℕ → ℕ → Kind
kind_asked what fault =
    elim (eqb what 0) as (λ b. Kind) [
      | true ↦ Kind.IndependentOr
      | false ↦ elim (eqb what 1) as (λ b. Kind) [
        | true ↦ Kind.Shannon fault
        | false ↦ elim (eqb what 2) as (λ b. Kind) [ true ↦ Kind.IndependentAnd | false ↦ Kind.Shannon 64 ]
      ]
    ]

-- A verdict's code; 0 where there is none.
abbrev pub verdict_code : Option Verdict → ℕ
verdict_code None = 0
verdict_code (Some v) = verdict_number v

-- A reply, a verdict and a figure as numbers.
abbrev pub flat_with : Reply → Option Verdict → ℕ → CueAnswer
flat_with r v g = record { number = r.number; low = r.low; high = r.high; count = r.count; verdict = verdict_code v; figure = g }

-- A reply as numbers where there is neither verdict nor figure.
abbrev pub flat : Reply → CueAnswer
flat r = flat_with r None 0

-- The answer of an opening or a hand refinement.
abbrev pub flat_answer : Result Figures Refusal → CueAnswer
flat_answer a = flat (answer_reply a)

-- The answer of a run.
abbrev pub flat_run : Result Ended Refusal → CueAnswer
flat_run a = flat_with (run_reply a) (run_verdict a) (run_figure a)

-- The answer of the writer, of the report and of an export.
abbrev pub flat_write : Result ℕ Refusal → CueAnswer
flat_write a = flat (write_reply a)

-- The answer of an import.
abbrev pub flat_import : Result ℕ ImportError → CueAnswer
flat_import a = flat (import_reply a)

-- What the search of lent records finds.
abbrev pub flat_spot : Option ℕ → CueSpot
flat_spot (Some i) = record { found = 1; at = i }
flat_spot None = record { found = 0; at = 0 }

-- The head that reading a whole sheet hands over; refused, zeros.
abbrev pub head_handed : Result Head Refusal → Head
head_handed (Ok h) = h
head_handed (Err r) = record { faults = 0; cues = 0; limits = record { allowance = 0; budget = 0; mode = 0 } }

-- The answer of reading a whole sheet.
abbrev pub flat_sheet : Result Head Refusal → CueSheet
flat_sheet a =
    record {
      number = (read_reply a).number;
      faults = (head_handed a).faults;
      cues = (head_handed a).cues;
      allowance = (head_handed a).limits.allowance;
      budget = (head_handed a).limits.budget;
      mode = (head_handed a).limits.mode;
    }

-- Whether a reader's call was past the last cue.
abbrev pub past_code : Result (Option Entry) Refusal → ℕ
past_code (Ok (Some e)) = 0
past_code (Ok None) = 1
past_code (Err r) = 0

-- The answer of a reader's call.
abbrev pub flat_entry : Result (Option Entry) Refusal → CueEntry
flat_entry a =
    record {
      number = (entry_reply a).number;
      past = past_code a;
      cue = (handed_over a).cue;
      ways = (handed_over a).ways;
      start = (handed_over a).start;
    }

-- ---- logs and fractions (docs/RULES.md, 14)

-- The answer of a log, of several, and of a sum of fractions; refused, 0 of 0.
abbrev pub flat_fraction : Result Fraction Refusal → CueFraction
flat_fraction a = record { number = number_told a; discarded = (fraction_told a).discarded; judged = (fraction_told a).judged }

-- The answer of making a weight; refused, 0.
abbrev pub flat_weight : Result ℕ Refusal → CueWeight
flat_weight a = record { number = number_told a; weight = weight_told a }

-- The answer of a comparison; refused, 0.
abbrev pub flat_order : Result Ordering Refusal → CueOrder
flat_order a = record { number = number_told a; order = order_told a }

-- ---- a cue's table (docs/RULES.md, 7.13)

-- A table without faults and ways.
abbrev pub no_table : Table
no_table = table [] [] []

-- A table: how many weights and words there are, then the weights and the words, and zeros behind them.
abbrev pub flat_table : ℕ → ℕ → Table → CueTable
flat_table number past t =
    record {
      number = number;
      past = past;
      faults = length t.weights;
      ways = length t.present;
      weights = sized 64 t.weights;
      present = sized 128 t.present;
      absent = sized 128 t.absent;
    }

-- By the number of a sheet, its weights, and its cues from the position asked for on: the table of the first of them.
abbrev pub table_by : ℕ → List ℕ → List Cue → CueTable
table_by zero ws [] = flat_table 0 1 no_table
table_by zero ws (c ∷ cs) = flat_table 0 0 (table_of ws c)
table_by (suc n) ws cs = flat_table (suc n) 0 no_table

-- The answer of a call for the table of the cue at position i.
unfoldable pub flat_table_at : List ℕ → ℕ → CueTable
flat_table_at bs i = table_by (read_number bs) (decode bs).weights (drop i (decode bs).cues)
