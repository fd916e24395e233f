-- What a call says of its answer, and the numbers of that answer, are the promise told in numbers.
-- Rests on specs/Told.antt; a promise of `dtree`, `csv_text` or `captures` says itself which answer it is about.
use mathlib.Core.Path.{◌≡◌, refl, ap, subst, ◌∙◌}
use mathlib.Core.List.{List}
use Prim.Native.Nat.{ℕ, zero, suc}
use Rattle.std.specs.declared.cmp.Ordering.{Ordering}
use Rattle.std.specs.Prelude.{Result, Option}
use Rattle.rules.specs.Answers.{Reply, counted_by, read_reply, entry_reply}
use Rattle.rules.specs.Table.{Table}
use Rattle.rules.specs.Calls.{Outcome, handed, ran}
use Rattle.rules.specs.Sheet.{Lists, read_number, read_answer, entry_answer}
use Rattle.rules.specs.declared.Kind.{Kind}
use Rattle.rules.specs.declared.Limits.{Limits}
use Rattle.rules.specs.declared.Ended.{Ended}
use Rattle.rules.specs.declared.Entry.{Entry}
use Rattle.rules.specs.declared.Figures.{Figures}
use Rattle.rules.specs.declared.Head.{Head}
use Rattle.rules.specs.declared.Refusal.{Refusal}
use Rattle.records.specs.Library.{call_outcome}
use Rattle.records.specs.declared.Tree.{Tree}
use Rattle.dtree.specs.Promises.{Opening, Refining, Running}
use Rattle.writer.specs.Promises.{Writing}
use Rattle.csv_text.specs.declared.ImportError.{ImportError}
use Rattle.csv_text.specs.Promises.{Importing, Exporting}
use Rattle.captures.specs.declared.Fraction.{Fraction}
use Rattle.captures.specs.Promises.{LogCounted, LogsCounted, Added, Weighed, Compared}
use Rattle.cue_numbers.specs.Numbers.{flat, flat_answer, flat_run, flat_write, flat_import, flat_sheet, flat_entry}
use Rattle.cuerisk.specs.Told.{refine_answer, run_on_answer, OpeningTold, RefiningTold, RunningTold, ReadingTold, EntryTold, WritingTold}
use Rattle.cue_numbers.specs.Numbers.{flat_fraction, flat_weight, flat_order}
use Rattle.cuerisk.specs.Told.{ImportingTold, ExportingTold, LogTold, LogsTold, AddingTold, WeighingTold, ComparingTold}
use Rattle.cue_numbers.specs.declared.CueAnswer.{CueAnswer}
use Rattle.cue_numbers.specs.declared.CueSheet.{CueSheet}
use Rattle.cue_numbers.specs.declared.CueEntry.{CueEntry}
use Rattle.cue_numbers.specs.declared.CueFraction.{CueFraction}
use Rattle.cue_numbers.specs.declared.CueWeight.{CueWeight}
use Rattle.cue_numbers.specs.declared.CueOrder.{CueOrder}

-- The answer that an outcome is of.
abbrev answer_in : Outcome → Result Figures Refusal → Result Figures Refusal
answer_in (handed a) b = a
answer_in (ran a) b = b

-- And the run's answer.
abbrev run_answer_in : Outcome → Result Ended Refusal → Result Ended Refusal
run_answer_in (handed a) b = b
run_answer_in (ran a) b = a

-- An opening told in numbers.
pub opening-told : (t : Table) (y : Tree) (a : Result Figures Refusal) (r : CueAnswer) → Opening t y a → r ≡ flat_answer a → OpeningTold t y r
opening-told t y a r p e =
    record {
      numbers = e ∙ ap flat_answer p.answer_is;
      promise = subst (λ (b : Result Figures Refusal). Opening t y b) p.answer_is p;
    }

-- A hand refinement told in numbers.
pub refining-told : (t : Table) (x : Tree) (bs : List ℕ) (k : Kind) (y : Tree) (a : Result Figures Refusal) (r : CueAnswer) → Refining t x bs k y a → r ≡ flat_answer a
    → RefiningTold t x bs k y r
unfolding call_outcome
refining-told t x bs k y a r p e =
    record {
      numbers = e ∙ ap flat_answer same;
      promise = subst (λ (b : Result Figures Refusal). Refining t x bs k y b) same p;
    } where
      same : a ≡ refine_answer t x bs k
      same = ap (λ (o : Outcome). answer_in o a) p.call.outcome_is

-- A run told in numbers.
pub running-told : (t : Table) (x : Tree) (m : Limits) (y : Tree) (a : Result Ended Refusal) (r : CueAnswer) → Running t x m y a → r ≡ flat_run a → RunningTold t x m y r
unfolding call_outcome
running-told t x m y a r p e =
    record {
      numbers = e ∙ ap flat_run same;
      promise = subst (λ (b : Result Ended Refusal). Running t x m y b) same p;
    } where
      same : a ≡ run_on_answer t x m
      same = ap (λ (o : Outcome). run_answer_in o a) p.call.outcome_is

-- The number of a call on a sheet, in the reply that goes by it.
counted-number : (n k : ℕ) → (counted_by n k).number ≡ n
unfolding counted_by
counted-number zero k = refl
counted-number (suc n) k = refl

-- Reading a whole sheet told in numbers.
pub reading-told : (bs : List ℕ) (a : Result Head Refusal) (r : CueSheet) → a ≡ read_answer bs → read_reply a ≡ counted_by (read_number bs) 0
    → r ≡ flat_sheet a → ReadingTold bs r
reading-told bs a r p q e =
    record {
      numbers = e ∙ ap flat_sheet p;
      number_is = ap (λ (h : CueSheet). h.number) e ∙ ap (λ (x : Reply). x.number) q ∙ counted-number (read_number bs) 0;
    }

-- A reader's call told in numbers.
pub entry-told : (bs : List ℕ) (i : ℕ) (a : Result (Option Entry) Refusal) (r : CueEntry) → a ≡ entry_answer bs i → entry_reply a ≡ counted_by (read_number bs) 0
    → r ≡ flat_entry a → EntryTold bs i r
entry-told bs i a r p q e =
    record {
      numbers = e ∙ ap flat_entry p;
      number_is = ap (λ (h : CueEntry). h.number) e ∙ ap (λ (x : Reply). x.number) q ∙ counted-number (read_number bs) 0;
    }

-- Writing told in numbers.
pub writing-told : (x : Lists) (before : List ℕ) {after : List ℕ} {a : Result ℕ Refusal} {r : CueAnswer}
    → Writing x before after a → r ≡ flat_write a → WritingTold x before after r
writing-told x before p e =
    record { numbers = e ∙ ap flat_write p.answer; counts = e ∙ ap flat p.reply; space = p.space }

-- Importing told in numbers.
pub importing-told : (t before : List ℕ) {after : List ℕ} {a : Result ℕ ImportError} {r : CueAnswer}
    → Importing t before after a → r ≡ flat_import a → ImportingTold t before after r
importing-told t before {after} p e =
    record { numbers = e ∙ ap flat_import p.answer; promise = subst (Importing t before after) p.answer p }

-- Exporting told in numbers.
pub exporting-told : (bs before : List ℕ) {after : List ℕ} {a : Result ℕ Refusal} {r : CueAnswer}
    → Exporting bs before after a → r ≡ flat_write a → ExportingTold bs before after r
exporting-told bs before {after} p e =
    record { numbers = e ∙ ap flat_write p.answer; promise = subst (Exporting bs before after) p.answer p }

-- Counting one log told in numbers.
pub log-told : (bs : List ℕ) {a : Result Fraction Refusal} {r : CueFraction} → LogCounted bs a → r ≡ flat_fraction a → LogTold bs r
log-told bs p e = record { numbers = e ∙ ap flat_fraction p.answer; promise = subst (LogCounted bs) p.answer p }

-- Counting several.
pub logs-told : (ls : List (List ℕ)) {a : Result Fraction Refusal} {r : CueFraction} → LogsCounted ls a → r ≡ flat_fraction a → LogsTold ls r
logs-told ls p e = record { numbers = e ∙ ap flat_fraction p.answer; promise = subst (LogsCounted ls) p.answer p }

-- Adding fractions.
pub adding-told : (xs : List Fraction) {a : Result Fraction Refusal} {r : CueFraction} → Added xs a → r ≡ flat_fraction a → AddingTold xs r
adding-told xs p e = record { numbers = e ∙ ap flat_fraction p.answer; promise = subst (Added xs) p.answer p }

-- Making a weight.
pub weighing-told : (x : Fraction) {a : Result ℕ Refusal} {r : CueWeight} → Weighed x a → r ≡ flat_weight a → WeighingTold x r
weighing-told x p e = record { numbers = e ∙ ap flat_weight p.answer; promise = subst (Weighed x) p.answer p }

-- Comparing.
pub comparing-told : (x y : Fraction) {a : Result Ordering Refusal} {r : CueOrder} → Compared x y a → r ≡ flat_order a → ComparingTold x y r
comparing-told x y p e = record { numbers = e ∙ ap flat_order p.answer; promise = subst (Compared x y) p.answer p }

-- ---- for the check's tactics

-- Each answer told in numbers.
pub ruleset telling = (
  opening-told,
  reading-told,
  entry-told,
  writing-told,
  importing-told,
  exporting-told,
  log-told,
  logs-told,
  adding-told,
  weighing-told,
  comparing-told,
)
