-- What each case of each answer says: number, low, high and count (RULES 8.4, 8.6), and a run's verdict and figure.
-- Every contract speaks of its answer through these definitions.
use Rattle.std.specs.Prelude.{ℕ, zero, suc, Option, Some, None, Result, Ok, Err}
use Rattle.rules.specs.Rounding.{S}
use Rattle.rules.specs.declared.Verdict.{Verdict}
use Rattle.rules.specs.declared.Figures.{Figures}
use Rattle.rules.specs.declared.Ended.{Ended}
use Rattle.rules.specs.declared.Entry.{Entry}
use Rattle.rules.specs.declared.Head.{Head}
use Rattle.rules.specs.declared.Refusal.{Refusal}
use Rattle.rules.specs.Refusals.{number}

-- The number of a verdict (RULES 8.9).
abbrev pub verdict_number : Verdict → ℕ
verdict_number Verdict.Met = 1
verdict_number Verdict.Done = 2
verdict_number Verdict.Full = 3
verdict_number Verdict.Spent = 4

-- What every call hands back: the number (0 if accepted), an interval, and a count.
pub record Reply : Type 0 where
  pub number : ℕ
  pub low : ℕ
  pub high : ℕ
  pub count : ℕ

-- A refused call: nought to the full billion, count 0 and the number.
abbrev pub refused : ℕ → Reply
refused n = record { number = n; low = 0; high = S; count = 0 }

-- An accepted call on a tree.
abbrev pub accepted : Figures → Reply
accepted f = record { number = 0; low = f.low; high = f.high; count = f.count }

-- An accepted call on a sheet, which has no interval to tell: nought to the full billion says nothing.
abbrev pub counted : ℕ → Reply
counted n = record { number = 0; low = 0; high = S; count = n }

-- A call on a sheet by its number: refused, or accepted with the count k.
unfoldable pub counted_by : ℕ → ℕ → Reply
counted_by zero k = counted k
counted_by (suc n) k = refused (suc n)

-- An opening or a hand refinement.
abbrev pub answer_reply : Result Figures Refusal → Reply
answer_reply (Ok f) = accepted f
answer_reply (Err r) = refused (number r)

-- A run.
abbrev pub run_reply : Result Ended Refusal → Reply
run_reply (Ok e) = accepted e.figures
run_reply (Err r) = refused (number r)

-- A run's verdict; a refused run has none.
abbrev pub run_verdict : Result Ended Refusal → Option Verdict
run_verdict (Ok e) = Some e.verdict
run_verdict (Err r) = None

-- A run's figure; a refused run has 0.
abbrev pub run_figure : Result Ended Refusal → ℕ
run_figure (Ok e) = e.figure
run_figure (Err r) = 0

-- Reading a whole sheet: accepted, the count is 0.
abbrev pub read_reply : Result Head Refusal → Reply
read_reply (Ok h) = counted 0
read_reply (Err r) = refused (number r)

-- A reader's call: the number is 0 for a cue and past the last.
abbrev pub entry_reply : Result (Option Entry) Refusal → Reply
entry_reply (Ok o) = counted 0
entry_reply (Err r) = refused (number r)

-- The cue that a reader's call hands over: refused or past the last, cue 0 with 0 ways.
abbrev pub handed_over : Result (Option Entry) Refusal → Entry
handed_over (Ok (Some e)) = e
handed_over (Ok None) = record { cue = 0; ways = 0; start = 0 }
handed_over (Err r) = record { cue = 0; ways = 0; start = 0 }

-- The reader's place after a call at place i: one further for a cue, else kept.
abbrev pub place_after : ℕ → Result (Option Entry) Refusal → ℕ
place_after i (Ok (Some e)) = suc i
place_after i (Ok None) = i
place_after i (Err r) = i

-- The writer: the count is the bytes written.
abbrev pub write_reply : Result ℕ Refusal → Reply
write_reply (Ok n) = counted n
write_reply (Err r) = refused (number r)
