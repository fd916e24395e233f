-- The text of a line, and that of the lines of a sheet's entries.
-- Rests on `rules`, Text, for numbers and words as text, and on `sheet`, Handed, for the table of an entry.
use Rattle.std.specs.Prelude.{Result, Ok, Err, false, List, [], ◌∷◌, ◌++◌, ℕ}
use Rattle.rules.specs.Calls.{run_answer}
use Rattle.rules.specs.Refusals.{number}
use Rattle.rules.specs.Text.{bytes, decimal, word}
use Rattle.rules.specs.Tree.{leaf}
use Rattle.rules.specs.declared.Ended.{Ended}
use Rattle.rules.specs.declared.Entry.{Entry}
use Rattle.rules.specs.declared.Figures.{Figures}
use Rattle.rules.specs.declared.Limits.{Limits}
use Rattle.rules.specs.declared.Refusal.{Refusal}
use Rattle.rules.specs.declared.Verdict.{Verdict}
use Rattle.sheet.specs.Handed.{table_at}

-- The line of a refusal.
unfoldable pub refused_text : ℕ → List ℕ
refused_text n = bytes "refused " ++ decimal n ++ bytes "\n"

-- The line of a run that ended: the cue's number, low, high, refinements made, verdict.
unfoldable pub ended_text : ℕ → Verdict → Figures → List ℕ
ended_text n v f =
    decimal n
    ++ bytes " "
    ++ decimal f.low
    ++ bytes " "
    ++ decimal f.high
    ++ bytes " "
    ++ decimal f.count
    ++ bytes " "
    ++ word v
    ++ bytes "\n"

-- A cue's number with a run's answer; its figure is not printed.
unfoldable pub answer_text : ℕ → Result Ended Refusal → List ℕ
answer_text n (Ok e) = ended_text n e.verdict e.figures
answer_text n (Err r) = refused_text (number r)

-- The line of an entry of the bytes: its cue's number, and what one run on its table answers.
abbrev pub entry_text : Limits → List ℕ → Entry → List ℕ
entry_text m bs e = answer_text e.cue (run_answer (table_at bs e) false leaf m)

-- The lines of entries, one behind the other.
unfoldable pub entries_text : Limits → List ℕ → List Entry → List ℕ
entries_text m bs [] = []
entries_text m bs (e ∷ es) = entry_text m bs e ++ entries_text m bs es
