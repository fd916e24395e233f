-- Import and export: their refusals in order, their answers, and what the lent space holds afterwards (RULES 13.11, 13.12, 13.14).
-- Rests on `rules`, Sheet, whose readings and writings they take over.
use Rattle.std.specs.Prelude.{Result, Ok, Err, true, false, List, [], ◌∷◌, ◌++◌, ℕ, zero, suc, length, eqb, ltb}
use Rattle.rules.specs.Rounding.{S}
use Rattle.rules.specs.Refusals.{Test, test, number, first, answered}
use Rattle.rules.specs.declared.Refusal.{Refusal}
use Rattle.rules.specs.Answers.{Reply, refused, counted}
use Rattle.rules.specs.Sheet.{Lists, lists_of, encode, decode, read_refusals, write_refusals, write_answer, written_by}
use Rattle.csv_text.specs.declared.ImportError.{ImportError}
use Rattle.csv_text.specs.Shapes.{misread, sheet_in}
use Rattle.csv_text.specs.Texts.{csv_of}

-- ---- import: where no record is misread, the writer's call on the lists that the text gives

-- The lists of the sheet that a text says.
unfoldable pub text_lists : List ℕ → Lists
text_lists t = lists_of (sheet_in t)

-- 23, then the writer's own: 2, (3 never), 5, 6, 10, 12 to 15, (21 never), 22.
unfoldable pub import_refusals : List ℕ → ℕ → List Test
import_refusals t n = test Refusal.Misread (ltb 0 (misread t)) ∷ write_refusals (text_lists t) n

-- The first of them that applies.
unfoldable pub import_number : List ℕ → ℕ → ℕ
import_number t n = first (import_refusals t n)

-- The writer's answer as the import's.
unfoldable pub taken_over : Result ℕ Refusal → Result ℕ ImportError
taken_over (Ok n) = Ok n
taken_over (Err r) = Err (ImportError.Refused r)

-- By the record that is misread: the writer's answer if there is none.
unfoldable pub import_answer_by : ℕ → Result ℕ Refusal → Result ℕ ImportError
import_answer_by zero a = taken_over a
import_answer_by (suc k) a = Err (ImportError.Misread (suc k))

-- The answer of an import.
unfoldable pub import_answer : List ℕ → ℕ → Result ℕ ImportError
import_answer t n = import_answer_by (misread t) (write_answer (text_lists t) n)

-- Only 23 has a count: the number of the record.
abbrev pub import_reply : Result ℕ ImportError → Reply
import_reply (Ok n) = counted n
import_reply (Err (ImportError.Misread k)) = record { number = number Refusal.Misread; low = 0; high = S; count = k }
import_reply (Err (ImportError.Refused r)) = refused (number r)

-- By the call's number: the bytes are counted if it is accepted, the record if it is 23, and else nothing.
unfoldable pub import_count : ℕ → ℕ → ℕ → ℕ
import_count zero written at = written
import_count (suc n) written at = elim (eqb n 22) as (λ x. ℕ) [ true ↦ at | false ↦ 0 ]

-- What the lent space holds afterwards.
unfoldable pub imported : List ℕ → List ℕ → List ℕ
imported t space = written_by (import_number t (length space)) (encode (sheet_in t)) space

-- ---- export

-- The sheet's own, then 22.
unfoldable pub export_refusals : List ℕ → ℕ → List Test
export_refusals bs n = read_refusals bs ++ test Refusal.NoRoom (ltb n (length (csv_of (decode bs)))) ∷ []

-- The first of them that applies.
unfoldable pub export_number : List ℕ → ℕ → ℕ
export_number bs n = first (export_refusals bs n)

-- The export's answer is that of the writer: the bytes written, or the number.
unfoldable pub export_answer : List ℕ → ℕ → Result ℕ Refusal
export_answer bs n = answered (export_refusals bs n) (length (csv_of (decode bs)))

-- What the lent space holds afterwards.
unfoldable pub exported : List ℕ → List ℕ → List ℕ
exported bs space = written_by (export_number bs (length space)) (csv_of (decode bs)) space
