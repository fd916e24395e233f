-- What the two calls promise, for any bytes and any space, whether they are refused or not.
-- Rests on Calls.antt and on `rules`, Answers.
use Rattle.std.specs.Prelude.{◌≡◌, Result, List, ℕ, length}
use Rattle.rules.specs.Rounding.{S}
use Rattle.rules.specs.Sheet.{encode, decode}
use Rattle.rules.specs.Answers.{Reply, counted_by, write_reply}
use Rattle.rules.specs.declared.Refusal.{Refusal}
use Rattle.csv_text.specs.declared.ImportError.{ImportError}
use Rattle.csv_text.specs.Shapes.{misread, sheet_in}
use Rattle.csv_text.specs.Texts.{csv_of}
use Rattle.csv_text.specs.Calls.{import_number, import_answer, import_reply, import_count, imported, export_number, export_answer, exported}

-- What an import tells: its number, and what that counts.
abbrev pub told : List ℕ → ℕ → Reply
told t n =
    record {
      number = import_number t n;
      low = 0;
      high = S;
      count = import_count (import_number t n) (length (encode (sheet_in t))) (misread t);
    }

-- Text t imported into a space: the answer, its number and count as the refusals have them, and what the space holds afterwards.
pub record Importing (t before after : List ℕ) (r : Result ℕ ImportError) : Type 0 where
  pub answer : r ≡ import_answer t (length before)
  pub reply : import_reply r ≡ told t (length before)
  pub space : after ≡ imported t before

-- The sheet in bytes bs exported into a space, likewise.
pub record Exporting (bs before after : List ℕ) (r : Result ℕ Refusal) : Type 0 where
  pub answer : r ≡ export_answer bs (length before)
  pub reply : write_reply r ≡ counted_by (export_number bs (length before)) (length (csv_of (decode bs)))
  pub space : after ≡ exported bs before
