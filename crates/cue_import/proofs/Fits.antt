-- What an accepted import counts lies in the space that was lent.
-- Rests on `csv_text`, Promises and Imports.
use Rattle.std.proofs.Common.{◌≡◌, ◌≤◌, ℕ, List, length, take, Result, Ok, sym, ap, ◌∙◌, arith}
use lib.ListN.{length-take, replicate, length-replicate}
use Rattle.rules.specs.Sheet.{encode}
use Rattle.rules.specs.Answers.{Reply}
use Rattle.csv_text.specs.declared.ImportError.{ImportError}
use Rattle.csv_text.specs.Shapes.{misread, sheet_in}
use Rattle.csv_text.specs.Calls.{import_number, import_reply, import_count}
use Rattle.csv_text.specs.Promises.{Importing}
use Rattle.csv_text.proofs.Imports.{import-put}

-- An array of so many zeros has that length, at any length.
pub zeros : (n : ℕ) → n ≡ length {A = ℕ} (replicate n 0)
zeros n = sym (length-replicate n 0)

-- The bytes that are counted lie in the space.
pub import-fits : (t before after : List ℕ) (r : Result ℕ ImportError) (n : ℕ) → Importing t before after r → r ≡ Ok n → n ≤ length after
unfolding import_count
import-fits t before after r n p e =
    let reply = sym (ap import_reply e) ∙ p.reply in
    let taken : import_number t (length before) ≡ 0 = sym (ap (λ (x : Reply). x.number) reply) in
    let sheet = encode (sheet_in t) in
    let count : n ≡ length sheet = ap (λ (x : Reply). x.count) reply ∙ ap (λ (k : ℕ). import_count k (length sheet) (misread t)) taken in
    let front : take (length sheet) after ≡ sheet = rw p.space (import-put t before taken).front in
    let long = length-take (length sheet) after in
    omega (arith, count, long, ap length front)
