-- What an accepted export counts lies in the space that was lent.
-- Rests on `csv_text`, Promises and Exports.
use Rattle.std.proofs.Common.{◌≡◌, ◌≤◌, ℕ, zero, suc, List, length, take, Result, Ok, refl, sym, ap, ◌∙◌, arith}
use lib.ListN.{length-take, replicate, length-replicate}
use Rattle.rules.specs.Sheet.{decode}
use Rattle.rules.specs.Answers.{Reply, counted, counted_by, write_reply}
use Rattle.rules.specs.declared.Refusal.{Refusal}
use Rattle.csv_text.specs.Texts.{csv_of}
use Rattle.csv_text.specs.Calls.{export_number}
use Rattle.csv_text.specs.Promises.{Exporting}
use Rattle.csv_text.proofs.Exports.{export-put}

-- An array of so many zeros has that length, at any length.
pub zeros : (n : ℕ) → n ≡ length {A = ℕ} (replicate n 0)
zeros n = sym (length-replicate n 0)

-- A reply that counts is not a refusal's, and counts what the call does.
counts : (number k n : ℕ) → counted n ≡ counted_by number k → (number ≡ 0) × (n ≡ k)
unfolding counted_by
counts zero k n e = (refl, ap (λ (r : Reply). r.count) e)
counts (suc number) k n e = absurd (omega (arith, ap (λ (r : Reply). r.number) e))

-- The bytes that are counted lie in the space.
pub export-fits : (bs before after : List ℕ) (r : Result ℕ Refusal) (n : ℕ) → Exporting bs before after r → r ≡ Ok n → n ≤ length after
export-fits bs before after r n p e =
    let told = counts (export_number bs (length before)) (length (csv_of (decode bs))) n (sym (ap write_reply e) ∙ p.reply) in
    let front : take (length (csv_of (decode bs))) after ≡ csv_of (decode bs) =
    rw p.space (export-put bs before told.0).front in
    let long = length-take (length (csv_of (decode bs))) after in
    omega (arith, told.1, long, ap length front)
