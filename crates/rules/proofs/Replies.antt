-- What the answers of reading, of a reader's call and of the writer say in number, interval and count (RULES 8.4, 8.6), for every input.
-- Rests on the definitions of Answers.antt and Sheet.antt.
use mathlib.Core.Path.{◌≡◌, refl}
use mathlib.Core.List.{List}
use Prim.Native.Nat.{ℕ, zero, suc, ◌<◌}
use native.Mathlib.Omega.{arith}
use lib.ListN.{length}
use lib.Dec.{ltb}
use Rattle.rules.specs.Refusals.{Test, number, first, answered}
use Rattle.rules.specs.Answers.{counted_by, refused, read_reply, entry_reply, write_reply}
use Rattle.rules.specs.Sheet.{Lists, sheet_of, encode, read_number, head_in, read_refusals, read_answer, cues_in, entry_in, entry_if}
use Rattle.rules.specs.Sheet.{entry_answer, write_refusals, write_number, write_answer}
use Rattle.rules.specs.declared.Refusal.{Refusal}
use Rattle.rules.proofs.First.{number-above}
use Rattle.rules.proofs.Answering.{by-number}

-- Whatever a call would count, a refusal counts nothing.
pub refused-counts : (k : ℕ) (r : Refusal) → refused (number r) ≡ counted_by (number r) k
unfolding counted_by
refused-counts k r = by (number r) (number-above r)
  where
    by : (n : ℕ) → 0 < n → refused n ≡ counted_by n k
    by zero h = absurd (omega (arith, h))
    by (suc n) h = refl

-- Reading a whole sheet.
pub read-reply : (bs : List ℕ) → read_reply (read_answer bs) ≡ counted_by (read_number bs) 0
unfolding read_answer read_number counted_by
read-reply bs = by-number read_reply (λ n. counted_by n 0) (read_refusals bs) (head_in bs) refl (refused-counts 0)

-- A reader's call, at any position.
pub cue-reply : (bs : List ℕ) (i : ℕ) → entry_reply (entry_answer bs i) ≡ counted_by (read_number bs) 0
unfolding entry_answer read_number counted_by
cue-reply bs i =
    by-number entry_reply (λ n. counted_by n 0) (read_refusals bs) (entry_if (ltb i (cues_in bs)) (entry_in bs i)) refl (refused-counts 0)

-- The writer's answer by its tests; the report's goes by its own in the same way.
pub write-by : (xs : List Test) (k : ℕ) → write_reply (answered xs k) ≡ counted_by (first xs) k
unfolding counted_by
write-by xs k = by-number write_reply (λ n. counted_by n k) xs k refl (refused-counts k)

-- The writer.
pub write-reply : (x : Lists) (space : ℕ) → write_reply (write_answer x space) ≡ counted_by (write_number x space) (length (encode (sheet_of x)))
unfolding write_answer write_number
write-reply x space = write-by (write_refusals x space) (length (encode (sheet_of x)))
