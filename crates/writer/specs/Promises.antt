-- What a call of the writer promises, for any lists and any space, whether it is refused or not.
-- Rests on `rules`, Sheet and Answers.
use Rattle.std.specs.Prelude.{◌≡◌, List, ℕ, length, Result}
use Rattle.rules.specs.declared.Refusal.{Refusal}
use Rattle.rules.specs.Answers.{counted_by, write_reply}
use Rattle.rules.specs.Sheet.{Lists, sheet_of, encode, write_number, write_answer, written}

-- The answer, its number and count as the refusals have them, and what the space holds afterwards.
pub record Writing (x : Lists) (before after : List ℕ) (r : Result ℕ Refusal) : Type 0 where
  pub answer : r ≡ write_answer x (length before)
  pub reply : write_reply r ≡ counted_by (write_number x (length before)) (length (encode (sheet_of x)))
  pub space : after ≡ written x before
