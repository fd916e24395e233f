-- What the lists of a call are judged to be: lists that the writer accepts, or a refusal.
-- Rests on `rules`, Refusals.
use Rattle.std.specs.Prelude.{◌≡◌, List, Result, Ok, Err, IfOk}
use Rattle.rules.specs.Refusals.{Test, answered}
use Rattle.rules.specs.declared.Refusal.{Refusal}
use Rattle.writer.specs.declared.lists.Accepted.{Accepted}
use Rattle.writer.specs.declared.lists.Lists.{Lists}

-- Whether lists are accepted, whichever they are.
abbrev pub passed : Result Accepted Refusal → Result (Unit {0}) Refusal
passed (Ok x) = Ok tt
passed (Err r) = Err r

-- The lists that were handed in, or the first of the tests that applies to them.
pub record Judging (x : Lists) (tests : List Test) (r : Result Accepted Refusal) : Type 0 where
  pub same : IfOk r (λ a. a.lists ≡ x)
  pub answer : passed r ≡ answered tests tt
