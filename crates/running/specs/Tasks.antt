-- What limits are accepted as, and the allowance of an aim.
-- Rests on `rules`, Refusals.
use Rattle.std.specs.Prelude.{◌≡◌, ℕ, Result, Ok, Err, IfOk}
use Rattle.rules.specs.Refusals.{answered, limit_refusals}
use Rattle.rules.specs.declared.Limits.{Limits}
use Rattle.rules.specs.declared.Aim.{Aim}
use Rattle.rules.specs.declared.Refusal.{Refusal}
use Rattle.running.specs.declared.Task.{Task}

-- Whether limits are accepted, whichever they are.
abbrev pub passed : Result Task Refusal → Result (Unit {0}) Refusal
passed (Ok t) = Ok tt
passed (Err r) = Err r

-- Limits are accepted as the task that they set, or refused by the first of 14 and 15 that applies.
pub record Accepting (m : Limits) (r : Result Task Refusal) : Type 0 where
  pub same : IfOk r (λ t. t.limits ≡ m)
  pub answer : passed r ≡ answered (limit_refusals m) tt

-- The allowance of an aim, whichever it is.
abbrev pub allowance_of : Aim → ℕ
allowance_of (Aim.Distance e) = e
allowance_of (Aim.Share e) = e
