-- The table of the rules that an accepted table's lists make.
-- Rests on `rules`, Table.
use Rattle.std.specs.Prelude.{◌≡◌, List, ℕ, Result, Ok, Err, IfOk}
use Rattle.rules.specs.Refusals.{answered, table_refusals}
use Rattle.rules.specs.declared.Refusal.{Refusal}
use Rattle.rules.specs.Table.{table}
use Rattle.rules.specs.Table as rules
use Rattle.checks.specs.declared.accepted.Table.{Table}

-- The table of the rules.
abbrev pub table_of : Table → rules.Table
table_of t = table t.weights.now t.present.now t.absent.now

-- Whether a table is accepted, whichever it is.
abbrev pub passed : Result Table Refusal → Result (Unit {0}) Refusal
passed (Ok t) = Ok tt
passed (Err r) = Err r

-- What lists are accepted as: the table that they make, or the first of 9 to 13 that applies to it.
pub record Accepting (ws ps qs : List ℕ) (r : Result Table Refusal) : Type 0 where
  pub same : IfOk r (λ t. table_of t ≡ table ws ps qs)
  pub answer : passed r ≡ answered (table_refusals (table ws ps qs)) tt
