-- `accept` meets its contract: lists that no test refuses have the number 0.
-- Rests on `rules`, Answering, and the contract of `check_table`.
use Rattle.std.proofs.Common.{rules, sym, ◌∙◌}
use Rattle.rules.specs.Refusals.{table_number}
use Rattle.rules.proofs.Answering.{first-accepted}
use Rattle.checks.proofs.accepted.Table.accept.Goals as goal

pub invariant_of-result : goal.invariant_of-result
unfolding table_number
invariant_of-result c = record { accepted = first-accepted _ tt c.in_ok-check_table.field-0 (sym c.check_table.ensures ∙ search rules) }
