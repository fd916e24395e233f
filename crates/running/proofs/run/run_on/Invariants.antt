-- `run_on` meets its contract. The loop: what was made, with what the rules make of the rest of the budget, is the whole run.
-- Rests on Deciding.antt and Going.antt and on the contracts of `decide` and `refine_by_rule`.
use Prim.Native.Nat.{◌-◌}
use Rattle.rules.specs.Run.{aim_of}
use Rattle.records.specs.Records.{history}
use Rattle.checks.specs.Tables.{table_of}
use Rattle.running.proofs.Going.{Going}
use Rattle.running.proofs.run.run_on.Given as goal

abbrev pub invariant-loop-verdict : goal.invariant-loop-verdict
invariant-loop-verdict l =
    Going (table_of l.table) (history l.initial.tree) (aim_of l.task.limits) l.task.limits.budget l.tree l.made

abbrev pub decreases-loop-verdict : goal.decreases-loop-verdict
decreases-loop-verdict l = l.task.limits.budget - l.made
