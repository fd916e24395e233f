-- `check_lists` meets its contract: lists that no test refuses are short.
-- Rests on Accepted.antt and on the contracts of the groups of tests.
use Rattle.std.proofs.Common.{◌≡◌, arith}
use Rattle.std.proofs.lemmas.Grind.{common_steps}
use Rattle.rules.specs.Refusals.{first, answered, way_refusals, limit_refusals}
use Rattle.rules.specs.Sheet.{lists_refusals}
use Rattle.writer.specs.Given.{given, front_refusals}
use Rattle.writer.proofs.Accepted.{short}
use Rattle.writer.proofs.lists.Lists.check_lists.Goals as goal

pub invariant_of-result : goal.invariant_of-result
unfolding answered first lists_refusals way_refusals limit_refusals front_refusals
invariant_of-result c =
    let none : first (lists_refusals (given c.args.self)) ≡ 0 = grind (arith, common_steps) in
    record { short = short (given c.args.self) none }
