-- `read` meets its contract: bytes that no test refuses have the number 0.
-- Rests on `rules`, Answering, and on the contracts of the three checks.
use Rattle.std.proofs.Common.{◌≡◌, Ok, arith}
use Rattle.std.proofs.lemmas.Grind.{common_steps}
use Rattle.rules.specs.Refusals.{answered}
use Rattle.rules.specs.Sheet.{read_refusals, read_number}
use Rattle.rules.proofs.Answering.{first-accepted}
use Rattle.sheet.proofs.accepted.Sheet.read.Goals as goal

pub invariant_of-result : goal.invariant_of-result
unfolding answered read_refusals read_number
invariant_of-result c =
    let passed : answered {A = Unit {0}} (read_refusals c.args.bytes.now) tt ≡ Ok tt = grind (arith, common_steps) in
    record { accepted = first-accepted (read_refusals c.args.bytes.now) tt tt passed }
