-- `accept` meets its contract: limits that no test refuses have the number 0, and so an allowance of at most S.
-- Rests on Turns.antt, on `rules`, Answering, and the contract of `check_limits`.
use Rattle.std.proofs.Common.{rules, sym, ◌∙◌}
use Rattle.rules.proofs.Answering.{first-accepted}
use Rattle.running.proofs.Turns.{allowance_bounded}
use Rattle.running.proofs.Task.accept.Goals as goal

pub invariant_of-result : goal.invariant_of-result
invariant_of-result c =
    let free = first-accepted _ tt c.in_ok-check_limits.field-0 (sym c.check_limits.ensures ∙ search rules) in
    record { allowance_bound = allowance_bounded _ free }
