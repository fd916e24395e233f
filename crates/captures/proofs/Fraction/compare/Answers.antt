-- `compare` meets its contract: 24 over both, 25 over both, then the order of two products that fit.
-- Rests on Claims.antt, and on the contracts of the tests.
use Rattle.std.proofs.Common.{arith}
use Rattle.std.proofs.lemmas.Grind.{common_steps}
use Rattle.rules.specs.Refusals.{answered}
use Rattle.captures.specs.Fractions.{compare_refusals, compare_answer}
use Rattle.captures.proofs.Claims.{order_promise}
use Rattle.captures.proofs.Fraction.compare.Goals as goal

pub returns-in_err-test : goal.returns-in_err-test
unfolding answered compare_answer compare_refusals
returns-in_err-test c = record { promise = order_promise _ _ _ (grind (arith, common_steps)) }

pub returns-in_err-test-2 : goal.returns-in_err-test-2
unfolding answered compare_answer compare_refusals
returns-in_err-test-2 c = record { promise = order_promise _ _ _ (grind (arith, common_steps)) }

pub returns : goal.returns
unfolding answered compare_answer compare_refusals
returns c = record { promise = order_promise _ _ _ (grind (arith, common_steps)) }
