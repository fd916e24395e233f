-- `weight` meets its contract: 24, 25, then the weight.
-- Rests on Claims.antt, and on the contracts of the tests and of `rounded_up`.
use Rattle.std.proofs.Common.{arith}
use Rattle.std.proofs.lemmas.Grind.{common_steps}
use Rattle.rules.specs.Refusals.{answered}
use Rattle.captures.specs.Fractions.{fraction_refusals, weight_refusals, weight_answer}
use Rattle.captures.proofs.Claims.{weight_promise}
use Rattle.captures.proofs.Fraction.weight.Goals as goal

pub returns-in_err-test : goal.returns-in_err-test
unfolding answered weight_answer weight_refusals fraction_refusals
returns-in_err-test c = record { promise = weight_promise _ _ (grind (arith, common_steps)) }

pub returns-in_err-test-2 : goal.returns-in_err-test-2
unfolding answered weight_answer weight_refusals fraction_refusals
returns-in_err-test-2 c = record { promise = weight_promise _ _ (grind (arith, common_steps)) }

pub returns : goal.returns
unfolding answered weight_answer weight_refusals fraction_refusals
returns c = record { promise = weight_promise _ _ (grind (arith, common_steps)) }
