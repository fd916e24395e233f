-- `add` meets its contract: either fraction by itself, then the sum, which cannot overflow.
-- Rests on Sums.antt, on `rules`, Answering, and on the contracts of `either_beyond` and `accept`.
use Rattle.std.proofs.Common.{rules, ◌∙◌}
use Rattle.rules.proofs.Answering.{refused, let_through}
use Rattle.captures.specs.Fractions.{fraction_answer}
use Rattle.captures.proofs.Sums.{two-tried}
use Rattle.captures.proofs.Fraction.add.Goals as goal

pub returns-in_err-test : goal.returns-in_err-test
returns-in_err-test c =
    refused _ _ c.either_beyond.ensures _ _ _ _ c.in_err-test.field-0.0 (search rules) (search rules) c.test.ensures ∙ two-tried c.args.self c.args.other

pub returns : goal.returns
unfolding fraction_answer
returns c =
    let_through _ _ c.either_beyond.ensures _ _ _ _ (search rules) c.test.ensures c.accept.ensures ∙ two-tried c.args.self c.args.other
