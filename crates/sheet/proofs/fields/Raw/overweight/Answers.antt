-- `overweight` meets its contract.
-- Rests on Stated.antt and the contract of `weights`.
use Rattle.std.proofs.Common.{rules, tests}
use Rattle.std.proofs.lemmas.List.{map-id}
use Rattle.rules.specs.Rounding.{S}
use Rattle.rules.specs.Refusals.{overweight}
use Rattle.rules.specs.Sheet.{weights_in}
use Rattle.sheet.proofs.Stated.{part_above}
use Rattle.sheet.proofs.fields.Raw.overweight.Goals as goal

pub returns : goal.returns
unfolding overweight
returns c = part_above c.any.ensures.ran c.weights.ensures (λ w. w) S (map-id (weights_in c.args.self.bytes.now)) (λ x b q k. search (rules, tests))
