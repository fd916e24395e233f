-- `weights_length` meets its contract: each weight's field is as long as the definition says, and there are at most 64 weights.
-- Rests on Measured.antt, and on `sheet`, Summed.
use Rattle.std.proofs.Common.{◌∷◌, length, arith, rules}
use Rattle.rules.specs.Text.{decimal}
use Rattle.sheet.proofs.Summed.{part_fits, Sum, sum_is}
use Rattle.csv_export.proofs.Measured.{weights_counted}
use Rattle.csv_export.proofs.lengths.weights_length.Goals as goal

pub sum-fields-requires-clause-fits : goal.sum-fields-requires-clause-fits
sum-fields-requires-clause-fits c = λ p seen at.
    omega (
      arith,
      part_fits _ (λ w. length (44 ∷ decimal w)) 21 {ys = c.args.weights} (search rules) c.map.ensures.closure
          (λ x r q k. search rules) 64 (omega arith) c.requires p seen at,
    )

-- The sum of the fields' lengths.
lengths : (c : goal.After-sum-fields) → Sum (λ w. length (44 ∷ decimal w)) 21 64 c.args.weights c.sum-fields.result
lengths c =
    sum_is _ (λ w. length (44 ∷ decimal w)) 21 {ys = c.args.weights} (search rules) c.map.ensures.closure
    (λ x r q k. search rules) 64 c.requires c.sum-fields.result c.sum-fields.ensures.ran c.sum-fields.ensures.runs

pub overflow_add-result : goal.overflow_add-result
overflow_add-result c = omega (arith, (lengths c).most)

pub returns-clause-value : goal.returns-clause-value
returns-clause-value c = omega (arith, weights_counted c.args.weights, (lengths c).value)

pub returns-clause-most : goal.returns-clause-most
returns-clause-most c = omega (arith, (lengths c).most)
