-- `ways_before` meets its contract: the counts that the entries state add up, and each is at most 65535.
-- Rests on Stated.antt and Summed.antt.
use Rattle.std.proofs.Common.{◌∙◌, ap, arith, rules}
use Rattle.rules.specs.Sheet.{total}
use Rattle.sheet.specs.Parts.{stated_in}
use Rattle.sheet.proofs.Stated.{length_parts, counts_stated}
use Rattle.sheet.proofs.Summed.{part_fits, Sum, sum_is}
use Rattle.sheet.proofs.fields.Raw.ways_before.Goals as goal

pub sum-requires-clause-fits : goal.sum-requires-clause-fits
sum-requires-clause-fits c = λ p seen at.
    omega (
      arith,
      part_fits _ (λ e. e.ways) 65535 {ys = stated_in c.args.cue c.args.self.bytes.now} (search rules) c.map.ensures.closure
          (λ x r q k. search rules) 65535 (omega arith) (search (rules, length_parts, c.requires)) p seen at,
    )

-- The sum of the counts.
ways : (c : goal.After-sum) → Sum (λ e. e.ways) 65535 c.args.cue (stated_in c.args.cue c.args.self.bytes.now) c.sum.result
ways c =
    sum_is _ (λ e. e.ways) 65535 {ys = stated_in c.args.cue c.args.self.bytes.now} (search rules) c.map.ensures.closure
    (λ x r q k. search rules) c.args.cue (search (rules, length_parts)) c.sum.result c.sum.ensures.ran c.sum.ensures.runs

pub returns-clause-sum : goal.returns-clause-sum
returns-clause-sum c = (ways c).value ∙ ap total (counts_stated c.args.self.bytes.now c.args.cue)

pub returns-clause-most : goal.returns-clause-most
returns-clause-most c = omega (arith, (ways c).most)
