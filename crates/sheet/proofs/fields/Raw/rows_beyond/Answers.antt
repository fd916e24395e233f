-- `rows_beyond` meets its contract.
-- Rests on Stated.antt and the contracts of `all_ways` and `way_beyond`.
use Rattle.std.proofs.Common.{◌||◌, leb, ◌^◌, rules, tests}
use Rattle.rules.specs.Refusals.{names_beyond}
use Rattle.rules.specs.Sheet.{faults_in}
use Rattle.sheet.proofs.Stated.{row_passes}
use Rattle.sheet.proofs.fields.Raw.rows_beyond.Goals as goal

pub returns : goal.returns
unfolding names_beyond
returns c =
    row_passes _ _ _ c.any.ensures.ran c.all_ways.ensures
    (λ p q. leb (2 ^ faults_in c.args.self.bytes.now) p || leb (2 ^ faults_in c.args.self.bytes.now) q) (λ x b q k. search (rules, tests))
