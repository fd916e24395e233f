-- `from` meets its contract: no fault of an accepted table is overweight.
-- Rests on `rules`, Accepted.
use Rattle.rules.specs.Table.{table}
use Rattle.rules.proofs.Accepted.{light}
use Rattle.chances.proofs.weights.WeightsFromTable.from.Goals as goal

pub invariant_of-result : goal.invariant_of-result
invariant_of-result c =
    let t = c.args.table in
    record { light = light (table t.weights.now t.present.now t.absent.now) t.accepted }
