-- Where no weight is left that has room, those so far are all.
-- Rests on Kept.antt.
use Rattle.std.proofs.Common.{take, ap}
use Rattle.rules.specs.Table.{Table}
use Rattle.sheet.proofs.Kept.{filled, as_many}
use Rattle.sheet.proofs.table.TableArrays.set_weights.Goals as goal

pub returns-clause-table : goal.returns-clause-table
returns-clause-table c =
    let same = c.loop-weight.invariant.ways in
    λ j. record {
      weights = filled c.loop-weight.weight-iterator.n _ _ c.loop-weight.invariant.weights (λ h. (c.in-None.ensures.steps h).0) j;
      present = take (same.0 j) (same.1 j);
      absent = take (same.0 j) (same.2 j);
    }

pub returns-clause-faults : goal.returns-clause-faults
returns-clause-faults c = as_many _ c.loop-weight.self.weights_kept (ap (λ (r : Table). r.weights) (returns-clause-table c))
