-- `choose` meets its contract: an accepted table has at most 64 faults, so that a fault named most has a bit.
-- Rests on Turns.antt and the contract of `most_named`.
use Rattle.rules.proofs.Accepted.{few_faults}
use Rattle.formula.specs.Leaves.{FaultFits}
use Rattle.running.proofs.Turns.{fault_low}
use Rattle.running.proofs.turn.choose.Goals as goal

pub most_named-requires : goal.most_named-requires
most_named-requires c = few_faults _ c.args.table.accepted

pub returns-clause-fault : goal.returns-clause-fault
unfolding FaultFits
returns-clause-fault c = fault_low _ _ _ (few_faults _ c.args.table.accepted) c.most_named.ensures
