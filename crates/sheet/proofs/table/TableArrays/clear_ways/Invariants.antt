-- `clear_ways` meets its contract. The loop's invariant: the weights are the same.
use Rattle.sheet.specs.Handed.{SameWeights}
use Rattle.sheet.proofs.table.TableArrays.clear_ways.Given as goal

abbrev pub invariant-loop-self : goal.invariant-loop-self
invariant-loop-self l = SameWeights l.self l.fn.self

abbrev pub decreases-loop-self : goal.decreases-loop-self
decreases-loop-self l = l.self.ways
