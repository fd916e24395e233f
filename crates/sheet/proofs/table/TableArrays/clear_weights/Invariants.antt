-- `clear_weights` meets its contract. The loop's invariant: the ways are the same.
use Rattle.sheet.specs.Handed.{SameWays}
use Rattle.sheet.proofs.table.TableArrays.clear_weights.Given as goal

abbrev pub invariant-loop-self : goal.invariant-loop-self
invariant-loop-self l = SameWays l.self l.fn.self

abbrev pub decreases-loop-self : goal.decreases-loop-self
decreases-loop-self l = l.self.faults
