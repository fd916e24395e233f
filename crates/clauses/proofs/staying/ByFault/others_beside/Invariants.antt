-- `others_beside` meets its contract. The loop's invariant: what is kept so far and the ways to come tell which of the others stay.
-- Rests on Leaving.antt.
use Rattle.clauses.specs.Leaves.{ways_of, left_of}
use Rattle.clauses.proofs.Leaving.{Beside}
use Rattle.clauses.proofs.staying.ByFault.others_beside.Given as goal

abbrev pub invariant-loop-u : goal.invariant-loop-u
invariant-loop-u l = Beside l.self.others (ways_of l.shorter) l.kept (left_of l.u-iterator)
