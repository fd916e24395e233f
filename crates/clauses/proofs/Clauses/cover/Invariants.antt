-- `cover` meets its contract. The loop's invariant: each way is still to come, or what was joined so far covers it.
-- Rests on Covered.antt.
use Rattle.clauses.specs.Leaves.{ways_of, left_of}
use Rattle.clauses.proofs.Covered.{Covers}
use Rattle.clauses.proofs.Clauses.cover.Given as goal

abbrev pub invariant-loop-v : goal.invariant-loop-v
invariant-loop-v l = Covers (ways_of l.fn.self) l.present l.absent (left_of l.v-iterator)
