-- `counts` meets its contract. The loop's invariant: each count, with that of the ways to come, makes the whole.
-- Rests on Counted.antt.
use Rattle.clauses.specs.Leaves.{ways_of, left_of}
use Rattle.formula.proofs.Counted.{Counting}
use Rattle.formula.proofs.choice.counts.Given as goal

abbrev pub invariant-loop-v : goal.invariant-loop-v
invariant-loop-v l = Counting (ways_of l.c) (left_of l.v-iterator) l.counts
