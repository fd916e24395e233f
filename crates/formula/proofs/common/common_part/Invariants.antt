-- `common_part` meets its contract. The loop's invariant: the words so far have in common with the ways to come what the first way has with the others.
-- Rests on Meeting.antt.
use mathlib.Core.Path.{◌≡◌}
use Rattle.clauses.specs.Leaves.{left_of}
use Rattle.formula.proofs.Meeting.{common}
use Rattle.formula.proofs.common.common_part.Given as goal

abbrev pub invariant-loop-v : goal.invariant-loop-v
invariant-loop-v l = common l.p l.q (left_of l.v-iterator) ≡ common l.initial.p l.initial.q (left_of l.initial.v-iterator)
