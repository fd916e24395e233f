-- `sweep` meets its contract. The loop's invariant: those that stay outside are untouched or yet to be met, and the word holds all others.
-- Rests on Sweeping.antt.
use Rattle.clauses.specs.Leaves.{left_of}
use Rattle.formula.proofs.Sweeping.{Sweeping}
use Rattle.formula.proofs.group.sweep.Given as goal

abbrev pub invariant-loop-v : goal.invariant-loop-v
invariant-loop-v l = Sweeping l.c l.m l.word l.rest (left_of l.v-iterator)
