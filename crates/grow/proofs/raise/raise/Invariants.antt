-- `raise` meets its contract. The loop's invariant: what is left of raising, from record i, comes to the whole.
-- Rests on Climb.antt.
use Rattle.std.proofs.Common.{◌-◌}
use Rattle.grow.proofs.Climb.{Climb}
use Rattle.grow.proofs.raise.raise.Given as goal

abbrev pub invariant-loop : goal.invariant-loop
invariant-loop l = Climb l.weights.list.now l.initial.tree l.j l.tree l.i (64 - l.counter)
