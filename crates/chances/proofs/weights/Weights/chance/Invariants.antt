-- `chance` meets its contract. The loop's invariant: what the faults still to come make of the chance is the way's.
-- Rests on Walk.antt.
use mathlib.Core.Path.{◌≡◌}
use Rattle.std.specs.List.{fold}
use Rattle.rules.specs.Leaf.{chance}
use Rattle.chances.proofs.Walk.{counted}
use Rattle.chances.proofs.weights.Weights.chance.Given as goal

abbrev pub invariant-loop-fault : goal.invariant-loop-fault
invariant-loop-fault l =
    fold (counted l.direction l.self.list.now l.way.present l.way.absent) l.chance l.fault-iterator
    ≡ chance l.direction l.self.list.now l.way
