-- `most_named` meets its contract. The loop's invariant: of the faults so far, best is the one named most.
-- Rests on the contract of `counts`.
use mathlib.Core.Path.{◌≡◌}
use Prim.Native.Nat.{◌<◌}
use Rattle.rules.specs.Run.{most_named}
use Rattle.clauses.specs.Leaves.{ways_of}
use Rattle.formula.proofs.choice.most_named.Given as goal

abbrev pub invariant-loop-f : goal.invariant-loop-f
invariant-loop-f l = record { right : l.best ≡ most_named l.f (ways_of l.fn.c); small : l.best < 64 }
