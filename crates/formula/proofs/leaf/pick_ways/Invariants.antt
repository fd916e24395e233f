-- `pick_ways` meets its contract. The loop's invariant: the ways picked so far and those to come make all ways, and what picking has made is that of
-- those picked so far. Rests on the contract of `pick`.
use mathlib.Core.Path.{◌≡◌}
use mathlib.Core.List.{◌++◌}
use Rattle.clauses.specs.Leaves.{ways_of, left_of}
use Rattle.formula.specs.Picking.{picked}
use Rattle.formula.proofs.leaf.pick_ways.Given as goal

abbrev pub invariant-loop-v : goal.invariant-loop-v
invariant-loop-v l = record {
  made : l.p ≡ picked l.weights.list.now l.yielded;
  whole : l.yielded ++ left_of l.v-iterator ≡ ways_of l.c;
}
