-- `set_weights` meets its contract.
-- The loop's invariant: the weights so far, and those that are left, are all that have room, and there is room for those left.
use Rattle.std.proofs.Common.{◌≡◌, ◌+◌, ◌≤◌, ◌++◌, take}
use Rattle.sheet.specs.Handed.{SameWays}
use Rattle.sheet.proofs.table.TableArrays.set_weights.Given as goal

abbrev pub invariant-loop-weight : goal.invariant-loop-weight
invariant-loop-weight l = record {
  weights : take l.self.faults l.self.weights ++ take l.weight-iterator.n l.weight-iterator.iter ≡ take 64 l.fn.weights;
  ways : SameWays l.self l.fn.self;
  room : l.self.faults + l.weight-iterator.n ≤ 64;
}
