-- `set_ways` meets its contract.
-- The loop's invariant: the words so far, and those that are left, are all that have room, and there is room for those left.
use Rattle.std.proofs.Common.{◌≡◌, ◌+◌, ◌≤◌, ◌++◌, take, map}
use Rattle.sheet.specs.Handed.{SameWeights}
use Rattle.sheet.proofs.table.TableArrays.set_ways.Given as goal

abbrev pub invariant-loop-way : goal.invariant-loop-way
invariant-loop-way l = record {
  weights : SameWeights l.self l.fn.self;
  present : take l.self.ways l.self.present ++ take l.way-iterator.n (map (λ w. w.present) l.way-iterator.iter)
      ≡ take 128 (map (λ w. w.present) l.fn.ways);
  absent : take l.self.ways l.self.absent ++ take l.way-iterator.n (map (λ w. w.absent) l.way-iterator.iter)
      ≡ take 128 (map (λ w. w.absent) l.fn.ways);
  room : l.self.ways + l.way-iterator.n ≤ 128;
}
