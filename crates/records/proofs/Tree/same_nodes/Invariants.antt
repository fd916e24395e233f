-- `same_nodes` meets its contract. The loop's invariant: the trees have the same records exactly if nothing was unlike so far and those left are the same.
use Rattle.std.proofs.Common.{◌≡◌, ◌&&◌, eqb, length}
use Rattle.records.specs.Records.{same_nodes}
use Rattle.records.proofs.Tree.same_nodes.Given as goal

abbrev pub invariant-loop-x : goal.invariant-loop-x
invariant-loop-x l =
    record {
      long : length l.x-iterator.a.rest.now ≡ length l.x-iterator.b.rest.now;
      same : same_nodes l.self.nodes l.other.nodes ≡ eqb l.unlike 0 && same_nodes l.x-iterator.a.rest.now l.x-iterator.b.rest.now;
    }
