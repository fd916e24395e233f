-- `same_records` meets its contract. The loop's invariant: what was unlike so far and the records left answer for all.
use Rattle.std.proofs.Common.{◌≡◌, ◌&&◌, eqb, drop}
use Rattle.records.specs.Lent.{tree_of}
use Rattle.records.specs.Records.{same_nodes}
use Rattle.store.proofs.same_records.Given as goal

abbrev pub invariant-loop-j : goal.invariant-loop-j
invariant-loop-j l =
    same_nodes (tree_of l.tree).nodes l.nodes ≡ eqb l.unlike 0 && same_nodes (drop l.j (tree_of l.tree).nodes) (drop l.j l.nodes)
