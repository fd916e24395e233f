-- `show` is safe and ends. The loop's invariant: of the records that wait there is at most one more than of those printed.
use Rattle.std.proofs.Common.{◌+◌, ◌≤◌}
use Rattle.arrayvec.specs.ArrayVec.{array_vec_len}
use Rattle.tree_vectors.proofs.places.show.Given as goal

abbrev pub invariant-places : goal.invariant-places
invariant-places g l = array_vec_len l.waiting ≤ l.counter + 1
