-- `right_of` meets its contract. The loop's invariant: what is to the right of record `at` is what is to the right of record i. Parents lie before
-- their children.
use Rattle.std.proofs.Common.{◌≡◌, ◌<◌}
use Rattle.pick.specs.Leaves.{leaves_after}
use Rattle.pick.proofs.leaves.Links.right_of.Given as goal

abbrev pub invariant-loop-at : goal.invariant-loop-at
invariant-loop-at l =
    record {
      in_use : l.at < l.self.tree.now.used;
      same : leaves_after l.self.tree.now l.at ≡ leaves_after l.self.tree.now l.i;
    }

abbrev pub decreases-loop-at : goal.decreases-loop-at
decreases-loop-at l = l.at
