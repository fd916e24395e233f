-- `leftmost` meets its contract. The loop's invariant: the leaves from record `at` on are those from record i on. Children lie behind their parents.
use Rattle.std.proofs.Common.{◌≡◌, ◌<◌, ◌-◌, ◌++◌}
use Rattle.pick.specs.Leaves.{leaves_at, leaves_after}
use Rattle.pick.proofs.leaves.Links.leftmost.Given as goal

abbrev pub invariant-loop-left : goal.invariant-loop-left
invariant-loop-left l =
    record {
      in_use : l.at < l.self.tree.now.used;
      same : leaves_at l.self.tree.now l.at ++ leaves_after l.self.tree.now l.at ≡ leaves_at l.self.tree.now l.i ++ leaves_after l.self.tree.now l.i;
    }

abbrev pub decreases-loop-left : goal.decreases-loop-left
decreases-loop-left l = l.self.tree.now.used - l.at
