-- What the iterator over a tree's leaves has left: each leaf with its index.
-- Rests on Leaves.antt.
use Rattle.std.specs.Prelude.{List, map, ℕ}
use Rattle.std.specs.Borrow.{Bor}
use Rattle.records.specs.declared.Node.{Node}
use Rattle.records.specs.declared.Tree.{Tree}
use Rattle.pick.specs.declared.leaves.Leaves.{Leaves}
use Rattle.pick.specs.Leaves.{leaves_from, placed}

-- The leaves from the next on.
abbrev pub leaves_left : Leaves → List (ℕ × Node)
leaves_left s = map (placed s.links.tree.now) (leaves_from s.links.tree.now s.next)

-- A record that is lent with its index.
abbrev pub lent : ℕ × Bor Node → ℕ × Node
lent p = (p.0, p.1.now)

-- Records of a tree with their indexes.
abbrev pub placed_all : Tree → List ℕ → List (ℕ × Node)
placed_all t = map (placed t)
