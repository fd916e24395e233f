-- The three records that a refinement writes, as `records`, Growing, has them.
-- Rests on `records`, Growing, and on its Safe. Of the table only the weights count once the leaf's ways are known.
use Rattle.std.specs.Prelude.{◌≡◌, List, [], ℕ, ◌+◌, set}
use Rattle.rules.specs.Tree.{Side, left, right, child_node}
use Rattle.rules.specs.declared.Kind.{Kind}
use Rattle.rules.specs.declared.Way.{Way}
use Rattle.records.specs.Growing.{refined_record, fresh_record}
use Rattle.records.specs.declared.Node.{Node}
use Rattle.records.specs.Safe.{SafeNode}
use Rattle.node.specs.Told.{gone_in, spot_with}
use Rattle.grow.specs.declared.refine.Branch.{Branch}

-- The record of a leaf below the leaf x in record j, where vs are the ways of x.
abbrev pub leaf_below : List ℕ → Node → List Way → Kind → ℕ → Side → Node
leaf_below ws x vs k j b =
    fresh_record (record { weights = ws; present = []; absent = [] })
    (child_node k b (spot_with (gone_in x) vs)) j

-- What a refinement of the leaf x writes: its own record with its left leaf in record `next`, and its leaves' records, all three safe.
pub record Branched (ws : List ℕ) (x : Node) (vs : List Way) (k : Kind) (j next : ℕ) (b : Branch) : Type 0 where
  pub node_is : b.node ≡ refined_record x k next
  pub left_is : b.left ≡ leaf_below ws x vs k j left
  pub right_is : b.right ≡ leaf_below ws x vs k j right
  pub node_safe : SafeNode b.node
  pub left_safe : SafeNode b.left
  pub right_safe : SafeNode b.right

-- The refined record n in record j, the leaves l and r in the next two.
abbrev pub three : List Node → ℕ → ℕ → Node → Node → Node → List Node
three xs used j n l r = set (set (set xs j n) used l) (used + 1) r
