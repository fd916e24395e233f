-- Records that code may follow: every link is the index of a record, every end is at most S.
-- Rests on Records.antt. Growing a tree keeps this, so that a caller has it for good once it has it.
use Rattle.std.specs.Prelude.{List, ℕ, ◌+◌, ◌≤◌, ◌<◌}
use Rattle.rules.specs.Rounding.{S}
use Rattle.records.specs.Records.{tree_records, record_in}
use Rattle.records.specs.declared.Node.{Node}

-- A record whose links and ends code may use as they stand.
pub record SafeNode (x : Node) : Type 0 where
  pub parent_inside : x.parent < tree_records
  pub children_inside : x.left + 1 < tree_records
  pub low_le : x.low ≤ S
  pub high_le : x.high ≤ S
  pub ownlow_le : x.ownlow ≤ S
  pub ownhigh_le : x.ownhigh ≤ S

-- Every record is safe. Past the end of the list stands the blank, which is safe too.
pub record Safe (xs : List Node) : Type 0 where
  pub each : (i : ℕ) → SafeNode (record_in xs i)
