-- A lent tree after one of its records, or its count, was written; and which tree can be put in its place by its records in use alone.
-- Rests on the records of `records`.
use Rattle.std.specs.Prelude.{◌≡◌, ℕ, ◌≤◌, length, set}
use Rattle.records.specs.Records.{tree_records, record_in}
use Rattle.records.specs.declared.Node.{Node}
use Rattle.records.specs.declared.Tree.{Tree}

-- A tree with another record j.
abbrev pub with_record : Tree → ℕ → Node → Tree
with_record x j n = record { nodes = set x.nodes j n; used = x.used }

-- A tree with another count of records in use.
abbrev pub with_used : Tree → ℕ → Tree
with_used x n = record { nodes = x.nodes; used = n }

-- Behind the records that the tree y has in use, the tree x has the same ones.
pub record Behind (x y : Tree) : Type 0 where
  pub inside : y.used ≤ tree_records
  pub whole : length x.nodes ≡ length y.nodes
  pub same : (i : ℕ) → y.used ≤ i → record_in x.nodes i ≡ record_in y.nodes i
