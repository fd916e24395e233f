-- What a search of records finds and which of two it keeps; where it goes down from a record; and whether a record is left.
-- Rests on Records.antt.
use Rattle.std.specs.Prelude.{Bool, not, Option, Some, None, ℕ, cond, eqb, ltb}
use Rattle.records.specs.Records.{tree_records}
use Rattle.records.specs.declared.Found.{Found}
use Rattle.records.specs.declared.Node.{Node}
use Rattle.records.specs.declared.Tree.{Tree}

-- The wider of two, the first if they are equally wide.
abbrev pub wider : Found → Found → Found
wider x y = cond (ltb x.width y.width) y x

-- The record of the left child; a record that links to none is a leaf's.
abbrev pub left_child : Node → Option ℕ
left_child n = cond (eqb n.left 0) None (Some n.left)

-- All records are in use.
abbrev pub is_full : Tree → Bool
is_full x = not (ltb x.used tree_records)
