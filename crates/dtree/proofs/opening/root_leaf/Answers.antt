-- `root_leaf` meets its contract: what stays of the ways of the table, with no fault gone.
-- Rests on what holds of an accepted table (`rules`, Accepted) and on the contracts of `staying_rows` and `leaf_record`.
use mathlib.Core.Path.{◌≡◌, ◌∙◌}
use mathlib.Core.List.{List, []}
use Prim.Native.Nat.{ℕ}
use Rattle.rules.specs.Table.{Table, ways}
use Rattle.rules.specs.Tree.{root_ways}
use Rattle.rules.specs.declared.Way.{Way}
use Rattle.checks.specs.Tables.{table_of}
use Rattle.records.specs.Records.{record_at}
use Rattle.records.specs.Growing.{fresh_record}
use Rattle.records.specs.declared.Node.{Node}
use Rattle.clauses.specs.declared.lost.Gone.{Gone}
use Rattle.clauses.specs.Leaves.{none_gone}
use Rattle.node.specs.Told.{spot_with}
use Rattle.dtree.proofs.Opens.{root-record}
use Rattle.dtree.proofs.opening.root_leaf.Goals as goal

-- A leaf's record with the root's ways, made with the weights ws of the table.
from-ways : (t : Table) (ws : List ℕ) (vs : List Way) (g : Gone) (x : Node) → ws ≡ t.weights → vs ≡ root_ways t → g ≡ none_gone
    → x ≡ fresh_record (record { weights = ws; present = []; absent = [] }) (spot_with g vs) 0 → x ≡ record_at t [] []
from-ways t ws vs g x w e h f = f ∙ rw (w, e, h) (root-record t)

pub returns : goal.returns
unfolding ways root_ways
returns c =
    let w = c.staying_rows.ensures in
    from-ways (table_of c.args.table) _ _ _ _ c.from.ensures (rw (c.rows.ensures.present, c.rows.ensures.absent) at w.ways_are) w.gone_is c.leaf_record.ensures.value
