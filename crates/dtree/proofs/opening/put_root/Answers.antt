-- `put_root` meets its contract: of the blank records the first is written, and one is in use.
-- Rests on Opens.antt and the contract of `root_leaf`.
use mathlib.Core.Path.{◌≡◌, ◌∙◌}
use mathlib.Core.List.{[]}
use Rattle.rules.specs.Table.{Table}
use Rattle.records.specs.Records.{no_nodes, record_at, layout}
use Rattle.records.specs.declared.Node.{Node}
use Rattle.records.specs.declared.Tree.{Tree}
use Rattle.store.specs.Lent.{with_record, with_used}
use Rattle.dtree.proofs.Opens.{one-layout}
use Rattle.dtree.proofs.opening.put_root.Goals as goal

-- A tree without nodes in which the root's record is written, and the count.
alone : (t : Table) (a : Tree) (x : Node) → a ≡ no_nodes → x ≡ record_at t [] [] → (b : Tree) → b ≡ with_record a 0 x → (z : Tree) → z ≡ with_used b 1
    → z ≡ layout t []
alone t a x e f b h z k = k ∙ rw (h, e, f) (one-layout t)

pub returns : goal.returns
returns g c = alone _ _ _ c.requires c.root_leaf.ensures _ c.put_record.ensures _ c.put_used.ensures
