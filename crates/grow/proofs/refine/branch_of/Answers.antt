-- `branch_of` meets its contract, record by record.
-- Rests on Leaves.antt and the contracts of `refined`, `children` and `leaf_record`.
use Rattle.rules.specs.Tree.{left, right}
use Rattle.grow.proofs.Leaves.{as-child, safe-fresh}
use Rattle.grow.proofs.refine.branch_of.Goals as goal

pub returns : goal.returns
returns c = let a = c.args in
    let parts = c.children-leaves.ensures in
    let l = c.leaf_record-left.ensures.value in
    let r = c.leaf_record-right.ensures.value in
    record {
      node_is = c.refined-node.ensures.value;
      left_is = as-child _ a.x.now a.c _ a.kind left a.j _ c.requires.gone parts.on_left l;
      right_is = as-child _ a.x.now a.c _ a.kind right a.j _ c.requires.gone parts.on_right r;
      node_safe = c.refined-node.ensures.safe;
      left_safe = safe-fresh _ _ _ _ _ c.requires.inside l;
      right_safe = safe-fresh _ _ _ _ _ c.requires.inside r;
    }
