-- `next_leaf` meets its contract: the chain gives the open leaves from left to right, and the widest of them is the one that the definition finds.
-- Rests on Picking.antt, on `records`, Reduced, and on the contracts of `Links::leaves`, `open_leaf` and `wider`.
use Rattle.std.proofs.Common.{rules, ◌∙◌}
use Rattle.std.proofs.lemmas.Iterator.Consumers.{YieldsList-from_first, YieldsList-from_filter_map, YieldsList-at}
use Rattle.records.specs.Found.{wider}
use Rattle.records.proofs.Reduced.{reduced}
use Rattle.pick.specs.Going.{leaves_left, lent}
use Rattle.pick.proofs.Picking.{own, picked}
use Rattle.pick.proofs.next_leaf.Goals as goal

pub returns : goal.returns
returns c =
    reduced _ wider c.reduce.result c.reduce.ensures.ran
    (YieldsList-from_filter_map {v = lent} _ own
    (YieldsList-at c.filter_map.ensures.source (YieldsList-from_first lent leaves_left _ c.leaves.ensures))
    c.filter_map.ensures.closure
    (λ x r q k. search rules))
    (λ a x b q k. search rules)
    ∙ picked c.args.links.tree.now c.args.links.in_order
