-- `Links::leaves` meets its contract: it begins with the leftmost leaf of all.
-- Rests on LeftToRight.antt and the contract of `leftmost`.
use Rattle.std.proofs.Common.{ap, ◌∙◌}
use Rattle.pick.specs.Going.{placed_all}
use Rattle.pick.proofs.LeftToRight.{all_leaves}
use Rattle.pick.proofs.leaves.Links.leaves.Goals as goal

pub returns : goal.returns
returns c = ap (placed_all c.args.self.tree.now) (c.leftmost.ensures.leaves ∙ all_leaves c.args.self.tree.now)
