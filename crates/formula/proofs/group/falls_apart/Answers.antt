-- `falls_apart` meets its contract: there are other ways just if some are left of them.
-- Rests on the contracts of `other_ways` and `none_left`.
use mathlib.Core.Path.{ap, ◌∙◌}
use mathlib.Core.Bool.{not, not-not}
use Rattle.rules.specs.Group.{nonempty, fall_apart}
use Rattle.formula.proofs.group.falls_apart.Goals as goal

pub returns : goal.returns
unfolding fall_apart
returns c = ap not c.none_left.ensures ∙ not-not _ ∙ ap nonempty c.other_ways.ensures.ways_are
