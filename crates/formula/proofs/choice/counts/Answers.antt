-- `counts` meets its contract. The loop's invariant: each count, with that of the ways to come, makes the whole.
-- Rests on Counted.antt, and on `clauses`, Leaf.
use mathlib.Core.Path.{ap, ◌∙◌}
use Rattle.clauses.specs.Leaves.{ways_of, left_of}
use Rattle.clauses.proofs.Leaf.{few}
use Rattle.formula.proofs.Counted.{none_counted, small, one_counted, all_counted}
use Rattle.formula.proofs.choice.counts.Goals as goal

pub loop-v-init : goal.loop-v-init
loop-v-init c = none_counted (ways_of c.args.c) _ (ap left_of c.into_iter-v-iterator.ensures.into_iter_gives ∙ c.ways-v-items.ensures)

pub count_faults-requires : goal.count_faults-requires
count_faults-requires c = small (ways_of c.args.c) _ c.loop-v.counts c.loop-v.invariant (few c.args.c)

pub loop-v-preserved : goal.loop-v-preserved
loop-v-preserved c =
    one_counted (ways_of c.args.c) _ c.loop-v.counts c.loop-v.invariant c.in-Some.v _ c.in-Some.ensures.steps _ c.faults.ensures
    c.count_faults.new.counts c.count_faults.ensures

pub returns : goal.returns
returns c = all_counted (ways_of c.args.c) _ c.loop-v.counts c.loop-v.invariant c.in-None.ensures.steps.0
