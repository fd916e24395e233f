-- `cover` meets its contract. The loop's invariant: each way is still to come, or what was joined so far covers it.
-- Rests on Covered.antt.
use Rattle.clauses.specs.Leaves.{ways_of}
use Rattle.clauses.proofs.Covered.{begun, turn, covered}
use Rattle.clauses.proofs.Clauses.cover.Goals as goal

pub loop-v-init : goal.loop-v-init
loop-v-init c = rw (c.into_iter-v-iterator.ensures.into_iter_gives, c.ways-v-items.ensures) (begun (ways_of c.args.self) 0 0)

pub loop-v-preserved : goal.loop-v-preserved
loop-v-preserved c = turn _ _ _ _ c.loop-v.invariant c.in-Some.v _ c.in-Some.ensures.steps

pub returns : goal.returns
returns c = covered _ _ _ _ c.loop-v.invariant c.in-None.ensures.steps.0
