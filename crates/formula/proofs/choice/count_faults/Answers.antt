-- `count_faults` meets its contract. The loop's invariant: each count, with the bits to come, makes what it is to be.
-- Rests on Counted.antt.
use borrow.Author.Rules.{rules}
use Rattle.formula.proofs.Counted.{begun}
use Rattle.formula.proofs.choice.count_faults.Goals as goal

pub loop-f-init : goal.loop-f-init
loop-f-init c =
    rw (c.into_iter-f-iterator.ensures.into_iter_gives, c.of-f-items.ensures) (begun c.args.counts.now c.args.word (search rules))
