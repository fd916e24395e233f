-- `below` meets its contract: the words have ones below n.
-- Rests on Pairs.antt.
use Rattle.clauses.proofs.Pairs.{below_low, below_high}
use Rattle.clauses.proofs.sets.Numbers.below.Goals as goal

pub returns-then-n-lt64 : goal.returns-then-n-lt64
returns-then-n-lt64 c = below_low c.args.n c.bits_below.result c.if-n-lt64.true c.bits_below.ensures

pub returns : goal.returns
returns c = below_high c.args.n c.bits_below-2.result c.if-n-lt64.false c.bits_below-2.ensures
