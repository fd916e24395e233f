-- `one` meets its contract: the number's bit is set, in the low word or in the high one.
-- Rests on Pairs.antt.
use Rattle.clauses.proofs.Pairs.{one_low, one_high}
use Rattle.clauses.proofs.sets.Numbers.one.Goals as goal

pub returns-then-i-lt64 : goal.returns-then-i-lt64
returns-then-i-lt64 c = one_low c.args.i c.one_bit.result c.if-i-lt64.true c.one_bit.ensures

pub returns : goal.returns
returns c = one_high c.args.i c.one_bit-2.result c.if-i-lt64.false c.one_bit-2.ensures
