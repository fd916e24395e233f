-- `digits_of` meets its contract. The loop's invariant: the last digits are found, those of the rest are still to be found.
-- Rests on Finding.antt.
use Rattle.std.proofs.Common.{arith}
use Rattle.decimal.proofs.Finding.{found_none, found_room, found_next, found_all}
use Rattle.decimal.proofs.digits_of.Goals as goal

pub loop-rest-init : goal.loop-rest-init
loop-rest-init c = found_none c.args.n (omega arith)

pub overflow_sub-from-in-loop-rest : goal.overflow_sub-from-in-loop-rest
overflow_sub-from-in-loop-rest c = omega (arith, found_room c.loop-rest.invariant c.loop-rest-test.true)

pub loop-rest-smaller : goal.loop-rest-smaller
loop-rest-smaller c = omega (arith, found_room c.loop-rest.invariant c.loop-rest-test.true)

pub loop-rest-preserved : goal.loop-rest-preserved
loop-rest-preserved c = found_next c.loop-rest.invariant c.loop-rest-test.true

pub returns : goal.returns
returns c = found_all c.loop-rest.invariant c.loop-rest-test.false
