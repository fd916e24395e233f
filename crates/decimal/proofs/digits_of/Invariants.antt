-- `digits_of` meets its contract. The loop's invariant: the last digits are found, those of the rest are still to be found.
-- Rests on Finding.antt.
use Rattle.decimal.proofs.Finding.{Found}
use Rattle.decimal.proofs.digits_of.Given as goal

abbrev pub invariant-loop-rest : goal.invariant-loop-rest
invariant-loop-rest l = Found l.n l.bytes l.from l.rest

abbrev pub decreases-loop-rest : goal.decreases-loop-rest
decreases-loop-rest l = l.from
