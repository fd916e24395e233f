-- The sum so far, in front of the fractions that are left, has the answer of them all.
-- Rests on Sums.antt.
use Rattle.captures.specs.Fractions.{fractions_in}
use Rattle.captures.proofs.Sums.{SoFar}
use Rattle.captures.proofs.fractions.total.Given as goal

abbrev pub invariant-loop-fraction : goal.invariant-loop-fraction
invariant-loop-fraction l = SoFar (fractions_in l.discarded l.judged) l.fraction-iterator l.sum
