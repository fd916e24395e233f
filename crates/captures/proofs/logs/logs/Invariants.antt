-- The sum so far, in front of the fractions of the logs that are left, has the answer of all logs.
-- Rests on Sums.antt.
use Rattle.std.proofs.Common.{map, drop}
use Rattle.captures.specs.Logs.{fraction_of, logs_in}
use Rattle.captures.proofs.Sums.{SoFar}
use Rattle.captures.proofs.logs.logs.Given as goal

abbrev pub invariant-loop-length : goal.invariant-loop-length
invariant-loop-length l =
    SoFar (map fraction_of (logs_in l.lengths l.bytes)) (map fraction_of (logs_in (drop l.length-index l.lengths) l.rest)) l.sum
