-- `log` meets its contract: the log heard whole, and capped, has the answer of the log.
-- Rests on Sums.antt and Claims.antt.
use Rattle.std.proofs.Common.{arith}
use Rattle.captures.proofs.Sums.{capped-answer}
use Rattle.captures.proofs.Claims.{never-above, log_promise}
use Rattle.captures.proofs.logs.log.Goals as goal

pub returns : goal.returns
returns c = record { promise = log_promise _ _ (grind (arith, capped-answer, never-above)) }
