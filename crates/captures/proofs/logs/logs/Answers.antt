-- `logs` meets its contract: each log is added, or refuses them all.
-- Rests on Sums.antt, Listed.antt, Claims.antt, and on the contracts of `hear_all` and `add`.
use Rattle.std.proofs.Common.{rules}
use Rattle.captures.proofs.Sums.{so-far-none, so-far-next, so-far-refused, so-far-all, log-added}
use Rattle.captures.proofs.Listed.{logs-from, logs-ended}
use Rattle.captures.proofs.Claims.{logs_promise}
use Rattle.captures.proofs.logs.logs.Goals as goal

pub loop-length-init : goal.loop-length-init
loop-length-init c = so-far-none _ _ c.default-sum.ensures

pub returns-in_err-sum : goal.returns-in_err-sum
returns-in_err-sum c = record {
  promise =
      logs_promise _ _
      (so-far-refused _ _ _ _ _ _ _ c.in_err-sum.field-0.0 (search rules) (search rules) (log-added _ _ c.hear_all.ensures c.counted.ensures c.add.ensures)
      (logs-from _ _ _ _ _ _ c.loop-length-test.true c.min.ensures c.split_at.ensures.front c.split_at.ensures.back)
      c.loop-length.invariant);
}

pub loop-length-preserved : goal.loop-length-preserved
loop-length-preserved c =
    so-far-next _ _ _ _ _ _ _ (search rules) (log-added _ _ c.hear_all.ensures c.counted.ensures c.add.ensures)
    (logs-from _ _ _ _ _ _ c.loop-length-test.true c.min.ensures c.split_at.ensures.front c.split_at.ensures.back)
    c.loop-length.invariant

pub returns : goal.returns
returns c = record { promise = logs_promise _ _ (so-far-all _ _ _ (logs-ended _ _ _ c.loop-length-test.false) c.loop-length.invariant) }
