-- `total` meets its contract: each fraction is added, or refuses them all.
-- Rests on Sums.antt, Claims.antt, and on the contracts of `next` and `add`.
use Rattle.std.proofs.Common.{rules}
use Rattle.captures.proofs.Sums.{so-far-none, so-far-next, so-far-refused, so-far-all}
use Rattle.captures.proofs.Claims.{sum_promise}
use Rattle.captures.proofs.fractions.total.Goals as goal

pub loop-fraction-init : goal.loop-fraction-init
loop-fraction-init c = rw c.into_iter-fraction-iterator.ensures.into_iter_gives (so-far-none _ _ c.default-sum.ensures)

pub returns-in_err-sum : goal.returns-in_err-sum
returns-in_err-sum c = record {
  promise =
      sum_promise _ _
      (so-far-refused _ _ _ _ _ _ _ c.in_err-sum.field-0.0 (search rules) (search rules) c.add.ensures c.in-Some.ensures.steps c.loop-fraction.invariant);
}

pub loop-fraction-preserved : goal.loop-fraction-preserved
loop-fraction-preserved c =
    so-far-next _ _ _ _ _ _ _ (search rules) c.add.ensures c.in-Some.ensures.steps c.loop-fraction.invariant

pub returns : goal.returns
returns c = record { promise = sum_promise _ _ (so-far-all _ _ _ c.in-None.ensures.steps.0 c.loop-fraction.invariant) }
