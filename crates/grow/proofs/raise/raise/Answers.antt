-- `raise` meets its contract. The loop's invariant: what is left of raising, from record i, comes to the whole.
-- Rests on Climb.antt, on `records`, SafeLaws, and on the contract of `joined`.
use Rattle.std.proofs.Common.{refl, arith, ◌-◌}
use Rattle.records.proofs.SafeLaws.{safe-set}
use Rattle.grow.proofs.Climb.{turn, done, spent}
use Rattle.grow.proofs.raise.raise.Goals as goal

pub loop-init : goal.loop-init
loop-init c = record { inside = c.requires.inside; safe = c.requires.safe; same = refl; rest = refl }

pub loop-preserved : goal.loop-preserved
loop-preserved c = turn c.loop.invariant _ (omega (arith, c.loop-test.true)) _ c.joined-n.ensures.value c.joined-n.ensures.safe c.if-i-eq0.false

pub returns-then-i-eq0-clause-raised : goal.returns-then-i-eq0-clause-raised
returns-then-i-eq0-clause-raised c =
    done c.loop.invariant (63 - c.loop.counter) (omega (arith, c.loop-test.true)) _ c.joined-n.ensures.value c.if-i-eq0.true

pub returns-then-i-eq0-clause-safe : goal.returns-then-i-eq0-clause-safe
returns-then-i-eq0-clause-safe c = safe-set _ _ _ c.loop.invariant.safe c.joined-n.ensures.safe

pub returns-clause-raised : goal.returns-clause-raised
returns-clause-raised c = spent c.loop.invariant (omega (arith, c.loop-test.false))
