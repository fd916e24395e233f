-- `is_good` meets its contract: what `rebuild` says, and a good tree is safe.
-- Rests on Again.antt and the contract of `rebuild`.
use Rattle.dtree.proofs.Again.{safe-so}
use Rattle.dtree.proofs.sixteen.is_good.Goals as goal

pub returns-clause-safe : goal.returns-clause-safe
returns-clause-safe g c = safe-so _ c.args.table.accepted _ _ c.rebuild.ensures.answer
