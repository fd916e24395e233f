-- `clear` meets its contract: words that are all 0 are the tree without nodes.
-- Rests on Lent.antt.
use Rattle.records.proofs.Lent.{cleared}
use Rattle.store.proofs.clear.Goals as goal

pub returns : goal.returns
returns c = cleared
