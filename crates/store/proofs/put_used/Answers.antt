-- `put_used` meets its contract. Where the tree is lent to `all_words` it is known to have all its words.
-- Rests on Stores.antt.
use Rattle.store.proofs.Stores.{counted}
use Rattle.store.proofs.put_used.Goals as goal

pub returns : goal.returns
returns c = counted _ _ c.told-tree
