-- `put_record` meets its contract: the stores, one for each field, are those of Stores.antt, and where the tree is lent to `all_words` it is known to have
-- all its words.
use Rattle.store.proofs.Stores.{stores, written}
use Rattle.store.proofs.put_record.Goals as goal

pub returns : goal.returns
unfolding stores
returns c = written c.args.tree.now c.args.j c.args.n c.requires c.told-tree
