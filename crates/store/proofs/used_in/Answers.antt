-- `used_in` meets its contract: the last word is the count.
-- Rests on the definition of the tree alone.
use borrow.Author.Rules.{rules}
use Rattle.records.specs.Lent.{tree_of}
use Rattle.store.proofs.used_in.Goals as goal

pub returns : goal.returns
unfolding tree_of
returns c = search rules
