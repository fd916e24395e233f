-- `record_at` meets its contract: the record is in the words from its first on.
-- Rests on Lent.antt.
use mathlib.Core.Path.{sym}
use borrow.Author.Rules.{rules}
use Rattle.records.proofs.Lent.{record_is}
use Rattle.store.proofs.record_at.Goals as goal

pub returns : goal.returns
returns c = sym (record_is _ _ (search rules))
