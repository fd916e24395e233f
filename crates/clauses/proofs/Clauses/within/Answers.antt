-- `within` meets its contract: the numbers of both sets are those of the leaf that are in the set.
-- Rests on Narrowed.antt.
use mathlib.Core.Path.{refl}
use Rattle.clauses.specs.Numbers.{is_in}
use Rattle.clauses.proofs.Narrowed.{narrowed}
use Rattle.clauses.proofs.Clauses.within.Goals as goal

pub returns : goal.returns
returns c = narrowed c.args.self _ refl refl refl (is_in c.args.numbers) c.and-self.ensures
