-- `leaving_out` meets its contract: the numbers are the same, and more faults are gone.
-- Rests on Narrowed.antt.
use mathlib.Core.Path.{refl}
use Rattle.clauses.proofs.Narrowed.{left_out}
use Rattle.clauses.proofs.Clauses.leaving_out.Goals as goal

pub returns : goal.returns
returns c = left_out c.args.self c.args.m _ refl refl refl c.leaving_out-self.ensures
