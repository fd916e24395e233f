-- `get` meets its contract: no weight of the list is above S.
-- Rests on Light.antt.
use Rattle.std.proofs.Common.{arith}
use Rattle.std.proofs.lemmas.Option.{slice_get_read}
use Rattle.chances.proofs.Light.{weight-le}
use Rattle.chances.proofs.weights.Weights.get.Goals as goal

pub invariant_of-result : goal.invariant_of-result
invariant_of-result c = let s = c.args.self in grind (arith, weight-le s.list.now c.args.fault s.light)

pub returns : goal.returns
returns c = grind (arith, slice_get_read)
