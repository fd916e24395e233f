-- `of` meets its contract: the weight, or 0.
use Rattle.std.proofs.Common.{arith}
use Rattle.std.proofs.lemmas.Option.{unwrap_or-slice_get}
use Rattle.chances.proofs.weights.Weights.of.Goals as goal

pub returns : goal.returns
returns c = grind (arith, unwrap_or-slice_get)
