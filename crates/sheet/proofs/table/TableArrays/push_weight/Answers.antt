-- A weight more leaves zeros behind it.
-- Rests on Kept.antt.
use Rattle.std.proofs.Common.{arith}
use Rattle.sheet.proofs.Kept.{kept_more}
use Rattle.sheet.proofs.table.TableArrays.push_weight.Goals as goal

pub invariant_of-self-clause-weights_kept : goal.invariant_of-self-clause-weights_kept
invariant_of-self-clause-weights_kept c = kept_more _ _ _ c.before.args.self.now.weights_kept (grind arith)
