-- A weight less leaves zeros behind the others.
-- Rests on Kept.antt.
use Rattle.std.proofs.Common.{arith}
use Rattle.sheet.proofs.Kept.{kept_less}
use Rattle.sheet.proofs.table.TableArrays.pop_weight.Goals as goal

pub invariant_of-self-clause-weights_kept : goal.invariant_of-self-clause-weights_kept
invariant_of-self-clause-weights_kept c =
    let t = c.args.self.now in
    kept_less _ t.faults t.weights t.weights_kept (omega (arith, c.if-self-eq0))
