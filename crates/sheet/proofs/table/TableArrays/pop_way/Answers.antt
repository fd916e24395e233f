-- A way less leaves zeros behind the others.
-- Rests on Kept.antt.
use Rattle.std.proofs.Common.{arith}
use Rattle.sheet.proofs.Kept.{kept_less}
use Rattle.sheet.proofs.table.TableArrays.pop_way.Goals as goal

pub invariant_of-self-clause-present_kept : goal.invariant_of-self-clause-present_kept
invariant_of-self-clause-present_kept c =
    let t = c.args.self.now in
    kept_less _ t.ways t.present t.present_kept (omega (arith, c.if-self-eq0))

pub invariant_of-self-clause-absent_kept : goal.invariant_of-self-clause-absent_kept
invariant_of-self-clause-absent_kept c =
    let t = c.args.self.now in
    kept_less _ t.ways t.absent t.absent_kept (omega (arith, c.if-self-eq0))
