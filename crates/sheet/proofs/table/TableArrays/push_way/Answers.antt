-- A way more leaves zeros behind it.
-- Rests on Kept.antt.
use Rattle.std.proofs.Common.{arith}
use Rattle.sheet.proofs.Kept.{kept_more}
use Rattle.sheet.proofs.table.TableArrays.push_way.Goals as goal

pub invariant_of-self-clause-present_kept : goal.invariant_of-self-clause-present_kept
invariant_of-self-clause-present_kept c = kept_more _ _ _ c.before.args.self.now.present_kept (grind arith)

pub invariant_of-self-clause-absent_kept : goal.invariant_of-self-clause-absent_kept
invariant_of-self-clause-absent_kept c = kept_more _ _ _ c.before.args.self.now.absent_kept (grind arith)
