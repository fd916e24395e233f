-- `put_fault` meets its contract where the fault has two digits: the second stands behind the first.
-- Rests on Faults.antt and on `writer`, Over.
use Rattle.std.proofs.Common.{arith}
use Rattle.writer.proofs.Over.{wrote_both}
use Rattle.csv_export.proofs.Faults.{fault_long}
use Rattle.csv_export.proofs.pieces.put_fault.Goals as goal

pub returns-else-number-lt10 : goal.returns-else-number-lt10
returns-else-number-lt10 c = rw (fault_long c.args.fault (omega arith) (omega arith)) (wrote_both _ c.push_around-else-number-lt10.ensures c.push.ensures)
