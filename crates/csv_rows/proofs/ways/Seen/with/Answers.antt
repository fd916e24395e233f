-- `with` meets its contract: a shift of 1 by less than 64 loses nothing.
-- Rests on Naming.antt.
use Rattle.csv_rows.proofs.Naming.{far-with, absent-with, present-with}
use Rattle.csv_rows.proofs.ways.Seen.with.Goals as goal

pub returns-then-fault-ge64 : goal.returns-then-fault-ge64
returns-then-fault-ge64 c = far-with c.args.self c.args.fault c.if-fault-ge64.true

pub returns-then-fault : goal.returns-then-fault
returns-then-fault c = absent-with c.args.self c.args.fault c.if-fault-ge64.false c.if-fault.true

pub returns-else-fault : goal.returns-else-fault
returns-else-fault c = present-with c.args.self c.args.fault c.if-fault-ge64.false c.if-fault.false
