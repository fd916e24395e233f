-- `again` meets its contract.
-- Rests on Naming.antt.
use Rattle.std.proofs.Common.{◌∙◌}
use Rattle.csv_rows.proofs.Naming.{twice_near, twice_far}
use Rattle.csv_rows.proofs.ways.Seen.again.Goals as goal

pub returns-then-fault-lt64 : goal.returns-then-fault-lt64
returns-then-fault-lt64 c = λ h. c.holds.ensures ∙ twice_near c.args.self.now c.args.fault _ c.if-fault-lt64.true

pub returns-else-fault-lt64 : goal.returns-else-fault-lt64
returns-else-fault-lt64 c = λ h. c.among.ensures h ∙ twice_far c.args.self.now c.args.fault _ c.if-fault-lt64.false
