-- `way` meets its contract: the empty way is looked for where the fields are no faults.
-- Rests on Rows.antt.
use Rattle.std.proofs.Common.{rules}
use Rattle.csv_rows.proofs.Rows.{way-either}
use Rattle.csv_rows.proofs.ways.way.Goals as goal

pub returns : goal.returns
returns c = way-either _ _ _ c.faults.ensures (λ p. search rules) c.or_else.ensures
