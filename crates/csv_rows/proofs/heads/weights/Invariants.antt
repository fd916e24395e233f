-- The loop's invariant: the weights up to `rest` are read, kept and counted.
-- Rests on Heading.antt.
use Rattle.std.proofs.Common.{length}
use Rattle.csv_rows.specs.Fields.{fields_left}
use Rattle.csv_rows.proofs.Heading.{Filled}
use Rattle.csv_rows.proofs.heads.weights.Given as goal

abbrev pub invariant-loop-fields : goal.invariant-loop-fields
invariant-loop-fields g l = Filled l.text g.row.N l.first l.count l.rest

abbrev pub decreases-loop-fields : goal.decreases-loop-fields
decreases-loop-fields g l = length (fields_left l.rest)
