-- The loop's invariant: the weights up to `rest` are read, stored and counted.
-- Rests on Storing.antt.
use Rattle.std.proofs.Common.{length}
use Rattle.csv_rows.specs.Fields.{fields_left}
use Rattle.csv_rows.proofs.Storing.{Storing}
use Rattle.csv_rows.proofs.heads.weights_into.Given as goal

abbrev pub invariant-loop-fields : goal.invariant-loop-fields
invariant-loop-fields l = Storing l.text l.most l.initial.list l.list l.place l.rest

abbrev pub decreases-loop-fields : goal.decreases-loop-fields
decreases-loop-fields l = length (fields_left l.rest)
