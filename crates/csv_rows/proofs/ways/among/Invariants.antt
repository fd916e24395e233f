-- The loop's invariant: if all fields are faults, the fault is still to be found.
-- Rests on Faults.antt.
use Rattle.std.proofs.Common.{length}
use Rattle.csv_rows.specs.Fields.{fields_left}
use Rattle.csv_rows.proofs.Faults.{Looking}
use Rattle.csv_rows.proofs.ways.among.Given as goal

abbrev pub invariant-loop-fields : goal.invariant-loop-fields
invariant-loop-fields l = Looking l.fault l.initial.rest l.rest

abbrev pub decreases-loop-fields : goal.decreases-loop-fields
decreases-loop-fields l = length (fields_left l.rest)
