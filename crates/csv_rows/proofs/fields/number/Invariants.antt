-- The loop's invariant: the digits before `rest` are read.
-- Rests on Reading.antt.
use Rattle.std.proofs.Common.{length}
use Rattle.csv_rows.proofs.Reading.{Reading}
use Rattle.csv_rows.proofs.fields.number.Given as goal

abbrev pub invariant-loop-rest : goal.invariant-loop-rest
invariant-loop-rest l = Reading l.text l.rest l.n

abbrev pub decreases-loop-rest : goal.decreases-loop-rest
decreases-loop-rest l = length l.rest
