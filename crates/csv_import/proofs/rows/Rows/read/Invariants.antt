-- The loop's invariant: the records up to `rest` are gathered, and there are no more of them than bytes.
-- Rests on Walking.antt.
use Rattle.std.proofs.Common.{◌+◌, ◌≤◌, [], length}
use Rattle.csv_text.specs.Cut.{records_in}
use Rattle.csv_import.specs.Gather.{Gathers}
use Rattle.csv_import.proofs.Walking.{Walk}
use Rattle.csv_import.proofs.rows.Rows.read.Given as goal

abbrev pub invariant-loop-rest : goal.invariant-loop-rest
invariant-loop-rest l =
    (l.record + length l.rest ≤ length l.text + 3)
    × (Gathers [] l.fn.self → Walk (records_in l.text) l.rest l.record l.self)

abbrev pub decreases-loop-rest : goal.decreases-loop-rest
decreases-loop-rest l = length l.rest
