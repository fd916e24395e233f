-- The loop's invariant: the faults before `fields` are collected.
-- Rests on Collecting.antt.
use Rattle.std.proofs.Common.{◌≡◌, length}
use Rattle.csv_text.specs.Cut.{fields_in}
use Rattle.csv_rows.specs.Scan.{first_line, next_lines}
use Rattle.csv_rows.proofs.Collecting.{Collected}
use Rattle.csv_rows.proofs.ways.faults.Given as goal

abbrev pub invariant-loop-fault : goal.invariant-loop-fault
invariant-loop-fault l = record {
  collected : Collected (fields_in (first_line l.text)) l.seen (fields_in (first_line l.fields));
  lines : next_lines l.fields ≡ next_lines l.text;
}

abbrev pub decreases-loop-fault : goal.decreases-loop-fault
decreases-loop-fault l = length (fields_in (first_line l.fields))
