-- The loop's invariant: the faults at the places that are left to come are left to write.
-- Rests on Naming.antt and on `writer`, Over.
use Rattle.std.proofs.Common.{◌<◌}
use Rattle.std.specs.List.{AllByRecursion}
use Rattle.writer.proofs.Over.{Remains}
use Rattle.csv_export.specs.Parts.{faults_text}
use Rattle.csv_export.proofs.Naming.{places_text}
use Rattle.csv_export.proofs.pieces.put_faults.Given as goal

abbrev pub invariant-loop-place : goal.invariant-loop-place
invariant-loop-place l =
    record {
      below : AllByRecursion (λ i. i < 64) l.place-iterator;
      remains : Remains l.initial.out (faults_text l.way) l.out (places_text l.way.absent l.place-iterator);
    }
