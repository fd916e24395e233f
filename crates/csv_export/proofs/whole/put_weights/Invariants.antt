-- The loop's invariant: the fields of the weights that are left to come are left to write, and the end.
-- Rests on Records.antt and on `writer`, Over.
use Rattle.writer.proofs.Over.{Remains}
use Rattle.csv_text.specs.Texts.{weights_record}
use Rattle.csv_export.specs.Parts.{ended}
use Rattle.csv_export.proofs.Records.{fields_ended}
use Rattle.csv_export.proofs.whole.put_weights.Given as goal

abbrev pub invariant-loop-weight : goal.invariant-loop-weight
invariant-loop-weight l = Remains l.fn.out (ended (weights_record l.fn.weights)) l.out (fields_ended l.weight-iterator)
