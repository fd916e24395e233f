-- The loop's invariant: the weights from the index on are left to write.
-- Rests on Over.antt.
use Rattle.std.proofs.Common.{drop}
use Rattle.rules.specs.Sheet.{weights_bytes}
use Rattle.rules.proofs.Laid.{weights_part}
use Rattle.writer.specs.Given.{given}
use Rattle.writer.proofs.Over.{Remains}
use Rattle.writer.proofs.lists.Lists.put_weights.Given as goal

abbrev pub invariant-loop-weight : goal.invariant-loop-weight
invariant-loop-weight l = Remains l.initial.out (weights_part (given l.self)) l.out (weights_bytes (drop l.weight-index l.weight-items))
