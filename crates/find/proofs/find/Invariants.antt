-- `find` meets its contract. The loop's invariant: from the record that was reached, the bytes that are left lead on to the answer.
-- Rests on Steps.antt.
use Rattle.find.proofs.Steps.{Walk}
use Rattle.find.proofs.find.Given as goal

abbrev pub invariant-loop-side : goal.invariant-loop-side
invariant-loop-side l = Walk l.tree.nodes l.place l.at l.side-index
