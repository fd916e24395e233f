-- `unlike` meets its contract: one field after the other.
-- Rests on Compared.antt.
use Rattle.std.proofs.Math.Bool.{and_assoc}
use Rattle.records.specs.Records.{same_node}
use Rattle.records.proofs.Compared.{eqb-or, eqb-xor}
use Rattle.records.proofs.Node.unlike.Goals as goal

pub returns : goal.returns
unfolding same_node
returns c = simp (eqb-or, eqb-xor, and_assoc)
