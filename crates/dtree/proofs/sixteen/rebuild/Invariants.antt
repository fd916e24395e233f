-- `rebuild` meets its contract. The loop's invariant: what is still to be built answers for the tree.
-- Rests on Again.antt.
use Rattle.std.proofs.Common.{◌-◌, ◌/◌}
use Rattle.checks.specs.Tables.{table_of}
use Rattle.dtree.proofs.Again.{Answers}
use Rattle.dtree.proofs.sixteen.rebuild.Given as goal

abbrev pub invariant-loop : goal.invariant-loop
invariant-loop g l = Answers (table_of l.table) (g.T.Lent.tree l.told) l.again ((g.T.Lent.tree l.told).used / 2 - l.counter)
