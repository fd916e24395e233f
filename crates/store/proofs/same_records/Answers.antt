-- `same_records` meets its contract: one record after the other.
-- Rests on Comparing.antt, and on `records`, Lent.
use Rattle.std.proofs.Common.{arith, ap, ◌∙◌}
use Rattle.records.specs.Records.{record_in, same_node}
use Rattle.records.proofs.Lent.{long}
use Rattle.store.proofs.Comparing.{turn, answer}
use Rattle.store.proofs.same_records.Goals as goal

pub loop-j-preserved : goal.loop-j-preserved
loop-j-preserved c =
    turn _ c.args.nodes.now _ _ _ _ (omega (arith, long c.args.tree.now, c.requires, c.loop-j-test.true)) c.loop-j-test.true
    (c.unlike-unlike.ensures ∙ ap (λ n. same_node n (record_in c.args.nodes.now c.loop-j.j)) c.record_at.ensures) c.loop-j.invariant

pub returns : goal.returns
returns c = answer _ c.args.nodes.now _ _ _ (omega (arith, long c.args.tree.now, c.requires, c.loop-j-test.false)) c.loop-j-test.false c.loop-j.invariant
