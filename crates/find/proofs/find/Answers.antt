-- `find` meets its contract. The loop's invariant: from the record that was reached, the bytes that are left lead on to the answer.
-- Rests on Steps.antt and on `records`, Children.
use lib.ListN.{get_or}
use Rattle.std.proofs.Common.{rules, arith, ◌≡◌, ◌∙◌, ◌+◌, ◌≤◌, None}
use Rattle.records.specs.Records.{record_in}
use Rattle.records.proofs.Children.{no_child, a_child}
use Rattle.find.proofs.Steps.{there, at_leaf, no_step, turn}
use Rattle.find.proofs.find.Goals as goal
use Rattle.find.proofs.find.Goals.{in-0, in-1}

pub returns-in_err-left-clause-reached : goal.returns-in_err-left-clause-reached
returns-in_err-left-clause-reached c =
    let none : c.from_residual.result ≡ None = search rules in
    none ∙ at_leaf c.loop-side.invariant c.loop-side-test.true (no_child (record_in c.args.tree.now.nodes c.loop-side.at) _ c.left_child.ensures (search rules))

pub returns-in_default-clause-reached : goal.returns-in_default-clause-reached
returns-in_default-clause-reached c = no_step c.loop-side.invariant c.loop-side-test.true (omega (arith, c.in_default))

-- A step leads as many records behind the left child's as its byte says.
pub loop-side-preserved : goal.loop-side-preserved
loop-side-preserved c =
    let l = c.loop-side in
    let child = a_child (record_in c.args.tree.now.nodes l.at) _ c.left_child.ensures c.in_ok-left.left (search rules) in
    let step = get_or c.args.place.now l.side-index 0 in
    let leads : (c.match-side.at ≡ (record_in c.args.tree.now.nodes l.at).left + step) × (step ≤ 1) =
    elim c.match-side.branch [
      | in-0 w ↦ (omega (arith, w.at-is, w.in-0, child.1), omega (arith, w.in-0))
      | in-1 w ↦ (omega (arith, w.at-is, w.in-1, child.1), omega (arith, w.in-1))
    ] in
    rw leads.0 (turn l.invariant c.loop-side-test.true c.requires child.0 leads.1)

pub returns-clause-reached : goal.returns-clause-reached
returns-clause-reached c = there c.loop-side.invariant (omega arith)
