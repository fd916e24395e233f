-- `check_table` meets its contract: the tests are tried in the order of the rules.
-- Rests on `rules`, Answering, and the contracts of the tests.
use Rattle.std.proofs.Common.{rules}
use Rattle.rules.specs.Table.{ways}
use Rattle.rules.specs.Refusals.{table_refusals}
use Rattle.rules.proofs.Answering.{refused, let_through}
use Rattle.checks.proofs.table.check_table.Goals as goal

pub returns-in_err-test : goal.returns-in_err-test
unfolding table_refusals
returns-in_err-test c = refused _ _ c.faults_outside.ensures _ _ _ _ c.in_err-test.field-0.0 (search rules) (search rules) c.test.ensures

pub returns-in_err-test-2 : goal.returns-in_err-test-2
unfolding table_refusals
returns-in_err-test-2 c =
    let_through _ _ c.faults_outside.ensures _ _ _ _ (search rules) c.test.ensures
    (refused _ _ c.overweight.ensures _ _ _ _ c.in_err-test-2.field-0.0 (search rules) (search rules) c.test-2.ensures)

pub returns-in_err-test-3 : goal.returns-in_err-test-3
unfolding table_refusals
returns-in_err-test-3 c =
    let_through _ _ c.faults_outside.ensures _ _ _ _ (search rules) c.test.ensures
    (let_through _ _ c.overweight.ensures _ _ _ _ (search rules) c.test-2.ensures
    (refused _ _ c.words_amiss.ensures _ _ _ _ c.in_err-test-3.field-0.0 (search rules) (search rules) c.test-3.ensures))

pub returns : goal.returns
unfolding table_refusals ways
returns c =
    let_through _ _ c.faults_outside.ensures _ _ _ _ (search rules) c.test.ensures
    (let_through _ _ c.overweight.ensures _ _ _ _ (search rules) c.test-2.ensures
    (let_through _ _ c.words_amiss.ensures _ _ _ _ (search rules) c.test-3.ensures c.check_ways.ensures))
