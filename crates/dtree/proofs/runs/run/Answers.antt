-- `run` meets its contract: refused by the mode, by the table, by the limits or by 16, or made.
-- Rests on Refuses.antt, Verdicts.antt, on `rules`, Answering, and on the contracts of the functions called.
use Rattle.std.proofs.Common.{rules, ◌≡◌, sym, ap, ◌∙◌, subst, Result, Ok, Err, Bool, true}
use Rattle.rules.specs.Table.{Table}
use Rattle.rules.specs.Refusals.{mode_above}
use Rattle.rules.specs.Calls.{by_run}
use Rattle.rules.specs.declared.Limits.{Limits}
use Rattle.rules.specs.declared.Ended.{Ended}
use Rattle.rules.specs.declared.Refusal.{Refusal}
use Rattle.checks.specs.Tables.{table_of}
use Rattle.records.specs.Records.{is_good, Good}
use Rattle.records.specs.declared.Tree.{Tree}
use Rattle.store.specs.Lent.{Behind}
use Rattle.dtree.specs.Promises.{Running}
use Rattle.dtree.proofs.Accepting.{judged, mode_refused, mode_taken, table_refused, task_refused, task_taken}
use Rattle.dtree.proofs.Calling.{refusals_of}
use Rattle.dtree.proofs.Refuses.{by-mode, run-table, by-limits, not-passed, passed-on, run-bad, good}
use Rattle.dtree.proofs.Verdicts.{running-refused}
use Rattle.dtree.proofs.Back.{run-behind}
use Rattle.dtree.proofs.runs.run.Goals as goal

pub returns-in_err-check_mode : goal.returns-in_err-check_mode
returns-in_err-check_mode g c =
    let r = c.in_err-check_mode.field-0.0 in
    record {
      promise = running-refused _ _ _ _ r (search rules)
          (by-mode _ (g.T.Lent.tree c.args.tree.now) c.args.limits r (mode_refused _ _ c.check_mode.ensures r (search rules)));
    }

pub returns-in_err-table : goal.returns-in_err-table
returns-in_err-table g c =
    let r = c.in_err-table.field-0.0 in
    let low = mode_taken _ _ c.check_mode.ensures tt (search rules) in
    record {
      promise = running-refused _ _ _ _ r (search rules)
          (run-table _ (g.T.Lent.tree c.args.tree.now) c.args.limits low r (table_refused _ _ _ _ c.accept.ensures r (search rules)));
    }

pub returns-in_err-task : goal.returns-in_err-task
returns-in_err-task g c =
    let r = c.in_err-task.field-0.0 in
    let low = mode_taken _ _ c.check_mode.ensures tt (search rules) in
    let x = g.T.Lent.tree c.args.tree.now in
    record {
      promise = subst (λ t. Running t x c.args.limits x c.from_residual-in_err-task.result) c.in_ok-table.ensures.same
          (running-refused (table_of c.in_ok-table.table) x _ _ r (search rules)
          (by-limits _ c.in_ok-table.table.accepted x _ low r (task_refused _ _ c.accept-2.ensures r (search rules))));
    }

-- The table and the limits that were accepted are those that were handed over, and the tree that was made again is the one that was lent.
module _ (t u : Table) (e : t ≡ u) (l m : Limits) (f : l ≡ m) where
  of-lent : (x w : Tree) → w ≡ x → (y z : Tree) → z ≡ y → (a : Ended) → Running t w l y (Ok a) → Running u x m z (Ok a)
  of-lent x w g y z h a r = rw (sym e, sym f, sym g, h) r

  refused-so : (x : Tree) (a : Result Ended Refusal) (r : Refusal) → a ≡ Err r → judged (refusals_of t x (by_run l)) ≡ Err r → Running u x m x a
  refused-so x a r g h = rw (sym e, sym f) (running-refused t x l a r g h)

pub returns-in_err-test : goal.returns-in_err-test
returns-in_err-test g c =
    let r = c.in_err-test.field-0.0 in
    let x = g.T.Lent.tree c.args.tree.now in
    let low = ap mode_above c.in_ok-task.ensures.same ∙ mode_taken _ _ c.check_mode.ensures tt (search rules) in
    let free = task_taken _ _ c.accept-2.ensures c.in_ok-task.task (search rules) c.in_ok-task.ensures.same in
    let no = not-passed _ _ c.test.ensures r (search rules) in
    let bad = run-bad _ x _ c.rebuild-good.ensures.answer c.in_ok-table.table.accepted _ low free no.0 in
    record {
      promise = refused-so _ _ c.in_ok-table.ensures.same _ _ c.in_ok-task.ensures.same x _ r (search rules) (bad ∙ ap (λ s. Err s) (sym no.1));
    }

-- So that it is good.
made-good : (t : Table) (m x : Tree) (b : Bool) → b ≡ is_good t x → (b ≡ true → m ≡ x) → b ≡ true → Good t m
made-good t m x b answer same passed = subst (Good t) (sym (same passed)) (good t x b answer passed)

pub run_good-ended-requires : goal.run_good-ended-requires
run_good-ended-requires g c =
    let passed = passed-on _ _ c.test.ensures tt (search rules) in
    record {
      mode = ap mode_above c.in_ok-task.ensures.same ∙ mode_taken _ _ c.check_mode.ensures tt (search rules);
      accepted = task_taken _ _ c.accept-2.ensures c.in_ok-task.task (search rules) c.in_ok-task.ensures.same;
      good = made-good _ _ (g.T.Lent.tree c.args.tree.now) _ c.rebuild-good.ensures.answer c.rebuild-good.ensures.made passed;
    }

-- What is put back differs from what was lent in the records in use alone.
pub put_back-requires : goal.put_back-requires
put_back-requires g c =
    let t = table_of c.in_ok-table.table in
    let m = c.rebuild-good.new.again in
    let passed = passed-on _ _ c.test.ensures tt (search rules) in
    let is-good = made-good t m (g.T.Lent.tree c.args.tree.now) _ c.rebuild-good.ensures.answer c.rebuild-good.ensures.made passed in
    subst (λ z. Behind z c.run_good-ended.new.tree) (c.rebuild-good.ensures.made passed) (run-behind t m is-good _ _ _ c.run_good-ended.ensures.promise)

pub returns : goal.returns
returns g c =
    record {
      promise = of-lent _ _ c.in_ok-table.ensures.same _ _ c.in_ok-task.ensures.same _ _
          (c.rebuild-good.ensures.made (passed-on _ _ c.test.ensures tt (search rules))) _ _ c.put_back.ensures _ c.run_good-ended.ensures.promise;
    }
