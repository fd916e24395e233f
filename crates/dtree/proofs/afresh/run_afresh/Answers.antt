-- `run_afresh` meets its contract: refused by the mode, by the table or by the limits, or made on the root leaf alone.
-- Rests on Fresh.antt and on the contracts of the functions called.
use Rattle.std.proofs.Common.{rules, ◌≡◌, refl, sym, ap, ◌∙◌, Result, false}
use Rattle.rules.specs.Table.{Table}
use Rattle.rules.specs.Tree.{leaf}
use Rattle.rules.specs.Refusals.{mode_above}
use Rattle.rules.specs.Calls.{run_answer}
use Rattle.rules.specs.declared.Limits.{Limits}
use Rattle.rules.specs.declared.Ended.{Ended}
use Rattle.rules.specs.declared.Refusal.{Refusal}
use Rattle.checks.specs.Tables.{table_of}
use Rattle.dtree.proofs.Accepting.{mode_refused, mode_taken, table_refused, task_refused, task_taken}
use Rattle.dtree.proofs.Fresh.{alone-good, ran-afresh, mode-refused-afresh, table-refused-afresh, limits-refused-afresh}
use Rattle.dtree.proofs.afresh.run_afresh.Goals as goal

pub returns-in_err-check_mode : goal.returns-in_err-check_mode
returns-in_err-check_mode c =
    let r = c.in_err-check_mode.field-0.0 in
    record { answer = mode-refused-afresh _ _ _ r (search rules) (mode_refused _ _ c.check_mode.ensures r (search rules)) }

pub returns-in_err-table : goal.returns-in_err-table
returns-in_err-table c =
    let r = c.in_err-table.field-0.0 in
    let low = mode_taken _ _ c.check_mode.ensures tt (search rules) in
    record { answer = table-refused-afresh _ _ _ r (search rules) low (table_refused _ _ _ _ c.accept.ensures r (search rules)) }

-- The table and the limits that were accepted are those that were handed over.
same : (t u : Table) → t ≡ u → (l m : Limits) → l ≡ m → (a : Result Ended Refusal) → a ≡ run_answer t false leaf l → a ≡ run_answer u false leaf m
same t u e l m f a h = rw (sym e, sym f) h

pub returns-in_err-task : goal.returns-in_err-task
returns-in_err-task c =
    let r = c.in_err-task.field-0.0 in
    let low = mode_taken _ _ c.check_mode.ensures tt (search rules) in
    record {
      answer = same (table_of c.in_ok-table.table) _ c.in_ok-table.ensures.same _ _ refl _
          (limits-refused-afresh _ _ _ r (search rules) low c.in_ok-table.table.accepted (task_refused _ _ c.accept-2.ensures r (search rules)));
    }

pub run_good-requires : goal.run_good-requires
run_good-requires c =
    record {
      mode = ap mode_above c.in_ok-task.ensures.same ∙ mode_taken _ _ c.check_mode.ensures tt (search rules);
      accepted = task_taken _ _ c.accept-2.ensures c.in_ok-task.task (search rules) c.in_ok-task.ensures.same;
      good = alone-good _ _ c.put_root.ensures;
    }

pub returns : goal.returns
returns c =
    let ran = ran-afresh _ _ _ _ c.put_root.ensures c.run_good.ensures.promise.call.outcome_is in
    record { answer = same _ _ c.in_ok-table.ensures.same _ _ c.in_ok-task.ensures.same _ ran }
