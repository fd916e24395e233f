-- `run` meets its contract: each field decides, as the record's shape says.
-- Rests on Heading.antt.
use Rattle.std.proofs.Common.{sym, ◌∙◌}
use Rattle.rules.specs.Text.{bytes}
use Rattle.csv_rows.proofs.Pieces.{fields-are, further, alone}
use Rattle.csv_rows.proofs.Heading.{run-word, run-alone, run-first, run-one, run-second, run-mode, run-all}
use Rattle.csv_rows.proofs.heads.run.Goals as goal

pub returns-in_err-rest : goal.returns-in_err-rest
unfolding bytes
returns-in_err-rest c = rw (c.from_residual.ensures, fields-are c.args.text.now) (run-word _ _ c.in_err-rest.ensures)

pub returns-in_err-fields : goal.returns-in_err-fields
returns-in_err-fields c = rw (c.from_residual-in_err-fields.ensures, alone c.in_ok-rest.ensures.1 c.in_err-fields.ensures) (run-alone _)

pub returns-in_err-allowance : goal.returns-in_err-allowance
returns-in_err-allowance c =
    rw (c.from_residual-in_err-allowance.ensures, (further _ c.in_ok-rest.ensures.1 c.in_ok-fields.ensures).0, fields-are c.in_ok-fields.field-0.now)
    (run-first _ _ _ c.in_err-allowance.ensures)

pub returns-in_err-fields-2 : goal.returns-in_err-fields-2
returns-in_err-fields-2 c =
    rw (
      c.from_residual-in_err-fields-2.ensures,
      (further _ c.in_ok-rest.ensures.1 c.in_ok-fields.ensures).0,
      alone c.in_ok-allowance.ensures.1 c.in_err-fields-2.ensures,
    ) (run-one _ _)

pub returns-in_err-budget : goal.returns-in_err-budget
returns-in_err-budget c =
    rw (
      c.from_residual-in_err-budget.ensures,
      (further _ c.in_ok-rest.ensures.1 c.in_ok-fields.ensures).0,
      (further _ c.in_ok-allowance.ensures.1 c.in_ok-fields-2.ensures).0,
      fields-are c.in_ok-fields-2.field-0.now,
    ) (run-second _ _ _ _ c.in_err-budget.ensures)

pub returns-in_err-mode : goal.returns-in_err-mode
returns-in_err-mode c =
    rw (
      c.from_residual-in_err-mode.ensures,
      (further _ c.in_ok-rest.ensures.1 c.in_ok-fields.ensures).0,
      (further _ c.in_ok-allowance.ensures.1 c.in_ok-fields-2.ensures).0,
      c.in_ok-budget.ensures.1.fields,
    ) (run-mode _ _ _ _ c.in_err-mode.ensures)

pub returns : goal.returns
unfolding bytes
returns c =
    let first = further _ c.in_ok-rest.ensures.1 c.in_ok-fields.ensures in
    let second = further _ c.in_ok-allowance.ensures.1 c.in_ok-fields-2.ensures in
    let (mode, lines) = c.in_ok-mode.ensures in (
      rw (first.0, second.0, c.in_ok-budget.ensures.1.fields)
          (run-all _ _ _ _ c.in_ok-rest.ensures.0 c.in_ok-allowance.ensures.0 c.in_ok-budget.ensures.0 mode),
      lines ∙ sym (first.1 ∙ second.1 ∙ c.in_ok-budget.ensures.1.lines),
    )
