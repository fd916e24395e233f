-- `mode` meets its contract: nothing is left, or `1` alone.
-- Rests on Heading.antt.
use Rattle.std.proofs.Common.{sym, ap, ◌∙◌}
use Rattle.rules.specs.Text.{bytes}
use Rattle.csv_rows.specs.Fields.{fields_left, lines_left}
use Rattle.csv_rows.specs.Told.{mode_said}
use Rattle.csv_rows.proofs.Pieces.{fields-are, alone}
use Rattle.csv_rows.proofs.Heading.{mode-none, mode-other, mode-more, mode-one}
use Rattle.csv_rows.proofs.heads.mode.Goals as goal

pub returns-in_err-rest-in-Fields : goal.returns-in_err-rest-in-Fields
unfolding bytes
returns-in_err-rest-in-Fields c =
    rw (c.from_residual.ensures, ap fields_left c.in-Fields.is, fields-are c.in-Fields.fields.now) (mode-other _ _ c.in_err-rest-in-Fields.ensures)

pub returns-in_err-lines-in-Fields : goal.returns-in_err-lines-in-Fields
returns-in_err-lines-in-Fields c =
    rw (c.from_residual-in_err-lines-in-Fields.ensures, ap fields_left c.in-Fields.is, c.in_ok-rest-in-Fields.ensures.1.fields)
    (mode-more _ _ c.in_err-lines-in-Fields.ensures)

pub returns-in-Lines : goal.returns-in-Lines
returns-in-Lines c = (ap mode_said (ap fields_left c.in-Lines.is) ∙ mode-none, sym (ap lines_left c.in-Lines.is))

pub returns-in_ok-lines-in-Fields : goal.returns-in_ok-lines-in-Fields
unfolding bytes
returns-in_ok-lines-in-Fields c =
    let (said, passed) = c.in_ok-rest-in-Fields.ensures in
    let (none, lines) = c.in_ok-lines-in-Fields.ensures in (
      ap mode_said (ap fields_left c.in-Fields.is ∙ alone passed none) ∙ mode-one _ said,
      sym (ap lines_left c.in-Fields.is ∙ passed.lines ∙ lines),
    )
