-- `cue_sheet_report` meets its contract: the numbers of what `put_text` answers, and its space.
-- Rests on Reporting.antt and the contracts of `put_text` and of the numbers.
use mathlib.Core.Path.{ap, ◌∙◌}
use Rattle.cue_numbers.specs.Numbers.{flat, flat_write}
use Rattle.cuerisk.proofs.Reporting.{report-reply}
use Rattle.cuerisk.proofs.cue_sheet_report.Goals as goal

pub returns : goal.returns
returns c =
    let e = c.from.ensures ∙ ap flat_write c.put_text.ensures.value in
    record { promise = record { numbers = e; counts = e ∙ ap flat (report-reply _ _); space = c.put_text.ensures.space_after } }
