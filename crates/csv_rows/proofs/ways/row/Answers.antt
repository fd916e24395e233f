-- `row` meets its contract: each test decides, as the record's shape says.
-- Rests on Rows.antt.
use Rattle.std.proofs.Common.{◌≡◌, ◌≤◌, ◌<◌, sym, ap, ◌∙◌, rules}
use Rattle.csv_rows.specs.Fields.{fields_left, lines_left}
use Rattle.csv_rows.proofs.Pieces.{fields-are, alone}
use Rattle.csv_rows.proofs.Rows.{row-bad, row-high, row-not, row-alone, row-way}
use Rattle.csv_rows.proofs.ways.row.Goals as goal

pub returns-in_err-number : goal.returns-in_err-number
returns-in_err-number c = rw (c.from_residual.ensures, fields-are c.args.text.now) (row-bad _ _ c.in_err-number.ensures)

pub returns-in_err-cue : goal.returns-in_err-cue
returns-in_err-cue c =
    let high : 65535 < c.in_ok-number.number = search rules in
    rw (c.from_residual-in_err-cue.ensures, fields-are c.args.text.now) (row-high _ _ c.in_ok-number.ensures.0 _ high)

pub returns-in_err-way-in-Fields : goal.returns-in_err-way-in-Fields
returns-in_err-way-in-Fields c =
    let (said, passed) = c.in_ok-number.ensures in
    let small : c.in_ok-number.number ≤ 65535 = search rules in
    let fields = fields-are c.in-Fields.fields.now in
    rw (c.from_residual-in_err-way-in-Fields.ensures, passed.fields, ap fields_left c.in-Fields.is, fields)
    (row-not _ _ said small _ _ (rw fields at c.in_err-way-in-Fields.ensures))

pub returns-in-Lines : goal.returns-in-Lines
returns-in-Lines c =
    let (said, passed) = c.in_ok-number.ensures in
    let same : c.in_ok-cue.cue ≡ c.in_ok-number.number = search rules in
    let small : c.in_ok-number.number ≤ 65535 = search rules in (
      rw (same, alone passed (ap fields_left c.in-Lines.is)) (row-alone _ _ said small),
      sym (passed.lines ∙ ap lines_left c.in-Lines.is),
    )

pub returns-in_ok-way-in-Fields : goal.returns-in_ok-way-in-Fields
returns-in_ok-way-in-Fields c =
    let (said, passed) = c.in_ok-number.ensures in
    let (way, lines) = c.in_ok-way-in-Fields.ensures in
    let same : c.in_ok-cue.cue ≡ c.in_ok-number.number = search rules in
    let small : c.in_ok-number.number ≤ 65535 = search rules in
    let fields = fields-are c.in-Fields.fields.now in (
      rw (same, passed.fields, ap fields_left c.in-Fields.is, fields) (row-way _ _ said small _ _ _ (rw fields at way)),
      lines ∙ sym (passed.lines ∙ ap lines_left c.in-Fields.is),
    )
