-- `lines` meets its contract: a record has a field.
-- Rests on Pieces.antt.
use Rattle.csv_rows.proofs.Pieces.{some-left}
use Rattle.csv_rows.proofs.fields.Rest.lines.Goals as goal

pub returns-in-Fields : goal.returns-in-Fields
returns-in-Fields c = some-left c.args.self c.in-Fields.is
