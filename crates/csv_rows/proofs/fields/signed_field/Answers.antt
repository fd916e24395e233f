-- `signed_field` meets its contract.
-- Rests on Reading.antt.
use Rattle.csv_rows.specs.Fields.{signed_said}
use Rattle.csv_rows.proofs.Reading.{signed-plain}
use Rattle.csv_rows.proofs.fields.signed_field.Goals as goal

pub returns : goal.returns
returns c = c.field.ensures signed_said signed-plain (λ t r p. p)
