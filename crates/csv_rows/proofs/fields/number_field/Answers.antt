-- `number_field` meets its contract.
-- Rests on Reading.antt.
use Rattle.csv_rows.specs.Fields.{numeral_said}
use Rattle.csv_rows.proofs.Reading.{numerals-plain}
use Rattle.csv_rows.proofs.fields.number_field.Goals as goal

pub returns : goal.returns
returns c = c.field.ensures numeral_said numerals-plain (λ t r p. p)
