-- `fault_field` meets its contract.
-- Rests on Reading.antt.
use Rattle.csv_rows.specs.Fields.{fault_said}
use Rattle.csv_rows.proofs.Reading.{faults-plain}
use Rattle.csv_rows.proofs.fields.fault_field.Goals as goal

pub returns : goal.returns
returns c = c.field.ensures fault_said faults-plain (λ t r p. p)
