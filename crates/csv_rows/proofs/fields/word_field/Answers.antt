-- `word_field` meets its contract.
-- Rests on Reading.antt.
use Rattle.std.proofs.Common.{rules}
use Rattle.csv_rows.specs.Fields.{word_said}
use Rattle.csv_rows.proofs.Reading.{words-plain}
use Rattle.csv_rows.proofs.fields.word_field.Goals as goal

pub returns : goal.returns
returns c = c.field.ensures (word_said c.args.word.now) (words-plain c.args.word.now c.requires) (λ t r p. search rules)
