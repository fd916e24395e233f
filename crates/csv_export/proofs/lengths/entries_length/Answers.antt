-- `entries_length` meets its contract: each entry's records are as long as the definition says, and there are at most 24 entries.
-- Rests on Entries.antt and Measured.antt, and on `sheet`, Summed.
use Rattle.std.proofs.Common.{◌∙◌, ◌*◌, length, arith, rules}
use Rattle.sheet.specs.Reading.{entries_in}
use Rattle.sheet.proofs.Summed.{part_fits, Sum, sum_is}
use Rattle.csv_export.specs.Parts.{entry_text}
use Rattle.csv_export.proofs.Entries.{few_entries}
use Rattle.csv_export.proofs.Measured.{length_pieces}
use Rattle.csv_export.proofs.lengths.entries_length.Goals as goal

pub sum-requires-clause-fits : goal.sum-requires-clause-fits
sum-requires-clause-fits c = λ p seen at.
    let t = c.args.sheet in
    omega (
      arith,
      part_fits _ (λ e. length (entry_text t.bytes.now e)) (470 * 65535) (c.map.ensures.source ∙ c.entries.ensures) c.map.ensures.closure
          (λ x r q k. search rules) 24 (omega arith) (few_entries t.bytes.now t.accepted) p seen at,
    )

-- The sum of the lengths.
lengths : (c : goal.After-sum) → Sum (λ e. length (entry_text c.args.sheet.bytes.now e)) (470 * 65535) 24 (entries_in c.args.sheet.bytes.now) c.sum.result
lengths c =
    let t = c.args.sheet in
    sum_is _ (λ e. length (entry_text t.bytes.now e)) (470 * 65535) (c.map.ensures.source ∙ c.entries.ensures) c.map.ensures.closure
    (λ x r q k. search rules) 24 (few_entries t.bytes.now t.accepted) c.sum.result c.sum.ensures.ran c.sum.ensures.runs

pub returns-clause-value : goal.returns-clause-value
returns-clause-value c = (lengths c).value ∙ length_pieces (entry_text c.args.sheet.bytes.now) (entries_in c.args.sheet.bytes.now)

pub returns-clause-most : goal.returns-clause-most
returns-clause-most c = (lengths c).most
