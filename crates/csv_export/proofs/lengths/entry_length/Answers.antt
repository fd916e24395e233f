-- `entry_length` meets its contract: each way's record is as long as the definition says, and there are at most 65535 ways.
-- Rests on Measured.antt and Records.antt, and on `sheet`, Stated and Summed.
use Rattle.std.proofs.Common.{◌∙◌, length, ap, sym, arith, rules}
use Rattle.rules.specs.Text.{decimal}
use Rattle.sheet.proofs.Stated.{length_parts}
use Rattle.sheet.proofs.Summed.{part_fits, Sum, sum_is}
use Rattle.csv_export.specs.Parts.{way_text, ways_of}
use Rattle.csv_export.proofs.Records.{entry_ways}
use Rattle.csv_export.proofs.Measured.{way_length, length_pieces}
use Rattle.csv_export.proofs.lengths.entry_length.Goals as goal

pub sum-requires-clause-fits : goal.sum-requires-clause-fits
sum-requires-clause-fits c = λ p seen at.
    let e = c.args.entry in
    omega (
      arith,
      part_fits _ (λ w. length (way_text (decimal e.cue) w)) 470 {ys = ways_of c.args.sheet.bytes.now e} (search rules) c.map.ensures.closure
          (λ x r q k. (search rules, search (rules, way_length), search rules)) 65535 (omega arith) (search (rules, length_parts)) p seen at,
    )

-- The sum of the lengths.
lengths : (c : goal.After-sum)
    → Sum (λ w. length (way_text (decimal c.args.entry.cue) w)) 470 65535 (ways_of c.args.sheet.bytes.now c.args.entry) c.sum.result
lengths c =
    let e = c.args.entry in
    sum_is _ (λ w. length (way_text (decimal e.cue) w)) 470 {ys = ways_of c.args.sheet.bytes.now e} (search rules) c.map.ensures.closure
    (λ x r q k. (search rules, search (rules, way_length), search rules)) 65535 (search (rules, length_parts))
    c.sum.result c.sum.ensures.ran c.sum.ensures.runs

pub returns-clause-value : goal.returns-clause-value
returns-clause-value c =
    let e = c.args.entry in
    let bs = c.args.sheet.bytes.now in
    (lengths c).value ∙ length_pieces (way_text (decimal e.cue)) (ways_of bs e) ∙ ap length (sym (entry_ways bs e c.if-entry-eq0.false))

pub returns-clause-most : goal.returns-clause-most
returns-clause-most c = omega (arith, (lengths c).most)
