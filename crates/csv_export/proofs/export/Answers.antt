-- `export` meets its contract: a refused call writes nothing, and any other the text of the sheet.
-- Rests on Exported.antt and the contracts of `read`, `text_length` and `put_text`.
use Rattle.std.proofs.Common.{rules}
use Rattle.rules.proofs.Bytes.{each_below}
use Rattle.csv_export.proofs.Exported.{refused_sheet, refused_space, room, wrote_text}
use Rattle.csv_export.proofs.export.Goals as goal

pub returns-in_err-sheet : goal.returns-in_err-sheet
returns-in_err-sheet c = record { promise = refused_sheet _ _ c.in_err-sheet.field-0.0 c.in_err-sheet.ensures _ (search rules) }

pub returns-in_err-test : goal.returns-in_err-test
returns-in_err-test c =
    let below = each_below 256 c.args.bytes.now (λ i. (c.type_inv.bytes i).fits) in
    let refused = refused_space _ _ c.in_ok-sheet.ensures below c.text_length.ensures c.test.ensures in
    record { promise = refused c.in_err-test.field-0.0 (search rules) _ (search rules) }

pub put_text-requires : goal.put_text-requires
put_text-requires c =
    let below = each_below 256 c.args.bytes.now (λ i. (c.type_inv.bytes i).fits) in
    let fresh = c.new-out.ensures in
    room _ _ c.in_ok-sheet.ensures below c.text_length.ensures c.test.ensures c.in_ok-test.was fresh.written fresh.left

pub returns : goal.returns
returns c =
    let below = each_below 256 c.args.bytes.now (λ i. (c.type_inv.bytes i).fits) in
    let fresh = c.new-out.ensures in
    let wrote = wrote_text _ _ c.in_ok-sheet.ensures below c.text_length.ensures c.test.ensures c.in_ok-test.was fresh.written fresh.left in
    record { promise = wrote c.put_text.ensures _ (search rules) _ c.len.ensures }
