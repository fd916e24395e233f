-- `cue_sheet_table` meets its contract, by the answer of the reader's call: a cue's table, or none.
-- Rests on Handing.antt and the contracts of `sheet::reader::cue_at`, of `table` there, and of the numbers.
use Rattle.std.proofs.Common.{◌≡◌, sym, ap, ◌∙◌, rules, Ok, Err, Some, None}
use Rattle.cue_numbers.specs.Numbers.{flat_table, no_table}
use Rattle.cuerisk.proofs.Handing.{table_for, table-told}
use Rattle.cuerisk.proofs.cue_sheet_table.Goals as goal

pub returns-in-Ok-Some : goal.returns-in-Ok-Some
returns-in-Ok-Some c =
    let bs = c.args.sheet.now in
    let cue : c.cue_at.result ≡ Ok (Some c.in-Ok-Some.entry) = search rules in
    record {
      promise = table-told bs (λ i. (c.type_inv.sheet i).fits) _ c.cue_at.ensures.answer
          (c.from.ensures ∙ ap (flat_table 0 0) c.table.ensures.table ∙ sym (ap (table_for bs) cue));
    }

pub returns-in-Ok-None : goal.returns-in-Ok-None
returns-in-Ok-None c =
    let bs = c.args.sheet.now in
    let past : c.cue_at.result ≡ Ok None = search rules in
    record { promise = table-told bs (λ i. (c.type_inv.sheet i).fits) _ c.cue_at.ensures.answer (c.none.ensures ∙ sym (ap (table_for bs) past)) }

pub returns-in-Err : goal.returns-in-Err
returns-in-Err c =
    let bs = c.args.sheet.now in
    let refused : c.cue_at.result ≡ Err c.in-Err.refusal = search rules in
    let told = c.none-in-Err.ensures ∙ ap (λ n. flat_table n 0 no_table) c.from-in-Err.ensures in
    record { promise = table-told bs (λ i. (c.type_inv.sheet i).fits) _ c.cue_at.ensures.answer (told ∙ sym (ap (table_for bs) refused)) }
