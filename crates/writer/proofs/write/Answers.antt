-- `write` meets its contract: a refused call writes nothing, and any other the sheet.
-- Rests on Writing.antt and the contracts of `accept` and `put_sheet`.
use Rattle.std.proofs.Common.{ap, refl, rules}
use Rattle.writer.specs.Given.{given}
use Rattle.writer.proofs.Writing.{wrote_nothing, room, wrote_sheet}
use Rattle.writer.proofs.write.Goals as goal

pub returns-in_err-accepted : goal.returns-in_err-accepted
returns-in_err-accepted c = record { promise = wrote_nothing _ _ c.in_err-accepted.ensures.answer _ c.in_err-accepted.field-0.0 refl (search rules) }

pub put_sheet-requires : goal.put_sheet-requires
put_sheet-requires c =
    let fresh = c.new-out.ensures in
    rw (ap given c.in_ok-accepted.ensures.same) (room _ _ c.in_ok-accepted.ensures.answer refl fresh.written fresh.left)

pub returns : goal.returns
returns c =
    let fresh = c.new-out.ensures in
    let put = rw (ap given c.in_ok-accepted.ensures.same) at c.put_sheet.ensures in
    record { promise = wrote_sheet _ _ c.in_ok-accepted.ensures.answer refl fresh.written fresh.left put _ (search rules) _ c.len.ensures }
