-- `put_entry` meets its contract: without ways, the cue's number alone.
-- Rests on Records.antt and on `writer`, Over.
use Rattle.std.proofs.Common.{◌≡◌, rules}
use Rattle.rules.specs.Text.{decimal}
use Rattle.writer.proofs.Over.{room_first, room_second, wrote_both}
use Rattle.csv_export.proofs.Records.{entry_alone}
use Rattle.csv_export.proofs.pieces.put_entry.Goals as goal

pub extend_from_slice-requires : goal.extend_from_slice-requires
extend_from_slice-requires c =
    let cue : c.as_slice-cue.result.now ≡ decimal c.args.entry.cue = search rules in
    rw cue (room_first _ (rw (entry_alone c.args.sheet.bytes.now c.args.entry c.if-entry-eq0.true) at c.requires.room))

pub extend_from_slice-requires-then-entry-eq0 : goal.extend_from_slice-requires-then-entry-eq0
extend_from_slice-requires-then-entry-eq0 c =
    let cue : c.as_slice-cue.result.now ≡ decimal c.args.entry.cue = search rules in
    room_second _ (rw cue at c.extend_from_slice.ensures) (rw (entry_alone c.args.sheet.bytes.now c.args.entry c.if-entry-eq0.true) at c.requires.room)

pub returns-then-entry-eq0 : goal.returns-then-entry-eq0
returns-then-entry-eq0 c =
    let cue : c.as_slice-cue.result.now ≡ decimal c.args.entry.cue = search rules in
    rw (entry_alone c.args.sheet.bytes.now c.args.entry c.if-entry-eq0.true)
    (wrote_both _ (rw cue at c.extend_from_slice.ensures) c.extend_from_slice-then-entry-eq0.ensures)
