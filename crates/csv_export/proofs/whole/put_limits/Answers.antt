-- `put_limits` meets its contract: the word, the two numbers, the mode and the end, one behind the other.
-- Rests on Records.antt and on `writer`, Over.
use Rattle.writer.proofs.Over.{room_first, room_second, wrote_both}
use Rattle.csv_export.proofs.Records.{limits_bytes}
use Rattle.csv_export.proofs.whole.put_limits.Goals as goal

pub put_field-requires-2 : goal.put_field-requires-2
put_field-requires-2 c =
    room_second _ (wrote_both _ c.extend_from_slice.ensures c.put_field.ensures) (room_first _ (room_first _ (rw limits_bytes at c.requires)))

pub put_mode-requires : goal.put_mode-requires
put_mode-requires c =
    let front = wrote_both _ (wrote_both _ c.extend_from_slice.ensures c.put_field.ensures) c.put_field-2.ensures in
    room_second _ front (room_first _ (rw limits_bytes at c.requires))

pub extend_from_slice-requires-2 : goal.extend_from_slice-requires-2
extend_from_slice-requires-2 c =
    let front = wrote_both _ (wrote_both _ c.extend_from_slice.ensures c.put_field.ensures) c.put_field-2.ensures in
    room_second _ (wrote_both _ front c.put_mode.ensures) (rw limits_bytes at c.requires)

pub returns : goal.returns
returns c =
    let front = wrote_both _ (wrote_both _ c.extend_from_slice.ensures c.put_field.ensures) c.put_field-2.ensures in
    rw limits_bytes (wrote_both _ (wrote_both _ front c.put_mode.ensures) c.extend_from_slice-2.ensures)
