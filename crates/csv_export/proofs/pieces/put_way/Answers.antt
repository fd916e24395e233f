-- `put_way` meets its contract: the cue, the faults and the end, one behind the other.
-- Rests on `writer`, Over, and on the contract of `put_faults`.
use Rattle.writer.proofs.Over.{wrote_both}
use Rattle.csv_export.specs.Parts.{way_text}
use Rattle.csv_export.proofs.pieces.put_way.Goals as goal

pub returns : goal.returns
unfolding way_text
returns c = wrote_both _ (wrote_both _ c.extend_from_slice.ensures c.put_faults.ensures) c.extend_from_slice-2.ensures
