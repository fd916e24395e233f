-- `put_little` meets its contract: the first bytes of the word are the lowest of the number.
-- Rests on Little.antt.
use Rattle.writer.proofs.Little.{take-le_bytes}
use Rattle.writer.proofs.output.Out.put_little.Goals as goal

pub extend_from_slice-requires : goal.extend_from_slice-requires
extend_from_slice-requires g c = rw (c.to_le_bytes.ensures, take-le_bytes g.row.N c.args.number c.requires.width) c.requires.room

pub returns : goal.returns
returns g c = rw (← take-le_bytes g.row.N c.args.number c.requires.width, ← c.to_le_bytes.ensures) c.extend_from_slice.ensures
