-- `holds` meets its contract: a bit is tested by a shift.
-- Rests on Naming.antt.
use Rattle.csv_rows.proofs.Naming.{holds-bit}
use Rattle.csv_rows.proofs.ways.Seen.holds.Goals as goal

pub returns : goal.returns
returns c = holds-bit c.args.self.now c.args.fault c.word.result c.word.ensures
