-- `close` meets its contract: the last cue is kept behind those in front of it.
-- Rests on Counting.antt.
use Rattle.std.proofs.Common.{sym, ◌∙◌}
use Rattle.csv_import.proofs.Counting.{closed}
use Rattle.csv_import.proofs.cues.Cues.close.Goals as goal

pub returns-in-Some : goal.returns-in-Some
returns-in-Some c = λ cs h. closed h (sym c.take.ensures.value ∙ c.in-Some.is) _ _ _ c.keep.ensures c.keep-in-Some.ensures
