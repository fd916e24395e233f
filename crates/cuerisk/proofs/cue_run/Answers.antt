-- `cue_run` meets its contract: the promise of the run, told in numbers.
-- Rests on Telling.antt and the contract of `dtree::runs::run`.
use Rattle.cuerisk.proofs.Telling.{running-told}
use Rattle.cuerisk.proofs.cue_run.Goals as goal

pub returns : goal.returns
returns c = record { promise = running-told _ _ _ _ _ _ c.run.ensures.promise c.from.ensures }
