-- `cue_refine` meets its contract: the promise of the hand refinement, told in numbers.
-- Rests on Telling.antt and the contracts of `kind_asked` and `dtree::refining::refine`.
use Rattle.cuerisk.proofs.Telling.{refining-told}
use Rattle.cuerisk.proofs.cue_refine.Goals as goal

pub returns : goal.returns
returns c = record { promise = refining-told _ _ _ _ _ _ _ (rw c.kind_asked-kind.ensures at c.refine.ensures.promise) c.from.ensures }
