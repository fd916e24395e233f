-- `run_good` meets its contract: the run is made.
-- Rests on ByRun.antt, Verdicts.antt and the contracts of `run_on`, `figures` and `figure`.
use Rattle.std.proofs.Common.{refl}
use Rattle.dtree.proofs.ByRun.{ran_so}
use Rattle.dtree.proofs.Verdicts.{running}
use Rattle.dtree.proofs.runs.run_good.Goals as goal

pub returns : goal.returns
returns c =
    let ran = c.run_on-stopped.ensures in
    let figure = rw c.aim.ensures.aim at c.figure.ensures in
    record {
      promise = running _ _ _ _ _
          (ran_so _ c.args.table.accepted _ c.requires.good _ c.requires.mode c.requires.accepted _ _ ran _ c.figures.ensures _ refl _ figure);
    }
