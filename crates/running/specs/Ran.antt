-- What a run leaves.
-- Rests on `rules`, Run, and on `records`, Records.
use Rattle.std.specs.Prelude.{◌≡◌, List, ◌++◌, length}
use Rattle.rules.specs.Table.{Table}
use Rattle.rules.specs.Tree.{Refinement, tree}
use Rattle.rules.specs.Run.{aim_of, picks, verdict}
use Rattle.rules.specs.declared.Limits.{Limits}
use Rattle.records.specs.Records.{layout}
use Rattle.records.specs.declared.Tree.{Tree}
use Rattle.running.specs.declared.Stopped.{Stopped}

-- A run on the tree of the series leaves the records, the verdict and the count that the rules say.
pub record Ran (t : Table) (ns : List Refinement) (m : Limits) (y : Tree) (r : Stopped) : Type 0 where
  pub leaves : y ≡ layout t (ns ++ picks t (aim_of m) m.budget (tree ns))
  pub says : r.verdict ≡ verdict t (aim_of m) m.budget (tree ns)
  pub counts : r.made ≡ length (picks t (aim_of m) m.budget (tree ns))
