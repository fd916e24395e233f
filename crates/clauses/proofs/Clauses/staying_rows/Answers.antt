-- `staying_rows` meets its contract: of all ways those stay that none of them outdoes.
-- Rests on Held.antt and the contracts of `whole`, `keep` and `outdone`.
use Rattle.std.proofs.Common.{Bool, not, ap, rules}
use Rattle.rules.specs.declared.Way.{Way}
use Rattle.rules.specs.Leaf.{sift, redundant, minimal}
use Rattle.clauses.specs.Leaves.{all_of}
use Rattle.clauses.proofs.Held.{reworded, onward}
use Rattle.clauses.proofs.Clauses.staying_rows.Goals as goal

pub returns : goal.returns
unfolding minimal
returns c =
    let w = c.whole.ensures in
    let stays : Way → Bool = λ v. not (redundant (all_of c.args.rows) v) in
    reworded (onward w (c.keep.ensures stays (λ v b k. search rules))) w.gone_is (ap (sift stays) w.ways_are)
