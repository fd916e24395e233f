-- `by_fault` meets its contract: the others are what the named ones leave of the leaf.
-- Rests on Leaving.antt and the contracts of `part`, `minus` and `cover`.
use Rattle.clauses.proofs.Leaving.{untouched}
use Rattle.clauses.proofs.Clauses.by_fault.Goals as goal

pub returns : goal.returns
returns c =
    let n = c.part-named in
    let o = c.minus-others in
    record {
      named = n.ensures;
      others = untouched c.args.self n.result o.result c.args.m n.ensures.ways_are o.ensures;
      covered = c.cover.ensures;
    }
