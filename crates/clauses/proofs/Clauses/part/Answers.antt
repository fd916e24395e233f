-- `part` meets its contract: the test is that the word touches the way.
-- Rests on Parts.antt and the contract of `keep`.
use borrow.Author.Rules.{rules}
use Rattle.rules.specs.Group.{touches}
use Rattle.clauses.specs.Leaves.{ways_of}
use Rattle.clauses.proofs.Parts.{touched-is}
use Rattle.clauses.proofs.Clauses.part.Goals as goal

pub returns : goal.returns
returns c = let a = c.args in
    rw (touched-is a.m (ways_of a.self)) (c.keep.ensures (touches a.m) (λ v b k. search rules))
