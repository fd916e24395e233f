-- `minus` meets its contract: a number is left just if its bit is in no word of the second.
-- Rests on Pairs.antt.
use borrow.Author.Rules.{rules}
use Rattle.clauses.proofs.Pairs.{less_numbers}
use Rattle.clauses.proofs.sets.Numbers.minus.Goals as goal

pub returns : goal.returns
returns c = let a = c.args in
    less_numbers a.self.low a.self.high a.other.low a.other.high (search rules) (search rules) (search rules) (search rules)
