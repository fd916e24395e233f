-- `and` meets its contract, word by word.
-- Rests on Pairs.antt.
use Rattle.clauses.proofs.Pairs.{both_numbers}
use Rattle.clauses.proofs.sets.Numbers.and.Goals as goal

pub returns : goal.returns
returns c = let a = c.args in both_numbers a.self.low a.self.high a.other.low a.other.high
