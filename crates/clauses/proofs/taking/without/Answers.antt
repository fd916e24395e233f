-- `without` meets its contract: bits are dropped by the complement of their word.
-- Rests on Words.antt.
use borrow.Author.Rules.{rules}
use Rattle.clauses.proofs.Words.{and-not}
use Rattle.clauses.proofs.taking.without.Goals as goal

pub returns : goal.returns
returns c = and-not 64 c.args.w c.args.m (search rules) (search rules)
