-- `restrict` meets its contract: of the ways that are not contradicted, each loses the faults.
-- Rests on Narrowed.antt and the contracts of `keep` and `fixing`.
use mathlib.Core.Path.{refl}
use mathlib.Core.Bool.{not}
use borrow.Author.Rules.{rules}
use Rattle.rules.specs.Leaf.{contradicted}
use Rattle.clauses.proofs.Narrowed.{restricted}
use Rattle.clauses.proofs.Clauses.restrict.Goals as goal

pub returns : goal.returns
returns c = let a = c.args in
    restricted a.self a.p a.q c.keep-kept.result _ (c.keep-kept.ensures (λ v. not (contradicted a.p a.q v)) (λ v b k. search rules))
    refl refl refl c.fixing-kept.ensures
