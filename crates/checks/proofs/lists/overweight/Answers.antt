-- `overweight` meets its contract: the library's `any` finds what the rules test.
-- Rests on Above.antt.
use Rattle.std.proofs.Common.{rules, tests, ◌∙◌, nat_lt}
use Rattle.std.proofs.lemmas.Iterator.{YieldsList-from_slice}
use Rattle.std.proofs.lemmas.Iterator.Search.{any_from_yields_List}
use Rattle.rules.specs.Refusals.{overweight}
use Rattle.checks.proofs.Above.{above_some}
use Rattle.checks.proofs.lists.overweight.Goals as goal

pub returns : goal.returns
unfolding overweight
returns c =
    let xs = c.args.weights.now in
    any_from_yields_List (λ x. nat_lt 1000000000 x) _ _ _ c.any.ensures.ran (YieldsList-from_slice xs cc) (λ x b q k. search (rules, tests)) ∙ above_some 1000000000 xs
