-- `crowded` meets its contract: the library's `any` finds what the rules test.
-- Rests on Above.antt.
use Rattle.std.proofs.Common.{rules, tests, ◌∙◌, nat_lt}
use Rattle.std.proofs.lemmas.Iterator.{YieldsList-from_slice}
use Rattle.std.proofs.lemmas.Iterator.Search.{any_from_yields_List}
use Rattle.rules.specs.Refusals.{crowded}
use Rattle.checks.proofs.Above.{above_some}
use Rattle.checks.proofs.lists.crowded.Goals as goal

pub returns : goal.returns
unfolding crowded
returns c =
    let xs = c.args.counts.now in
    any_from_yields_List (λ x. nat_lt 128 x) _ _ _ c.any.ensures.ran (YieldsList-from_slice xs cc) (λ x b q k. search (rules, tests)) ∙ above_some 128 xs
