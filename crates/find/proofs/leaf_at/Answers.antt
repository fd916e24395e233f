-- `leaf_at` meets its contract: a leaf that nothing refuses can be refined.
-- Rests on Numbers.antt, on `rules`, Answering, and on the contracts of `find` and `check_leaf`.
use Rattle.std.proofs.Common.{rules, refl, sym, ◌∙◌}
use Rattle.rules.proofs.Answering.{clear}
use Rattle.find.specs.Finds.{Tells}
use Rattle.find.proofs.Numbers.{leads_to, refinable}
use Rattle.find.proofs.leaf_at.Goals as goal

pub returns : goal.returns
unfolding Tells
returns c =
    let short = clear _ _ refl _ (search rules) c.test.ensures in
    let leads = leads_to _ _ c.find.ensures.reached _ c.ok_or.ensures.value c.in_ok-leaf.leaf (search rules) in
    refinable _ _ _ _ short _ leads (search rules) c.in_ok-check_leaf.ensures.fault (sym c.check_leaf.ensures.answer ∙ search rules)
