-- `not_rising` meets its contract: the library's `is_sorted_by`, over a 0 and the numbers, finds what the rules test.
-- Rests on Rising.antt.
use Rattle.std.proofs.Common.{rules, tests, ap, not}
use Rattle.std.proofs.lemmas.Iterator.{YieldsList-from_slice}
use Rattle.std.proofs.lemmas.Iterator.Adapters.{YieldsList-from_once}
use Rattle.std.proofs.lemmas.Iterator.Consumers.{YieldsList-from_chain, YieldsList-from_copied}
use Rattle.std.specs.Prelude.{Some}
use Rattle.rules.specs.Refusals.{not_rising}
use Rattle.checks.proofs.Rising.{rising_from_sorted}
use Rattle.checks.proofs.lists.not_rising.Goals as goal

pub returns : goal.returns
unfolding not_rising
returns c =
    let xs = c.args.numbers.now in
    let zero_first = YieldsList-from_once (Some 0) (search rules) in
    let numbers = YieldsList-from_copied (YieldsList-from_slice xs (search rules)) in
    ap not (rising_from_sorted _ _ _ (λ x y b q k. search (rules, tests)) _ _ 0 xs c.is_sorted_by.ensures.ran
    (YieldsList-from_chain zero_first numbers (search rules) (search rules)))
