-- `not_rising` meets its contract: the library's `is_sorted_by`, over a 0 and the numbers of the entries, finds what the rules test.
-- Rests on `checks`, Rising, and on Stated.antt.
use Rattle.std.proofs.Common.{rules, tests, ap, not, ◌∙◌}
use Rattle.std.proofs.lemmas.Iterator.{YieldsList-from_map}
use Rattle.std.proofs.lemmas.Iterator.Adapters.{YieldsList-from_once}
use Rattle.std.proofs.lemmas.Iterator.Consumers.{YieldsList-from_chain, YieldsList-from_first, YieldsList-at}
use Rattle.std.specs.Prelude.{Some}
use Rattle.rules.specs.Refusals.{not_rising, rising}
use Rattle.rules.specs.Sheet.{cues_in}
use Rattle.checks.proofs.Rising.{rising_from_sorted}
use Rattle.sheet.proofs.Stated.{numbers_stated}
use Rattle.sheet.proofs.fields.Raw.not_rising.Goals as goal

pub returns : goal.returns
unfolding not_rising
returns c =
    let bs = c.args.self.bytes.now in
    let entries = YieldsList-at c.map-numbers.ensures.source (YieldsList-from_first (λ e. e) (λ es. es) _ c.entries.ensures.entries) in
    ap not (rising_from_sorted _ _ _ (λ x y b q k. search (rules, tests)) _ _ 0 _ c.is_sorted_by.ensures.ran
    (YieldsList-from_chain (YieldsList-from_once (Some 0) (search rules))
    (YieldsList-at c.chain.ensures.second (YieldsList-from_map _ (λ e. e.cue) entries c.map-numbers.ensures.closure (λ x b q k. search rules))) (search rules) (search rules))
    ∙ ap (rising 0) (numbers_stated bs (cues_in bs)))
