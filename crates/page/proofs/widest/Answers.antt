-- `widest` meets its contract: the chain finds what the definition finds, and the law is that of Finds.antt.
-- Rests on Counted.antt, on `records`, Reduced, and on the contracts of `counting` and `wider`.
use Rattle.std.proofs.Common.{◌≡◌, sym, ap, ◌∙◌, subst, rules}
use Rattle.std.proofs.lemmas.Iterator.{YieldsList-from_slice}
use Rattle.std.proofs.lemmas.Iterator.Consumers.{YieldsList-from_enumerate, YieldsList-from_filter_map, YieldsList-at}
use Rattle.std.specs.List.{enumerate_from, filter_map, reduce}
use Rattle.records.specs.Found.{wider}
use Rattle.records.proofs.Reduced.{reduced}
use Rattle.page.specs.Widest.{counting, widest_of, WidestLaw}
use Rattle.page.proofs.Counted.{at_of, passed_over}
use Rattle.page.proofs.Finds.{widest-told}
use Rattle.page.proofs.widest.Goals as goal

found : (c : goal.After-map) → c.reduce.result ≡ reduce wider (filter_map counting (enumerate_from 0 c.args.records.now))
found c =
    reduced _ wider c.reduce.result c.reduce.ensures.ran
    (YieldsList-from_filter_map {v = λ p. (p.0, p.1.now)} _ counting
    (YieldsList-at c.filter_map.ensures.source
    (YieldsList-from_enumerate (YieldsList-at c.enumerate.ensures.source (YieldsList-from_slice c.args.records.now (cc))) (cc)))
    c.filter_map.ensures.closure
    (λ x r q k. search rules))
    (λ a x b q k. search rules)

position : (c : goal.After-map) → c.map.result ≡ at_of c.reduce.result
position c = search rules

-- The chain's answer is that of the definition.
answer : (c : goal.After-map) → c.map.result ≡ widest_of c.args.records.now
unfolding widest_of
answer c = position c ∙ ap at_of (found c) ∙ passed_over (enumerate_from 0 c.args.records.now)

pub returns-clause-answer : goal.returns-clause-answer
returns-clause-answer c = answer c

pub returns-clause-law : goal.returns-clause-law
returns-clause-law c = subst (WidestLaw _) (sym (answer c)) (widest-told _)
