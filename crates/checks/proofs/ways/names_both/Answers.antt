-- `names_both` meets its contract: only a row that has both words can name a fault in both senses.
-- Rests on Rows.antt and the contract of `way_both`.
use Rattle.std.proofs.Common.{◌∙◌, sym, not, eqb, rules, tests}
use Rattle.std.specs.Int.Bits.{bit_and}
use Rattle.std.proofs.lemmas.Iterator.{YieldsList-from_slice, YieldsList-from_zip}
use Rattle.std.proofs.lemmas.Iterator.Search.{any_from_yields_List}
use Rattle.checks.proofs.Rows.{both_pairs}
use Rattle.checks.proofs.ways.names_both.Goals as goal

pub returns : goal.returns
returns c =
    let ps = c.args.present.now in
    let qs = c.args.absent.now in
    let pairs = YieldsList-from_zip (YieldsList-from_slice ps (search rules)) (YieldsList-from_slice qs (search rules)) in
    any_from_yields_List (λ x. not (eqb (bit_and x.0 x.1) 0)) c.any.new.self _ _ c.any.ensures.ran pairs (λ x b q k. search (rules, tests)) ∙ sym (both_pairs ps qs)
