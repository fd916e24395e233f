-- `rows_both` meets its contract.
-- Rests on Stated.antt and the contracts of `all_ways` and `way_both`.
use Rattle.std.proofs.Common.{not, eqb, rules, tests}
use Rattle.std.specs.Int.Bits.{bit_and}
use Rattle.rules.specs.Refusals.{names_both}
use Rattle.sheet.proofs.Stated.{row_passes}
use Rattle.sheet.proofs.fields.Raw.rows_both.Goals as goal

pub returns : goal.returns
unfolding names_both
returns c = row_passes _ _ _ c.any.ensures.ran c.all_ways.ensures (λ p q. not (eqb (bit_and p q) 0)) (λ x b q k. search (rules, tests))
