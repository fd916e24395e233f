-- `ended` meets its contract: what stands at the front decides.
-- Rests on Pieces.antt.
use Rattle.std.proofs.Common.{refl, arith, eqb-true, ltb-true, ltb-false}
use Rattle.csv_rows.proofs.Pieces.{comma-ends, break-ends, over-ends, goes-on}
use Rattle.csv_rows.proofs.fields.ended.Goals as goal

pub returns-in-empty : goal.returns-in-empty
returns-in-empty c = over-ends c.args.text.now _ (omega arith) refl

pub returns-in-44 : goal.returns-in-44
returns-in-44 c = comma-ends c.args.text.now _ (omega (arith, ltb-false)) (grind (arith, eqb-true)) refl

pub returns-in-13 : goal.returns-in-13
returns-in-13 c = break-ends c.args.text.now _ (omega arith) (omega (arith, eqb-true)) (omega (arith, eqb-true)) refl

pub returns-in_default : goal.returns-in_default
returns-in_default c =
    goes-on c.args.text.now (omega (arith, ltb-false)) (λ p. grind (arith, eqb-true)) (λ p q r. grind (arith, eqb-true, ltb-false, ltb-true))
