-- `minus` meets its contract: the first byte decides.
-- Rests on Reading.antt.
use Rattle.std.proofs.Common.{arith, eqb-true, ltb-true, ltb-false}
use Rattle.std.proofs.lemmas.Bool.{eqb-false}
use Rattle.csv_rows.proofs.Reading.{first-signed, first-unsigned}
use Rattle.csv_rows.proofs.fields.minus.Goals as goal
use Rattle.csv_rows.proofs.fields.minus.Goals.{in_default-via-then-text-lt1, in_default-via-else-text-lt1+in_default-1}

pub returns-in-45-clause-is : goal.returns-in-45-clause-is
returns-in-45-clause-is c = (first-signed c.args.text.now (omega (arith, ltb-false)) (omega (arith, eqb-true))).0

pub returns-in-45-clause-behind : goal.returns-in-45-clause-behind
returns-in-45-clause-behind c = (first-signed c.args.text.now (omega (arith, ltb-false)) (omega (arith, eqb-true))).1

pub returns-in_default-clause-is : goal.returns-in_default-clause-is
returns-in_default-clause-is c =
    (first-unsigned c.args.text.now (λ h e.
    elim c.in_default.branch [ in_default-via-then-text-lt1 w ↦ omega (arith, ltb-true) | in_default-via-else-text-lt1+in_default-1 w ↦ omega (arith, eqb-false) ])).0

pub returns-in_default-clause-behind : goal.returns-in_default-clause-behind
returns-in_default-clause-behind c =
    (first-unsigned c.args.text.now (λ h e.
    elim c.in_default.branch [ in_default-via-then-text-lt1 w ↦ omega (arith, ltb-true) | in_default-via-else-text-lt1+in_default-1 w ↦ omega (arith, eqb-false) ])).1
