-- `number` meets its contract: each turn reads one digit more.
-- Rests on Reading.antt.
use Rattle.std.proofs.Common.{refl, arith, eqb-true, ltb-true, ltb-false}
use Rattle.std.proofs.lemmas.Bool.{eqb-false}
use Rattle.csv_rows.proofs.Pieces.{first-byte}
use Rattle.csv_rows.proofs.Reading.{reading-more, reading-some, reading-nothing, reading-zero}
use Rattle.csv_rows.proofs.fields.number.Goals as goal
use Rattle.csv_rows.proofs.fields.number.Goals.{then-text-lt1, else-text-lt1+in_default-1, in_default-rest, in_default-rest-2, in_default-rest-3}

pub returns-in-48 : goal.returns-in-48
returns-in-48 c = reading-zero _ _ (first-byte c.args.text.now 48 (omega arith) (omega (arith, eqb-true)))

pub returns-then-n-gt999999999 : goal.returns-then-n-gt999999999
returns-then-n-gt999999999 c = reading-some c.loop-rest.invariant (λ h low high. omega arith) (omega arith)

pub loop-rest-preserved : goal.loop-rest-preserved
loop-rest-preserved c =
    reading-more c.loop-rest.invariant _ _ (omega arith) refl c.from.ensures (omega (arith, ltb-false)) (omega (arith, ltb-true))
    (λ h e. elim c.if-text-lt1.branch [ then-text-lt1 w ↦ omega (arith, ltb-true) | else-text-lt1+in_default-1 w ↦ omega (arith, eqb-false) ])
    (omega arith)

pub returns-then-n-eq0 : goal.returns-then-n-eq0
returns-then-n-eq0 c = reading-nothing c.loop-rest.invariant (λ h low high.
    elim c.if-rest-lt1.branch [
      | in_default-rest w ↦ omega (arith, ltb-true)
      | in_default-rest-2 w ↦ omega (arith, ltb-true)
      | in_default-rest-3 w ↦ omega (arith, ltb-false)
    ]) (omega arith)

pub returns-else-n-eq0 : goal.returns-else-n-eq0
returns-else-n-eq0 c = reading-some c.loop-rest.invariant (λ h low high.
    elim c.if-rest-lt1.branch [
      | in_default-rest w ↦ omega (arith, ltb-true)
      | in_default-rest-2 w ↦ omega (arith, ltb-true)
      | in_default-rest-3 w ↦ omega (arith, ltb-false)
    ]) (omega arith)
