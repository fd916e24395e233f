-- `named_fault` meets its contract.
-- Rests on Reading.antt.
use Rattle.csv_rows.proofs.Reading.{fault-none, fault-nought, fault-numbered}
use Rattle.csv_rows.proofs.fields.named_fault.Goals as goal

pub returns-in_err-value : goal.returns-in_err-value
returns-in_err-value c = rw c.from_residual.ensures (λ p s e. fault-none p (c.in_err-value.ensures p s e))

pub returns-in_err-place : goal.returns-in_err-place
returns-in_err-place c = rw c.from_residual-in_err-place.ensures (fault-nought c.in_ok-value.ensures c.in_err-place.ensures)

pub returns : goal.returns
returns c =
    let (some, place) = c.in_ok-place.ensures in
    rw place (fault-numbered c.in_ok-value.ensures some)
