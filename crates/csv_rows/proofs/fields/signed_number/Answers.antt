-- `signed_number` meets its contract.
-- Rests on Reading.antt.
use Rattle.csv_rows.proofs.Reading.{minus-is, signed-none, signed-some}
use Rattle.csv_rows.proofs.fields.signed_number.Goals as goal

pub returns-in_err-value : goal.returns-in_err-value
returns-in_err-value c =
    let (e, bare) = minus-is _ _ _ c.minus-absent.ensures.is c.minus-absent.ensures.behind in
    rw c.from_residual.ensures (signed-none e bare c.in_err-value.ensures)

pub returns : goal.returns
returns c =
    let (e, bare) = minus-is _ _ _ c.minus-absent.ensures.is c.minus-absent.ensures.behind in
    signed-some e bare c.in_ok-value.ensures
