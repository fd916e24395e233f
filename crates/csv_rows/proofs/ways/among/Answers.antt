-- `among` meets its contract: each turn looks at one fault more.
-- Rests on Faults.antt.
use Rattle.csv_rows.proofs.Faults.{looking-all, looking-bad, looking-found, looking-next, looking-ended}
use Rattle.csv_rows.proofs.ways.among.Goals as goal

pub loop-fields-init : goal.loop-fields-init
loop-fields-init c = looking-all _ _

pub returns-in_default-fault_field : goal.returns-in_default-fault_field
returns-in_default-fault_field c = looking-bad c.loop-fields.invariant _ c.in-Some.ensures.0 c.in_default-fault_field.ensures

pub returns-then-eq : goal.returns-then-eq
returns-then-eq c =
    let (said, passed) = c.in-Some-fault_field.ensures in
    looking-found c.loop-fields.invariant _ _ _ c.in-Some.ensures.0 said passed c.if-eq.ensures

pub loop-fields-preserved : goal.loop-fields-preserved
loop-fields-preserved c =
    let (said, passed) = c.in-Some-fault_field.ensures in
    looking-next c.loop-fields.invariant _ _ _ c.in-Some.ensures.0 said passed c.if-eq.ensures

pub returns : goal.returns
returns c = looking-ended c.loop-fields.invariant c.in_default.ensures
