-- `faults` meets its contract: each turn collects one fault more.
-- Rests on Collecting.antt.
use Rattle.std.proofs.Common.{true, false, refl, sym, ap, ◌∙◌, subst, length, arith}
use Rattle.csv_rows.specs.declared.fields.Rest.{Rest}
use Rattle.csv_rows.specs.Fields.{fields_left, lines_left}
use Rattle.csv_rows.proofs.Pieces.{fields-are}
use Rattle.csv_rows.proofs.Collecting.{Collected, collected-none, collected-bad, collected-twice, collected-next, collected-all}
use Rattle.csv_rows.proofs.ways.faults.Goals as goal

pub loop-fault-init : goal.loop-fault-init
loop-fault-init c = record { collected = collected-none _; lines = refl }

pub returns-in_err-fault : goal.returns-in_err-fault
returns-in_err-fault c =
    rw c.from_residual.ensures
    (collected-bad _ _ (subst (Collected _ _) (fields-are c.loop-fault.fields.now) c.loop-fault.invariant.collected) c.in_err-fault.ensures)

pub returns-then-again : goal.returns-then-again
returns-then-again c =
    let (said, passed) = c.in_ok-fault.ensures in
    collected-twice _ _ _ true (subst (Collected _ _) passed.fields c.loop-fault.invariant.collected) said c.if-again.ensures refl

pub loop-fault-smaller : goal.loop-fault-smaller
loop-fault-smaller c =
    omega (arith, ap length c.in_ok-fault.ensures.1.fields, ap (λ (r : Rest). length (fields_left r)) c.in-Fields.is)

pub loop-fault-preserved : goal.loop-fault-preserved
loop-fault-preserved c =
    let (said, passed) = c.in_ok-fault.ensures in
    record {
      collected =
          subst (Collected _ _) (ap fields_left c.in-Fields.is)
          (collected-next _ _ _ false (subst (Collected _ _) passed.fields c.loop-fault.invariant.collected) said c.if-again.ensures refl _ c.with-seen.ensures);
      lines = sym (passed.lines ∙ ap lines_left c.in-Fields.is) ∙ c.loop-fault.invariant.lines;
    }

pub returns-in-Lines : goal.returns-in-Lines
returns-in-Lines c =
    let (said, passed) = c.in_ok-fault.ensures in (
      rw c.named.ensures
          (collected-all
          (subst (Collected _ _) (ap fields_left c.in-Lines.is)
          (collected-next _ _ _ false (subst (Collected _ _) passed.fields c.loop-fault.invariant.collected) said c.if-again.ensures refl _ c.with-seen.ensures))),
      sym (passed.lines ∙ ap lines_left c.in-Lines.is) ∙ c.loop-fault.invariant.lines,
    )
