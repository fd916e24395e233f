-- `report` meets its contract, for an accepted sheet and for a refused one.
-- Rests on Whole.antt and on the contracts of `Sheet::read` and of what appends to the text.
use Rattle.report.proofs.Whole.{report_accepted, report_refused}
use Rattle.report.proofs.report.Goals as goal

pub returns-in-Ok : goal.returns-in-Ok
returns-in-Ok c = record {
  promise = report_accepted c.args.bytes.now (λ i. (c.type_inv.bytes i).fits) _ c.in-Ok.ensures.same c.in-Ok.sheet.accepted
      c.new-text.ensures c.append_heading.ensures c.append_lines.ensures;
}

pub returns-in-Err : goal.returns-in-Err
returns-in-Err c = record {
  promise = report_refused c.args.bytes.now (λ i. (c.type_inv.bytes i).fits) c.in-Err.refusal c.in-Err.ensures c.new-text.ensures c.append_refused.ensures;
}
