-- `append_lines` meets its contract. The loop's invariant: the lines of the entries that are left, appended to what stands, give the whole.
-- Rests on Appending.antt and the contracts of `run_afresh` and `append_line`.
use Rattle.std.proofs.Common.{◌≡◌, take}
use Rattle.rules.specs.Sheet.{limits_in, weights_in}
use Rattle.sheet.specs.Reading.{entries_in}
use Rattle.report.specs.Appended.{appended}
use Rattle.report.specs.Lines.{entries_text}
use Rattle.report.proofs.append_lines.Given as goal

abbrev pub invariant-loop-entry : goal.invariant-loop-entry
invariant-loop-entry l = let bs = l.sheet.bytes.now in record {
  weights : take l.table.faults l.table.weights ≡ take 64 (weights_in bs);
  lines : appended l.text (entries_text (limits_in bs) bs l.entry-iterator) ≡ appended l.initial.text (entries_text (limits_in bs) bs (entries_in bs));
}
