-- The conversion of a table meets its contract: its arrays are told whole, since zeros stand behind what is in use.
-- Rests on `sheet`, Kept.
use Rattle.std.proofs.Common.{sym}
use Rattle.sheet.proofs.Kept.{in_use, whole}
use Rattle.cue_numbers.proofs.numbers.CueTableFromTableArrays.from.Goals as goal

pub returns : goal.returns
returns c = let t = c.args.table in λ j. record {
  number = 0;
  past = 0;
  faults = sym (in_use t.weights_kept) j;
  ways = sym (in_use t.present_kept) j;
  weights = whole t.weights_kept j;
  present = whole t.present_kept j;
  absent = whole t.absent_kept j;
}
