-- `new` meets its contract: neither a cue nor a word.
-- Rests on Counting.antt and Wording.antt.
use Rattle.std.proofs.Common.{rules}
use Rattle.rules.specs.Sheet.{present_of, absent_of}
use Rattle.csv_import.proofs.Counting.{counting-none}
use Rattle.csv_import.proofs.Wording.{words-none}
use Rattle.csv_import.proofs.rows.Rows.new.Goals as goal

pub returns : goal.returns
unfolding present_of absent_of
returns c = record {
  cues = counting-none c.default.result (search rules) (search rules) (search rules);
  ways = words-none c.default-2.result (search rules) (search rules);
}
