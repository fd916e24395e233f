-- `extend_from_slice` meets its contract: the bytes stand behind what was written, and what is behind them is as it was.
-- Rests on the library's lemmas of a write to a part of a slice.
use Rattle.std.proofs.Common.{refl, rules}
use Rattle.std.proofs.lemmas.Slice.{overwrites}
use Rattle.std.proofs.lemmas.List.{drop-drop}
use Rattle.writer.proofs.output.Out.extend_from_slice.Goals as goal

pub returns : goal.returns
returns c = record { loan = refl; written = search (rules, overwrites); left = search (rules, overwrites, drop-drop) }
