-- `call_after` meets its contract. The loop's invariant: the reader is at the place after the calls so far, on the same sheet.
-- Of `open` and `next` only the contracts are known.
use Rattle.std.proofs.Common.{◌≡◌}
use Rattle.cue_reader.specs.Driven.{place_at}
use Rattle.cue_reader.proofs.call_after.Given as goal

abbrev pub invariant-loop : goal.invariant-loop
invariant-loop l = (l.reader.sheet.now ≡ l.sheet) × (l.reader.at ≡ place_at l.sheet l.counter)
