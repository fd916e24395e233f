-- `misplaced` meets its contract. The loop's invariant: the places and counts that are left, the next body starting at `start`, answer for all.
-- Rests on Stated.antt.
use Rattle.std.proofs.Common.{◌≡◌, ◌+◌, ◌*◌, ◌≤◌, length, map}
use Rattle.rules.specs.Sheet.{starts, same_numbers, places_in, counts_in, bodies_in}
use Rattle.sheet.proofs.fields.Raw.misplaced.Given as goal

abbrev pub invariant-loop-entry : goal.invariant-loop-entry
invariant-loop-entry l = record {
  answer : same_numbers (map (λ e. e.start) l.entry-iterator) (starts l.start (map (λ e. e.ways) l.entry-iterator))
      ≡ same_numbers (places_in l.self.bytes.now) (starts (bodies_in l.self.bytes.now) (counts_in l.self.bytes.now));
  bound : l.start + 1048560 * length l.entry-iterator ≤ 68720153040;
}
