-- `array` meets its contract. The loop's invariant: the list has as many numbers as were read, and there is room for those that are still to be read.
use Rattle.std.proofs.Common.{◌≡◌, min}
use Rattle.arrayvec.specs.ArrayVec.{array_vec_len}
use Rattle.numbers.proofs.Numbers.array.Given as goal

abbrev pub invariant-numbers : goal.invariant-numbers
invariant-numbers g l = (array_vec_len l.list ≡ l.counter) × (l.end ≡ min l.count g.row.N)
