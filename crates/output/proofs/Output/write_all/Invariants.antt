-- `write_all` meets its contract. The loop's invariant: what was written stands before the rest; the measure is the bytes that are left.
use Rattle.std.proofs.Common.{◌≡◌, ℕ, List, ◌++◌, length}
use Rattle.std.specs.Io.KnownBytes.{Appends}
use Rattle.output.proofs.Output.write_all.Given as goal

abbrev pub invariant-bytes : goal.invariant-bytes
invariant-bytes g l = (written : List ℕ) × (l.bytes ≡ written ++ l.rest) × Appends (g.W.Write.contents l.initial.self.0) (g.W.Write.contents l.self.0) written

abbrev pub decreases-bytes : goal.decreases-bytes
decreases-bytes g l = length l.rest
