-- `keep` meets its contract. The loop's invariant: whatever test the closure makes, the numbers kept are those of ways that pass it or are still to come.
-- Rests on Passing.antt.
use mathlib.Core.Path.{◌≡◌}
use mathlib.Core.Bool.{Bool}
use Rattle.rules.specs.declared.Way.{Way}
use Rattle.clauses.specs.Leaves.{left_of}
use Rattle.clauses.proofs.Passing.{Kept}
use Rattle.clauses.proofs.Clauses.keep.Given as goal

abbrev pub invariant-loop-v : goal.invariant-loop-v
invariant-loop-v g l =
    (f : Way → Bool) → ((v : Way) (b : Bool) → goal.F-post g l.test v b → b ≡ f v) → Kept l.fn.self f l.kept (left_of l.v-iterator)
