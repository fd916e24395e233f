-- A leaf's ends as one value, the ways of its two children, and the faults that have a bit in a word.
-- Rests on `rules`, Leaf and Tree, and on `clauses`, Leaves.
use Rattle.std.specs.Prelude.{List, ℕ, ◌<◌}
use Rattle.rules.specs.Leaf.{leaf_low, leaf_high, is_open}
use Rattle.rules.specs.Tree.{Side, left, right, child, child_fixed, child_out}
use Rattle.rules.specs.declared.Way.{Way}
use Rattle.rules.specs.declared.Kind.{Kind}
use Rattle.rules.specs.declared.Kind.TheVariants.{IndependentOr, IndependentAnd, Shannon}
use Rattle.clauses.specs.declared.Clauses.{Clauses}
use Rattle.clauses.specs.declared.lost.Gone.{Gone}
use Rattle.clauses.specs.Leaves.{ways_of, Becomes}
use Rattle.formula.specs.declared.Ends.{Ends}
use Rattle.formula.specs.declared.Children.{Children}

-- The fault of a kind has a bit in a word.
unfoldable pub FaultFits : Kind → Type 0
FaultFits IndependentOr = Unit {0}
FaultFits IndependentAnd = Unit {0}
FaultFits (Shannon f) = f < 64

-- A leaf's ends, and whether it is open.
unfoldable pub ends_of : List ℕ → List Way → Ends
ends_of ws vs = record { low = leaf_low ws vs; high = leaf_high ws vs; «open» = is_open ws vs }

-- The faults that are gone in a child: those fixed and those left out, of a leaf with these ways.
abbrev pub child_gone : Kind → Side → Gone → List Way → Gone
child_gone k b g vs =
    record { present = child_fixed left k b g.present; absent = child_fixed right k b g.absent; out = child_out k b g.out vs }

-- A leaf c that is refined so becomes the child on one side: its ways, and the faults that are gone there.
abbrev pub Part : Clauses → Kind → Side → Clauses → Type 0
Part c k b d = Becomes c (child_gone k b c.gone (ways_of c)) (child k b (ways_of c)) d

-- And the children on both.
pub record Parts (c : Clauses) (k : Kind) (r : Children) : Type 0 where
  pub on_left : Part c k left r.left
  pub on_right : Part c k right r.right
