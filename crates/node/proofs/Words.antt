-- The ways of a record over other lists that hold the same words: the rows of a table by themselves are those of the table.
-- Rests on specs/Told.antt.
use mathlib.Core.Path.{◌≡◌}
use mathlib.Core.List.{List}
use Prim.Native.Nat.{ℕ}
use Rattle.records.specs.declared.Node.{Node}
use Rattle.clauses.specs.declared.Clauses.{Clauses}
use Rattle.node.specs.Told.{LeafWays}

-- The same words, the same ways.
pub same_words : (ps qs us vs : List ℕ) → us ≡ ps → vs ≡ qs → (x : Node) (c : Clauses) → LeafWays us vs x c → LeafWays ps qs x c
same_words ps qs us vs p q x c h = rw (p, q) at h
