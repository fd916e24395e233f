-- THE WAYS THAT A TREE HANDS DOWN are those of RULES 3.2 to 3.5 and 4.16: by the node's set of ways, its fixed faults and those left out.
-- By induction over the path, from the laws of each kind (KindLaws.antt), with what a record tells: the ways by their own numbers.
use mathlib.Core.Path.{◌≡◌, sym, ap, ◌∙◌, subst}
use mathlib.Core.Bool.{true, not}
use mathlib.Core.List.{List, [], ◌∷◌}
use mathlib.Core.Option.{some, some-injective, none-ne-some}
use Prim.Native.Nat.{ℕ}
use lib.ListN.{length}
use Rattle.rules.specs.Table.{Table, ways}
use Rattle.rules.specs.Leaf.{has_number, remaining, redundant, minimal, Lean}
use Rattle.rules.specs.Tree.{root_ways, possible, Side, left, right, Place, DTree, leaf, inner, Refinement}
use Rattle.rules.specs.Tree.{tree, Node, remains, Subtree, child_node, descend, subtree, root, series}
use Rattle.rules.specs.Refusals.{Accepted}
use Rattle.rules.specs.declared.Kind.{Kind}
use Rattle.rules.proofs.Remaining.{fix_none, drop-none}
use Rattle.rules.proofs.Sets.{Rising, ways-rising, part-told, whole_set}
use Rattle.rules.proofs.KindLaws.{laws, Settled, ByNumbers, Handed, told-rising}
use Rattle.rules.proofs.Settled.{child-settled, root-settled}
use Rattle.rules.proofs.Series.{Sound, series-sound}

-- What holds of a node, and of a child wherever it holds of its parent, holds of every place below.
below : (C : Node → Type 0) → ((k : Kind) (b : Side) (x : Node) → possible k x.ways ≡ true → C x → C (child_node k b x))
    → (ws : List ℕ) (p : Place) (x : Node) (s : DTree) (y : Subtree) → Sound ws x.ways s → C x → descend p x s ≡ some y → C y.node
unfolding descend Sound
below C f ws [] x s y o h e = subst (λ (z : Subtree). C z.node) (some-injective _ y e) h
below C f ws (b ∷ p) x leaf y o h e = absurd (none-ne-some _ e)
below C f ws (left ∷ p) x (inner k l m) y o h e = below C f ws p (child_node k left x) l y o.2 (f k left x o.1 h) e
below C f ws (right ∷ p) x (inner k l m) y o h e = below C f ws p (child_node k right x) m y o.3 (f k right x o.1 h) e

-- At the root all ways remain: nothing is fixed, and nothing left out.
root-remains : (t : Table) → ways t ≡ remains (ways t) (root t) (ways t)
root-remains t = sym (drop-none _ ∙ ap (remaining 0 0) (whole_set 0 (ways t) (ways-rising t)) ∙ fix_none (ways t))

-- ---- by their own numbers, for every table

-- So its ways are told by their own numbers.
root_told : (t : Table) → ByNumbers (ways t) (root t)
unfolding root_ways minimal
root_told t = part-told (ways t) (ways-rising t) (has_number (ways t)) 0 0 0 (ways t) (root-remains t) (λ v. not (redundant (ways t) v))

-- At every place of a tree that a series of acceptable refinements grew: a node's set may as well be its own remaining ways.
pub handed-own : (t : Table) (ns : List Refinement) → series t ns ≡ true → (p : Place) (x : Subtree) → subtree t p (tree ns) ≡ some x
    → ByNumbers (ways t) x.node
unfolding subtree
handed-own t ns h p x e =
    below (ByNumbers (ways t)) (λ k b x q c. (laws k).told (ways t) (ways-rising t) b x c q) t.weights p (root t) (tree ns) x (series-sound t ns h)
    (root_told t) e

-- The ways at every place stand in number order.
pub handed-rising : (t : Table) (ns : List Refinement) → series t ns ≡ true → (p : Place) (x : Subtree) → subtree t p (tree ns) ≡ some x
    → Rising 0 x.node.ways
handed-rising t ns h p x e = told-rising (ways t) (ways-rising t) x.node (handed-own t ns h p x e)

-- ---- by their set, for an accepted table

-- What holds of a node at every place then: its own numbers tell its ways, these are settled, and they are the remaining ways of its set.
record Placed (t : Table) (x : Node) : Type 0 where
  told : ByNumbers (ways t) x
  settled : Settled (length t.weights) x.ways
  handed : Handed (ways t) x

-- The root: all ways, nothing fixed, nothing left out.
root-placed : (t : Table) → Accepted t → Placed t (root t)
unfolding root_ways
root-placed t ok = record { told = root_told t; settled = root-settled t ok; handed = ap minimal (root-remains t) }

-- A child, from its node.
child-placed : (t : Table) (k : Kind) (b : Side) (x : Node) → possible k x.ways ≡ true → Placed t x → Placed t (child_node k b x)
child-placed t k b x p h =
    record {
      told = (laws k).told (ways t) (ways-rising t) b x h.told p;
      settled = child-settled k (length t.weights) b x.ways h.settled;
      handed = (laws k).handed (ways t) (ways-rising t) b x h.told h.settled.lean h.settled.one_sense p;
    }

-- So every place.
placed : (t : Table) → Accepted t → (ns : List Refinement) → series t ns ≡ true → (p : Place) (x : Subtree) → subtree t p (tree ns) ≡ some x
    → Placed t x.node
unfolding subtree
placed t ok ns h p x e = below (Placed t) (child-placed t) t.weights p (root t) (tree ns) x (series-sound t ns h) (root-placed t ok) e

-- At every place, the ways handed down are the remaining ways of the node's set. 13 is needed: of {0, ~0, 1} and {0, 1, 2}, the common part taken out,
-- {} and {2} are on the right, and {} leaves {2} out.
pub handed-down : (t : Table) → Accepted t → (ns : List Refinement) → series t ns ≡ true → (p : Place) (x : Subtree) → subtree t p (tree ns) ≡ some x
    → Handed (ways t) x.node
handed-down t ok ns h p x e = (placed t ok ns h p x e).handed

-- The ways at every place are lean.
pub handed-lean : (t : Table) → Accepted t → (ns : List Refinement) → series t ns ≡ true → (p : Place) (x : Subtree) → subtree t p (tree ns) ≡ some x
    → Lean x.node.ways
handed-lean t ok ns h p x e = (placed t ok ns h p x e).settled.lean
