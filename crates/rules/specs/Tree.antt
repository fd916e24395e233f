-- The decomposition tree: its refinements, the interval at each place, and which refinements are acceptable (RULES 4).
-- A d-tree, but for two differences (RULES 12.2): every combination is rounded, and an inner node keeps the overlap with its own leaf interval.
use Rattle.std.specs.Prelude.{Bool, true, false, not, ◌&&◌, List, [], ◌∷◌, ℕ, suc, ◌+◌, ◌-◌, ◌*◌, ◌^◌, min, max, get_or, eqb, ltb}
-- The logic's own Option, here and in what rests on it, as in the mathematics that the proofs use: a place is no value of the code.
use Rattle.std.proofs.Math.Option.{Option, none, some}
use Rattle.std.specs.Int.Bits.{bit_or}
use Rattle.rules.specs.Rounding.{S, over}
use Rattle.rules.specs.declared.Direction.{Direction}
use Rattle.rules.specs.declared.Direction.TheVariants.{Down, Up}
use Rattle.rules.specs.Table.{bit, Way, Table, ways, faults}
use Rattle.rules.specs.Leaf.{any, of_set, remaining, drop_all, minimal, either, leaf_end, is_open}
use Rattle.rules.specs.Group.{group, others, fall_apart}
use Rattle.rules.specs.Common.{shared, lowest, spare}
use Rattle.rules.specs.declared.Kind.{Kind}
use Rattle.rules.specs.declared.Kind.TheVariants.{IndependentOr, IndependentAnd, Shannon}

-- The left or the right child of an inner node.
pub data Side : Type 0 where
  left right : Side

-- A place, the standard term is path: the sides taken from the root.
abbrev pub Place : Type 0
Place = List Side

-- A d-tree: leaves, and inner nodes with what was done there.
pub data DTree : Type 0 where
  leaf : DTree
  inner : Kind → DTree → DTree → DTree

-- ---- what each kind does

-- The fault occurs in a remaining way.
unfoldable pub occurs : ℕ → List Way → Bool
occurs f vs = any (λ v. bit f (faults v)) vs

-- The refinement can be made at a leaf with these ways: they fall apart, they have a common part, or the fault occurs in them.
unfoldable pub possible : Kind → List Way → Bool
possible IndependentOr vs = fall_apart vs
possible IndependentAnd vs = not (eqb (shared vs) 0)
possible (Shannon f) vs = occurs f vs

-- The ways of a child: the first group and the other ways; the common part, which is what is left of the lowest numbered way, and the ways without
-- it: where all stay that stayed before; or what stays of those that remain with the fault fixed present, and with it fixed absent.
unfoldable pub child : Kind → Side → List Way → List Way
child IndependentOr left vs = group vs
child IndependentOr right vs = others vs
child IndependentAnd left vs = drop_all (spare vs) (lowest vs)
child IndependentAnd right vs = drop_all (shared vs) vs
child (Shannon f) left vs = minimal (remaining (2 ^ f) 0 vs)
child (Shannon f) right vs = minimal (remaining 0 (2 ^ f) vs)

-- The weighted mean of two ends, rounded once.
abbrev pub mean : Direction → ℕ → ℕ → ℕ → ℕ
mean d w x y = over d (w * x + (S - w) * y)

-- The end that a node has from those of its children (RULES 4.6).
unfoldable pub combine : Kind → Direction → List ℕ → ℕ → ℕ → ℕ
combine IndependentOr d ws x y = either d x y
combine IndependentAnd d ws x y = over d (x * y)
combine (Shannon f) d ws x y = mean d (get_or ws f 0) x y

-- ---- the interval

-- An end of the overlap of two intervals.
abbrev pub overlap : Direction → ℕ → ℕ → ℕ
overlap Down x y = max x y
overlap Up x y = min x y

-- The low or the high end at the root of a tree whose remaining ways are vs.
unfoldable pub end : Direction → List ℕ → List Way → DTree → ℕ
end d ws vs leaf = leaf_end d ws vs
end d ws vs (inner k l r) = overlap d (leaf_end d ws vs) (combine k d ws (end d ws (child k left vs) l) (end d ws (child k right vs) r))

-- The ways at the root: what stays of the table's.
unfoldable pub root_ways : Table → List Way
root_ways t = minimal (ways t)

-- The low end at the root of a table's tree.
unfoldable pub low : Table → DTree → ℕ
low t s = end Down t.weights (root_ways t) s

-- The high end at the root of a table's tree.
unfoldable pub high : Table → DTree → ℕ
high t s = end Up t.weights (root_ways t) s

-- ---- refining at a place

-- The tree with the leaf at a place refined. Where there is no leaf, nothing changes.
unfoldable pub refine_at : Place → Kind → DTree → DTree
refine_at [] k leaf = inner k leaf leaf
refine_at [] k (inner j l r) = inner j l r
refine_at (b ∷ p) k leaf = leaf
refine_at (left ∷ p) k (inner j l r) = inner j (refine_at p k l) r
refine_at (right ∷ p) k (inner j l r) = inner j l (refine_at p k r)

-- How many refinements a tree has: its inner nodes (RULES 4.10).
unfoldable pub inners : DTree → ℕ
inners leaf = 0
inners (inner k l r) = suc (inners l + inners r)

-- The number of all its nodes.
unfoldable pub nodes : DTree → ℕ
nodes leaf = 1
nodes (inner k l r) = suc (nodes l + nodes r)

-- One refinement: where, and what is done there.
pub record Refinement : Type 0 where
  pub place : Place
  pub kind : Kind

-- A tree after one refinement.
abbrev pub refine : Refinement → DTree → DTree
refine n s = refine_at n.place n.kind s

-- A tree after refinements made one after the other.
unfoldable pub grow : DTree → List Refinement → DTree
grow s [] = s
grow s (n ∷ ns) = grow (refine n s) ns

-- The tree that a series of refinements grows from a single root leaf.
abbrev pub tree : List Refinement → DTree
tree ns = grow leaf ns

-- ---- what stands at a place

-- The tree has this place.
unfoldable pub has_at : Place → DTree → Bool
has_at [] s = true
has_at (b ∷ p) leaf = false
has_at (left ∷ p) (inner k l r) = has_at p l
has_at (right ∷ p) (inner k l r) = has_at p r

-- There is a leaf at this place.
unfoldable pub leaf_at : Place → DTree → Bool
leaf_at [] leaf = true
leaf_at [] (inner k l r) = false
leaf_at (b ∷ p) leaf = false
leaf_at (left ∷ p) (inner k l r) = leaf_at p l
leaf_at (right ∷ p) (inner k l r) = leaf_at p r

-- The first place lies on the path to the second, or is the second.
unfoldable pub on_path : Place → Place → Bool
on_path [] p = true
on_path (b ∷ q) [] = false
on_path (left ∷ q) (left ∷ p) = on_path q p
on_path (left ∷ q) (right ∷ p) = false
on_path (right ∷ q) (left ∷ p) = false
on_path (right ∷ q) (right ∷ p) = on_path q p

-- What was done at a place, if it was refined.
unfoldable pub kind_at : Place → DTree → Option Kind
kind_at [] leaf = none
kind_at [] (inner k l r) = some k
kind_at (b ∷ p) leaf = none
kind_at (left ∷ p) (inner k l r) = kind_at p l
kind_at (right ∷ p) (inner k l r) = kind_at p r

-- The remaining ways of the leaf at a place, if a leaf is there; vs are the root's.
unfoldable pub leaf_ways : Place → List Way → DTree → Option (List Way)
leaf_ways [] vs leaf = some vs
leaf_ways [] vs (inner k l r) = none
leaf_ways (b ∷ p) vs leaf = none
leaf_ways (left ∷ p) vs (inner k l r) = leaf_ways p (child k left vs) l
leaf_ways (right ∷ p) vs (inner k l r) = leaf_ways p (child k right vs) r

-- A node by itself: its set of ways, the words of the faults fixed present, fixed absent and left out, and its remaining ways.
pub record Node : Type 0 where
  pub set : List Way
  pub present : ℕ
  pub absent : ℕ
  pub out : ℕ
  pub ways : List Way

-- What remains at a node of the ways with the numbers of a list (RULES 3.2, 4.16): those that no fixed fault contradicts, without the fixed faults and
-- those left out.
abbrev pub remains : List Way → Node → List Way → List Way
remains all x us = drop_all x.out (remaining x.present x.absent (of_set us all))

-- A child's set, which counts by its numbers: its own ways; under a fault, what stays at its parent, so that a way left out there does not come back.
unfoldable pub child_set : Kind → Side → List Way → List Way → List Way
child_set IndependentOr b us vs = child IndependentOr b vs
child_set IndependentAnd b us vs = child IndependentAnd b vs
child_set (Shannon f) b us vs = vs

-- The word of the faults fixed present (left) or absent (right), in a child: under a fault the left child fixes it present, the right absent.
unfoldable pub child_fixed : Side → Kind → Side → ℕ → ℕ
child_fixed a IndependentOr b m = m
child_fixed a IndependentAnd b m = m
child_fixed left (Shannon f) left m = bit_or m (2 ^ f)
child_fixed left (Shannon f) right m = m
child_fixed right (Shannon f) left m = m
child_fixed right (Shannon f) right m = bit_or m (2 ^ f)

-- The word of the faults left out, in a child: where the common part is taken out, the left child leaves out what its one way names besides, the
-- right child the common part.
unfoldable pub child_out : Kind → Side → ℕ → List Way → ℕ
child_out IndependentOr b o vs = o
child_out IndependentAnd left o vs = bit_or o (spare vs)
child_out IndependentAnd right o vs = bit_or o (shared vs)
child_out (Shannon f) b o vs = o

-- A child of a node of kind k.
abbrev pub child_node : Kind → Side → Node → Node
child_node k b x =
    record {
      set = child_set k b x.set x.ways;
      present = child_fixed left k b x.present;
      absent = child_fixed right k b x.absent;
      out = child_out k b x.out x.ways;
      ways = child k b x.ways;
    }

-- A node with the tree that hangs there.
pub record Subtree : Type 0 where
  pub node : Node
  pub below : DTree

-- What stands at a place, going down from a node and its tree, if the tree has that place.
unfoldable pub descend : Place → Node → DTree → Option Subtree
descend [] x s = some (record { node = x; below = s })
descend (b ∷ p) x leaf = none
descend (left ∷ p) x (inner k l r) = descend p (child_node k left x) l
descend (right ∷ p) x (inner k l r) = descend p (child_node k right x) r

-- The root: its set is all ways, nothing is fixed and nothing left out.
abbrev pub root : Table → Node
root t = record { set = ways t; present = 0; absent = 0; out = 0; ways = root_ways t }

-- What stands at a place of a table's tree.
unfoldable pub subtree : Table → Place → DTree → Option Subtree
subtree t p s = descend p (root t) s

-- An interval in billionths.
pub record Interval : Type 0 where
  pub low : ℕ
  pub high : ℕ

-- The interval of a node with its tree.
abbrev pub interval : List ℕ → Subtree → Interval
interval ws x = record { low = end Down ws x.node.ways x.below; high = end Up ws x.node.ways x.below }

-- The interval at a place, if the tree has that place.
unfoldable pub interval_at : Table → Place → DTree → Option Interval
interval_at t p s = elim (subtree t p s) as (λ o. Option Interval) [ none ↦ none | some x ↦ some (interval t.weights x) ]

-- ---- which refinements are acceptable

-- A tree has room for one refinement more.
abbrev pub roomy : DTree → Bool
roomy s = ltb (inners s) 255

-- The refinement can be made: an open leaf is there, the tree has fewer than 255 refinements, and the kind is possible (17 to 20).
unfoldable pub acceptable : Table → DTree → Refinement → Bool
acceptable t s n =
    elim (leaf_ways n.place (root_ways t) s) as (λ o. Bool) [ none ↦ false | some vs ↦ is_open t.weights vs && (roomy s && possible n.kind vs) ]

-- Each of the refinements was acceptable when it was made.
unfoldable pub series_from : Table → DTree → List Refinement → Bool
series_from t s [] = true
series_from t s (n ∷ ns) = acceptable t s n && series_from t (refine n s) ns

-- A series of accepted refinements from a single root leaf.
abbrev pub series : Table → List Refinement → Bool
series t ns = series_from t leaf ns
