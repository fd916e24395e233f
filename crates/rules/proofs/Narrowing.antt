-- NO WIDENING: a tree that only grew has no wider interval at any place that it had before.
-- By induction over the tree, from the monotone law of each kind (KindLaws.antt).
use mathlib.Core.Path.{◌≡◌, refl, subst}
use mathlib.Core.List.{List, [], ◌∷◌}
use mathlib.Core.Option.{some, some-injective, none-ne-some}
use Prim.Native.Nat.{ℕ, ◌≤◌}
use native.Mathlib.Omega.{arith}
use Rattle.rules.specs.Rounding.{Le}
use Rattle.rules.specs.declared.Direction.{Direction}
use Rattle.rules.specs.declared.Direction.TheVariants.{Down, Up}
use Rattle.rules.specs.Table.{Way, Table}
use Rattle.rules.specs.Leaf.{leaf_end}
use Rattle.rules.specs.Tree.{root_ways, left, right, Place, DTree, leaf, inner, child, end, low, high, refine_at, Refinement}
use Rattle.rules.specs.Tree.{refine, grow, Node, Subtree, child_node, descend, subtree, root, interval}
use Rattle.rules.specs.declared.Kind.{Kind}
use Rattle.rules.proofs.Rounding.{le-self, overlap-left, overlap-mono}
use Rattle.rules.proofs.KindLaws.{laws}

-- The second tree is the first with some of its leaves refined further.
pub data Grows : DTree → DTree → Type 0 where
  from_leaf : (s : DTree) → Grows leaf s
  inside : (k : Kind) {l l' r r' : DTree} → Grows l l' → Grows r r' → Grows (inner k l r) (inner k l' r')

pub grows_self : (s : DTree) → Grows s s
grows_self leaf = from_leaf leaf
grows_self (inner k l r) = inside k (grows_self l) (grows_self r)

pub refined-grows : (p : Place) (k : Kind) (s : DTree) → Grows s (refine_at p k s)
unfolding refine_at
refined-grows [] k leaf = from_leaf (inner k leaf leaf)
refined-grows [] k (inner j l r) = grows_self (inner j l r)
refined-grows (b ∷ p) k leaf = from_leaf leaf
refined-grows (left ∷ p) k (inner j l r) = inside j (refined-grows p k l) (grows_self r)
refined-grows (right ∷ p) k (inner j l r) = inside j (grows_self l) (refined-grows p k r)

-- ---- neither end moves outwards

leaf-loosest : (d : Direction) (ws : List ℕ) (vs : List Way) (s : DTree) → Le d (leaf_end d ws vs) (end d ws vs s)
unfolding end
leaf-loosest d ws vs leaf = le-self d refl
leaf-loosest d ws vs (inner k l r) = overlap-left d (leaf_end d ws vs) _

pub narrows : (d : Direction) (ws : List ℕ) (vs : List Way) {s s' : DTree} → Grows s s' → Le d (end d ws vs s) (end d ws vs s')
unfolding end
narrows d ws vs (from_leaf s) = leaf-loosest d ws vs s
narrows d ws vs (inside k {l} {l'} {r} {r'} p q) =
    overlap-mono d (leaf_end d ws vs) (leaf_end d ws vs) _ _ (le-self d refl)
    ((laws k).monotone d ws (end d ws (child k left vs) l) (end d ws (child k left vs) l') (end d ws (child k right vs) r) (end d ws (child k right vs) r')
    (narrows d ws (child k left vs) p) (narrows d ws (child k right vs) q))

-- The second interval lies within the first.
pub record Narrower (ws : List ℕ) (x y : Subtree) : Type 0 where
  pub same-node : y.node ≡ x.node
  pub low_rises : (interval ws x).low ≤ (interval ws y).low
  pub high_falls : (interval ws y).high ≤ (interval ws x).high

-- What stands at a place of a tree still stands there when the tree has grown, with no wider interval.
pub grown-at : (ws : List ℕ) (p : Place) (x : Node) {s s' : DTree} → Grows s s' → (y : Subtree) → descend p x s ≡ some y
    → (z : Subtree) × (descend p x s' ≡ some z) × Narrower ws y z
unfolding descend
grown-at ws [] x {s} {s'} g y e = (
  record { node = x; below = s' },
  refl,
  subst (λ (w : Subtree). Narrower ws w (record { node = x; below = s' })) (some-injective _ y e)
      (record { same-node = refl; low_rises = narrows Down ws x.ways g; high_falls = narrows Up ws x.ways g }),
)
grown-at ws (b ∷ p) x (from_leaf s) y e = absurd (none-ne-some _ e)
grown-at ws (left ∷ p) x (inside k g h) y e = grown-at ws p (child_node k left x) g y e
grown-at ws (right ∷ p) x (inside k g h) y e = grown-at ws p (child_node k right x) h y e

-- No refinement, acceptable or not, widens the interval at any place.
pub no-place-widens : (t : Table) (n : Refinement) (s : DTree) (p : Place) (y : Subtree) → subtree t p s ≡ some y
    → (z : Subtree) × (subtree t p (refine n s) ≡ some z) × Narrower t.weights y z
unfolding subtree
no-place-widens t n s p y e = grown-at t.weights p (root t) (refined-grows n.place n.kind s) y e

-- ---- at the root

-- The root's interval in the second tree lies within that in the first.
pub record NoWider (t : Table) (s s' : DTree) : Type 0 where
  pub low_rises : low t s ≤ low t s'
  pub high_falls : high t s' ≤ high t s

-- One refinement.
pub refined-within : (t : Table) (n : Refinement) (s : DTree) → NoWider t s (refine n s)
unfolding low high
refined-within t n s =
    let g = refined-grows n.place n.kind s in
    record { low_rises = narrows Down t.weights (root_ways t) g; high_falls = narrows Up t.weights (root_ways t) g }

-- Any number of them.
pub grown-within : (t : Table) (ns : List Refinement) (s : DTree) → NoWider t s (grow s ns)
unfolding grow
grown-within t [] s = record { low_rises = omega arith; high_falls = omega arith }
grown-within t (n ∷ ns) s =
    let a = refined-within t n s in
    let b = grown-within t ns (refine n s) in
    record { low_rises = omega (arith, a.low_rises, b.low_rises); high_falls = omega (arith, a.high_falls, b.high_falls) }
