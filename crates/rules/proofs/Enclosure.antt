-- ENCLOSURE: the interval at every place of every tree that a series of acceptable refinements grows encloses the exact sum of that place.
-- By induction over the tree, from the leaf's bound and the laws of each kind (KindLaws.antt).
use mathlib.Core.Path.{◌≡◌, refl, sym, ap₂, ◌∙◌, subst}
use mathlib.Core.Bool.{true, false, true≢false}
use mathlib.Core.List.{List, [], ◌∷◌}
use mathlib.Core.Option.{some, some-injective, none-ne-some}
use Prim.Native.Nat.{ℕ, ◌*◌, ◌^◌, ◌≤◌, min}
use native.Mathlib.Nat.{le_trans, le_of_mul-le-mul_right}
use native.Mathlib.Omega.{arith}
use lib.ListN.{length}
use borrow.Author.Tests.{eqb-true}
use Rattle.rules.specs.Rounding.{S, Le}
use Rattle.rules.specs.declared.Direction.{Direction}
use Rattle.rules.specs.declared.Direction.TheVariants.{Down, Up}
use Rattle.rules.specs.Table.{Way, Table, ways, faults, Assignment, fits_all, satisfies, happens, exact, Encloses}
use Rattle.rules.specs.Leaf.{any, minimal, is_empty, leaf_end}
use Rattle.rules.specs.Tree.{root_ways, left, right, Place, DTree, leaf, inner, child, end, low, high, Refinement}
use Rattle.rules.specs.Tree.{tree, Node, Subtree, child_node, descend, subtree, root, interval, series}
use Rattle.rules.specs.Refusals.{names_beyond, names_both, Accepted}
use Rattle.rules.proofs.Booleans.{or-first, or-second, or_cases}
use Rattle.rules.proofs.Bits.{or-zero}
use Rattle.rules.proofs.Sum.{mass, Weights, total, mass-never, mass-weigh, mass-cong, pow-S-pos}
use Rattle.rules.proofs.Rounding.{overlap-bound}
use Rattle.rules.proofs.LeafEnds.{leaf-bound, leaf-le}
use Rattle.rules.proofs.KindLaws.{laws}
use Rattle.rules.proofs.Settled.{child-inside, child-one-sense}
use Rattle.rules.proofs.Series.{Sound, series-sound}
use Rattle.rules.proofs.Accepted.{root_inside, root_one_sense, weights_fit}
use Rattle.rules.proofs.Minimal.{minimal-exact}

-- ---- one end, over all trees

-- A low or a high end bounds the exact sum on its side, whatever the tree.
pub end-bound : (d : Direction) (ws : List ℕ) → Weights ws → (vs : List Way) → names_beyond (length ws) vs ≡ false → names_both vs ≡ false
    → (s : DTree) → Sound ws vs s → Le d (end d ws vs s * S ^ length ws) (S * mass ws (happens vs))
unfolding end Sound
end-bound d ws k vs f c leaf o = leaf-bound d ws k vs c
end-bound d ws k vs f c (inner j l r) o =
    overlap-bound d (leaf_end d ws vs) _ (S ^ length ws) (S * mass ws (happens vs)) (leaf-bound d ws k vs c)
    ((laws j).bound d ws k vs f c o.1 (end d ws (child j left vs) l) (end d ws (child j right vs) r)
    (end-bound d ws k (child j left vs) (child-inside j (length ws) left vs f) (child-one-sense j left vs c) l o.2)
    (end-bound d ws k (child j right vs) (child-inside j (length ws) right vs f) (child-one-sense j right vs c) r o.3))

-- A high end is at most S.
pub end-le : (ws : List ℕ) (vs : List Way) (s : DTree) → end Up ws vs s ≤ S
unfolding end
end-le ws vs leaf = leaf-le Up ws vs
end-le ws vs (inner k l r) = least (leaf_end Up ws vs) _ (leaf-le Up ws vs)
  where
    least : (x y : ℕ) → x ≤ S → min x y ≤ S
    least x y h = omega arith

-- The two ends enclose, and stand in order.
pub tree-encloses : (ws : List ℕ) → Weights ws → (vs : List Way) → names_beyond (length ws) vs ≡ false → names_both vs ≡ false
    → (s : DTree) → Sound ws vs s → Encloses ws vs (end Down ws vs s) (end Up ws vs s)
tree-encloses ws k vs f c s o =
    record {
      below = rw (← mass-weigh ws (happens vs)) (end-bound Down ws k vs f c s o);
      above = rw (← mass-weigh ws (happens vs)) (end-bound Up ws k vs f c s o);
    }

-- Whatever encloses is in order.
pub enclosing-order : (ws : List ℕ) (vs : List Way) (lo hi : ℕ) → Encloses ws vs lo hi → lo ≤ hi
enclosing-order ws vs lo hi e = le_of_mul-le-mul_right (le_trans e.below e.above) (pow-S-pos (length ws))

-- ---- at every place

-- The interval of what stands somewhere: it encloses, low ≤ high, and high is at most S.
pub record CertainAt (ws : List ℕ) (x : Subtree) : Type 0 where
  pub encloses : Encloses ws x.node.ways (interval ws x).low (interval ws x).high
  pub ordered : (interval ws x).low ≤ (interval ws x).high
  pub bounded : (interval ws x).high ≤ S

certain : (ws : List ℕ) → Weights ws → (x : Subtree) → names_beyond (length ws) x.node.ways ≡ false → names_both x.node.ways ≡ false
    → Sound ws x.node.ways x.below → CertainAt ws x
certain ws k x f c o =
    let e = tree-encloses ws k x.node.ways f c x.below o in
    record { encloses = e; ordered = enclosing-order ws x.node.ways _ _ e; bounded = end-le ws x.node.ways x.below }

certain-below : (ws : List ℕ) → Weights ws → (p : Place) (x : Node) (s : DTree) (y : Subtree) → names_beyond (length ws) x.ways ≡ false
    → names_both x.ways ≡ false
    → Sound ws x.ways s → descend p x s ≡ some y → CertainAt ws y
unfolding descend Sound
certain-below ws k [] x s y f c o e = subst (CertainAt ws) (some-injective _ y e) (certain ws k (record { node = x; below = s }) f c o)
certain-below ws k (b ∷ p) x leaf y f c o e = absurd (none-ne-some _ e)
certain-below ws k (left ∷ p) x (inner j l r) y f c o e =
    certain-below ws k p (child_node j left x) l y (child-inside j (length ws) left x.ways f) (child-one-sense j left x.ways c) o.2 e
certain-below ws k (right ∷ p) x (inner j l r) y f c o e =
    certain-below ws k p (child_node j right x) r y (child-inside j (length ws) right x.ways f) (child-one-sense j right x.ways c) o.3 e

-- ENCLOSURE: an accepted table, a series of acceptable refinements, any place of the tree.
pub enclosure : (t : Table) → Accepted t → (ns : List Refinement) → series t ns ≡ true → (p : Place) (x : Subtree) → subtree t p (tree ns) ≡ some x
    → CertainAt t.weights x
unfolding subtree
enclosure t ok ns h p x e =
    certain-below t.weights (weights_fit t ok) p (root t) (tree ns) x (root_inside t ok) (root_one_sense t ok) (series-sound t ns h) e

-- What encloses the exact sum over what stays encloses the one over all.
pub before-leaving-out : (ws : List ℕ) (vs : List Way) (l h : ℕ) → Encloses ws (minimal vs) l h → Encloses ws vs l h
before-leaving-out ws vs l h e = record { below = rw (minimal-exact ws vs) at e.below; above = rw (minimal-exact ws vs) at e.above }

-- At the root, over the table's own ways.
pub root-encloses : (t : Table) → Accepted t → (ns : List Refinement) → series t ns ≡ true
    → Encloses t.weights (ways t) (low t (tree ns)) (high t (tree ns))
unfolding low high root_ways
root-encloses t ok ns h =
    let e = tree-encloses t.weights (weights_fit t ok) (root_ways t) (root_inside t ok) (root_one_sense t ok) (tree ns) (series-sound t ns h) in
    before-leaving-out t.weights (ways t) _ _ e

-- ---- the two simplest sums

-- Without ways the exact sum is 0.
pub exact-never : (ws : List ℕ) → exact ws [] ≡ 0
exact-never ws = sym (mass-weigh ws (happens [])) ∙ mass-never ws

nothing-asked : (a : Assignment) → fits_all 0 0 a ≡ true
nothing-asked [] = refl
nothing-asked (b ∷ a) = nothing-asked a

-- An empty way always happens.
empty-satisfied : (v : Way) (a : Assignment) → is_empty v ≡ true → satisfies v a ≡ true
empty-satisfied v a h =
    let z = or-zero v.present v.absent (eqb-true (faults v) 0 h) in
    ap₂ (λ (p q : ℕ). fits_all p q a) z.0 z.1 ∙ nothing-asked a

empty-happens : (vs : List Way) (a : Assignment) → any is_empty vs ≡ true → happens vs a ≡ true
unfolding any
empty-happens [] a h = absurd (true≢false (sym h))
empty-happens (v ∷ vs) a h =
    or_cases (is_empty v) (any is_empty vs) (λ e. or-first (satisfies v a) (happens vs a) (empty-satisfied v a e))
    (λ e. or-second (satisfies v a) (happens vs a) (empty-happens vs a e)) h

-- With an empty way it is S ^ n.
pub exact-always : (ws : List ℕ) → Weights ws → (vs : List Way) → any is_empty vs ≡ true → exact ws vs ≡ S ^ length ws
exact-always ws k vs h = sym (mass-weigh ws (happens vs)) ∙ mass-cong ws (happens vs) (λ a. true) (λ a e. empty-happens vs a h) ∙ total ws k
