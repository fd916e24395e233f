-- Trees and their places: what one refinement changes, and what it leaves as it was.
-- Nothing here knows of ways or intervals, but for what stands at a place. Rests on specs/Tree.antt alone.
use mathlib.Core.Path.{◌≡◌, refl, sym, ap, ap₂, ◌∙◌}
use mathlib.Core.Bool.{Bool, true, false, true≢false}
use mathlib.Core.List.{List, [], ◌∷◌, ◌++◌}
use mathlib.Core.Option.{Option, none, some, some-injective, none-ne-some}
use mathlib.Core.Logic.{◌⊎◌, inl, inr}
use Prim.Native.Nat.{suc, ◌+◌}
use native.Mathlib.Omega.{arith}
use Rattle.rules.specs.Table.{Way}
use Rattle.rules.specs.Tree.{Side, left, right, Place, DTree, leaf, inner, child, refine_at, inners, nodes}
use Rattle.rules.specs.Tree.{has_at, leaf_at, on_path, kind_at, leaf_ways, Node, Subtree, child_node, descend}
use Rattle.rules.specs.declared.Kind.{Kind}

-- ---- two trees with the same done at each place are one

pub tree-ext : (s s' : DTree) → ((p : Place) → kind_at p s ≡ kind_at p s') → s ≡ s'
unfolding kind_at
tree-ext leaf leaf h = refl
tree-ext leaf (inner k l r) h = absurd (none-ne-some _ (h []))
tree-ext (inner k l r) leaf h = absurd (none-ne-some _ (sym (h [])))
tree-ext (inner k l r) (inner j l' r') h =
    ap (λ (i : Kind). inner i l r) (some-injective k j (h []))
    ∙ ap₂ (inner j) (tree-ext l l' (λ p. h (left ∷ p))) (tree-ext r r' (λ p. h (right ∷ p)))

-- ---- where there is a leaf, nothing has been done, and its ways are known

pub leaf-undone : (p : Place) (s : DTree) → leaf_at p s ≡ true → kind_at p s ≡ none
unfolding leaf_at kind_at
leaf-undone [] leaf h = refl
leaf-undone [] (inner k l r) h = absurd (true≢false (sym h))
leaf-undone (b ∷ p) leaf h = refl
leaf-undone (left ∷ p) (inner k l r) h = leaf-undone p l h
leaf-undone (right ∷ p) (inner k l r) h = leaf-undone p r h

pub ways-leaf : (p : Place) (vs : List Way) (s : DTree) (us : List Way) → leaf_ways p vs s ≡ some us → leaf_at p s ≡ true
unfolding leaf_ways leaf_at
ways-leaf [] vs leaf us h = refl
ways-leaf [] vs (inner k l r) us h = absurd (none-ne-some _ h)
ways-leaf (b ∷ p) vs leaf us h = absurd (none-ne-some _ h)
ways-leaf (left ∷ p) vs (inner k l r) us h = ways-leaf p (child k left vs) l us h
ways-leaf (right ∷ p) vs (inner k l r) us h = ways-leaf p (child k right vs) r us h

-- ---- what a refinement makes

-- At its place stands an inner node of its kind.
pub refined-kind : (p : Place) (k : Kind) (s : DTree) → leaf_at p s ≡ true → kind_at p (refine_at p k s) ≡ some k
unfolding kind_at refine_at leaf_at
refined-kind [] k leaf h = refl
refined-kind [] k (inner j l r) h = absurd (true≢false (sym h))
refined-kind (b ∷ p) k leaf h = absurd (true≢false (sym h))
refined-kind (left ∷ p) k (inner j l r) h = refined-kind p k l h
refined-kind (right ∷ p) k (inner j l r) h = refined-kind p k r h

-- With its two leaves.
pub refined-leaves : (p : Place) (b : Side) (k : Kind) (s : DTree) → leaf_at p s ≡ true → leaf_at (p ++ (b ∷ [])) (refine_at p k s) ≡ true
unfolding refine_at leaf_at
refined-leaves [] left k leaf h = refl
refined-leaves [] right k leaf h = refl
refined-leaves [] b k (inner j l r) h = absurd (true≢false (sym h))
refined-leaves (c ∷ p) b k leaf h = absurd (true≢false (sym h))
refined-leaves (left ∷ p) b k (inner j l r) h = refined-leaves p b k l h
refined-leaves (right ∷ p) b k (inner j l r) h = refined-leaves p b k r h

-- The tree gains one inner node.
pub refined-inners : (p : Place) (k : Kind) (s : DTree) → leaf_at p s ≡ true → inners (refine_at p k s) ≡ suc (inners s)
unfolding refine_at leaf_at inners
refined-inners [] k leaf h = refl
refined-inners [] k (inner j l r) h = absurd (true≢false (sym h))
refined-inners (b ∷ p) k leaf h = absurd (true≢false (sym h))
refined-inners (left ∷ p) k (inner j l r) h = omega (arith, refined-inners p k l h)
refined-inners (right ∷ p) k (inner j l r) h = omega (arith, refined-inners p k r h)

-- A tree has one leaf more than it has inner nodes.
pub nodes-inners : (s : DTree) → nodes s ≡ suc (inners s + inners s)
unfolding nodes inners
nodes-inners leaf = refl
nodes-inners (inner k l r) = omega (arith, nodes-inners l, nodes-inners r)

-- ---- what was done before stays, and only the one refinement is added

pub done-stays : (q p : Place) (k j : Kind) (s : DTree) → kind_at q s ≡ some j → kind_at q (refine_at p k s) ≡ some j
unfolding kind_at refine_at
done-stays [] p k j leaf h = absurd (none-ne-some _ h)
done-stays (c ∷ q) p k j leaf h = absurd (none-ne-some _ h)
done-stays q [] k j (inner i l r) h = h
done-stays [] (left ∷ p) k j (inner i l r) h = h
done-stays [] (right ∷ p) k j (inner i l r) h = h
done-stays (left ∷ q) (left ∷ p) k j (inner i l r) h = done-stays q p k j l h
done-stays (right ∷ q) (left ∷ p) k j (inner i l r) h = h
done-stays (left ∷ q) (right ∷ p) k j (inner i l r) h = h
done-stays (right ∷ q) (right ∷ p) k j (inner i l r) h = done-stays q p k j r h

-- The refinement at hand, seen from one level up.
lift-here : (c : Side) (q p : Place) (k j : Kind) (o : Option Kind) → (o ≡ some j) ⊎ ((q ≡ p) × (j ≡ k)) → (o ≡ some j) ⊎ ((c ∷ q ≡ c ∷ p) × (j ≡ k))
lift-here c q p k j o (inl e) = inl e
lift-here c q p k j o (inr e) = inr (ap (λ (r : Place). c ∷ r) e.0, e.1)

bare-children : (c : Side) (q : Place) (k : Kind) → kind_at (c ∷ q) (inner k leaf leaf) ≡ none
unfolding kind_at
bare-children left [] k = refl
bare-children left (b ∷ q) k = refl
bare-children right [] k = refl
bare-children right (b ∷ q) k = refl

pub done-only : (q p : Place) (k j : Kind) (s : DTree) → kind_at q (refine_at p k s) ≡ some j → (kind_at q s ≡ some j) ⊎ ((q ≡ p) × (j ≡ k))
unfolding kind_at refine_at
done-only [] [] k j leaf h = inr (refl, some-injective j k (sym h))
done-only (c ∷ q) [] k j leaf h = absurd (none-ne-some _ (sym (bare-children c q k) ∙ h))
done-only [] (c ∷ p) k j leaf h = inl h
done-only (d ∷ q) (c ∷ p) k j leaf h = inl h
done-only q [] k j (inner i l r) h = inl h
done-only [] (left ∷ p) k j (inner i l r) h = inl h
done-only [] (right ∷ p) k j (inner i l r) h = inl h
done-only (left ∷ q) (left ∷ p) k j (inner i l r) h = lift-here left q p k j (kind_at q l) (done-only q p k j l h)
done-only (right ∷ q) (left ∷ p) k j (inner i l r) h = inl h
done-only (left ∷ q) (right ∷ p) k j (inner i l r) h = inl h
done-only (right ∷ q) (right ∷ p) k j (inner i l r) h = lift-here right q p k j (kind_at q r) (done-only q p k j r h)

-- Any other place is refined or not as before.
pub done-elsewhere : (q p : Place) (k : Kind) (s : DTree) → (q ≡ p → ⊥) → kind_at q (refine_at p k s) ≡ kind_at q s
done-elsewhere q p k s other = by (kind_at q s) refl (kind_at q (refine_at p k s)) refl
  where
    on : (j : Kind) → kind_at q (refine_at p k s) ≡ some j → (kind_at q s ≡ some j) ⊎ ((q ≡ p) × (j ≡ k)) → kind_at q (refine_at p k s) ≡ kind_at q s
    on j e (inl h) = e ∙ sym h
    on j e (inr h) = absurd (other h.0)

    by : (o : Option Kind) → kind_at q s ≡ o → (x : Option Kind) → kind_at q (refine_at p k s) ≡ x → kind_at q (refine_at p k s) ≡ kind_at q s
    by (some j) d x e = done-stays q p k j s d ∙ sym d
    by none d none e = e ∙ sym d
    by none d (some j) e = on j e (done-only q p k j s e)

-- The two new leaves are not refined.
pub new-undone : (p : Place) (b : Side) (k : Kind) (s : DTree) → leaf_at p s ≡ true → kind_at (p ++ (b ∷ [])) (refine_at p k s) ≡ none
new-undone p b k s h = leaf-undone (p ++ (b ∷ [])) (refine_at p k s) (refined-leaves p b k s h)

-- ---- which places a tree has

pub done-has : (p : Place) (k : Kind) (s : DTree) → kind_at p s ≡ some k → has_at p s ≡ true
unfolding has_at kind_at
done-has [] k s h = refl
done-has (c ∷ p) k leaf h = absurd (none-ne-some _ h)
done-has (left ∷ p) k (inner j l r) h = done-has p k l h
done-has (right ∷ p) k (inner j l r) h = done-has p k r h

pub leaf-has : (p : Place) (s : DTree) → leaf_at p s ≡ true → has_at p s ≡ true
unfolding has_at leaf_at
leaf-has [] s h = refl
leaf-has (c ∷ p) leaf h = absurd (true≢false (sym h))
leaf-has (left ∷ p) (inner j l r) h = leaf-has p l h
leaf-has (right ∷ p) (inner j l r) h = leaf-has p r h

-- A refined place has both children, one that is not refined has none.
pub has-child : (p : Place) (b : Side) (k : Kind) (s : DTree) → kind_at p s ≡ some k → has_at (p ++ (b ∷ [])) s ≡ true
unfolding has_at kind_at
has-child [] b k leaf h = absurd (none-ne-some _ h)
has-child [] left k (inner j l r) h = refl
has-child [] right k (inner j l r) h = refl
has-child (c ∷ p) b k leaf h = absurd (none-ne-some _ h)
has-child (left ∷ p) b k (inner j l r) h = has-child p b k l h
has-child (right ∷ p) b k (inner j l r) h = has-child p b k r h

pub has-no-child : (p : Place) (b : Side) (s : DTree) → kind_at p s ≡ none → has_at (p ++ (b ∷ [])) s ≡ false
unfolding has_at kind_at
has-no-child [] b leaf h = refl
has-no-child [] b (inner j l r) h = absurd (none-ne-some _ (sym h))
has-no-child (c ∷ p) b leaf h = refl
has-no-child (left ∷ p) b (inner j l r) h = has-no-child p b l h
has-no-child (right ∷ p) b (inner j l r) h = has-no-child p b r h

-- A refinement takes no place away.
pub has-stays : (q p : Place) (k : Kind) (s : DTree) → has_at q s ≡ true → has_at q (refine_at p k s) ≡ true
unfolding has_at refine_at
has-stays [] p k s h = refl
has-stays (c ∷ q) p k leaf h = absurd (true≢false (sym h))
has-stays (c ∷ q) [] k (inner j l r) h = h
has-stays (left ∷ q) (left ∷ p) k (inner j l r) h = has-stays q p k l h
has-stays (right ∷ q) (left ∷ p) k (inner j l r) h = h
has-stays (left ∷ q) (right ∷ p) k (inner j l r) h = h
has-stays (right ∷ q) (right ∷ p) k (inner j l r) h = has-stays q p k r h

one_up : (c : Side) (q p : Place) (x : Bool) → (x ≡ true) ⊎ ((b : Side) × (q ≡ p ++ (b ∷ []))) → (x ≡ true) ⊎ ((b : Side) × (c ∷ q ≡ c ∷ p ++ (b ∷ [])))
one_up c q p x (inl e) = inl e
one_up c q p x (inr e) = inr (e.0, ap (λ (r : Place). c ∷ r) e.1)

-- And adds two at most.
pub has-only : (q p : Place) (k : Kind) (s : DTree) → has_at q (refine_at p k s) ≡ true → (has_at q s ≡ true) ⊎ ((b : Side) × (q ≡ p ++ (b ∷ [])))
unfolding has_at refine_at
has-only [] p k s h = inl refl
has-only (left ∷ []) [] k leaf h = inr (left, refl)
has-only (right ∷ []) [] k leaf h = inr (right, refl)
has-only (left ∷ c ∷ q) [] k leaf h = absurd (true≢false (sym h))
has-only (right ∷ c ∷ q) [] k leaf h = absurd (true≢false (sym h))
has-only (c ∷ q) (d ∷ p) k leaf h = inl h
has-only (c ∷ q) [] k (inner j l r) h = inl h
has-only (left ∷ q) (left ∷ p) k (inner j l r) h = one_up left q p (has_at q l) (has-only q p k l h)
has-only (right ∷ q) (left ∷ p) k (inner j l r) h = inl h
has-only (left ∷ q) (right ∷ p) k (inner j l r) h = inl h
has-only (right ∷ q) (right ∷ p) k (inner j l r) h = one_up right q p (has_at q r) (has-only q p k r h)

-- ---- what stands at a place

-- A tree has a place exactly if something stands there.
pub has-subtree : (p : Place) (x : Node) (s : DTree) → has_at p s ≡ true → (y : Subtree) × (descend p x s ≡ some y)
unfolding has_at descend
has-subtree [] x s h = (record { node = x; below = s }, refl)
has-subtree (b ∷ p) x leaf h = absurd (true≢false (sym h))
has-subtree (left ∷ p) x (inner k l r) h = has-subtree p (child_node k left x) l h
has-subtree (right ∷ p) x (inner k l r) h = has-subtree p (child_node k right x) r h

pub subtree-has : (p : Place) (x : Node) (s : DTree) (y : Subtree) → descend p x s ≡ some y → has_at p s ≡ true
unfolding has_at descend
subtree-has [] x s y h = refl
subtree-has (b ∷ p) x leaf y h = absurd (none-ne-some _ h)
subtree-has (left ∷ p) x (inner k l r) y h = subtree-has p (child_node k left x) l y h
subtree-has (right ∷ p) x (inner k l r) y h = subtree-has p (child_node k right x) r y h

-- What was done at a place is what was done at the root of what stands there.
pub subtree-kind : (p : Place) (x : Node) (s : DTree) (y : Subtree) → descend p x s ≡ some y → kind_at p s ≡ kind_at [] y.below
unfolding kind_at descend
subtree-kind [] x s y e = ap (λ (z : Subtree). kind_at [] z.below) (some-injective _ y e)
subtree-kind (b ∷ p) x leaf y e = absurd (none-ne-some _ e)
subtree-kind (left ∷ p) x (inner k l r) y e = subtree-kind p (child_node k left x) l y e
subtree-kind (right ∷ p) x (inner k l r) y e = subtree-kind p (child_node k right x) r y e

-- The ways of a leaf are those of what stands there.
pub leaf-subtree : (p : Place) (x : Node) (s : DTree) (us : List Way) → leaf_ways p x.ways s ≡ some us
    → (y : Subtree) × (descend p x s ≡ some y) × (y.node.ways ≡ us) × (y.below ≡ leaf)
unfolding leaf_ways descend
leaf-subtree [] x leaf us e = (record { node = x; below = leaf }, refl, some-injective x.ways us e, refl)
leaf-subtree [] x (inner k l r) us e = absurd (none-ne-some _ e)
leaf-subtree (b ∷ p) x leaf us e = absurd (none-ne-some _ e)
leaf-subtree (left ∷ p) x (inner k l r) us e = leaf-subtree p (child_node k left x) l us e
leaf-subtree (right ∷ p) x (inner k l r) us e = leaf-subtree p (child_node k right x) r us e

-- Neither on the path nor below, everything stands as it stood: node, ways, kind and what hangs there.
pub elsewhere : (q p : Place) (k : Kind) (x : Node) (s : DTree) → on_path q p ≡ false → on_path p q ≡ false → descend q x (refine_at p k s) ≡ descend q x s
unfolding on_path descend refine_at
elsewhere [] p k x s h g = absurd (true≢false h)
elsewhere (c ∷ q) [] k x s h g = absurd (true≢false g)
elsewhere (c ∷ q) (b ∷ p) k x leaf h g = refl
elsewhere (left ∷ q) (left ∷ p) k x (inner j l r) h g = elsewhere q p k (child_node j left x) l h g
elsewhere (right ∷ q) (left ∷ p) k x (inner j l r) h g = refl
elsewhere (left ∷ q) (right ∷ p) k x (inner j l r) h g = refl
elsewhere (right ∷ q) (right ∷ p) k x (inner j l r) h g = elsewhere q p k (child_node j right x) r h g

-- Off the path to the refined leaf a place that the tree had keeps what stood there.
pub off-path : (q p : Place) (k : Kind) (x : Node) (s : DTree) → on_path q p ≡ false → has_at q s ≡ true → leaf_at p s ≡ true
    → descend q x (refine_at p k s) ≡ descend q x s
unfolding on_path has_at leaf_at descend refine_at
off-path [] p k x s h g l = absurd (true≢false h)
off-path (c ∷ q) p k x leaf h g l = absurd (true≢false (sym g))
off-path (c ∷ q) [] k x (inner j l r) h g e = absurd (true≢false (sym e))
off-path (left ∷ q) (left ∷ p) k x (inner j l r) h g e = off-path q p k (child_node j left x) l h g e
off-path (right ∷ q) (left ∷ p) k x (inner j l r) h g e = refl
off-path (left ∷ q) (right ∷ p) k x (inner j l r) h g e = refl
off-path (right ∷ q) (right ∷ p) k x (inner j l r) h g e = off-path q p k (child_node j right x) r h g e

-- The node itself, without what hangs there.
abbrev pub node_only : Option Subtree → Option Node
node_only none = none
node_only (some y) = some y.node

-- At every place that the tree had the node stays the same, whatever is refined.
pub node_stays : (q p : Place) (k : Kind) (x : Node) (s : DTree) → has_at q s ≡ true → node_only (descend q x (refine_at p k s)) ≡ node_only (descend q x s)
unfolding has_at descend refine_at
node_stays [] p k x s h = refl
node_stays (c ∷ q) p k x leaf h = absurd (true≢false (sym h))
node_stays (c ∷ q) [] k x (inner j l r) h = refl
node_stays (left ∷ q) (left ∷ p) k x (inner j l r) h = node_stays q p k (child_node j left x) l h
node_stays (right ∷ q) (left ∷ p) k x (inner j l r) h = refl
node_stays (left ∷ q) (right ∷ p) k x (inner j l r) h = refl
node_stays (right ∷ q) (right ∷ p) k x (inner j l r) h = node_stays q p k (child_node j right x) r h

-- The tree below one side.
abbrev pub branch : Side → DTree → DTree
branch b leaf = leaf
branch left (inner k l r) = l
branch right (inner k l r) = r

-- What stands at a child, from what stands at its parent.
pub subtree-child : (p : Place) (b : Side) (k : Kind) (x : Node) (s : DTree) (y : Subtree) → kind_at p s ≡ some k → descend p x s ≡ some y
    → descend (p ++ (b ∷ [])) x s ≡ some (record { node = child_node k b y.node; below = branch b y.below })
unfolding kind_at descend
subtree-child [] b k x leaf y d e = absurd (none-ne-some _ d)
subtree-child [] left k x (inner j l r) y d e =
    ap₂ (λ (i : Kind) (z : Subtree). some (record { node = child_node i left z.node; below = branch left z.below }))
    (some-injective j k d) (some-injective _ y e)
subtree-child [] right k x (inner j l r) y d e =
    ap₂ (λ (i : Kind) (z : Subtree). some (record { node = child_node i right z.node; below = branch right z.below }))
    (some-injective j k d) (some-injective _ y e)
subtree-child (c ∷ p) b k x leaf y d e = absurd (none-ne-some _ d)
subtree-child (left ∷ p) b k x (inner j l r) y d e = subtree-child p b k (child_node j left x) l y d e
subtree-child (right ∷ p) b k x (inner j l r) y d e = subtree-child p b k (child_node j right x) r y d e

-- What stands at the two new leaves.
pub subtree-new : (p : Place) (b : Side) (k : Kind) (x : Node) (s : DTree) (y : Subtree) → leaf_at p s ≡ true → descend p x s ≡ some y
    → descend (p ++ (b ∷ [])) x (refine_at p k s) ≡ some (record { node = child_node k b y.node; below = leaf })
unfolding leaf_at descend refine_at
subtree-new [] left k x leaf y h e = ap (λ (z : Subtree). some (record { node = child_node k left z.node; below = leaf })) (some-injective _ y e)
subtree-new [] right k x leaf y h e = ap (λ (z : Subtree). some (record { node = child_node k right z.node; below = leaf })) (some-injective _ y e)
subtree-new [] b k x (inner j l r) y h e = absurd (true≢false (sym h))
subtree-new (c ∷ p) b k x leaf y h e = absurd (true≢false (sym h))
subtree-new (left ∷ p) b k x (inner j l r) y h e = subtree-new p b k (child_node j left x) l y h e
subtree-new (right ∷ p) b k x (inner j l r) y h e = subtree-new p b k (child_node j right x) r y h e

-- Where nothing stands nothing was done.
pub nothing-stands : (p : Place) (x : Node) (s : DTree) → descend p x s ≡ none → kind_at p s ≡ none
unfolding kind_at descend
nothing-stands [] x s h = absurd (none-ne-some _ (sym h))
nothing-stands (b ∷ p) x leaf h = refl
nothing-stands (left ∷ p) x (inner j l r) h = nothing-stands p (child_node j left x) l h
nothing-stands (right ∷ p) x (inner j l r) h = nothing-stands p (child_node j right x) r h

-- Below a place that is not refined nothing stands.
pub nothing-below : (p : Place) (b : Side) (q : Place) (x : Node) (s : DTree) → kind_at p s ≡ none → descend (p ++ b ∷ q) x s ≡ none
unfolding kind_at descend
nothing-below [] b q x leaf h = refl
nothing-below [] b q x (inner j l r) h = absurd (none-ne-some _ (sym h))
nothing-below (c ∷ p) b q x leaf h = refl
nothing-below (left ∷ p) b q x (inner j l r) h = nothing-below p b q (child_node j left x) l h
nothing-below (right ∷ p) b q x (inner j l r) h = nothing-below p b q (child_node j right x) r h

-- Where something stands and nothing was done there is a leaf, with the ways that stand there.
pub undone-leaf : (p : Place) (x : Node) (s : DTree) (y : Subtree) → descend p x s ≡ some y → kind_at p s ≡ none
    → (leaf_ways p x.ways s ≡ some y.node.ways) × (y.below ≡ leaf)
unfolding descend kind_at leaf_ways
undone-leaf [] x leaf y e d = let q = some-injective _ y e in (ap (λ (z : Subtree). some z.node.ways) q, sym (ap (λ (z : Subtree). z.below) q))
undone-leaf [] x (inner j l r) y e d = absurd (none-ne-some _ (sym d))
undone-leaf (b ∷ p) x leaf y e d = absurd (none-ne-some _ e)
undone-leaf (left ∷ p) x (inner j l r) y e d = undone-leaf p (child_node j left x) l y e d
undone-leaf (right ∷ p) x (inner j l r) y e d = undone-leaf p (child_node j right x) r y e d

-- A refined place has no leaf.
pub done-no-leaf : (p : Place) (vs : List Way) (k : Kind) (s : DTree) → kind_at p s ≡ some k → leaf_ways p vs s ≡ none
unfolding kind_at leaf_ways
done-no-leaf [] vs k leaf d = absurd (none-ne-some _ d)
done-no-leaf [] vs k (inner j l r) d = refl
done-no-leaf (b ∷ p) vs k leaf d = absurd (none-ne-some _ d)
done-no-leaf (left ∷ p) vs k (inner j l r) d = done-no-leaf p (child j left vs) k l d
done-no-leaf (right ∷ p) vs k (inner j l r) d = done-no-leaf p (child j right vs) k r d
