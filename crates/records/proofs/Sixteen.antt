-- 16 on records: its test holds exactly of the trees that no series of accepted refinements gives.
-- Rests on History.antt: the series that the test reads off a layout is the one laid out.
use mathlib.Core.Path.{◌≡◌, refl, sym, ap, ap₂, ◌∙◌}
use mathlib.Core.Bool.{true, false, not, true≢false}
use mathlib.Core.List.{List, [], ◌∷◌}
use mathlib.Core.Logic.{◌↔◌}
use Prim.Native.Nat.{ℕ}
use lib.Dec.{eqb}
use borrow.Author.Tests.{eqb-true, eq-eqb, not-false}
use Rattle.rules.specs.Table.{Table}
use Rattle.rules.specs.Tree.{Refinement, series_from, series}
use Rattle.rules.proofs.Booleans.{and_left, and_right, and_both}
use Rattle.records.specs.Records.{children, places, layout, no_nodes, history_from, tree_count, history, same_node, same_nodes, same_tree, is_good, bad, Good}
use Rattle.records.specs.declared.Node.{Node}
use Rattle.records.specs.declared.Tree.{Tree}
use Rattle.records.proofs.History.{history-layout}

-- ---- equality by test

-- Records that the test calls equal are equal.
pub same-node : (x y : Node) → same_node x y ≡ true → x ≡ y
unfolding same_node
same-node x y h0 =
    let h1 = and_right (eqb x.kind y.kind) _ h0 in
    let h2 = and_right (eqb x.fault y.fault) _ h1 in
    let h3 = and_right (eqb x.live y.live) _ h2 in
    let h4 = and_right (eqb x.parent y.parent) _ h3 in
    let h5 = and_right (eqb x.left y.left) _ h4 in
    let h6 = and_right (eqb x.waysa y.waysa) _ h5 in
    let h7 = and_right (eqb x.waysb y.waysb) _ h6 in
    let h8 = and_right (eqb x.present y.present) _ h7 in
    let h9 = and_right (eqb x.absent y.absent) _ h8 in
    let h10 = and_right (eqb x.out y.out) _ h9 in
    let h11 = and_right (eqb x.low y.low) _ h10 in
    let h12 = and_right (eqb x.high y.high) _ h11 in
    let h13 = and_right (eqb x.ownlow y.ownlow) _ h12 in
    λ i. record {
      kind = eqb-true x.kind y.kind (and_left _ _ h0) i;
      fault = eqb-true x.fault y.fault (and_left _ _ h1) i;
      live = eqb-true x.live y.live (and_left _ _ h2) i;
      parent = eqb-true x.parent y.parent (and_left _ _ h3) i;
      left = eqb-true x.left y.left (and_left _ _ h4) i;
      waysa = eqb-true x.waysa y.waysa (and_left _ _ h5) i;
      waysb = eqb-true x.waysb y.waysb (and_left _ _ h6) i;
      present = eqb-true x.present y.present (and_left _ _ h7) i;
      absent = eqb-true x.absent y.absent (and_left _ _ h8) i;
      out = eqb-true x.out y.out (and_left _ _ h9) i;
      low = eqb-true x.low y.low (and_left _ _ h10) i;
      high = eqb-true x.high y.high (and_left _ _ h11) i;
      ownlow = eqb-true x.ownlow y.ownlow (and_left _ _ h12) i;
      ownhigh = eqb-true x.ownhigh y.ownhigh h13 i;
    }

eqb-self : (n : ℕ) → eqb n n ≡ true
eqb-self n = eq-eqb n n refl

-- It calls every record equal to itself.
pub node-self : (x : Node) → same_node x x ≡ true
unfolding same_node
node-self x =
    rw (
      eqb-self x.kind,
      eqb-self x.fault,
      eqb-self x.live,
      eqb-self x.parent,
      eqb-self x.left,
      eqb-self x.waysa,
      eqb-self x.waysb,
      eqb-self x.present,
      eqb-self x.absent,
      eqb-self x.out,
      eqb-self x.low,
      eqb-self x.high,
      eqb-self x.ownlow,
      eqb-self x.ownhigh,
    )

-- The same of lists of records.
pub same-nodes : (xs ys : List Node) → same_nodes xs ys ≡ true → xs ≡ ys
unfolding same_nodes
same-nodes [] [] h = refl
same-nodes [] (y ∷ ys) h = absurd (true≢false (sym h))
same-nodes (x ∷ xs) [] h = absurd (true≢false (sym h))
same-nodes (x ∷ xs) (y ∷ ys) h =
    ap₂ (λ (a : Node) (r : List Node). a ∷ r) (same-node x y (and_left (same_node x y) _ h)) (same-nodes xs ys (and_right (same_node x y) _ h))

pub nodes-self : (xs : List Node) → same_nodes xs xs ≡ true
unfolding same_nodes
nodes-self [] = refl
nodes-self (x ∷ xs) = and_both (same_node x x) _ (node-self x) (nodes-self xs)

-- And of trees.
same-tree : (x y : Tree) → same_tree x y ≡ true → x ≡ y
unfolding same_tree
same-tree x y h =
    let u = eqb-true x.used y.used (and_left (eqb x.used y.used) _ h) in
    let v = same-nodes x.nodes y.nodes (and_right (eqb x.used y.used) _ h) in
    λ i. record { nodes = v i; used = u i }

tree-self : (x : Tree) → same_tree x x ≡ true
unfolding same_tree
tree-self x = and_both (eqb x.used x.used) _ (eqb-self x.used) (nodes-self x.nodes)

-- ---- 16

-- A tree that the test calls good is one that some series of accepted refinements gives.
pub good-sure : (t : Table) (x : Tree) → is_good t x ≡ true → Good t x
unfolding is_good
good-sure t x h =
    record {
      made = history x;
      accepted = and_left (series t (history x)) _ h;
      is = same-tree x (layout t (history x)) (and_right (series t (history x)) _ h);
    }

-- Every layout of a series is called good.
layout-is-good : (t : Table) (ns : List Refinement) → series t ns ≡ true → is_good t (layout t ns) ≡ true
unfolding is_good
layout-is-good t ns h = rw (history-layout t ns h) (and_both (series t ns) _ h (tree-self (layout t ns)))

-- So the test calls every such tree good.
pub good-all : (t : Table) (x : Tree) → Good t x → is_good t x ≡ true
good-all t x g = ap (is_good t) g.is ∙ layout-is-good t g.made g.accepted

-- 16 AS RULES 6.8 SAYS IT: the trees to which it does not apply are exactly those that some series of acceptable refinements gives.
pub sixteen : (t : Table) (x : Tree) → (bad t x ≡ false) ↔ Good t x
unfolding bad
sixteen t x = (λ h. good-sure t x (not-false (is_good t x) h), λ g. ap not (good-all t x g))

-- It never applies to the layout of a series.
pub layout-good : (t : Table) (ns : List Refinement) → series t ns ≡ true → bad t (layout t ns) ≡ false
unfolding bad
layout-good t ns h = ap not (layout-is-good t ns h)

-- It always applies to the tree of a refused opening.
pub no-nodes-bad : (t : Table) → bad t no_nodes ≡ true
unfolding bad is_good no_nodes history history_from tree_count same_tree layout places children series_from
no-nodes-bad t = refl
