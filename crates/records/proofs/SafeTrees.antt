-- A GOOD TREE IS SAFE: every link of its records is the index of a record, and every end is at most S.
-- Rests on Positions.antt and InPlace.antt for the links, and on the rules' enclosure for the ends.
use mathlib.Core.Path.{◌≡◌, refl, sym, subst}
use mathlib.Core.Bool.{true}
use mathlib.Core.List.{List, [], ◌∷◌, ◌++◌}
use mathlib.Core.List.Memᴰ
use mathlib.Core.Option.{Option, none, some}
use Prim.Native.Nat.{ℕ, ◌+◌, ◌<◌, ◌≤◌}
use native.Mathlib.Decide.{dec_lt}
use native.Mathlib.Omega.{arith}
use lib.ListN.{length, get_or}
use Rattle.rules.specs.Rounding.{S}
use Rattle.rules.specs.declared.Direction.TheVariants.{Down, Up}
use Rattle.rules.specs.Table.{Table}
use Rattle.rules.specs.Tree.{right, Place, Refinement, tree, kind_at, Subtree, subtree, root, end, series}
use Rattle.rules.specs.Refusals.{Accepted}
use Rattle.rules.specs.declared.Kind.{Kind}
use Rattle.rules.proofs.LeafEnds.{leaf-le}
use Rattle.rules.proofs.Enclosure.{CertainAt, enclosure}
use Rattle.rules.proofs.Places.{has-subtree}
use Rattle.rules.proofs.Series.{only-done}
use Rattle.records.specs.Records.{tree_records, blank, places, above, left_code, subtree_or, record_at, records_of, layout, Good}
use Rattle.records.specs.declared.Tree.{Tree}
use Rattle.records.proofs.Positions.{Held, held_at, held-has, has-held, has_above, position-lt, child-held, right-next}
use Rattle.records.proofs.InPlace.{few-places, record_of, record-rest}
use Rattle.records.specs.Safe.{SafeNode, Safe}
use Rattle.records.proofs.SafeLaws.{safe-blanks}

module _ (t : Table) (ok : Accepted t) (ns : List Refinement) (whole : series t ns ≡ true) where
  -- The left link of a place, and the record behind it.
  children-in : (p : Place) (o : Option Kind) → kind_at p (tree ns) ≡ o → left_code o p (places ns) + 1 < tree_records
  unfolding left_code places
  children-in p none d = omega arith
  children-in p (some k) d =
      let done = only-done ns p k d in
      let inside = position-lt ns (p ++ (right ∷ [])) (Memᴰ.tail (child-held p k right ns done)) in
      omega (arith, inside, right-next p k ns done, few-places t ns whole)

  -- The ends of what stands at a place.
  ends-in : (o : Option Subtree) (x : Subtree) → o ≡ some x → CertainAt t.weights x
      → (end Down t.weights (subtree_or o).node.ways (subtree_or o).below ≤ S) × (end Up t.weights (subtree_or o).node.ways (subtree_or o).below ≤ S)
  unfolding subtree_or
  ends-in o x e c =
      rw e (omega (arith, c.ordered, c.bounded), c.bounded)

  -- The record of every place is safe.
  place-safe : (p : Place) → Held p (places ns) → SafeNode (record_at t ns p)
  unfolding record_at subtree
  place-safe p held =
      let has = held-has t ns whole p held in
      let there = has-subtree p (root t) (tree ns) has in
      let ends = ends-in (subtree t p (tree ns)) there.0 there.1 (enclosure t ok ns whole p there.0 there.1) in
      record {
        parent_inside = omega (arith, position-lt ns (above p) (has-held ns (above p) (has_above p (tree ns) has)), few-places t ns whole);
        children_inside = children-in p (kind_at p (tree ns)) refl;
        low_le = ends.0;
        high_le = ends.1;
        ownlow_le = leaf-le Down t.weights (subtree_or (subtree t p (tree ns))).node.ways;
        ownhigh_le = leaf-le Up t.weights (subtree_or (subtree t p (tree ns))).node.ways;
      }

  -- So is every record of the series, in use or blank.
  records-safe : Safe (records_of t ns)
  records-safe = record { each = λ i. at i (dec_lt i (length (places ns))) }
    where
      at : (i : ℕ) → Dec (i < length (places ns)) → SafeNode (get_or (records_of t ns) i blank)
      at i (yes h) = rw (record_of t ns i h) (place-safe (get_or (places ns) i []) (held_at (places ns) i h))
      at i (no h) = rw (record-rest t ns i (omega arith)) ((safe-blanks 0).each 0)

-- A GOOD TREE.
pub good_safe : (t : Table) → Accepted t → (x : Tree) → Good t x → Safe x.nodes
unfolding layout
good_safe t ok x g = subst (λ (y : Tree). Safe y.nodes) (sym g.is) (records-safe t ok g.made g.accepted)
