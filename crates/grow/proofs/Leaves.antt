-- The records that a refinement writes: those of the two new leaves, and all three in their places.
-- Rests on `records`, SafeLaws, on `rules`, LeafEnds, on the definitions of Branched.antt, and on that of `records`, refined_at.
use mathlib.Core.Path.{◌≡◌, ap, ap₂, ◌∙◌}
use mathlib.Core.List.{List, []}
use Prim.Native.Nat.{ℕ, ◌+◌, ◌<◌}
use native.Mathlib.Numerals.{add-one}
use native.Mathlib.Omega.{arith}
use lib.ListN.{get_or}
use Rattle.rules.specs.declared.Direction.TheVariants.{Down, Up}
use Rattle.rules.specs.Table.{Table}
use Rattle.rules.specs.Tree.{Side, left, right, child_node, end}
use Rattle.rules.specs.declared.Kind.{Kind}
use Rattle.rules.specs.declared.Way.{Way}
use Rattle.rules.proofs.LeafEnds.{leaf-le}
use Rattle.records.specs.Records.{tree_records, blank, record_ways}
use Rattle.records.specs.Growing.{refined_record, fresh_record, spot_of, refined_at}
use Rattle.records.specs.declared.Node.{Node}
use Rattle.records.specs.Safe.{SafeNode, Safe}
use Rattle.clauses.specs.declared.Clauses.{Clauses}
use Rattle.clauses.specs.declared.lost.Gone.{Gone}
use Rattle.clauses.specs.Leaves.{ways_of}
use Rattle.formula.specs.Leaves.{child_gone, Part}
use Rattle.records.proofs.SafeLaws.{safe-set}
use Rattle.node.specs.Told.{gone_in, spot_with}
use Rattle.grow.specs.Branched.{leaf_below, three}

-- A table of weights alone: a leaf's record depends on no more of it.
abbrev only : List ℕ → Table
only ws = record { weights = ws; present = []; absent = [] }

-- The leaf with the ways of a child, and the faults gone there, is the child.
pub as-child : (ws : List ℕ) (x : Node) (c d : Clauses) (k : Kind) (b : Side) (j : ℕ) (n : Node) → c.gone ≡ gone_in x → Part c k b d
    → n ≡ fresh_record (only ws) (spot_with d.gone (ways_of d)) j → n ≡ leaf_below ws x (ways_of c) k j b
as-child ws x c d k b j n l p h =
    h ∙ ap₂ (λ (g : Gone) (vs : List Way). fresh_record (only ws) (spot_with g vs) j)
    (p.gone_is ∙ ap (λ (g : Gone). child_gone k b g (ways_of c)) l) p.ways_are

-- The record of a new leaf is safe.
pub safe-fresh : (ws : List ℕ) (g : Gone) (vs : List Way) (j : ℕ) (n : Node) → j < tree_records → n ≡ fresh_record (only ws) (spot_with g vs) j → SafeNode n
unfolding end
safe-fresh ws g vs j n h e =
    rw e
    (record {
      parent_inside = h;
      children_inside = omega arith;
      low_le = leaf-le Down ws vs;
      high_le = leaf-le Up ws vs;
      ownlow_le = leaf-le Down ws vs;
      ownhigh_le = leaf-le Up ws vs;
    })

-- The three records in their places are safe.
pub safe-three : (xs : List Node) (used j : ℕ) (n l r : Node) → Safe xs → SafeNode n → SafeNode l → SafeNode r → Safe (three xs used j n l r)
safe-three xs used j n l r s a b c = safe-set _ (used + 1) r (safe-set _ used l (safe-set xs j n s a) b) c

-- The ways vs are those of record j of the table t.
module _ (t : Table) (xs : List Node) (used j : ℕ) (k : Kind) (vs : List Way) (e : vs ≡ record_ways t (get_or xs j blank)) where
  leaf_of : (b : Side) → leaf_below t.weights (get_or xs j blank) vs k j b ≡ fresh_record t (child_node k b (spot_of t (get_or xs j blank))) j
  leaf_of b = ap (λ (us : List Way). fresh_record t (child_node k b (spot_with (gone_in (get_or xs j blank)) us)) j) e

  pub three_refined : (n l r : Node) → n ≡ refined_record (get_or xs j blank) k used → l ≡ leaf_below t.weights (get_or xs j blank) vs k j left
      → r ≡ leaf_below t.weights (get_or xs j blank) vs k j right → three xs used j n l r ≡ refined_at t xs used j k
  unfolding refined_at
  three_refined n l r a b c = rw (a, b ∙ leaf_of left, c ∙ leaf_of right, add-one)
