-- What a record tells of its place: whether an open leaf is there, the leaf's remaining ways and its width; and that the ways of a record are lean.
-- Rests on Words.antt and InPlace.antt, and on `rules`, HandedDown.
use mathlib.Core.Path.{◌≡◌, refl, sym, ap, ap₂, ◌∙◌, subst}
use mathlib.Core.Bool.{Bool, true, false}
use mathlib.Core.List.{List, []}
use mathlib.Core.Option.{Option, none, some}
use Prim.Native.Nat.{ℕ, ◌-◌, ◌<◌}
use native.Mathlib.Decide.{dec_lt}
use native.Mathlib.Omega.{arith}
use lib.ListN.{length, get_or}
use lib.Dec.{eqb}
use Rattle.rules.specs.declared.Direction.TheVariants.{Down, Up}
use Rattle.rules.specs.Table.{Table, ways}
use Rattle.rules.specs.declared.Way.{Way}
use Rattle.rules.specs.Leaf.{has_number, remaining, drop_all, sift, minimal, Lean, leaf_width, is_open}
use Rattle.rules.specs.Tree.{root_ways, Place, DTree, end, Refinement, tree, kind_at, leaf_ways, Subtree, descend, root, subtree, series}
use Rattle.rules.specs.Refusals.{Accepted}
use Rattle.rules.specs.declared.Kind.{Kind}
use Rattle.rules.proofs.HandedDown.{handed-lean}
use Rattle.rules.proofs.Sets.{select-none}
use Rattle.rules.proofs.Places.{has-subtree, undone-leaf, done-no-leaf}
use Rattle.records.specs.Records.{blank, places, low_word, high_word, in_words, live_code, record_ways}
use Rattle.records.specs.Records.{record_in, subtree_or, record_at, records_of, layout, Good}
use Rattle.records.specs.Growing.{record_width}
use Rattle.records.specs.declared.Tree.{Tree}
use Rattle.records.proofs.Positions.{Held, held_at, held-has}
use Rattle.records.proofs.InPlace.{record_of, record-rest}
use Rattle.records.proofs.Words.{words-number, record-ways}

-- What the record of a place holds: an inner node's is not live; a leaf's is exactly if the leaf is open, and tells its ways and its width.
pub data Holds (t : Table) (ns : List Refinement) (p : Place) : Type 0 where
  refined : (record_at t ns p).live ≡ 0 → leaf_ways p (root_ways t) (tree ns) ≡ none → Holds t ns p
  unrefined : (us : List Way) → leaf_ways p (root_ways t) (tree ns) ≡ some us → eqb (record_at t ns p).live 1 ≡ is_open t.weights us
      → record_ways t (record_at t ns p) ≡ us → record_width (record_at t ns p) ≡ leaf_width t.weights us → Holds t ns p

-- Every place of a series has such a record.
pub holds : (t : Table) (ns : List Refinement) → series t ns ≡ true → (p : Place) → Held p (places ns) → Holds t ns p
unfolding record_at subtree_or subtree live_code end
holds t ns h p i = by (has-subtree p (root t) (tree ns) (held-has t ns h p i)) (kind_at p (tree ns)) refl
  where
    open_code : (b : Bool) → eqb (elim b as (λ b. ℕ) [ true ↦ 1 | false ↦ 0 ]) 1 ≡ b
    open_code true = refl
    open_code false = refl

    by : (x : Subtree) × (descend p (root t) (tree ns) ≡ some x) → (o : Option Kind) → kind_at p (tree ns) ≡ o → Holds t ns p
    by x (some k) d =
        refined (ap (λ (o : Option Kind). live_code t.weights o (subtree_or (subtree t p (tree ns))).node.ways) d)
        (done-no-leaf p (root_ways t) k (tree ns) d)
    by x none d =
        let l = undone-leaf p (root t) (tree ns) x.0 x.1 d in
        unrefined x.0.node.ways l.0
        (ap₂ (λ (o : Option Kind) (y : Option Subtree). eqb (live_code t.weights o (subtree_or y).node.ways) 1) d x.1
        ∙ open_code (is_open t.weights x.0.node.ways))
        (record-ways t ns h p x.0 x.1)
        (ap (λ (y : Option Subtree). end Up t.weights (subtree_or y).node.ways (subtree_or y).below - end Down t.weights (subtree_or y).node.ways
        (subtree_or y).below) x.1
        ∙ ap (λ (s : DTree). end Up t.weights x.0.node.ways s - end Down t.weights x.0.node.ways s) l.1)

-- ---- the ways of a record are lean

-- A blank record has no ways.
blank-ways : (t : Table) → record_ways t blank ≡ []
unfolding record_ways low_word high_word has_number remaining drop_all
blank-ways t = ap (λ (vs : List Way). drop_all 0 (remaining 0 0 vs)) (select-none (in_words 0 0) (λ i. words-number [] i) (ways t))

-- None at all are lean.
lean-none : Lean []
unfolding minimal sift
lean-none = refl

-- In every record of a series, in use or blank.
lean-record : (t : Table) → Accepted t → (ns : List Refinement) → series t ns ≡ true → (j : ℕ) → Lean (record_ways t (record_in (records_of t ns) j))
unfolding subtree
lean-record t ok ns h j = by (dec_lt j (length (places ns)))
  where
    of-ways : (us : List Way) → record_ways t (record_in (records_of t ns) j) ≡ us → Lean us → Lean (record_ways t (record_in (records_of t ns) j))
    of-ways us e l = subst Lean (sym e) l

    by : Dec (j < length (places ns)) → Lean (record_ways t (record_in (records_of t ns) j))
    by (yes l) =
        let p : Place = get_or (places ns) j [] in
        let x = has-subtree p (root t) (tree ns) (held-has t ns h p (held_at (places ns) j l)) in
        of-ways x.0.node.ways (ap (record_ways t) (record_of t ns j l) ∙ record-ways t ns h p x.0 x.1) (handed-lean t ok ns h p x.0 x.1)
    by (no l) = of-ways [] (ap (record_ways t) (record-rest t ns j (omega arith)) ∙ blank-ways t) lean-none

-- IN EVERY RECORD OF A GOOD TREE.
pub lean-at : (t : Table) → Accepted t → (x : Tree) → Good t x → (j : ℕ) → Lean (record_ways t (record_in x.nodes j))
unfolding layout
lean-at t ok x g j = subst (λ (y : Tree). Lean (record_ways t (record_in y.nodes j))) (sym g.is) (lean-record t ok g.made g.accepted j)
