-- WHAT THE PAGE IS TOLD OF A TREE that a series of accepted refinements gives: a widest open leaf, and that there is none exactly if no leaf is open.
-- A record counts exactly if an open leaf is at its place; blanks and inner nodes never do. Rests on Finds.antt and the records' Live.antt.
use mathlib.Core.Path.{◌≡◌, refl, sym, ap, ◌∙◌}
use mathlib.Core.Bool.{true, false, not}
use mathlib.Core.List.{List, []}
use mathlib.Core.Logic.Iff
use mathlib.Core.Logic.{◌↔◌}
use mathlib.Core.Option.{Option, none, some, none-ne-some, some-injective}
use Prim.Native.Nat.{ℕ, ◌<◌, ◌≤◌}
use native.Mathlib.Omega.{arith}
use native.Mathlib.Decide.{dec_lt}
use lib.ListN.{length, get_or}
use lib.Dec.{leb}
use borrow.Author.Tests.{eqb-true, eq-eqb, ltb-true}
use Rattle.rules.specs.Table.{Table}
use Rattle.rules.specs.declared.Way.{Way}
use Rattle.rules.specs.declared.Kind.{Kind}
use Rattle.rules.specs.Leaf.{any, is_empty, leaf_low, leaf_high, leaf_width, is_open}
use Rattle.rules.specs.Tree.{root_ways, Place, DTree, Refinement, tree, kind_at, leaf_ways, series}
use Rattle.rules.specs.Run.{Candidate, widest, choice, next}
use Rattle.rules.proofs.Booleans.{and_right}
use Rattle.rules.proofs.Places.{ways-leaf, leaf-has, done-no-leaf}
use Rattle.rules.proofs.Widest.{Law, nothing, the, widest-law, widest-none}
use Rattle.records.specs.Records.{record_in, places, position, kind_code, record_at, records_of, layout, history, bad}
use Rattle.records.specs.Growing.{record_width}
use Rattle.records.specs.declared.Node.{Node}
use Rattle.records.specs.declared.Tree.{Tree}
use Rattle.records.proofs.Positions.{Held, held_at, has-held, position-lt}
use Rattle.records.proofs.InPlace.{few-places, records-long, record_of, record-at, record-rest}
use Rattle.records.proofs.History.{history-layout}
use Rattle.records.proofs.Sixteen.{sixteen}
use Rattle.records.proofs.Live.{Holds, refined, unrefined, holds}
use Rattle.std.specs.Prelude.{Some, None}
use Rattle.page.specs.Widest.{widest_of, Counts, FirstWidest, NoneCounts}
use Rattle.page.proofs.Finds.{widest-told}

-- An open leaf is at the place.
pub record OpenLeaf (t : Table) (s : DTree) (p : Place) : Type 0 where
  pub remaining : List Way
  pub there : leaf_ways p (root_ways t) s ≡ some remaining
  pub opened : is_open t.weights remaining ≡ true

-- And no open leaf is wider.
pub record WidestLeaf (t : Table) (s : DTree) (p : Place) : Type 0 where
  pub leaf : OpenLeaf t s p
  pub widest : (q : Place) (other : OpenLeaf t s q) → leaf_width t.weights other.remaining ≤ leaf_width t.weights leaf.remaining

-- What is told of the records of a series: the record of a widest open leaf; none exactly if no leaf is open, and exactly if a run picks none.
pub record Drawn (t : Table) (xs : List Node) (ns : List Refinement) : Type 0 where
  pub found : (i : ℕ) → widest_of xs ≡ Some i → (i < length (places ns)) × WidestLeaf t (tree ns) (get_or (places ns) i [])
  pub nothing : (widest_of xs ≡ None) ↔ ((p : Place) → OpenLeaf t (tree ns) p → ⊥)
  pub done : (widest_of xs ≡ None) ↔ (next t (tree ns) ≡ none)

-- ---- records and leaves

-- An open leaf has a width.
open-wide : (ws : List ℕ) (us : List Way) → is_open ws us ≡ true → 0 < leaf_width ws us
unfolding is_open
open-wide ws us h =
    omega (arith, ltb-true (leaf_low ws us) (leaf_high ws us) (and_right (not (any is_empty us)) _ (and_right (leb 2 (length us)) _ h)))

module _ (t : Table) (ns : List Refinement) (whole : series t ns ≡ true) where
  abbrev xs : List Node
  xs = records_of t ns

  -- A record at a place that counts is an open leaf's, and as wide.
  abbrev Leaf : Place → Node → Type 0
  Leaf p x = (leaf : OpenLeaf t (tree ns) p) × (record_width x ≡ leaf_width t.weights leaf.remaining)

  place_leaf : (p : Place) → Counts (record_at t ns p) → Holds t ns p → Leaf p (record_at t ns p)
  place_leaf p k (refined dead gone) = absurd (omega (arith, dead, k.live))
  place_leaf p k (unrefined us there live ways_are wide) =
      (record { remaining = us; there = there; opened = sym live ∙ eq-eqb (record_at t ns p).live 1 k.live }, wide)

  counts_leaf : (i : ℕ) → Counts (record_in xs i) → (i < length (places ns)) × Leaf (get_or (places ns) i []) (record_in xs i)
  counts_leaf i k = by (dec_lt i (length (places ns)))
    where
      by : Dec (i < length (places ns)) → (i < length (places ns)) × Leaf (get_or (places ns) i []) (record_in xs i)
      by (yes l) =
          let e = record_of t ns i l in
          (l, rw e (place_leaf (get_or (places ns) i []) (rw e at k) (holds t ns whole (get_or (places ns) i []) (held_at (places ns) i l))))
      by (no q) = absurd (omega (arith, k.live, ap (λ (x : Node). x.live) (record-rest t ns i (omega arith))))

  module _ (p : Place) (leaf : OpenLeaf t (tree ns) p) where
    held : Held p (places ns)
    held = has-held ns p (leaf-has p (tree ns) (ways-leaf p (root_ways t) (tree ns) leaf.remaining leaf.there))

    not_done : kind_at p (tree ns) ≡ none
    not_done = by (kind_at p (tree ns)) refl
      where
        by : (o : Option Kind) → kind_at p (tree ns) ≡ o → kind_at p (tree ns) ≡ none
        by none d = d
        by (some k) d = absurd (none-ne-some _ (sym (done-no-leaf p (root_ways t) k (tree ns) d) ∙ leaf.there))

    leaf-kind : (record_at t ns p).kind ≡ 1
    unfolding record_at kind_code
    leaf-kind = ap kind_code not_done

    -- An open leaf's record counts, and is as wide.
    leaf-counts : Counts (record_at t ns p) × (record_width (record_at t ns p) ≡ leaf_width t.weights leaf.remaining)
    leaf-counts = by (holds t ns whole p held)
      where
        by : Holds t ns p → Counts (record_at t ns p) × (record_width (record_at t ns p) ≡ leaf_width t.weights leaf.remaining)
        by (refined dead gone) = absurd (none-ne-some _ (sym gone ∙ leaf.there))
        by (unrefined us there live ways_are wide) =
            let e : us ≡ leaf.remaining = some-injective us leaf.remaining (sym there ∙ leaf.there) in
            let w : record_width (record_at t ns p) ≡ leaf_width t.weights leaf.remaining = wide ∙ ap (leaf_width t.weights) e in (
              record {
                leaf = leaf-kind;
                live = eqb-true (record_at t ns p).live 1 (live ∙ ap (is_open t.weights) e ∙ leaf.opened);
                below = omega (arith, w, open-wide t.weights leaf.remaining leaf.opened);
              },
              w,
            )

    abbrev at : ℕ
    at = position p (places ns)

    in-record : record_in xs at ≡ record_at t ns p
    in-record = record-at t ns p held

    inside : at < length xs
    inside = omega (arith, position-lt ns p held, few-places t ns whole, records-long t ns whole)

    counted : Counts (record_in xs at)
    counted = rw in-record leaf-counts.0

    as_wide : record_width (record_in xs at) ≡ leaf_width t.weights leaf.remaining
    as_wide = ap record_width in-record ∙ leaf-counts.1

  -- No record counts exactly if no leaf is open.
  none_counts : NoneCounts xs ↔ ((p : Place) → OpenLeaf t (tree ns) p → ⊥)
  none_counts = (λ f p leaf. f (at p leaf) (inside p leaf) (counted p leaf), λ f j h k. f (get_or (places ns) j []) (counts_leaf j k).1.0)

  -- That is when the rules pick none.
  none_next : ((p : Place) → OpenLeaf t (tree ns) p → ⊥) ↔ (next t (tree ns) ≡ none)
  unfolding next
  none_next = (
    λ f. rw (widest-none t.weights (root_ways t) (tree ns) (λ p us e o. f p (record { remaining = us; there = e; opened = o })), next),
    λ e. by (widest t.weights (root_ways t) (tree ns)) refl (widest-law t.weights (root_ways t) (tree ns)) e,
  )
    where
      by : (o : Option Candidate) → widest t.weights (root_ways t) (tree ns) ≡ o → Law t.weights (root_ways t) (tree ns) o → next t (tree ns) ≡ none
          → (p : Place) → OpenLeaf t (tree ns) p → ⊥
      by none q (nothing f) e p leaf = f p leaf.remaining leaf.there leaf.opened
      by (some x) q (the x₁ k) e p leaf = none-ne-some (record { place = x.place; kind = choice t.weights x.ways }) (sym e ∙ rw (q, next))

  -- The first of the widest records is a widest open leaf's.
  first_leaf : (i : ℕ) → FirstWidest xs i → (i < length (places ns)) × WidestLeaf t (tree ns) (get_or (places ns) i [])
  first_leaf i f =
      let k = counts_leaf i f.counted in (
        k.0,
        record {
          leaf = k.1.0;
          widest = λ q other. omega (arith, k.1.1, as_wide q other, f.widest (at q other) (inside q other) (counted q other));
        },
      )

  -- OF A LAYOUT.
  pub layout_drawn : Drawn t (layout t ns).nodes ns
  unfolding layout
  layout_drawn =
      let told = widest-told xs in
      let empty = Iff.trans told.nothing none_counts in
      record { found = λ i e. first_leaf i ((told.found i).0 e); nothing = empty; done = Iff.trans empty none_next }

-- OF EVERY TREE TO WHICH 16 DOES NOT APPLY, with the series that its records tell.
pub drawn : (t : Table) (x : Tree) → bad t x ≡ false → Drawn t x.nodes (history x)
drawn t x h =
    let g = (sixteen t x).0 h in
    rw (g.is, history-layout t g.made g.accepted) (layout_drawn t g.made g.accepted)
