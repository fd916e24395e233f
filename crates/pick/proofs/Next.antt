-- WHAT THE SEARCH FINDS ON A LAYOUT IS WHAT THE RULES REFINE NEXT, and it finds nothing exactly where they pick none.
-- By induction on the tree below a place: the search below its record is the rules' search there. Rests on Layouts.antt and the records' Live.antt.
use mathlib.Core.Path.{◌≡◌, refl, sym, ap, ap₂, ◌∙◌}
use mathlib.Core.Bool.{Bool, true, false, cond}
use mathlib.Core.List.{List, [], ◌∷◌, ◌++◌, append_assoc, append-nil}
use mathlib.Core.Option.{Option, none, some, none-ne-some, some-injective}
use Rattle.std.specs.Prelude.{Some, None}
use Rattle.std.specs.Prelude.{Option as Answer}
use Prim.Native.Nat.{ℕ, zero, suc, ◌<◌, ◌≤◌}
use native.Mathlib.Omega.{arith}
use lib.ListN.{length, get_or}
use lib.Dec.{ltb}
use borrow.Author.Tests.{eqb-true, eq-eqb, ne_eqb}
use Rattle.rules.specs.Table.{Table}
use Rattle.rules.specs.declared.Way.{Way}
use Rattle.rules.specs.Leaf.{leaf_width, is_open}
use Rattle.rules.specs.Tree.{root_ways, Side, left, right, Place, DTree, leaf, inner, child}
use Rattle.rules.specs.Tree.{nodes, Refinement, tree, kind_at, leaf_ways, child_node, descend, root, series}
use Rattle.rules.specs.Tree.{Node as Spot}
use Rattle.rules.specs.Run as Run
use Rattle.rules.specs.Run.{Candidate, from, widest, choice, next}
use Rattle.rules.proofs.Places.{nodes-inners, ways-leaf, leaf-has, subtree-has, subtree-kind, subtree-child, undone-leaf}
use Rattle.rules.proofs.Series.{series-room}
use Rattle.rules.proofs.Widest.{Leftmost, Law, the, widest-law}
use Rattle.records.specs.Records.{tree_records, record_in, places, same_place, position, left_code, record_ways, record_at, records_of, layout}
use Rattle.records.specs.Growing.{record_width}
use Rattle.records.specs.declared.Node.{Node}
use Rattle.records.proofs.Positions.{Held, position-lt, position-get, has-held, position-child}
use Rattle.records.proofs.InPlace.{record-at}
use Rattle.records.proofs.Seen.{left_link}
use Rattle.records.proofs.Live.{Holds, refined, unrefined, holds}
use Rattle.records.specs.declared.Found.{Found}
use Rattle.pick.specs.Picks.{own_found, wider_of, pick_from, pick_of}
use Rattle.pick.proofs.Layouts.{child-at}

-- ---- a candidate of the rules as the search would show it

-- A candidate below place p, by its record.
unfoldable shown : List Refinement → Place → Option Candidate → Answer Found
shown ns p none = None
shown ns p (some x) = Some (record { at = position (p ++ x.place) (places ns); width = x.width })

-- A child's candidate, shown from the child or from its parent.
shown-from : (ns : List Refinement) (p : Place) (b : Side) (o : Option Candidate) → shown ns (p ++ (b ∷ [])) o ≡ shown ns p (from b o)
unfolding shown from
shown-from ns p b none = refl
shown-from ns p b (some x) = ap (λ (q : Place). Some (record { at = position q (places ns); width = x.width })) (append_assoc p (b ∷ []) x.place)

-- The wider of two candidates is shown as the wider of the two.
shown-wider : (ns : List Refinement) (p : Place) (o o' : Option Candidate) → wider_of (shown ns p o) (shown ns p o') ≡ shown ns p (Run.wider o o')
unfolding shown wider_of Run.wider
shown-wider ns p none o' = refl
shown-wider ns p (some x) none = refl
shown-wider ns p (some x) (some y) = by (ltb x.width y.width)
  where
    by : (b : Bool)
        → ◌≡◌ {A = Answer Found} (Some (cond b (record { at = position (p ++ y.place) (places ns); width = y.width })
        (record { at = position (p ++ x.place) (places ns); width = x.width })))
        (shown ns p (elim b as (λ b. Option Candidate) [ true ↦ some y | false ↦ some x ]))
    by true = refl
    by false = refl

-- ---- the search on a layout

module _ (t : Table) (ns : List Refinement) (whole : series t ns ≡ true) where
  abbrev xs : List Node
  xs = records_of t ns

  -- Something stands at the place.
  abbrev Stands : Place → Spot → DTree → Type 0
  Stands p y s = descend p (root t) (tree ns) ≡ some (record { node = y; below = s })

  stands_held : (p : Place) (y : Spot) (s : DTree) → Stands p y s → Held p (places ns)
  stands_held p y s e = has-held ns p (subtree-has p (root t) (tree ns) (record { node = y; below = s }) e)

  -- A leaf's record is to the search what the leaf is to the rules.
  own_leaf : (p : Place) (y : Spot) → Stands p y leaf → kind_at p (tree ns) ≡ none
      → own_found (position p (places ns)) (record_in xs (position p (places ns))) ≡ shown ns p (widest t.weights y.ways leaf)
  unfolding own_found widest shown
  own_leaf p y e d = ap (own_found (position p (places ns))) (record-at t ns p held) ∙ by (holds t ns whole p held)
    where
      held : Held p (places ns)
      held = stands_held p y leaf e

      there : leaf_ways p (root_ways t) (tree ns) ≡ some y.ways
      there = (undone-leaf p (root t) (tree ns) (record { node = y; below = leaf }) e d).0

      on : (b : Bool) (w : ℕ) → w ≡ leaf_width t.weights y.ways
          → (elim b as (λ b. Answer Found) [ true ↦ Some (record { at = position p (places ns); width = w }) | false ↦ None ])
          ≡ shown ns p (elim b as (λ b. Option Candidate)
          [ true ↦ some (record { width = leaf_width t.weights y.ways; place = []; ways = y.ways }) | false ↦ none ])
      on true w q = ap₂ (λ (r : Place) (v : ℕ). Some (record { at = position r (places ns); width = v })) (sym (append-nil p)) q
      on false w q = refl

      by : Holds t ns p → own_found (position p (places ns)) (record_at t ns p) ≡ shown ns p (widest t.weights y.ways leaf)
      by (refined dead none-there) = absurd (none-ne-some _ (sym none-there ∙ there))
      by (unrefined us found live ways_are wide) =
          let q : us ≡ y.ways = some-injective us y.ways (sym found ∙ there) in
          rw (live ∙ ap (is_open t.weights) q, own_found)
          (on (is_open t.weights y.ways) (record_width (record_at t ns p)) (wide ∙ ap (leaf_width t.weights) q))

  -- The search below a place's record finds what the rules find below the place.
  found_below : (s : DTree) (f : ℕ) (p : Place) (y : Spot) → Stands p y s → nodes s ≤ f
      → pick_from f xs (position p (places ns)) ≡ shown ns p (widest t.weights y.ways s)
  unfolding nodes pick_from widest left_code kind_at
  found_below leaf zero p y e deep = absurd (omega arith)
  found_below leaf (suc f) p y e deep =
      let d = subtree-kind p (root t) (tree ns) (record { node = y; below = leaf }) e in
      rw (eq-eqb (record_in xs (position p (places ns))).left 0 (left_link t ns p none d (stands_held p y leaf e)), pick_from) (own_leaf p y e d)
  found_below (inner k l r) zero p y e deep = absurd (omega arith)
  found_below (inner k l r) (suc f) p y e deep =
      rw (ne_eqb (record_in xs i).left 0 has_left, pick_from)
      (ap₂ (λ (a b : ℕ). wider_of (pick_from f xs a) (pick_from f xs b)) (child-at t ns whole p held k d left) (child-at t ns whole p held k d right)
      ∙ ap₂ wider_of
      (found_below l f (p ++ (left ∷ [])) (child_node k left y) (subtree-child p left k (root t) (tree ns) _ d e) (omega arith)
      ∙ shown-from ns p left (widest t.weights (child k left y.ways) l))
      (found_below r f (p ++ (right ∷ [])) (child_node k right y) (subtree-child p right k (root t) (tree ns) _ d e) (omega arith)
      ∙ shown-from ns p right (widest t.weights (child k right y.ways) r))
      ∙ shown-wider ns p (from left (widest t.weights (child k left y.ways) l)) (from right (widest t.weights (child k right y.ways) r)))
    where
      i : ℕ
      i = position p (places ns)

      held : Held p (places ns)
      held = stands_held p y (inner k l r) e

      d : kind_at p (tree ns) ≡ some k
      d = subtree-kind p (root t) (tree ns) (record { node = y; below = inner k l r }) e

      has_left : (record_in xs i).left ≡ 0 → ⊥
      has_left z = omega (arith, z, left_link t ns p (some k) d held, position-child p left ns)

  -- The search finds the rules' widest leaf.
  pick_widest : pick_of xs ≡ shown ns [] (widest t.weights (root_ways t) (tree ns))
  unfolding pick_of places position same_place descend
  pick_widest = found_below (tree ns) tree_records [] (root t) refl (omega (arith, nodes-inners (tree ns), series-room t ns whole))

-- ---- what an answer means

-- The leaf in record j is open, and the rules refine it next.
pub record Picked (t : Table) (ns : List Refinement) (j : ℕ) : Type 0 where
  pub inside : j < length (places ns)
  pub live : (record_in (records_of t ns) j).live ≡ 1
  pub taken : next t (tree ns) ≡ some (record { place = get_or (places ns) j []; kind = choice t.weights (record_ways t (record_in (records_of t ns) j)) })

-- What the search's answer says of the rules' next refinement.
abbrev pub Meant : Table → List Refinement → Answer Found → Type 0
Meant t ns (Some x) = Picked t ns x.at
Meant t ns None = next t (tree ns) ≡ none

module _ (t : Table) (ns : List Refinement) (whole : series t ns ≡ true) where
  -- The record of the rules' widest leaf.
  leaf_picked : (x : Candidate) → widest t.weights (root_ways t) (tree ns) ≡ some x → Leftmost t.weights (root_ways t) (tree ns) x
      → Picked t ns (position x.place (places ns))
  unfolding next
  leaf_picked x e k = by (holds t ns whole x.place held)
    where
      held : Held x.place (places ns)
      held = has-held ns x.place (leaf-has x.place (tree ns) (ways-leaf x.place (root_ways t) (tree ns) x.ways k.there))

      is : record_in (records_of t ns) (position x.place (places ns)) ≡ record_at t ns x.place
      is = record-at t ns x.place held

      by : Holds t ns x.place → Picked t ns (position x.place (places ns))
      by (refined dead none-there) = absurd (none-ne-some _ (sym none-there ∙ k.there))
      by (unrefined us there live ways_are wide) =
          let q : us ≡ x.ways = some-injective us x.ways (sym there ∙ k.there) in
          record {
            inside = position-lt ns x.place held;
            live = ap (λ (n : Node). n.live) is ∙ eqb-true (record_at t ns x.place).live 1 (live ∙ ap (is_open t.weights) q ∙ k.opened);
            taken = rw (e, next)
                (ap₂ (λ (p : Place) (vs : List Way). some (record { place = p; kind = choice t.weights vs })) (sym (position-get ns x.place held))
                (sym (ap (record_ways t) is ∙ ways_are ∙ q)));
          }

  -- THE SEARCH PICKS THE RULES' NEXT: for the answer r of a search on a layout.
  pub picks_next : (r : Answer Found) → r ≡ pick_of (layout t ns).nodes → Meant t ns r
  unfolding layout next shown
  picks_next r e = rw (e ∙ pick_widest t ns whole) (by (widest t.weights (root_ways t) (tree ns)) refl (widest-law t.weights (root_ways t) (tree ns)))
    where
      by : (o : Option Candidate) → widest t.weights (root_ways t) (tree ns) ≡ o → Law t.weights (root_ways t) (tree ns) o → Meant t ns (shown ns [] o)
      by none q l = rw (q, next)
      by (some x) q (the x₁ k) = leaf_picked x q k
