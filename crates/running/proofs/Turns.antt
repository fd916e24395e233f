-- A turn on the records of a good tree: what its tests mean for the rules' turn.
-- Rests on `pick`, Next, for the leaf, and on `records`, InPlace, for the root's interval.
use mathlib.Core.Path.{◌≡◌, sym, ap, ap₂, ◌∙◌, subst}
use mathlib.Core.Bool.{Bool, true, false, not}
use mathlib.Core.List.{List, []}
use mathlib.Core.Option.{none, some}
use Rattle.std.specs.Prelude.{Some, None}
use Rattle.std.specs.Prelude.{Option as Answer}
use Prim.Native.Nat.{ℕ, zero, suc, ◌<◌, ◌≤◌}
use native.Mathlib.Omega.{arith}
use native.Mathlib.Numerals.{lt_of_le_of_ne}
use native.Mathlib.Decide.{ℕ_discrete}
use lib.ListN.{length, get_or}
use lib.Dec.{ltb, eqb}
use borrow.Author.Tests.{ltb-false, lt-ltb, le-ltb, eq-eqb, ne_eqb}
use Rattle.rules.specs.Table.{Table}
use Rattle.rules.specs.declared.Way.{Way}
use Rattle.rules.specs.declared.Aim.{Aim}
use Rattle.rules.specs.declared.Limits.{Limits}
use Rattle.rules.specs.Refusals.{first, limit_refusals, allowance_above}
use Rattle.rules.specs.Rounding.{S}
use Rattle.rules.proofs.First.{none-applies}
use Rattle.rules.specs.declared.Verdict.TheVariants.{Met, Done, Full}
use Rattle.rules.specs.Tree.{DTree, low, high, inners, roomy, Refinement, tree, descend, subtree, series}
use Rattle.rules.specs.Run.{named, most_named, choice, next, narrow, stop, go, turn}
use Rattle.rules.proofs.Series.{series-inners}
use Rattle.records.specs.Records.{tree_records, blank, places, record_ways, subtree_or, record_at, records_of, layout, history, Good}
use Rattle.records.specs.declared.Node.{Node}
use Rattle.records.specs.declared.Tree.{Tree}
use Rattle.records.proofs.Positions.{length_places}
use Rattle.records.proofs.InPlace.{few-places, record_of}
use Rattle.records.proofs.History.{history-layout}
use Rattle.pick.specs.Picks.{pick_of, Linked}
use Rattle.records.specs.declared.Found.{Found}
use Rattle.pick.proofs.Next.{Picked, Meant, picks_next}
use Rattle.pick.proofs.Layouts.{layout_linked}

-- ---- the choice

-- The fault named most is below any limit that the number of faults keeps to.
most-below : (n l : ℕ) (vs : List Way) → 0 < l → n ≤ l → most_named n vs < l
unfolding most_named
most-below zero l vs h k = h
most-below (suc n) l vs h k = by (ltb (named (most_named n vs) vs) (named n vs)) (most-below n l vs h (omega arith))
  where
    by : (b : Bool) → most_named n vs < l → (elim b as (λ b. ℕ) [ true ↦ n | false ↦ most_named n vs ]) < l
    by true e = omega arith
    by false e = e

-- It has a bit in a word.
pub fault_low : (n f : ℕ) (vs : List Way) → n ≤ 64 → f ≡ most_named n vs → f < 64
fault_low n f vs k e = rw e (most-below n 64 vs (omega arith) k)

-- ---- the aim

-- Limits that nothing refuses have an allowance of at most S.
pub allowance_bounded : (m : Limits) → first (limit_refusals m) ≡ 0 → m.allowance ≤ S
unfolding limit_refusals allowance_above
allowance_bounded m h = ltb-false S m.allowance (none-applies (limit_refusals m) h).0

-- ---- the room

-- Where no more records are in use than there are, the tree is full exactly if all of them are.
pub full_test : {xs : List Node} {used : ℕ} → Linked xs used → not (ltb used tree_records) ≡ eqb used tree_records
full_test {used = used} linked = by (ℕ_discrete used tree_records)
  where
    by : Dec (used ≡ tree_records) → not (ltb used tree_records) ≡ eqb used tree_records
    by (yes e) = ap not (le-ltb used tree_records (omega (arith, e))) ∙ sym (eq-eqb used tree_records e)
    by (no f) = ap not (lt-ltb used tree_records (lt_of_le_of_ne linked.fits f)) ∙ sym (ne_eqb used tree_records f)

-- ---- the rules' turn, by its tests

module _ (t : Table) (a : Aim) (s : DTree) where
  -- An interval narrow enough: the run is met.
  turn_met : narrow a (low t s) (high t s) ≡ true → turn t a s ≡ stop Met
  unfolding turn
  turn_met e = rw (e, turn)

  module _ (wide : narrow a (low t s) (high t s) ≡ false) where
    -- A wide one and no leaf to refine: all is done.
    turn-done : next t s ≡ none → turn t a s ≡ stop Done
    unfolding turn
    turn-done e = rw (wide, e, turn)

    -- A leaf to refine but no room: the tree is full.
    turn-full : (n : Refinement) → next t s ≡ some n → roomy s ≡ false → turn t a s ≡ stop Full
    unfolding turn
    turn-full n e r = rw (wide, e, r, turn)

    -- A leaf to refine and room: it is refined.
    turn-goes : (n : Refinement) → next t s ≡ some n → roomy s ≡ true → turn t a s ≡ go n
    unfolding turn
    turn-goes n e r = rw (wide, e, r, turn)

-- ---- a good tree, by its own series

-- The rules refine the leaf in record j, by the choice for its ways.
pub record Goes (t : Table) (a : Aim) (x : Tree) (j : ℕ) : Type 0 where
  pub inside : j < length (places (history x))
  pub taken : turn t a (tree (history x))
      ≡ go (record { place = get_or (places (history x)) j []; kind = choice t.weights (record_ways t (get_or x.nodes j blank)) })

module _ (t : Table) (x : Tree) (g : Good t x) where
  -- The records tell the series that made the tree.
  pub own : history x ≡ g.made
  own = ap history g.is ∙ history-layout t g.made g.accepted

  -- Every refinement of that series is accepted.
  pub whole : series t (history x) ≡ true
  whole = ap (series t) own ∙ g.accepted

  -- The tree is the layout of that series.
  pub is : x ≡ layout t (history x)
  is = g.is ∙ ap (layout t) (sym own)

  -- Its links are in order.
  pub linked : Linked x.nodes x.used
  linked = subst (λ (y : Tree). Linked y.nodes y.used) (sym is) (layout_linked t (history x) whole)

  -- Its records are those of the series.
  nodes_are : x.nodes ≡ records_of t (history x)
  unfolding layout
  nodes_are = ap (λ (y : Tree). y.nodes) is

  -- As many are in use as the series has places.
  used_is : x.used ≡ length (places (history x))
  unfolding layout
  used_is = ap (λ (y : Tree). y.used) is

  -- Record 0 is the root's.
  root_is : get_or x.nodes 0 blank ≡ record_at t (history x) []
  unfolding places
  root_is = ap (λ (xs : List Node). get_or xs 0 blank) nodes_are ∙ record_of t (history x) 0 (omega arith)

  -- Its low end is the tree's.
  root_low : (get_or x.nodes 0 blank).low ≡ low t (tree (history x))
  unfolding record_at subtree_or subtree descend low
  root_low = ap (λ (y : Node). y.low) root_is

  -- And its high end.
  root_high : (get_or x.nodes 0 blank).high ≡ high t (tree (history x))
  unfolding record_at subtree_or subtree descend high
  root_high = ap (λ (y : Node). y.high) root_is

  -- Where all records are in use there is no room.
  all_used : x.used ≡ tree_records → roomy (tree (history x)) ≡ false
  all_used e =
      le-ltb (inners (tree (history x))) 255
      (omega (arith, e, used_is, length_places (history x), series-inners t (history x) whole))

  -- And otherwise there is room.
  some-left : (x.used ≡ tree_records → ⊥) → roomy (tree (history x)) ≡ true
  some-left q =
      lt-ltb (inners (tree (history x))) 255
      (omega (arith, q, used_is, few-places t (history x) whole, length_places (history x), series-inners t (history x) whole))

  module _ (a : Aim) where
    -- What the test of the root's record says.
    test-is : {b : Bool} → b ≡ narrow a (get_or x.nodes 0 blank).low (get_or x.nodes 0 blank).high
        → b ≡ narrow a (low t (tree (history x))) (high t (tree (history x)))
    test-is e = e ∙ ap₂ (narrow a) root_low root_high

    -- If it holds, the rules' turn stops: met.
    pub is_met : {b : Bool} → b ≡ narrow a (get_or x.nodes 0 blank).low (get_or x.nodes 0 blank).high → b ≡ true → turn t a (tree (history x)) ≡ stop Met
    is_met e h = turn_met t a (tree (history x)) (sym (test-is e) ∙ h)

    module _ {b : Bool} (e : b ≡ narrow a (get_or x.nodes 0 blank).low (get_or x.nodes 0 blank).high)
        (h : b ≡ false) {r : Answer Found} (p : r ≡ pick_of x.nodes) where
      -- If it fails, the tree's interval is too wide.
      wide : narrow a (low t (tree (history x))) (high t (tree (history x))) ≡ false
      wide = sym (test-is e) ∙ h

      -- What the search picked is the rules' next refinement, or none.
      meant : Meant t (history x) r
      meant = picks_next t (history x) whole r (p ∙ ap (λ (y : Tree). pick_of y.nodes) is)

      -- Nothing picked: the rules' turn stops, done.
      pub is_done : r ≡ None → turn t a (tree (history x)) ≡ stop Done
      is_done q = turn-done t a (tree (history x)) wide (subst (Meant t (history x)) q meant)

      module _ (f : Found) (q : r ≡ Some f) where
        -- A record picked: it holds the leaf that the rules refine next.
        picked : Picked t (history x) f.at
        picked = subst (Meant t (history x)) q meant

        -- With all records in use the rules' turn stops: full.
        pub is-full : x.used ≡ tree_records → turn t a (tree (history x)) ≡ stop Full
        is-full u = turn-full t a (tree (history x)) wide _ picked.taken (all_used u)

        -- With some left it refines that leaf.
        pub goes : (x.used ≡ tree_records → ⊥) → Goes t a x f.at
        goes u =
            record {
              inside = picked.inside;
              taken = turn-goes t a (tree (history x)) wide _ picked.taken (some-left u)
                  ∙ ap (λ (xs : List Node). go (record {
                    place = get_or (places (history x)) f.at [];
                    kind = choice t.weights (record_ways t (get_or xs f.at blank));
                  })) (sym nodes_are);
            }
