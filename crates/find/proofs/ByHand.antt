-- ON A LAYOUT THE RECORDS TELL WHAT THE RULES SAY OF A HAND REFINEMENT: the refusal, and if there is none, the leaf and that it may be refined.
-- Rests on the records' Seen.antt, Live.antt and Rebuilt.antt, and on the rules' laws of `answered`.
use mathlib.Core.Path.{◌≡◌, refl, sym, ap, ◌∙◌}
use mathlib.Core.Bool.{Bool, true, false, not, ◌&&◌}
use mathlib.Core.List.{List, [], ◌∷◌}
use mathlib.Core.Option.{Option, none, some, none-ne-some, some-injective}
use Prim.Native.Nat.{ℕ}
use native.Mathlib.Omega.{arith}
use lib.ListN.{length, get_or}
use lib.Dec.{eqb, ltb}
use borrow.Author.Tests.{eq-eqb, ne_eqb, not-false}
use Rattle.std.specs.Prelude.{Result, Ok, Err}
use Rattle.rules.specs.Table.{Table, ways}
use Rattle.rules.specs.declared.Way.{Way}
use Rattle.rules.specs.Leaf.{is_open}
use Rattle.rules.specs.Tree.{root_ways, left, Place, possible, roomy, Refinement, tree, kind_at, leaf_ways, Subtree, subtree, root, acceptable, series}
use Rattle.rules.specs.Refusals.{Test, test, number, first, answered, table_refusals, table_number, Accepted}
use Rattle.rules.specs.Calls.{place_of, leaf_named, no_leaf, of_leaf, leaf_refusals, hand_refusals, hand_number, hand_makes}
use Rattle.rules.specs.declared.Kind.{Kind}
use Rattle.rules.specs.declared.Refusal.{Refusal}
use Rattle.rules.proofs.Booleans.{and_both}
use Rattle.rules.proofs.First.{none-applies}
use Rattle.rules.proofs.Answering.{answered-here, answered-later, answered-after, by-number, first-accepted}
use Rattle.rules.proofs.Places.{has-subtree, subtree-has, leaf-subtree, undone-leaf, done-no-leaf}
use Rattle.records.specs.Records.{blank, places, position, left_code, record_ways, records_of, layout, walk}
use Rattle.records.specs.Growing.{may_at}
use Rattle.records.specs.declared.Node.{Node}
use Rattle.records.specs.declared.Tree.{Tree}
use Rattle.records.proofs.Positions.{Held, has-held, held-has, position-child}
use Rattle.records.proofs.InPlace.{record-at}
use Rattle.records.proofs.Live.{Holds, refined, unrefined, holds}
use Rattle.records.proofs.Rebuilt.{room-is}
use Rattle.records.proofs.Seen.{shown, left_link, walk_leads}
use Rattle.find.specs.Finds.{led, found, word_table, record_refusals, refusals_at, told_refusals, told, Tells}

-- A hand refinement that nothing refuses: the bytes name a place, its record is record j, and the rules accept the refinement.
pub record Names (t : Table) (ns : List Refinement) (bs : List ℕ) (k : Kind) (j : ℕ) : Type 0 where
  pub place : Place
  pub named : place_of bs ≡ some place
  pub found_at : position place (places ns) ≡ j
  pub accepted : acceptable t (tree ns) (record { place = place; kind = k }) ≡ true
  pub makes : hand_makes bs k ≡ record { place = place; kind = k } ∷ []

-- A table's weights do not matter to what the records tell.
pub weightless : (t : Table) (x : Tree) (bs : List ℕ) (k : Kind) → told (word_table t.present t.absent) x bs k ≡ told t x bs k
unfolding told_refusals refusals_at record_refusals record_ways ways
weightless t x bs k = ap (λ (xs : List Test). answered (test Refusal.NoLeaf (ltb 64 (length bs)) ∷ xs) tt) (by (found x.nodes bs))
  where
    by : (o : Option ℕ) → refusals_at (word_table t.present t.absent) x k o ≡ refusals_at t x k o
    by none = refl
    by (some j) = refl

-- Nor to what an answer tells.
pub tells_table : (t : Table) (x : Tree) (bs : List ℕ) (k : Kind) (w : Result ℕ Refusal) → Tells (word_table t.present t.absent) x bs k w → Tells t x bs k w
unfolding Tells may_at record_ways ways
tells_table t x bs k (Ok j) r =
    record { unrefused = sym (weightless t x bs k) ∙ r.unrefused; leads = r.leads; inside = r.inside; may = r.may; fault = r.fault }
tells_table t x bs k (Err e) r = sym (weightless t x bs k) ∙ r

-- Four tests that agree make one list.
agree : {a b c d : Bool} (a' b' c' d' : Bool) → a ≡ a' → b ≡ b' → c ≡ c' → d ≡ d'
    → test Refusal.NoLeaf a ∷ test Refusal.Closed b ∷ test Refusal.Full c ∷ test Refusal.Impossible d ∷ []
    ≡ test Refusal.NoLeaf a' ∷ test Refusal.Closed b' ∷ test Refusal.Full c' ∷ test Refusal.Impossible d' ∷ []
agree a' b' c' d' e f g h = rw (e, f, g, h)

-- The number of what a list refuses.
abbrev number_in : {A : Type 0} → Result A Refusal → ℕ
number_in (Ok a) = 0
number_in (Err r) = number r

-- Lists that refuse alike have one number.
same-first : (xs ys : List Test) → answered {A = Unit {0}} xs tt ≡ answered ys tt → first xs ≡ first ys
same-first xs ys e =
    let told : (zs : List Test) → number_in (answered {A = Unit {0}} zs tt) ≡ first zs = λ zs. by-number number_in (λ n. n) zs tt refl (λ r. refl) in
    sym (told xs) ∙ ap number_in e ∙ told ys

module _ (t : Table) (ns : List Refinement) (whole : series t ns ≡ true) where
  abbrev xs : List Node
  xs = records_of t ns

  -- ---- the refusals

  module _ (bs : List ℕ) (k : Kind) where
    -- The ways of the leaf at the place that the bytes name.
    named_ways : (p : Place) → place_of bs ≡ some p → leaf_named t (tree ns) bs ≡ leaf_ways p (root_ways t) (tree ns)
    unfolding leaf_named
    named_ways p e = rw (e, leaf_named)

    module _ {A : Type 0} (a : A) where
      -- What the rules answer of the leaf with these ways, if there is one.
      abbrev ruled : Option (List Way) → Result A Refusal
      ruled o = answered (leaf_refusals t (tree ns) bs k o) a

      -- 17 by the rules.
      no-leaf : ruled none ≡ Err Refusal.NoLeaf
      unfolding leaf_refusals no_leaf
      no-leaf = answered-here _ _ a refl

      too_long : (o : Option (List Way)) → ltb 64 (length bs) ≡ true → ruled o ≡ Err Refusal.NoLeaf
      unfolding leaf_refusals no_leaf
      too_long none e = answered-here _ _ a refl
      too_long (some us) e = answered-here _ _ a e

      module _ (short : ltb 64 (length bs) ≡ false) where
        -- At the record of a place that the tree has, the refusals are the rules'.
        at_record : (p : Place) → Held p (places ns)
            → answered (record_refusals t (length (places ns)) k (get_or xs (position p (places ns)) blank)) a ≡ ruled (leaf_ways p (root_ways t) (tree ns))
        unfolding record_refusals leaf_refusals no_leaf of_leaf left_code
        at_record p held = by (kind_at p (tree ns)) refl
          where
            n : Node
            n = get_or xs (position p (places ns)) blank

            leaf-there : kind_at p (tree ns) ≡ none → Holds t ns p
                → answered (record_refusals t (length (places ns)) k n) a ≡ ruled (leaf_ways p (root_ways t) (tree ns))
            leaf-there d (refined dead none-there) =
                let y = has-subtree p (root t) (tree ns) (held-has t ns whole p held) in
                absurd (none-ne-some _ (sym none-there ∙ (undone-leaf p (root t) (tree ns) y.0 y.1 d).0))
            leaf-there d (unrefined us there live ways_are wide) =
                ap (λ (zs : List Test). answered zs a)
                (agree _ _ _ _ (ap not (eq-eqb n.left 0 (left_link t ns p none d held)) ∙ sym short)
                (ap (λ (x : Node). not (eqb x.live 1)) (record-at t ns p held) ∙ ap not live)
                (ap not (room-is t ns whole))
                (ap (λ (x : Node). not (possible k (record_ways t x))) (record-at t ns p held) ∙ ap (λ (vs : List Way). not (possible k vs)) ways_are))
                ∙ ap ruled (sym there)

            by : (o : Option Kind) → kind_at p (tree ns) ≡ o
                → answered (record_refusals t (length (places ns)) k n) a ≡ ruled (leaf_ways p (root_ways t) (tree ns))
            by none d = leaf-there d (holds t ns whole p held)
            by (some j) d =
                answered-here _ _ a (ap not (ne_eqb n.left 0 (λ z. omega (arith, z, left_link t ns p (some j) d held, position-child p left ns))))
                ∙ sym (ap ruled (done-no-leaf p (root_ways t) j (tree ns) d) ∙ no-leaf)

        -- And 17 where the tree has no such place.
        at_place : (p : Place) → answered (refusals_at t (layout t ns) k (walk xs p 0)) a ≡ ruled (leaf_ways p (root_ways t) (tree ns))
        unfolding refusals_at layout subtree
        at_place p = ap (λ (o : Option ℕ). answered (refusals_at t (layout t ns) k o) a) (walk_leads t ns p) ∙ by (subtree t p (tree ns)) refl
          where
            none-there : (o : Option (List Way)) → leaf_ways p (root_ways t) (tree ns) ≡ o → subtree t p (tree ns) ≡ none
                → answered (test Refusal.NoLeaf true ∷ []) a ≡ ruled o
            none-there none e d = answered-here _ _ a refl ∙ sym no-leaf
            none-there (some us) e d = absurd (none-ne-some _ (sym d ∙ (leaf-subtree p (root t) (tree ns) us e).1))

            by : (o : Option Subtree) → subtree t p (tree ns) ≡ o
                → answered (refusals_at t (layout t ns) k (shown o (position p (places ns)))) a ≡ ruled (leaf_ways p (root_ways t) (tree ns))
            by none d = none-there (leaf_ways p (root_ways t) (tree ns)) refl d
            by (some y) d = at_record p (has-held ns p (subtree-has p (root t) (tree ns) y d))

        -- Whether or not the bytes name a place.
        at-bytes : (o : Option Place) → place_of bs ≡ o
            → answered (refusals_at t (layout t ns) k (led xs 0 o)) a ≡ ruled (leaf_named t (tree ns) bs)
        unfolding led leaf_named refusals_at
        at-bytes none e = answered-here _ _ a refl ∙ sym (ap ruled (rw (e, leaf_named)) ∙ no-leaf)
        at-bytes (some p) e = at_place p ∙ ap ruled (sym (named_ways p e))

      -- The records tell the refusal of 17 to 20.
      pub told_is : answered (told_refusals t (layout t ns) bs k) a ≡ ruled (leaf_named t (tree ns) bs)
      unfolding told_refusals layout
      told_is = by (ltb 64 (length bs)) refl
        where
          by : (b : Bool) → ltb 64 (length bs) ≡ b → answered (told_refusals t (layout t ns) bs k) a ≡ ruled (leaf_named t (tree ns) bs)
          by true e = answered-here _ _ a e ∙ sym (too_long (leaf_named t (tree ns) bs) e)
          by false e = answered-later _ _ a e ∙ at-bytes e (place_of bs) refl

    -- A refinement that the rules do not refuse is acceptable.
    accepted-at : (p : Place) → place_of bs ≡ some p → told t (layout t ns) bs k ≡ Ok tt → acceptable t (tree ns) (record { place = p; kind = k }) ≡ true
    unfolding leaf_refusals leaf_named no_leaf of_leaf acceptable
    accepted-at p d z = by (leaf_ways p (root_ways t) (tree ns)) (sym (told_is {A = Unit {0}} tt ∙ ap (ruled {A = Unit {0}} tt) (named_ways p d)) ∙ z)
      where
        by : (o : Option (List Way)) → ruled {A = Unit {0}} tt o ≡ Ok tt
            → (elim o as (λ o. Bool) [ none ↦ false | some vs ↦ is_open t.weights vs && (roomy (tree ns) && possible k vs) ]) ≡ true
        by none e = absurd (cc (sym (no-leaf tt) ∙ e))
        by (some us) e =
            let q = none-applies (leaf_refusals t (tree ns) bs k (some us)) (first-accepted (leaf_refusals t (tree ns) bs k (some us)) tt tt e) in
            let open-there = not-false (is_open t.weights us) q.1.0 in
            let room = not-false (roomy (tree ns)) q.1.1.0 in
            and_both (is_open t.weights us) (roomy (tree ns) && possible k us) open-there
            (and_both (roomy (tree ns)) (possible k us) room (not-false (possible k us) q.1.1.1.0))

    -- THE ANSWER of a hand refinement is the one that the records tell, for an accepted table.
    pub answered-by-hand : Accepted t → {A : Type 0} (a : A)
        → answered (told_refusals t (layout t ns) bs k) a ≡ answered (hand_refusals t false (tree ns) bs k) a
    unfolding hand_refusals table_number
    answered-by-hand ok a =
        let rest = leaf_refusals t (tree ns) bs k (leaf_named t (tree ns) bs) in
        told_is a
        ∙ sym (answered-after (table_refusals t) (test Refusal.NotGood false ∷ rest) a (none-applies (table_refusals t) ok)
        ∙ answered-later (test Refusal.NotGood false) rest a refl)

    -- THE NUMBER too.
    pub by-hand : Accepted t → first (told_refusals t (layout t ns) bs k) ≡ hand_number t false (tree ns) bs k
    unfolding hand_number
    by-hand ok = same-first (told_refusals t (layout t ns) bs k) (hand_refusals t false (tree ns) bs k) (answered-by-hand ok tt)

    -- THE LEAF that the records lead to is the one that a hand refinement refines.
    pub names : (j : ℕ) → told t (layout t ns) bs k ≡ Ok tt → found (layout t ns).nodes bs ≡ some j → Names t ns bs k j
    unfolding layout led subtree hand_makes
    names j z e = by (place_of bs) refl e
      where
        there : (p : Place) → place_of bs ≡ some p → (o : Option Subtree) → subtree t p (tree ns) ≡ o → shown o (position p (places ns)) ≡ some j
            → Names t ns bs k j
        there p d none g f = absurd (none-ne-some _ f)
        there p d (some y) g f =
            record {
              place = p;
              named = d;
              found_at = some-injective (position p (places ns)) j f;
              accepted = accepted-at p d z;
              makes = rw (d, hand_makes);
            }

        by : (o : Option Place) → place_of bs ≡ o → led xs 0 o ≡ some j → Names t ns bs k j
        by none d f = absurd (none-ne-some _ f)
        by (some p) d f = there p d (subtree t p (tree ns)) refl (sym (walk_leads t ns p) ∙ f)
