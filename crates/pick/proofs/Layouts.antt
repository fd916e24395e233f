-- EVERY LAYOUT OF A SERIES HAS ITS LINKS IN ORDER, so that the search may be called on it.
-- Rests on where the records' places stand (the records' Positions.antt and InPlace.antt).
use mathlib.Core.Path.{◌≡◌, refl, sym, ap, ◌∙◌}
use mathlib.Core.Bool.{true}
use mathlib.Core.List.Memᴰ
use mathlib.Core.List.{List, [], ◌∷◌, ◌++◌, append_assoc}
use mathlib.Core.Option.{Option, none, some}
use Prim.Native.Nat.{ℕ, zero, suc, ◌+◌, ◌<◌}
use native.Mathlib.Omega.{arith}
use lib.ListN.{length, get_or, length-append}
use Rattle.rules.specs.Table.{Table}
use Rattle.rules.specs.Tree.{Side, left, right, Place, Refinement, tree, kind_at, series}
use Rattle.rules.specs.declared.Kind.{Kind}
use Rattle.rules.proofs.Members.{In}
use Rattle.rules.proofs.Series.{only-done}
use Rattle.records.specs.Records.{record_in, children, places, position, above, left_code, child_record, records_of, layout}
use Rattle.records.specs.declared.Node.{Node}
use Rattle.records.proofs.Positions.{Held, held_at, position-of, above-child}
use Rattle.records.proofs.Positions.{length_places, position-lt, child-held, places-once, right-next}
use Rattle.records.proofs.InPlace.{few-places, record_of, record-at, parent_of, next_held, next_position}
use Rattle.records.proofs.Seen.{left_link}
use Rattle.pick.specs.Picks.{Linked}

module _ (t : Table) (ns : List Refinement) (whole : series t ns ≡ true) where
  -- A refinement's place stands in the list before the two children that it adds.
  place_before : (done : List Refinement) (n : Refinement) (todo : List Refinement) → ns ≡ done ++ n ∷ todo → (b : Side)
      → position (above (n.place ++ (b ∷ []))) (places ns) < length (places done)
  place_before done n todo e b =
      rw (above-child n.place b, next_position t ns done todo n whole e) (position-lt done n.place (next_held t ns done todo n whole e))

  -- So the parent of every place but the root stands before it.
  parent_before : (done todo : List Refinement) → ns ≡ done ++ todo → (j : ℕ) → j < length (children todo)
      → position (above (get_or (children todo) j [])) (places ns) < length (places done) + j
  unfolding children
  parent_before done [] e j h = absurd (omega arith)
  parent_before done (n ∷ todo) e zero h = omega (arith, place_before done n todo e left)
  parent_before done (n ∷ todo) e (suc zero) h = omega (arith, place_before done n todo e right)
  parent_before done (n ∷ todo) e (suc (suc j)) h =
      omega (
        arith,
        parent_before (done ++ (n ∷ [])) todo (e ∙ sym (append_assoc done (n ∷ []) todo)) j (omega arith),
        length_places done,
        length_places (done ++ (n ∷ [])),
        length-append done (n ∷ []),
      )

  abbrev xs : List Node
  xs = records_of t ns

  -- The parent link of a record that is not the root's leads back.
  up_back : (i : ℕ) → i < length (places ns) → (i ≡ 0 → ⊥) → (record_in xs i).parent < i
  unfolding places children
  up_back zero l q = absurd (q refl)
  up_back (suc j) l q =
      omega (
        arith,
        ap (λ (x : Node). x.parent) (record_of t ns (suc j) l) ∙ parent_of t ns (get_or (places ns) (suc j) []),
        parent_before [] ns refl j (omega arith),
      )

  module _ (p : Place) (held : Held p (places ns)) where
    abbrev i : ℕ
    i = position p (places ns)

    module _ (k : Kind) (d : kind_at p (tree ns) ≡ some k) where
      made : In (record { place = p; kind = k }) ns
      made = only-done ns p k d

      child-there : (b : Side) → Held (p ++ (b ∷ [])) (places ns)
      unfolding places
      child-there b = Memᴰ.tail (child-held p k b ns made)

      -- The links of a refined place's record lead to the records of its children.
      pub child-at : (b : Side) → child_record b (record_in xs i).left ≡ position (p ++ (b ∷ [])) (places ns)
      unfolding left_code
      child-at left = left_link t ns p (some k) d held
      child-at right = ap suc (left_link t ns p (some k) d held) ∙ sym (right-next p k ns made)

      -- And these lead back.
      child-back : (b : Side) → (record_in xs (child_record b (record_in xs i).left)).parent ≡ i
      child-back b =
          ap (λ (j : ℕ). (record_in xs j).parent) (child-at b)
          ∙ ap (λ (x : Node). x.parent) (record-at t ns (p ++ (b ∷ [])) (child-there b))
          ∙ parent_of t ns (p ++ (b ∷ []))
          ∙ ap (λ (q : Place). position q (places ns)) (above-child p b)

  -- What the left link of record j says, if it has one: both children are in use and lead back.
  abbrev Down : ℕ → Type 0
  Down j =
      ((record_in xs j).left ≡ 0 → ⊥)
      → (suc (record_in xs j).left < length (places ns)) × ((b : Side) → (record_in xs (child_record b (record_in xs j).left)).parent ≡ j)

  down_at : (p : Place) → Held p (places ns) → Down (position p (places ns))
  unfolding left_code
  down_at p held q = by (kind_at p (tree ns)) refl
    where
      by : (o : Option Kind) → kind_at p (tree ns) ≡ o
          → (suc (record_in xs (position p (places ns))).left < length (places ns))
          × ((b : Side) → (record_in xs (child_record b (record_in xs (position p (places ns))).left)).parent ≡ position p (places ns))
      by none d = absurd (q (left_link t ns p none d held))
      by (some k) d = (omega (arith, child-at p held k d right, position-lt ns (p ++ (right ∷ [])) (child-there p held k d right)), child-back p held k d)

  down : (j : ℕ) → j < length (places ns) → Down j
  down j l = rw (position-of (places ns) j (places-once t ns whole) l) at (down_at (get_or (places ns) j []) (held_at (places ns) j l))

  pub layout_linked : Linked (layout t ns).nodes (layout t ns).used
  unfolding layout
  layout_linked =
      record {
        some = omega (arith, length_places ns);
        fits = few-places t ns whole;
        up = up_back;
        inside = λ j l q. (down j l q).0;
        backleft = λ j l q. (down j l q).1 left;
        backright = λ j l q. (down j l q).1 right;
      }
