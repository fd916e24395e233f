-- What a reader of a layout's records sees at a place is what the rules say of it: what was done there, the interval, the count.
-- The reader goes down from record 0 by the left links. Rests on Positions.antt, InPlace.antt and the rules' Places.antt.
use mathlib.Core.Path.{◌≡◌, refl, sym, ap, ◌∙◌}
use mathlib.Core.Bool.{true}
use mathlib.Core.List.{List, [], ◌∷◌, ◌++◌, append_assoc, append-nil}
use mathlib.Core.Option.{Option, none, some}
use Prim.Native.Nat.{ℕ, suc}
use lib.ListN.{get_or}
use lib.Dec.{eqb, eqb-suc-zero}
use Rattle.rules.specs.Table.{Table}
use Rattle.rules.specs.Tree.{Side, left, right, Place, inners, Refinement, tree, kind_at}
use Rattle.rules.specs.Tree.{Subtree, descend, subtree, root, Interval, interval, interval_at, series}
use Rattle.rules.specs.declared.Kind.{Kind}
use Rattle.rules.specs.declared.Kind.TheVariants.{IndependentOr, IndependentAnd, Shannon}
use Rattle.rules.proofs.Places.{subtree-has, subtree-child, nothing-stands, nothing-below}
use Rattle.rules.proofs.Members.{In}
use Rattle.rules.proofs.Series.{only-done, series-inners}
use Rattle.records.specs.Records.{blank, children, places, same_place, position, kind_code, fault_code, left_code, subtree_or, record_at, records_of, layout}
use Rattle.records.specs.Records.{kind_of, tree_count, child_record, walk, fetch, seen, did_there, kind_seen, interval_seen, tree_kind, tree_interval}
use Rattle.records.specs.declared.Node.{Node}
use Rattle.records.proofs.Positions.{Held, has-held, position-child, right-next}
use Rattle.records.proofs.InPlace.{record-at}
use Rattle.records.proofs.History.{layout-count}

-- The codes of a record say what was done.
done-back : (o : Option Kind) (x : Node) → x.kind ≡ kind_code o → x.fault ≡ fault_code o → did_there x ≡ o
unfolding did_there kind_code fault_code kind_of
done-back none x e f = rw e
done-back (some IndependentOr) x e f = rw e
done-back (some IndependentAnd) x e f = rw e
done-back (some (Shannon g)) x e f = rw (e, f)

-- ---- one step of the walk

walk_none : (xs : List Node) (b : Side) (p : Place) (i : ℕ) → (get_or xs i blank).left ≡ 0 → walk xs (b ∷ p) i ≡ none
unfolding walk
walk_none xs b p i e = rw (e, walk)

walk-some : (xs : List Node) (b : Side) (p : Place) (i l : ℕ) → (get_or xs i blank).left ≡ suc l → walk xs (b ∷ p) i ≡ walk xs p (child_record b (suc l))
unfolding walk
walk-some xs b p i l e = rw (ap (λ (x : ℕ). eqb x 0) e ∙ eqb-suc-zero l, walk) (ap (λ (x : ℕ). walk xs p (child_record b x)) e)

-- ---- the walk comes to the record of the place

-- What a place has, where something stands.
abbrev pub shown : {A : Type 0} → Option Subtree → A → Option A
shown none x = none
shown (some y) x = some x

module _ (t : Table) (ns : List Refinement) where
  -- The left link of a place's record.
  pub left_link : (q : Place) (o : Option Kind) → kind_at q (tree ns) ≡ o → Held q (places ns)
      → (get_or (records_of t ns) (position q (places ns)) blank).left ≡ left_code o q (places ns)
  unfolding record_at
  left_link q o d h = ap (λ (x : Node). x.left) (record-at t ns q h) ∙ ap (λ (x : Option Kind). left_code x q (places ns)) d

  -- The record to which a step leads from a refined place.
  step-to : (q : Place) (k : Kind) (b : Side) → In (record { place = q; kind = k }) ns
      → child_record b (suc (position (q ++ (left ∷ [])) (children ns))) ≡ position (q ++ (b ∷ [])) (places ns)
  step-to q k left i = sym (position-child q left ns)
  step-to q k right i = ap suc (sym (position-child q left ns)) ∙ sym (right-next q k ns i)

  -- A place where something stands has a record.
  stands_held : (q : Place) (y : Subtree) → subtree t q (tree ns) ≡ some y → Held q (places ns)
  unfolding subtree
  stands_held q y e = has-held ns q (subtree-has q (root t) (tree ns) y e)

  -- From the record of a place that the tree has, the walk leads to the record of every place below.
  walked : (p q : Place) (y : Subtree) → subtree t q (tree ns) ≡ some y
      → walk (records_of t ns) p (position q (places ns)) ≡ shown (subtree t (q ++ p) (tree ns)) (position (q ++ p) (places ns))
  unfolding walk left_code subtree
  walked [] q y e =
      ap (λ (o : Option Subtree). shown o (position q (places ns))) (sym e)
      ∙ ap (λ (r : Place). shown (subtree t r (tree ns)) (position r (places ns))) (sym (append-nil q))
  walked (b ∷ p) q y e = by (kind_at q (tree ns)) refl (walked p (q ++ (b ∷ [])))
    where
      held : Held q (places ns)
      held = stands_held q y e

      by : (o : Option Kind) → kind_at q (tree ns) ≡ o
          → ((z : Subtree) → subtree t (q ++ (b ∷ [])) (tree ns) ≡ some z
          → walk (records_of t ns) p (position (q ++ (b ∷ [])) (places ns))
          ≡ shown (subtree t ((q ++ (b ∷ [])) ++ p) (tree ns)) (position ((q ++ (b ∷ [])) ++ p) (places ns)))
          → walk (records_of t ns) (b ∷ p) (position q (places ns)) ≡ shown (subtree t (q ++ b ∷ p) (tree ns)) (position (q ++ b ∷ p) (places ns))
      by none d ih =
          walk_none (records_of t ns) b p (position q (places ns)) (left_link q none d held)
          ∙ ap (λ (o : Option Subtree). shown o (position (q ++ b ∷ p) (places ns))) (sym (nothing-below q b p (root t) (tree ns) d))
      by (some k) d ih =
          walk-some (records_of t ns) b p (position q (places ns)) (position (q ++ (left ∷ [])) (children ns))
          (left_link q (some k) d held ∙ position-child q left ns)
          ∙ ap (walk (records_of t ns) p) (step-to q k b (only-done ns q k d))
          ∙ ih _ (subtree-child q b k (root t) (tree ns) y d e)
          ∙ ap (λ (r : Place). shown (subtree t r (tree ns)) (position r (places ns))) (append_assoc q (b ∷ []) p)

  -- From the root's record the walk leads to the record of every place that the tree has, and nowhere for any other.
  pub walk_leads : (p : Place) → walk (records_of t ns) p 0 ≡ shown (subtree t p (tree ns)) (position p (places ns))
  unfolding subtree descend places position same_place
  walk_leads p = walked p [] _ refl

  -- WHAT IS SEEN AT A PLACE is its record if the tree has that place, and nothing if not.
  pub seen_record : (p : Place) → seen (layout t ns) p ≡ shown (subtree t p (tree ns)) (record_at t ns p)
  unfolding seen layout
  seen_record p = ap (fetch (records_of t ns)) (walk_leads p) ∙ by (subtree t p (tree ns)) refl
    where
      by : (o : Option Subtree) → subtree t p (tree ns) ≡ o → fetch (records_of t ns) (shown o (position p (places ns))) ≡ shown o (record_at t ns p)
      by none e = refl
      by (some y) e = ap (λ (x : Node). some x) (record-at t ns p (stands_held p y e))

  -- ---- what is read is what the rules say

  -- What was done at a place, after any list of refinements, acceptable or not.
  pub seen_kind : (p : Place) → tree_kind (layout t ns) p ≡ kind_at p (tree ns)
  unfolding tree_kind record_at subtree
  seen_kind p = ap kind_seen (seen_record p) ∙ by (subtree t p (tree ns)) refl
    where
      by : (o : Option Subtree) → subtree t p (tree ns) ≡ o → kind_seen (shown o (record_at t ns p)) ≡ kind_at p (tree ns)
      by none e = sym (nothing-stands p (root t) (tree ns) e)
      by (some y) e = done-back (kind_at p (tree ns)) (record_at t ns p) refl refl

  -- The interval there.
  pub seen_interval : (p : Place) → tree_interval (layout t ns) p ≡ interval_at t p (tree ns)
  unfolding tree_interval interval_at record_at subtree_or
  seen_interval p = ap interval_seen (seen_record p) ∙ by (subtree t p (tree ns)) refl
    where
      by : (o : Option Subtree) → subtree t p (tree ns) ≡ o
          → interval_seen (shown o (record_at t ns p)) ≡ (elim o as (λ o. Option Interval) [ none ↦ none | some x ↦ some (interval t.weights x) ])
      by none e = refl
      by (some y) e = ap (λ (x : Subtree). some (interval t.weights x)) (ap subtree_or e)

  -- The count of a series.
  pub seen_count : series t ns ≡ true → tree_count (layout t ns) ≡ inners (tree ns)
  seen_count h = layout-count t ns ∙ sym (series-inners t ns h)
