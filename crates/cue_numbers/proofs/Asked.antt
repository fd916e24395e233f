-- A hand refinement that asks for none of the three kinds, or for a fault at 64 or above: it is possible at no leaf of an accepted table.
-- So 20 applies where nothing before it does. Rests on `rules`, First, Accepted, KindLaws and Runs.
use mathlib.Core.Path.{◌≡◌, refl, sym, ap, ◌∙◌}
use mathlib.Core.Bool.{Bool, true, false, not, true≢false}
use mathlib.Core.List.{List, [], ◌∷◌, ◌++◌}
use mathlib.Core.Option.{Option, none, some}
use Prim.Native.Nat.{ℕ, zero, suc, ◌<◌, ◌≤◌}
use native.Mathlib.Omega.{arith}
use borrow.Author.Tests.{ne_eqb}
use lib.ListN.{length}
use Rattle.rules.specs.Table.{Table}
use Rattle.rules.specs.declared.Way.{Way}
use Rattle.rules.specs.Leaf.{is_open}
use Rattle.rules.specs.Tree.{root_ways, Place, DTree, occurs, possible, roomy, leaf_ways}
use Rattle.rules.specs.Refusals.{Test, test, first, way_refusals, table_refusals, table_number, Accepted}
use Rattle.rules.specs.Calls.{place_of, leaf_named, no_leaf, of_leaf, leaf_refusals, hand_refusals, hand_number}
use Rattle.rules.specs.declared.Kind.{Kind}
use Rattle.rules.specs.declared.Refusal.{Refusal}
use Rattle.rules.proofs.Accepted.{few_faults, root_inside}
use Rattle.rules.proofs.First.{none-applies, first-after, first-before, first-same}
use Rattle.rules.proofs.KindLaws.{occurs-below}
use Rattle.rules.proofs.Runs.{leaf-inside}
use Rattle.cue_numbers.specs.Numbers.{kind_asked}

-- The refusals of a hand refinement that is possible at no leaf: 20 applies always.
unfoldable pub never_refusals : Table → Bool → DTree → List ℕ → List Test
never_refusals t bad s bs =
    table_refusals t
    ++ (test Refusal.NotGood bad
    ∷ test Refusal.NoLeaf (no_leaf bs (leaf_named t s bs))
    ∷ test Refusal.Closed (of_leaf (λ vs. not (is_open t.weights vs)) (leaf_named t s bs))
    ∷ test Refusal.Full (not (roomy s))
    ∷ test Refusal.Impossible true
    ∷ [])

module _ (t : Table) (ok : Accepted t) (s : DTree) (bs : List ℕ) (f : ℕ) (far : 64 ≤ f) where
  -- A fault at 64 or above does not occur in the ways of a leaf.
  not_there : (p : Place) (vs : List Way) → leaf_ways p (root_ways t) s ≡ some vs → not (possible (Kind.Shannon f) vs) ≡ true
  unfolding possible
  not_there p vs e = by (occurs f vs) refl
    where
      by : (b : Bool) → occurs f vs ≡ b → not (occurs f vs) ≡ true
      by true o = absurd (omega (arith, occurs-below (length t.weights) f vs (leaf-inside _ p (root_ways t) s vs (root_inside t ok) e) o, few_faults t ok))
      by false o = ap not o

  -- Where 17 does not apply, 20 does.
  twenty : no_leaf bs (leaf_named t s bs) ≡ false → of_leaf (λ vs. not (possible (Kind.Shannon f) vs)) (leaf_named t s bs) ≡ true
  unfolding leaf_named no_leaf of_leaf
  twenty h = at_place (place_of bs) h
    where
      at_leaf : (p : Place) (o : Option (List Way)) → leaf_ways p (root_ways t) s ≡ o → no_leaf bs o ≡ false
          → of_leaf (λ vs. not (possible (Kind.Shannon f) vs)) o ≡ true
      at_leaf p none q e = absurd (true≢false e)
      at_leaf p (some vs) q e = not_there p vs q

      at_place : (o : Option Place) → no_leaf bs (elim o as (λ o. Option (List Way)) [ none ↦ none | some p ↦ leaf_ways p (root_ways t) s ]) ≡ false
          → of_leaf (λ vs. not (possible (Kind.Shannon f) vs)) (elim o as (λ o. Option (List Way)) [ none ↦ none | some p ↦ leaf_ways p (root_ways t) s ]) ≡ true
      at_place none e = absurd (true≢false e)
      at_place (some p) e = at_leaf p (leaf_ways p (root_ways t) s) refl e

-- By a fault at 64 or above: the first of 9 to 13 and 16 to 19 that applies, else 20.
far-fault : (t : Table) (bad : Bool) (s : DTree) (bs : List ℕ) (f : ℕ) → 64 ≤ f → hand_number t bad s bs (Kind.Shannon f) ≡ first (never_refusals t bad s bs)
unfolding hand_number hand_refusals leaf_refusals never_refusals table_number table_refusals way_refusals
far-fault t bad s bs f far = by (first (table_refusals t)) refl
  where
    by : (n : ℕ) → first (table_refusals t) ≡ n → hand_number t bad s bs (Kind.Shannon f) ≡ first (never_refusals t bad s bs)
    by (suc n) e = first-before (table_refusals t) _ n e ∙ sym (first-before (table_refusals t) _ n e)
    by zero e =
        let k = none-applies (table_refusals t) e in
        first-after (table_refusals t) _ k
        ∙ first-same _ _ _ (λ _. first-same _ _ _ (λ leaf. first-same _ _ _ (λ _. first-same _ _ _ (λ _.
        ap (λ (b : Bool). first (test Refusal.Impossible b ∷ [])) (twenty t e s bs f far leaf)))))
        ∙ sym (first-after (table_refusals t) _ k)

-- THE NUMBER of a hand refinement that asks for none of them: `what` is neither 0 nor 1 nor 2.
pub never-asked : (t : Table) (bad : Bool) (s : DTree) (bs : List ℕ) (what fault : ℕ) → 2 < what
    → hand_number t bad s bs (kind_asked what fault) ≡ first (never_refusals t bad s bs)
unfolding kind_asked
never-asked t bad s bs what fault h =
    rw (ne_eqb what 0 (λ e. omega (arith, e)), kind_asked)
    (rw (ne_eqb what 1 (λ e. omega (arith, e))) (rw (ne_eqb what 2 (λ e. omega (arith, e))) (far-fault t bad s bs 64 (omega arith))))

-- THE NUMBER of one that asks for a fault that no table has, however large.
pub never-there : (t : Table) (bad : Bool) (s : DTree) (bs : List ℕ) (fault : ℕ) → 64 ≤ fault
    → hand_number t bad s bs (kind_asked 1 fault) ≡ first (never_refusals t bad s bs)
unfolding kind_asked
never-there t bad s bs fault h = far-fault t bad s bs fault h
