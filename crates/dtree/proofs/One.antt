-- What an accepted hand refinement changes, seen in the records.
-- Rests on `rules`, Demands (one refinement), and on `records`, Seen.
use mathlib.Core.Path.{◌≡◌, sym, ap, subst, ◌∙◌}
use mathlib.Core.Bool.{true, false}
use mathlib.Core.List.{List, [], ◌∷◌, ◌++◌}
use mathlib.Core.Option.{Option, none, some}
use Prim.Native.Nat.{ℕ}
use native.Mathlib.Omega.{arith}
use lib.ListN.{length-append}
use Rattle.rules.specs.Table.{Table}
use Rattle.rules.specs.Tree.{left, right, Place, Refinement, leaf, tree, grow, refine, series, acceptable}
use Rattle.rules.specs.Tree.{leaf_at, kind_at, Subtree, subtree, root, Interval, interval, interval_at}
use Rattle.rules.specs.Refusals.{Accepted}
use Rattle.rules.specs.Calls.{hand_number, call_number, by_hand, handed, makes, place_of}
use Rattle.rules.specs.declared.Kind.{Kind}
use Rattle.std.specs.Prelude.{Result, Err}
use Rattle.rules.specs.declared.Figures.{Figures}
use Rattle.rules.specs.declared.Refusal.{Refusal}
use Rattle.rules.proofs.Places.{done-elsewhere, leaf-has, leaf-undone, has-subtree}
use Rattle.rules.proofs.Series.{grow-append}
use Rattle.rules.proofs.Demand3.{HandMade, hand-made}
use Rattle.rules.proofs.Demands.{OneRefinement, one-refinement}
use Rattle.records.specs.Records.{layout}
use Rattle.records.specs.Library.{call_tree}
use Rattle.records.specs.declared.Tree.{Tree}
use Rattle.records.proofs.Positions.{length_places}
use Rattle.records.proofs.History.{layout-count}
use Rattle.records.proofs.Seen.{seen_kind, seen_interval}
use Rattle.dtree.specs.Promises.{number_of, Called, LeafSeen, OneMore, Refining}
use Rattle.dtree.proofs.Accepting.{judged}
use Rattle.dtree.proofs.Calling.{by_the_rules, refusals_of}
use Rattle.dtree.proofs.Refuses.{refused-call}
use Rattle.dtree.proofs.ByHand.{made_one}

-- A leaf of the tree of a series is seen as one.
leaf-seen : (t : Table) (ns : List Refinement) (p : Place) → leaf_at p (tree ns) ≡ true → LeafSeen (layout t ns) p
unfolding subtree interval_at
leaf-seen t ns p l =
    let y = has-subtree p (root t) (tree ns) (leaf-has p (tree ns) l) in
    record {
      stands = interval t.weights y.0;
      shown =
          seen_interval t ns p
          ∙ ap (λ (o : Option Subtree). elim o as (λ o. Option Interval) [ none ↦ none | some z ↦ some (interval t.weights z) ]) y.1;
      undone = seen_kind t ns p ∙ leaf-undone p (tree ns) l;
    }

-- On the tree of a series.
on_series : (t : Table) (ns : List Refinement) (n : Refinement) → acceptable t (tree ns) n ≡ true → (bs : List ℕ) → place_of bs ≡ some n.place
    → OneMore (layout t ns) bs n.kind (layout t (ns ++ (n ∷ [])))
unfolding layout grow
on_series t ns n a bs e =
    let one : OneRefinement t (tree ns) n = one-refinement t (tree ns) n a in
    let next : tree (ns ++ (n ∷ [])) ≡ refine n (tree ns) = grow-append ns (n ∷ []) leaf in
    let more = length-append ns (n ∷ []) in
    record {
      place = n.place;
      named = e;
      done = seen_kind t (ns ++ (n ∷ [])) n.place ∙ ap (kind_at n.place) next ∙ one.of_its_kind;
      inner_more = omega (arith, layout-count t ns, layout-count t (ns ++ (n ∷ [])), more);
      left_leaf = leaf-seen t (ns ++ (n ∷ [])) (n.place ++ (left ∷ [])) (ap (leaf_at (n.place ++ (left ∷ []))) next ∙ one.with_two_leaves left);
      right_leaf = leaf-seen t (ns ++ (n ∷ [])) (n.place ++ (right ∷ [])) (ap (leaf_at (n.place ++ (right ∷ []))) next ∙ one.with_two_leaves right);
      records_more = omega (arith, length_places ns, length_places (ns ++ (n ∷ [])), more);
      kinds_stay = λ q f.
          seen_kind t (ns ++ (n ∷ [])) q ∙ ap (kind_at q) next ∙ done-elsewhere q n.place n.kind (tree ns) f ∙ sym (seen_kind t ns q);
      intervals_stay = λ q f g. seen_interval t (ns ++ (n ∷ [])) q ∙ ap (interval_at t q) next ∙ one.intervals_stay q f g ∙ sym (seen_interval t ns q);
    }

one_more : (t : Table) (x : Tree) (bs : List ℕ) (k : Kind) → number_of t x (by_hand bs k) ≡ 0 → OneMore x bs k (call_tree t x (by_hand bs k))
unfolding call_number
one_more t x bs k z = by_the_rules t (by_hand bs k) (λ y w o. OneMore y bs k w) on x z
  where
    on : Accepted t → (ns : List Refinement) → series t ns ≡ true → hand_number t false (tree ns) bs k ≡ 0
        → OneMore (layout t ns) bs k (layout t (ns ++ makes t (tree ns) (by_hand bs k)))
    on ok ns h n =
        let m : HandMade t (tree ns) bs k = hand-made t ok (tree ns) bs k n in
        rw (made_one t (tree ns) bs k _ n m.made) (on_series t ns (record { place = m.place; kind = k }) m.fine bs m.named)

-- The promise of a hand refinement, from that of a call.
pub refining : (t : Table) (x : Tree) (bs : List ℕ) (k : Kind) (y : Tree) (a : Result Figures Refusal)
    → Called t x (by_hand bs k) y (handed a) → Refining t x bs k y a
refining t x bs k y a c = record { call = c; one_more = λ z. subst (OneMore x bs k) (sym c.tree_is) (one_more t x bs k z) }

-- A hand refinement that is refused.
pub refining-refused : (t : Table) (x : Tree) (bs : List ℕ) (k : Kind) (a : Result Figures Refusal) (r : Refusal) → a ≡ Err r
    → judged (refusals_of t x (by_hand bs k)) ≡ Err r → Refining t x bs k x a
refining-refused t x bs k a r e f = rw e (refining t x bs k x (Err r) (refused-call t x (by_hand bs k) r f))
