-- `take_out` meets its contract: the left child is the first way without what it names besides the common part, the right child all ways without it.
-- Rests on `clauses`, Held, Leaf and Parts, and on the contracts of what it calls.
use mathlib.Core.Path.{◌≡◌, refl, sym, ap, ◌∙◌, subst}
use mathlib.Core.List.Memᴰ
use mathlib.Core.List.{List, [], ◌∷◌}
use Prim.Native.Nat.{ℕ, ◌<◌}
use lib.Bits.{or_zero_r}
use lib.Dec.{eqb}
use Rattle.rules.specs.declared.Way.{Way}
use Rattle.rules.specs.declared.Kind.TheVariants.{IndependentAnd}
use Rattle.rules.specs.Table.{faults}
use Rattle.rules.specs.Leaf.{without, drop_all, sift}
use Rattle.rules.specs.Common.{meet, shared, lowest, spare}
use Rattle.rules.specs.Tree.{Side, left, right, child, child_fixed, child_out}
use Rattle.rules.proofs.Sets.{Rising}
use Rattle.clauses.specs.declared.Clauses.{Clauses}
use Rattle.clauses.specs.declared.lost.Gone.{Gone}
use Rattle.clauses.specs.Leaves.{out_more, ways_of, Becomes, Narrows}
use Rattle.clauses.proofs.Held.{reworded, onward}
use Rattle.clauses.proofs.Leaf.{rising, number_small}
use Rattle.clauses.proofs.Parts.{sift-first}
use Rattle.formula.specs.Leaves.{Part}
use Rattle.formula.proofs.common.take_out.Goals as goal

-- With nothing left out, nothing more is gone.
out_none : (g : Gone) (m : ℕ) → m ≡ 0 → g ≡ out_more g m
out_none g m e = sym (ap (out_more g) e ∙ (λ i. record { present = g.present; absent = g.absent; out = or_zero_r g.out i }))

-- Where there is no way, both children are the leaf, and nothing more is left out.
none-part : (c : Clauses) → ways_of c ≡ [] → (b : Side) → Part c IndependentAnd b c
unfolding child child_fixed child_out lowest spare shared meet drop_all
none-part c z left = record {
  present_is = refl;
  absent_is = refl;
  gone_is = out_none c.gone (spare (ways_of c)) (ap spare z);
  ways_are = z ∙ sym (ap (child IndependentAnd left) z);
}
none-part c z right = record {
  present_is = refl;
  absent_is = refl;
  gone_is = out_none c.gone (shared (ways_of c)) (ap shared z);
  ways_are = z ∙ sym (ap (child IndependentAnd right) z);
}

module _ (c : Clauses) (v : Way) (vs : List Way) (first : ways_of c ≡ v ∷ vs) where
  -- The number of the first way is small.
  small : v.number < 128
  small = number_small c v (rw first (Memᴰ.head refl))

  -- Alone it is the lowest.
  lowest-is : sift (λ u. eqb u.number v.number) (ways_of c) ≡ lowest (ways_of c)
  unfolding lowest
  lowest-is = rw first (sift-first 0 v vs (subst (Rising 0) first (rising c)))

  module _ (m : ℕ) (e : m ≡ shared (ways_of c)) where
    -- What it names besides the common part.
    besides : without m (faults v) ≡ spare (ways_of c)
    unfolding spare
    besides = ap (λ (k : ℕ). without k (faults v)) (e ∙ ap shared first) ∙ sym (ap spare first)

    -- The left child.
    left-part : (f d : Clauses) (s : ℕ) → Narrows c (sift (λ u. eqb u.number v.number) (ways_of c)) f → s ≡ without m (faults v)
        → Becomes f (out_more f.gone s) (drop_all s (ways_of f)) d → Part c IndependentAnd left d
    unfolding child child_fixed child_out
    left-part f d s n q h =
        reworded (onward n h)
        (ap (λ (g : Gone). out_more g s) n.gone_is ∙ ap (out_more c.gone) (q ∙ besides))
        (ap (drop_all s) (n.ways_are ∙ lowest-is) ∙ ap (λ (k : ℕ). drop_all k (lowest (ways_of c))) (q ∙ besides))

    -- The right child.
    right-part : (d : Clauses) → Becomes c (out_more c.gone m) (drop_all m (ways_of c)) d → Part c IndependentAnd right d
    unfolding child child_fixed child_out
    right-part d h = reworded h (ap (out_more c.gone) e) (ap (λ (k : ℕ). drop_all k (ways_of c)) e)

pub returns-in_default : goal.returns-in_default
returns-in_default c =
    let z = sym c.ways.ensures ∙ c.in_default.ensures.steps.0 in
    record { on_left = none-part c.args.c z left; on_right = none-part c.args.c z right }

pub alone-requires : goal.alone-requires
alone-requires c = small c.args.c c.in-Some.v _ (sym c.ways.ensures ∙ c.in-Some.ensures.steps)

pub returns : goal.returns
returns c =
    let e = sym c.ways.ensures ∙ c.in-Some.ensures.steps in
    record {
      on_left = left-part c.args.c c.in-Some.v _ e _ c.common_part-m.ensures c.alone.result _ _ c.alone.ensures c.faults_besides.ensures
          c.leaving_out-left.ensures;
      on_right = right-part c.args.c c.in-Some.v _ e _ c.common_part-m.ensures _ c.leaving_out-right.ensures;
    }
