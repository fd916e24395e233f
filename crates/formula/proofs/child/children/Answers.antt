-- `children` meets its contract, by the kind.
-- Rests on `clauses`, Held, Leaf and Parts, and the contracts of `other_ways`, `minus`, `take_out`, `one_bit`, `by_fault` and `staying`.
use mathlib.Core.Path.{◌≡◌, refl, sym, ap, ◌∙◌, subst}
use mathlib.Core.Bool.{true, false, not, not-not}
use mathlib.Core.List.{List}
use Prim.Native.Nat.{ℕ, ◌^◌, ◌<◌}
use lib.Bits.{bit_or, or_zero_l, or_zero_r}
use Rattle.rules.specs.declared.Way.{Way}
use Rattle.rules.specs.declared.Kind.{Kind}
use Rattle.rules.specs.declared.Kind.TheVariants.{IndependentOr, Shannon}
use Rattle.rules.specs.Leaf.{has_number, sift, remaining, minimal}
use Rattle.rules.specs.Group.{touches, group_faults, others, part}
use Rattle.rules.specs.Tree.{child, child_fixed, child_out}
use Rattle.clauses.specs.declared.staying.ByFault.{ByFault}
use Rattle.clauses.specs.declared.Clauses.{Clauses}
use Rattle.clauses.specs.Leaves.{fix_more, ways_of, Becomes, Narrows, Divided}
use Rattle.clauses.proofs.Held.{reworded}
use Rattle.clauses.proofs.Leaf.{rising}
use Rattle.clauses.proofs.Parts.{sift-same, part-number, touched-is, untouched-is}
use Rattle.formula.specs.Leaves.{FaultFits, Parts}
use Rattle.formula.proofs.child.children.Goals as goal

-- The fault of the kind has a bit in a word.
fits : (k : Kind) (f : ℕ) → k ≡ Shannon f → FaultFits k → f < 64
unfolding FaultFits
fits k f e h = rw e at h

module _ (c : Clauses) where
  -- The ways that are not among those which a word does not touch are those that it touches.
  rest-touched : (m : ℕ) (y : Clauses) → ways_of y ≡ part false m (ways_of c)
      → sift (λ v. not (has_number (ways_of y) v.number)) (ways_of c) ≡ part true m (ways_of c)
  rest-touched m y e =
      sift-same _ _ (ways_of c)
      (λ v p. ap not (ap (λ (vs : List Way). has_number vs v.number) (e ∙ untouched-is m (ways_of c))
      ∙ part-number 0 (ways_of c) (rising c) (λ u. not (touches m u)) v p) ∙ not-not (touches m v))
      ∙ sym (touched-is m (ways_of c))

  module _ (x y : Clauses) where
    -- Both children, by independence: the right one has the others, and the left one the rest of the ways.
    by-groups : Narrows c (others (ways_of c)) y → Narrows c (sift (λ v. not (has_number (ways_of y) v.number)) (ways_of c)) x
        → Parts c IndependentOr (record { left = x; right = y })
    unfolding child child_fixed child_out
    by-groups t h = record {
      on_left = reworded h refl (rest-touched (group_faults (ways_of c)) y t.ways_are);
      on_right = t;
    }

    -- And by the fault f, whose word is m.
    by-fault : (f m : ℕ) → m ≡ 2 ^ f → Becomes c (fix_more c.gone m 0) (minimal (remaining m 0 (ways_of c))) x
        → Becomes c (fix_more c.gone 0 m) (minimal (remaining 0 m (ways_of c))) y → Parts c (Shannon f) (record { left = x; right = y })
    unfolding child child_fixed child_out
    by-fault f m e s t =
        let g = c.gone in
        record {
          on_left = reworded s (λ i. record { present = bit_or g.present (e i); absent = or_zero_r g.absent i; out = g.out })
              (ap (λ (n : ℕ). minimal (remaining n 0 (ways_of c))) e);
          on_right = reworded t (λ i. record { present = or_zero_r g.present i; absent = bit_or g.absent (e i); out = g.out })
              (ap (λ (n : ℕ). minimal (remaining 0 n (ways_of c))) e);
        }

  -- What `staying` asks of the ways by the fault f, where m is its word and n the same word with the other sense's, which is 0.
  asks : (d : ByFault) (f m n : ℕ) → m ≡ 2 ^ f → n ≡ m → Divided c m d → Divided c n d × ((g : ℕ) × (n ≡ 2 ^ g))
  asks d f m n e z h = (subst (λ (k : ℕ). Divided c k d) (sym z) h, (f, z ∙ e))

  -- The kind is this one.
  of-kind : {k j : Kind} {r : _} → k ≡ j → Parts c j r → Parts c k r
  of-kind e h = rw e h

pub one_bit-b-requires : goal.one_bit-b-requires
one_bit-b-requires c = fits _ _ c.in-Shannon.is c.requires.fault_fits

pub staying-left-requires : goal.staying-left-requires
staying-left-requires c = let w = c.one_bit-b.result in
    let h = asks c.args.c c.by_fault-d.result _ w (bit_or w 0) c.one_bit-b.ensures (or_zero_r w) c.by_fault-d.ensures in
    record { lean = c.requires.lean; divided = h.0; one_fault = h.1 }

pub staying-right-requires : goal.staying-right-requires
staying-right-requires c = let w = c.one_bit-b.result in
    let h = asks c.args.c c.by_fault-d.result _ w (bit_or 0 w) c.one_bit-b.ensures (or_zero_l w) c.by_fault-d.ensures in
    record { lean = c.requires.lean; divided = h.0; one_fault = h.1 }

pub returns-in-IndependentOr : goal.returns-in-IndependentOr
returns-in-IndependentOr c =
    of-kind c.args.c c.in-IndependentOr.is (by-groups c.args.c _ _ c.other_ways-right.ensures c.minus-left.ensures)

pub returns-in-IndependentAnd : goal.returns-in-IndependentAnd
returns-in-IndependentAnd c = of-kind c.args.c c.in-IndependentAnd.is c.take_out.ensures

pub returns-in-Shannon : goal.returns-in-Shannon
returns-in-Shannon c =
    of-kind c.args.c c.in-Shannon.is (by-fault c.args.c _ _ _ _ c.one_bit-b.ensures c.staying-left.ensures c.staying-right.ensures)
