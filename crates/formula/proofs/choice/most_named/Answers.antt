-- `most_named` meets its contract. The loop's invariant: of the faults so far, best is the one named most.
-- Rests on the contract of `counts`.
use mathlib.Core.Path.{◌≡◌, refl, sym, ap, ap₂, ◌∙◌}
use mathlib.Core.List.{List}
use Prim.Native.Nat.{ℕ, ◌+◌, ◌≤◌, ◌<◌}
use native.Mathlib.Numerals.{add-one}
use native.Mathlib.Omega.{arith}
use borrow.Author.Tests.{lt-ltb, le-ltb}
use lib.ListN.{get_or}
use lib.Dec.{ltb}
use Rattle.rules.specs.declared.Way.{Way}
use Rattle.rules.specs.Run.{named, most_named}
use Rattle.formula.proofs.choice.most_named.Goals.{then-counts-best, else-counts-best}
use Rattle.formula.proofs.choice.most_named.Goals as goal

-- One fault more, by the counts of ways: t is the definition's test.
module _ (vs : List Way) (ns : List ℕ) (e : (f : ℕ) → f < 64 → get_or ns f 0 ≡ named f vs) (best f : ℕ) (is : best ≡ most_named f vs)
    (small : best < 64) (low : f < 64) where
  test : ltb (named (most_named f vs) vs) (named f vs) ≡ ltb (get_or ns best 0) (get_or ns f 0)
  test = ap₂ ltb (ap (λ (k : ℕ). named k vs) (sym is) ∙ sym (e best small)) (sym (e f low))

  larger : get_or ns best 0 < get_or ns f 0 → f ≡ most_named (f + 1) vs
  unfolding most_named
  larger h = rw (add-one, most_named, test ∙ lt-ltb (get_or ns best 0) (get_or ns f 0) h) refl

  not-larger : get_or ns f 0 ≤ get_or ns best 0 → best ≡ most_named (f + 1) vs
  unfolding most_named
  not-larger h = rw (add-one, most_named, test ∙ le-ltb (get_or ns best 0) (get_or ns f 0) h) is

pub loop-f-init : goal.loop-f-init
unfolding most_named
loop-f-init c = record { right = refl; small = omega arith }

pub loop-f-preserved : goal.loop-f-preserved
loop-f-preserved c =
    let l = c.loop-f in
    let i = l.invariant in
    let below : l.f < 64 = omega arith in
    elim c.if-counts-best.branch [
      | then-counts-best w ↦ record {
        right = w.best-is ∙ larger _ _ c.counts-counts.ensures l.best l.f i.right i.small below w.if-counts-best.true;
        small = rw w.best-is below;
      }
      | else-counts-best w ↦ record {
        right = w.best-is ∙ not-larger _ _ c.counts-counts.ensures l.best l.f i.right i.small below w.if-counts-best.false;
        small = rw w.best-is i.small;
      }
    ]
