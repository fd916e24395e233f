-- `ends` meets its contract: an open leaf is one with low below high and several ways. A way that names no fault makes low S, which is below no end.
-- Rests on Picking.antt and on the contracts of `pick_ways` and `several`.
use mathlib.Core.Path.{◌≡◌, refl, sym, ap, ap₂, ◌∙◌}
use mathlib.Core.Bool.{Bool, true, false, not, ◌&&◌}
use mathlib.Core.List.{List}
use Prim.Native.Nat.{ℕ, ◌<◌}
use native.Mathlib.Omega.{arith}
use native.Mathlib.Decide.{dec_lt}
use borrow.Author.Tests.{ltb-true, lt-ltb, le-ltb}
use lib.ListN.{length}
use lib.Dec.{leb, ltb}
use Rattle.std.proofs.Common.{is_lt, nat_cmp}
use Rattle.std.specs.Cmp.{nat_cmp_is}
use Rattle.std.specs.declared.cmp.Ordering.TheVariants.{Less, Equal, Greater}
use Rattle.rules.specs.declared.Way.{Way}
use Rattle.rules.specs.Leaf.{any, is_empty, leaf_low, leaf_high, is_open}
use Rattle.rules.proofs.Booleans.{and-true, and-false}
use Rattle.formula.specs.declared.Ends.{Ends}
use Rattle.formula.specs.declared.Picked.{Picked}
use Rattle.formula.specs.Leaves.{ends_of}
use Rattle.formula.specs.Picking.{picked}
use Rattle.formula.proofs.Picking.{empty_full}
use Rattle.formula.proofs.leaf.ends.Goals.{then-lt, else-lt}
use Rattle.formula.proofs.leaf.ends.Goals as goal

-- The library's test of two numbers is the one of the definitions.
lt-is : (x y : ℕ) → is_lt (nat_cmp x y) ≡ ltb x y
lt-is x y = by (dec_lt x y) (dec_lt y x)
  where
    by : Dec (x < y) → Dec (y < x) → is_lt (nat_cmp x y) ≡ ltb x y
    by (yes g) d = rw (sym (nat_cmp_is x y Less g)) (sym (lt-ltb x y g))
    by (no g) (yes l) = rw (sym (nat_cmp_is x y Greater l)) (sym (le-ltb x y (omega arith)))
    by (no g) (no l) = let same : x ≡ y = omega arith in rw (sym (nat_cmp_is x y Equal same)) (sym (le-ltb x y (omega arith)))

module _ (ws : List ℕ) (vs : List Way) (p : Picked) (e : p ≡ picked ws vs) where
  -- The ends are those that were picked, and o says whether the leaf is open.
  as_picked : (o : Bool) → o ≡ is_open ws vs → ◌≡◌ {A = Ends} (record { low = p.low; high = p.high; «open» = o }) (ends_of ws vs)
  unfolding ends_of
  as_picked o h = rw (e, h)

  -- The test that the code makes of the ends is the definition's.
  below : (b : Bool) → is_lt (nat_cmp p.low p.high) ≡ b → ltb (leaf_low ws vs) (leaf_high ws vs) ≡ b
  below b h = rw e at (sym (lt-is p.low p.high) ∙ h)

  -- Low is not below high: the leaf is closed.
  crossed : is_lt (nat_cmp p.low p.high) ≡ false → false ≡ is_open ws vs
  unfolding is_open
  crossed h =
      sym
      (ap (λ (b : Bool). leb 2 (length vs) && (not (any is_empty vs) && b)) (below false h)
      ∙ ap (λ (b : Bool). leb 2 (length vs) && b) (and-false (not (any is_empty vs))) ∙ and-false (leb 2 (length vs)))

  -- It is: every way names a fault, and whether there are several decides.
  uncrossed : is_lt (nat_cmp p.low p.high) ≡ true → leb 2 (length vs) ≡ is_open ws vs
  unfolding is_open
  uncrossed h =
      sym
      (ap₂ (λ (x y : Bool). leb 2 (length vs) && (not x && y)) (named (any is_empty vs) refl) (below true h) ∙ and-true (leb 2 (length vs)))
    where
      named : (b : Bool) → any is_empty vs ≡ b → any is_empty vs ≡ false
      named true q = absurd (omega (arith, ltb-true (leaf_low ws vs) (leaf_high ws vs) (below true h), empty_full ws vs q))
      named false q = q

pub returns : goal.returns
returns c =
    let k = c.pick_ways-p in
    elim c.if-lt.branch [
      | then-lt w ↦ as_picked _ _ k.result k.ensures _ (w.result-is ∙ w.several.ensures ∙ uncrossed _ _ k.result k.ensures (sym c.lt.ensures ∙ w.if-lt.true))
      | else-lt w ↦ as_picked _ _ k.result k.ensures _ (w.result-is ∙ w.if-lt.false ∙ crossed _ _ k.result k.ensures (sym c.lt.ensures ∙ w.if-lt.false))
    ]
