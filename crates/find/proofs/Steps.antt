-- The walk of `find`, byte by byte: what one byte does, and the loop's invariant, that the rest of the place leads on to the answer.
-- Rests on specs/Finds.antt and on `records`, Safe.
use mathlib.Core.Path.{◌≡◌, refl, sym, ap, ◌∙◌}
use mathlib.Core.List.{List, ◌∷◌}
use mathlib.Core.Option.{Option, none, some}
use Prim.Native.Nat.{ℕ, zero, suc, ◌+◌, ◌<◌, ◌≤◌}
use native.Mathlib.Numerals.{add-one}
use native.Mathlib.Omega.{arith}
use lib.ListN.{length, get_or, drop, drop_of_length-le}
use lib.Seq.{drop-cons}
use borrow.Author.Tests.{eq-eqb, ne_eqb}
use Rattle.std.specs.Prelude.{Some, None}
use Rattle.rules.specs.Tree.{Side, left, right, Place}
use Rattle.rules.specs.Calls.{step_to, place_of}
use Rattle.records.specs.Records.{tree_records, blank, record_in, child_record, walk}
use Rattle.records.specs.declared.Node.{Node}
use Rattle.records.specs.Safe.{Safe}
use Rattle.find.specs.Finds.{led, found, reached_of}

-- A byte above 1 names no place.
place_none : (b : ℕ) (bs : List ℕ) → 1 < b → place_of (b ∷ bs) ≡ none
unfolding place_of
place_none b bs h = rw (ne_eqb b 0 (λ e. omega (arith, e, h)), ne_eqb b 1 (λ e. omega (arith, e, h)), place_of)

module _ (xs : List Node) (i : ℕ) where
  abbrev l : ℕ
  l = (get_or xs i blank).left

  -- A step from a record without children leads nowhere.
  step_none : (s : Side) (o : Option Place) → l ≡ 0 → led xs i (step_to s o) ≡ none
  unfolding led step_to walk
  step_none s none e = refl
  step_none s (some p) e = rw (eq-eqb l 0 e, walk)

  -- From any other it leads to the child's.
  step_some : (s : Side) (o : Option Place) → (l ≡ 0 → ⊥) → led xs i (step_to s o) ≡ led xs (child_record s l) o
  unfolding led step_to walk
  step_some s none q = refl
  step_some s (some p) q = rw (ne_eqb l 0 q, walk)

  -- The same of a byte: 0 adds nothing to the left link, 1 makes it the right child's.
  byte_none : (b : ℕ) (bs : List ℕ) → l ≡ 0 → led xs i (place_of (b ∷ bs)) ≡ none
  unfolding place_of led
  byte_none zero bs e = step_none left (place_of bs) e
  byte_none (suc zero) bs e = step_none right (place_of bs) e
  byte_none (suc (suc b)) bs e = ap (led xs i) (place_none (suc (suc b)) bs (omega arith))

  byte_some : (b : ℕ) (bs : List ℕ) → b ≤ 1 → (l ≡ 0 → ⊥) → led xs i (place_of (b ∷ bs)) ≡ led xs (l + b) (place_of bs)
  unfolding place_of
  byte_some zero bs h q =
      let e : l ≡ l + 0 = omega arith in
      step_some left (place_of bs) q ∙ ap (λ (j : ℕ). led xs j (place_of bs)) e
  byte_some (suc zero) bs h q =
      let e : suc l ≡ l + 1 = omega arith in
      step_some right (place_of bs) q ∙ ap (λ (j : ℕ). led xs j (place_of bs)) e
  byte_some (suc (suc b)) bs h q = absurd (omega arith)

-- The walk has come to record j with the bytes from i on left.
pub record Walk (xs : List Node) (bs : List ℕ) (j i : ℕ) : Type 0 where
  pub inside : j < tree_records
  pub rest : led xs j (place_of (drop i bs)) ≡ found xs bs

pub start : (xs : List Node) (bs : List ℕ) → Walk xs bs 0 0
start xs bs = record { inside = omega arith; rest = refl }

module _ {xs : List Node} {bs : List ℕ} {j i : ℕ} (w : Walk xs bs j i) where
  -- With no byte left the walk is there.
  pub there : length bs ≤ i → Some j ≡ reached_of (found xs bs)
  unfolding led place_of walk
  there h = ap reached_of (ap (λ (cs : List ℕ). led xs j (place_of cs)) (sym (drop_of_length-le bs h)) ∙ w.rest)

  module _ (h : i < length bs) where
    next : led xs j (place_of (get_or bs i 0 ∷ drop (suc i) bs)) ≡ found xs bs
    next = ap (λ (cs : List ℕ). led xs j (place_of cs)) (sym (drop-cons bs i 0 h)) ∙ w.rest

    -- With a byte left it ends at a byte that is no step, and at a record without children.
    pub no_step : 1 < get_or bs i 0 → None ≡ reached_of (found xs bs)
    unfolding led
    no_step g = ap reached_of (sym (ap (led xs j) (place_none (get_or bs i 0) (drop (suc i) bs) g)) ∙ next)

    pub at_leaf : (record_in xs j).left ≡ 0 → None ≡ reached_of (found xs bs)
    at_leaf z = ap reached_of (sym (byte_none xs j (get_or bs i 0) (drop (suc i) bs) z) ∙ next)

    -- Else it goes on to the child.
    pub turn : Safe xs → ((record_in xs j).left ≡ 0 → ⊥) → get_or bs i 0 ≤ 1 → Walk xs bs ((record_in xs j).left + get_or bs i 0) (i + 1)
    turn k q g =
        record {
          inside = omega (arith, (k.each j).children_inside, g);
          rest = rw add-one (sym (byte_some xs j (get_or bs i 0) (drop (suc i) bs) g q) ∙ next);
        }
