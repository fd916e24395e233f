-- A sum over a list, each element measured by a closure: it is the sum of what a definition says, and no more than so many times the most that one takes.
-- Rests on the library's laws of sums.
use Rattle.std.proofs.Common.{◌≡◌, ◌+◌, ◌-◌, ◌*◌, ◌/◌, ◌<◌, ◌≤◌, ℕ, zero, suc, List, [], ◌∷◌, map, length, refl, ap, ◌∙◌, arith, le-div_iff_mul-le, Option}
use denote.Param.Members.{Mut, Called}
use Rattle.std.specs.List.{fold, sum_by}
use Rattle.std.specs.Iterator.{Drains, YieldsFirst}
use Rattle.std.specs.Iterator.Adapters.{map_source, map_callee, map_steps}
use Rattle.std.specs.Iterator.Runs.{EachRunFrom, WholeRun}
use Rattle.std.specs.declared.iter.Map.{Map}
use Rattle.std.proofs.lemmas.List.{nil_from_length}
use Rattle.std.proofs.lemmas.List.Sums.{sum_by-cons}
use Rattle.std.proofs.lemmas.Iterator.{YieldsList, YieldsList-from_map}
use Rattle.std.proofs.lemmas.Iterator.Adapters.{fits_from_length, at_most_from_yields_List}
use Rattle.std.proofs.lemmas.Iterator.Consumers.{YieldsList-from_first, sum_by_from_yields_List}
use Rattle.rules.specs.Sheet.{total}

-- The sum of measures is the total of them.
sum_total : {A : Type 0} (h : A → ℕ) (xs : List A) → sum_by h xs ≡ total (map h xs)
unfolding total
sum_total h [] = refl
sum_total h (x ∷ xs) = sum_by-cons h x xs ∙ ap (λ n. h x + n) (sum_total h xs)

-- The sum r of the measures h of a list, which has at most n elements, each of at most m.
pub record Sum {A : Type 0} (h : A → ℕ) (m n : ℕ) (ys : List A) (r : ℕ) : Type 0 where
  pub value : r ≡ total (map h ys)
  pub most : r ≤ n * m

-- A closure measures each element of a list: the measure is h of the element, and at most m.
module _ {A F : Type 0} (g : Mut F (A × Unit {0}) ℕ) {f : F} (h : A → ℕ) (m : ℕ) {s : Map (List A) F} {ys : List A}
    (source : map_source s ≡ ys) (callee : map_callee s ≡ f)
    (each : (x : A) (r : ℕ) (q : F) → Called g f (x, tt) r q → (q ≡ f) × (r ≡ h x) × (r ≤ m)) where
  -- What a list gives, call by call.
  abbrev steps : List A → Option A → List A → Type 0
  steps = YieldsFirst (λ xs. xs)

  -- The source gives the elements.
  elements : YieldsList steps (λ x. x) (map_source s) ys
  elements = YieldsList-from_first (λ x. x) (λ xs. xs) ys source

  -- NO PART of the sum exceeds n times m, where there are at most n elements.
  pub part_fits : (n : ℕ) → 0 < n → length ys ≤ n → EachRunFrom (map_steps steps g) s (λ p. fold (λ a x. a + x) 0 p.items < n * m + 1)
  part_fits n some few =
      let one : m ≤ (n * m + 1 - 1) / n = (le-div_iff_mul-le some).1 (omega arith) in
      fits_from_length g f n (n * m + 1) (at_most_from_yields_List elements few) callee (omega arith)
      (λ x r q k. let e = each x r q k in (e.0, omega (arith, e.2, one)))

  -- What the sum comes to: it is that of what the definition says.
  value : (r : ℕ) → ((xs : List ℕ) × (Unit {0} → Drains (map_steps steps g) s xs) × (r ≡ fold (λ a x. a + x) 0 xs)) → r ≡ total (map h ys)
  value r ran =
      sum_by_from_yields_List h ys s r ran (YieldsList-from_map g h elements callee (λ x r q k. let e = each x r q k in (e.0, e.1))) ∙ sum_total h ys

  -- THE SUM is that, and at most n times m, where there are at most n elements.
  pub sum_is : (n : ℕ) → length ys ≤ n → (r : ℕ) → ((xs : List ℕ) × (Unit {0} → Drains (map_steps steps g) s xs) × (r ≡ fold (λ a x. a + x) 0 xs))
      → (Unit {0} → WholeRun (map_steps steps g) s (λ p. r ≡ fold (λ a x. a + x) 0 p.items)) → Sum h m n ys r
  unfolding total
  sum_is n few r ran runs = record { value = value r ran; most = most n few }
    where
      most : (n : ℕ) → length ys ≤ n → r ≤ n * m
      most zero few = omega (arith, value r ran ∙ ap (λ xs. total (map h xs)) (nil_from_length ys (omega (arith, few))))
      most (suc n) few = let w = runs tt in omega (arith, part_fits (suc n) (omega arith) few w.0 w.0.seen w.1, w.3)
