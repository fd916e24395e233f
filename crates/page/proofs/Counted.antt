-- The code passes over the records that do not count, where the definition lets them stand with a width of 0: both find the same.
-- Rests on specs/Widest.antt.
use Rattle.std.proofs.Common.{◌≡◌, refl, sym, ap, ap₂, ◌∙◌, arith, Bool, true, false, ◌&&◌, List, [], ◌∷◌, map, Option, Some, None, ℕ, eqb, ltb}
use borrow.Author.Tests.{ltb-true, ltb-false, lt-ltb, le-ltb}
use Rattle.std.proofs.Math.Bool.{and_assoc}
use Rattle.std.specs.Prelude.{cond}
use Rattle.std.specs.List.{fold, reduce, filter_map, cons_option}
use Rattle.rules.proofs.Booleans.{and_right}
use Rattle.records.specs.Records.{is_live}
use Rattle.records.specs.Growing.{record_width}
use Rattle.records.specs.Found.{wider}
use Rattle.records.specs.declared.Node.{Node}
use Rattle.records.specs.declared.Found.{Found}
use Rattle.page.specs.Widest.{counts, counted_width, counted, counting, told}

-- ---- the test

-- It is tried in two parts.
pub in_order : (n : Node) → counts n ≡ (eqb n.kind 1 && is_live n) && ltb n.low n.high
unfolding counts
in_order n = sym (and_assoc (eqb n.kind 1) (is_live n) (ltb n.low n.high))

-- ---- the search

-- What was found, if its width is above 0.
abbrev wide : Found → Option Found
wide x = elim (ltb 0 x.width) as (λ b. Option Found) [ true ↦ Some x | false ↦ None ]

-- A record counts exactly if its width does not come to 0.
counts-wide : (p : ℕ × Node) → counting p ≡ wide (counted p)
unfolding counting counted_width counts
counts-wide p = by (counts p.1) refl
  where
    by : (b : Bool) → counts p.1 ≡ b → (elim b as (λ b. Option Found) [ true ↦ Some (record { at = p.0; width = record_width p.1 }) | false ↦ None ])
        ≡ wide (record { at = p.0; width = elim b as (λ b. ℕ) [ true ↦ record_width p.1 | false ↦ 0 ] })
    by true e =
        let below = ltb-true p.1.low p.1.high (and_right (is_live p.1) _ (and_right (eqb p.1.kind 1) _ e)) in
        rw (lt-ltb 0 (record_width p.1) (omega (arith, below)), wide) refl
    by false e = refl

-- The widest of what was found before, if anything was, and of a list.
unfoldable widest_with : Option Found → List Found → Option Found
widest_with None ys = reduce wider ys
widest_with (Some x) ys = Some (fold wider x ys)

wide-yes : (x : Found) → ltb 0 x.width ≡ true → wide x ≡ Some x
wide-yes x e = ap (λ b. elim b as (λ b. Option Found) [ true ↦ Some x | false ↦ None ]) e

wide-no : (x : Found) → ltb 0 x.width ≡ false → wide x ≡ None
wide-no x e = ap (λ b. elim b as (λ b. Option Found) [ true ↦ Some x | false ↦ None ]) e

-- One found more.
one-more : (x y : Found) (zs : List Found) → widest_with (wide (wider x y)) zs ≡ widest_with (wide x) (cons_option (wide y) zs)
unfolding widest_with
one-more x y zs = by (ltb 0 x.width) refl (ltb 0 y.width) refl
  where
    either : {r : Bool} → ltb 0 x.width ≡ r → ltb 0 y.width ≡ r → (c : Bool) → ltb 0 (cond c y x).width ≡ r
    either e f true = f
    either e f false = e

    by : (a : Bool) → ltb 0 x.width ≡ a → (b : Bool) → ltb 0 y.width ≡ b
        → widest_with (wide (wider x y)) zs ≡ widest_with (wide x) (cons_option (wide y) zs)
    by true e true f =
        ap (λ o. widest_with o zs) (wide-yes (wider x y) (either e f (ltb x.width y.width)))
        ∙ sym (ap₂ (λ o p. widest_with o (cons_option p zs)) (wide-yes x e) (wide-yes y f))
    by true e false f =
        let first = le-ltb x.width y.width (omega (arith, ltb-false 0 y.width f)) in
        ap (λ c. widest_with (wide (cond c y x)) zs) first ∙ ap (λ p. widest_with (wide x) (cons_option p zs)) (sym (wide-no y f))
    by false e true f =
        let second = lt-ltb x.width y.width (omega (arith, ltb-false 0 x.width e, ltb-true 0 y.width f)) in
        ap (λ c. widest_with (wide (cond c y x)) zs) second ∙ ap (λ o. widest_with o zs) (wide-yes y f)
        ∙ sym (ap₂ (λ o p. widest_with o (cons_option p zs)) (wide-no x e) (wide-yes y f))
    by false e false f =
        ap (λ o. widest_with o zs) (wide-no (wider x y) (either e f (ltb x.width y.width)))
        ∙ sym (ap₂ (λ o p. widest_with o (cons_option p zs)) (wide-no x e) (wide-no y f))

-- A list of them.
more : (x : Found) (ps : List (ℕ × Node)) → wide (fold wider x (map counted ps)) ≡ widest_with (wide x) (filter_map counting ps)
unfolding widest_with
more x [] = by (wide x)
  where
    by : (o : Option Found) → o ≡ widest_with o []
    by None = refl
    by (Some y) = refl
more x (p ∷ ps) =
    more (wider x (counted p)) ps
    ∙ one-more x (counted p) (filter_map counting ps)
    ∙ ap (λ (o : Option Found). widest_with (wide x) (cons_option o (filter_map counting ps))) (sym (counts-wide p))

-- The position told.
abbrev pub at_of : Option Found → Option ℕ
at_of None = None
at_of (Some best) = Some best.at

told-wide : (x : Found) → told (Some x) ≡ at_of (wide x)
told-wide x = by (ltb 0 x.width)
  where
    by : (b : Bool) → (elim b as (λ b. Option ℕ) [ true ↦ Some x.at | false ↦ None ]) ≡ at_of (elim b as (λ b. Option Found) [ true ↦ Some x | false ↦ None ])
    by true = refl
    by false = refl

-- So the widest of those that count is the one that is told.
pub passed_over : (ps : List (ℕ × Node)) → at_of (reduce wider (filter_map counting ps)) ≡ told (reduce wider (map counted ps))
unfolding widest_with
passed_over [] = refl
passed_over (p ∷ ps) = ap at_of here ∙ sym (told-wide (fold wider (counted p) (map counted ps)))
  where
    first : (o : Option Found) → reduce wider (cons_option o (filter_map counting ps)) ≡ widest_with o (filter_map counting ps)
    first None = refl
    first (Some x) = refl

    here : reduce wider (cons_option (counting p) (filter_map counting ps)) ≡ wide (fold wider (counted p) (map counted ps))
    here =
        ap (λ (o : Option Found). reduce wider (cons_option o (filter_map counting ps))) (counts-wide p)
        ∙ first (wide (counted p))
        ∙ sym (more (counted p) ps)
