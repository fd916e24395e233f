-- The loop that keeps the ways of a leaf which pass a test: of all numbers those of ways that fail are taken out, one after the other.
-- Rests on Leaf.antt and Parts.antt.
use mathlib.Core.Path.{◌≡◌, refl, sym, ap, ◌∙◌, subst}
use mathlib.Core.Bool.{Bool, true, false, not, ◌&&◌, ◌||◌, true≢false, or-false}
use mathlib.Core.List.Memᴰ
use mathlib.Core.List.{List, [], ◌∷◌}
use Prim.Native.Nat.{ℕ}
use lib.Dec.{eqb}
use borrow.Author.Tests.{eqb-true, eq-eqb, ne_eqb}
use Rattle.rules.specs.declared.Way.{Way}
use Rattle.rules.specs.Members.{In}
use Rattle.rules.specs.Leaf.{has_number, sift}
use Rattle.rules.proofs.Booleans.{and-true, and-false, or-second, or-neither}
use Rattle.rules.proofs.Sets.{Rising}
use Rattle.clauses.specs.declared.Clauses.{Clauses}
use Rattle.clauses.specs.declared.sets.Numbers.{Numbers}
use Rattle.clauses.specs.Numbers.{is_in}
use Rattle.clauses.specs.Leaves.{ways_of}
use Rattle.clauses.proofs.Leaf.{rising, number_in}
use Rattle.clauses.proofs.Parts.{sift-same, its-number, first_alone, one_way}

module _ (c : Clauses) (f : Way → Bool) where
  -- In the midst of the loop: the number of a way is kept if the way passes, or is still to come.
  pub record Kept (kept : Numbers) (ws : List Way) : Type 0 where
    pub told : (v : Way) → In v (ways_of c) → is_in kept v.number ≡ (f v || has_number ws v.number)
    pub within : (v : Way) → In v ws → In v (ways_of c)

  -- At first all are kept, and all are still to come.
  pub begun : Kept c.numbers (ways_of c)
  begun = record { told = λ v p. number_in c v p ∙ sym (or-second (f v) _ (its-number (ways_of c) v p)); within = λ v p. p }

  module _ (kept : Numbers) (left later : Clauses) (v : Way) (next : ways_of left ≡ v ∷ ways_of later) (k : Kept kept (ways_of left)) where
    -- The way that comes is one of the leaf's.
    here : In v (ways_of c)
    here = k.within v (subst (λ (vs : List Way). In v vs) (sym next) (Memᴰ.head refl))

    -- And so are those after it.
    after : (u : Way) → In u (ways_of later) → In u (ways_of c)
    after u p = k.within u (subst (λ (vs : List Way). In u vs) (sym next) (Memᴰ.tail p))

    -- Its number does not come again.
    once : has_number (ways_of later) v.number ≡ false
    once = first_alone 0 v (ways_of later) (subst (Rising 0) next (rising left))

    -- What is told of a way, by whether it has that number.
    before : (u : Way) → In u (ways_of c) → is_in kept u.number ≡ (f u || (eqb v.number u.number || has_number (ways_of later) u.number))
    unfolding has_number
    before u p = k.told u p ∙ ap (λ (vs : List Way). f u || has_number vs u.number) next

    -- It passes: the numbers stay as they are.
    pub stays : f v ≡ true → Kept kept (ways_of later)
    stays t = record { told = λ u p. before u p ∙ by u p (eqb v.number u.number) refl; within = after }
      where
        by : (u : Way) → In u (ways_of c) → (b : Bool) → eqb v.number u.number ≡ b
            → (f u || (b || has_number (ways_of later) u.number)) ≡ (f u || has_number (ways_of later) u.number)
        by u p false e = refl
        by u p true e =
            let same : f u ≡ true = ap f (one_way 0 (ways_of c) (rising c) u v p here (sym (eqb-true v.number u.number e))) ∙ t in
            rw same refl

    -- It fails: its number is taken out.
    pub goes : f v ≡ false → (less : Numbers) → ((i : ℕ) → is_in less i ≡ (is_in kept i && not (eqb i v.number))) → Kept less (ways_of later)
    goes t less h = record { told = λ u p. h u.number ∙ by u p (eqb u.number v.number) refl; within = after }
      where
        by : (u : Way) → In u (ways_of c) → (b : Bool) → eqb u.number v.number ≡ b
            → (is_in kept u.number && not b) ≡ (f u || has_number (ways_of later) u.number)
        by u p true e =
            let same : u.number ≡ v.number = eqb-true u.number v.number e in
            and-false (is_in kept u.number)
            ∙ sym (or-neither (f u) _ (ap f (one_way 0 (ways_of c) (rising c) u v p here same) ∙ t) (ap (has_number (ways_of later)) same ∙ once))
        by u p false e =
            and-true (is_in kept u.number) ∙ before u p
            ∙ ap (λ (b : Bool). f u || (b || has_number (ways_of later) u.number))
            (ne_eqb v.number u.number (λ q. true≢false (sym (eq-eqb u.number v.number (sym q)) ∙ e)))

  -- At the end the numbers tell the ways that pass.
  pub ended : (kept : Numbers) (ws : List Way) → ws ≡ [] → Kept kept ws → sift (λ v. is_in kept v.number) (ways_of c) ≡ sift f (ways_of c)
  unfolding has_number
  ended kept ws z k =
      sift-same _ f (ways_of c) (λ v p. k.told v p ∙ ap (λ (vs : List Way). f v || has_number vs v.number) z ∙ or-false (f v))
