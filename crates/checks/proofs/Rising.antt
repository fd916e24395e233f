-- What the library's `is_sorted_by` finds of a list whose neighbours it compares by `<` is the rules' test that the list rises.
-- Rests on the definition of `rising` and on the kit's of a run of calls.
use mathlib.Core.Path.{◌≡◌, sym, ap, ◌∙◌, subst}
use mathlib.Core.Bool.{Bool, true, false, ◌&&◌}
use mathlib.Core.List.{List, [], ◌∷◌}
use mathlib.Core.Logic.{inl, inr}
use Prim.Native.Nat.{ℕ}
use lib.Dec.{ltb}
use denote.Ref.{Bor}
use denote.Param.Members.{Mut}
use Rattle.std.specs.Prelude.{Option, Some, None, MatchOption}
use Rattle.std.specs.Iterator.{AlwaysYields, Yields}
use Rattle.std.specs.Iterator.Order.{OrderTurn, ChecksNeighbours}
use Rattle.std.specs.List.{FoldsTo}
use Rattle.std.specs.Fn.{CalledAtTwo}
use Rattle.std.proofs.lemmas.Iterator.{YieldsList}
use Rattle.rules.specs.Refusals.{rising}

module _ {S F : Type 0} (steps : S → Option ℕ → S → Type 0) (g : Mut F (Bor ℕ × (Bor ℕ × Unit {0})) Bool) (f : F)
    (less : (x y : ℕ) (b : Bool) (q : F) → CalledAtTwo g f x y b q → (q ≡ f) × (b ≡ ltb x y)) where
  -- While each item is above the last one, what is left answers for all.
  on : (last : ℕ) (xs all : List ℕ) (s t : S) (q : F × ℕ) → Yields steps s xs t → AlwaysYields steps (λ x. x) s all
      → FoldsTo {P = F × ℕ} (OrderTurn g) (f, last) xs q
      → (rest : List ℕ) × AlwaysYields steps (λ x. x) t rest × (q.0 ≡ f) × (rising last all ≡ rising q.1 rest)
  unfolding rising
  on last [] all s t q y a w =
      (all, subst (λ u. AlwaysYields steps (λ x. x) u all) y a, sym (ap (λ (p : F × ℕ). p.0) w), ap (λ (p : F × ℕ). rising p.1 all) w)
  on last (x ∷ xs) [] s t q y a w = absurd (a x y.0 y.1)
  on last (x ∷ xs) (z ∷ all) s t q y a w =
      let own = a.1 x y.0 y.1 in
      let call = less last x true w.0.0 w.1.0 in
      let more = on x xs all y.0 t q y.2 own.1 (subst (λ (p : F × ℕ). FoldsTo {P = F × ℕ} (OrderTurn g) p xs q) (λ i. (call.0 i, w.1.1 i)) w.2) in (
        more.0,
        more.1,
        more.2,
        ap (λ n. ltb last n && rising n all) (sym own.0) ∙ ap (λ b. b && rising x all) (sym call.1) ∙ more.3,
      )

  -- At its end, or at an item that is not above the last one, the answer is whether what is left rises.
  ends : (r : Bool) (rest : List ℕ) (o : Option ℕ) (t u : S) (q : F × ℕ) → AlwaysYields steps (λ x. x) t rest → steps t o u → q.0 ≡ f
      → MatchOption o (r ≡ true) (λ y. (r ≡ false) × ((h : F) × CalledAtTwo g q.0 q.1 y false h)) → r ≡ rising q.1 rest
  unfolding rising
  ends r [] None t u q a e k m = m
  ends r [] (Some y) t u q a e k m = absurd (a y u e)
  ends r (z ∷ zs) None t u q a e k m = absurd (a.0 u e)
  ends r (z ∷ zs) (Some y) t u q a e k m =
      let call = less q.1 y false m.1.0 (subst (λ p. CalledAtTwo g p q.1 y false m.1.0) k m.1.1) in
      m.0 ∙ ap (λ b. b && rising z zs) (call.1 ∙ ap (ltb q.1) (a.1 y u e).0)

  pub rising_from_sorted : (s : S) (r : Bool) (n : ℕ) (all : List ℕ) → ChecksNeighbours g steps s f r → YieldsList steps (λ x. x) s (n ∷ all) → r ≡ rising n all
  rising_from_sorted s r n all (inl d) y = absurd (y.runs.0 d.0.0 (subst (λ t. steps t None d.0.0) (sym d.0.1.1) d.0.1.2))
  rising_from_sorted s r n all (inr d) y =
      let first = d.5.1 in
      let own = y.runs.1 d.0 first.0 first.1 in
      let walk = on d.0 d.1 all first.0 d.5.0 d.4 first.2 own.1 d.6 in
      ends r walk.0 d.2 d.5.0 d.3 d.4 walk.1 d.5.2 walk.2 d.7 ∙ sym walk.3 ∙ ap (λ k. rising k all) own.0
