-- Small laws of Boolean tests, most of them the library's by other names, and of tests over a list of ways.
-- Rests on the library and the definitions alone.
use mathlib.Core.Path.{◌≡◌, refl, sym, ◌∙◌}
use mathlib.Core.Bool.{Bool, true, false, ◌&&◌, ◌||◌, true≢false}
use mathlib.Core.List.{List, ◌∷◌}
use Prim.Native.Nat.{ℕ}
use lib.Dec.{eqb}
use borrow.Author.Tests.{eqb-true, eq-eqb}
use Rattle.rules.specs.Table.{Way}
use Rattle.rules.specs.Leaf.{any}
-- The library's, by the names they have here: both hold, neither holds, the parts of either, and one of two holds.
pub use Rattle.std.proofs.lemmas.Bool.{and_from as and_both, or_from as or-neither, and_parts as and_split, or_parts as or_split}
pub use Rattle.std.proofs.lemmas.Bool.{or_left as or-first, or_right as or-second}
-- A test with what always or never holds.
pub use mathlib.Core.Bool.{and-true, and-false}
-- A test that is never true is false, and one that is never false is true.
pub use Rattle.std.proofs.lemmas.Bool.{false_from_ne_true as is_false, true_from_ne_false as is_true}

-- The first of two that both hold.
pub and_left : (x y : Bool) → x && y ≡ true → x ≡ true
and_left x y h = (and_split x y h).0

-- The second of them.
pub and_right : (x y : Bool) → x && y ≡ true → y ≡ true
and_right x y h = (and_split x y h).1

-- Where the first holds and not both do, the second does not.
pub and_second : (x y : Bool) → x ≡ true → x && y ≡ false → y ≡ false
and_second true y h e = e
and_second false y h e = absurd (true≢false (sym h))

-- The first of two of which neither holds.
pub or_left : (x y : Bool) → x || y ≡ false → x ≡ false
or_left x y h = (or_split x y h).0

-- The second of them.
pub or_right : (x y : Bool) → x || y ≡ false → y ≡ false
or_right x y h = (or_split x y h).1

-- The middle two of four tests exchanged.
pub or-four : (x y z w : Bool) → (x || y) || (z || w) ≡ (x || z) || (y || w)
or-four true y z w = refl
or-four false true true w = refl
or-four false true false w = refl
or-four false false z w = refl

-- What follows from each of two follows where one of them holds.
pub or_cases : {P : Type 0} (x y : Bool) → (x ≡ true → P) → (y ≡ true → P) → x || y ≡ true → P
or_cases true y f g h = f refl
or_cases false y f g h = g h

-- What implies a test that fails, fails.
pub contra : (x y : Bool) → (x ≡ true → y ≡ true) → y ≡ false → x ≡ false
contra x y f h = is_false x (λ e. true≢false (sym (f e) ∙ h))

-- Two tests that imply each other are equal.
pub same_test : (x y : Bool) → (x ≡ true → y ≡ true) → (y ≡ true → x ≡ true) → x ≡ y
same_test true y f g = sym (f refl)
same_test false true f g = g refl
same_test false false f g = refl

-- Being equal is the same the other way round.
pub eqb_swap : (m n : ℕ) → eqb m n ≡ eqb n m
eqb_swap m n = same_test (eqb m n) (eqb n m) (λ e. eq-eqb n m (sym (eqb-true m n e))) (λ e. eq-eqb m n (sym (eqb-true n m e)))

-- ---- tests over a list of ways

pub any_head : (f : Way → Bool) (v : Way) (vs : List Way) → any f (v ∷ vs) ≡ false → f v ≡ false
unfolding any
any_head f v vs h = or_left (f v) (any f vs) h

pub any-tail : (f : Way → Bool) (v : Way) (vs : List Way) → any f (v ∷ vs) ≡ false → any f vs ≡ false
unfolding any
any-tail f v vs h = or_right (f v) (any f vs) h

pub any-cons : (f : Way → Bool) (v : Way) (vs : List Way) → f v ≡ false → any f vs ≡ false → any f (v ∷ vs) ≡ false
unfolding any
any-cons f v vs h k = or-neither (f v) (any f vs) h k
