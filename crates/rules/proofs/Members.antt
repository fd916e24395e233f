-- Members of a list, and what tests over a whole list of numbers say of each of them.
-- Rests on specs/Members.antt, whose `In` it hands on.
use mathlib.Core.Path.{◌≡◌, refl}
use mathlib.Core.Bool.{false}
use mathlib.Core.List.Memᴰ
use mathlib.Core.List.{List, [], ◌∷◌}
use Prim.Native.Nat.{ℕ, ◌≤◌}
use lib.Dec.{ltb}
use borrow.Author.Tests.{ltb-false, le-ltb}
use Rattle.rules.specs.Refusals.{some_above}
use Rattle.rules.proofs.Booleans.{or_left, or_right, or-neither}
pub use Rattle.rules.specs.Members.{In}

-- No number of a list is above a limit: each is at most that.
pub each-most : (m : ℕ) (xs : List ℕ) → some_above m xs ≡ false → (x : ℕ) → In x xs → x ≤ m
unfolding some_above
each-most m [] h x x4 = elim x4 [ ]
each-most m (y ∷ xs) h x (Memᴰ.head e) = rw e (ltb-false m y (or_left (ltb m y) _ h))
each-most m (y ∷ xs) h x (Memᴰ.tail i) = each-most m xs (or_right (ltb m y) _ h) x i

-- The other way.
pub most-each : (m : ℕ) (xs : List ℕ) → ((x : ℕ) → In x xs → x ≤ m) → some_above m xs ≡ false
unfolding some_above
most-each m [] h = refl
most-each m (y ∷ xs) h = or-neither (ltb m y) _ (le-ltb m y (h y (Memᴰ.head refl))) (most-each m xs (λ x i. h x (Memᴰ.tail i)))
