-- The leaf that a run takes: an open one, none wider, and none as wide to its left. And the fault named in most ways, the lowest of them.
-- The laws settle the choice, so that a search may find it in any way. Rests on specs/Run.antt.
use mathlib.Core.Path.{◌≡◌, refl, sym, ap, ◌∙◌}
use mathlib.Core.Bool.{Bool, true, false, ◌||◌, true≢false}
use mathlib.Core.List.{List, [], ◌∷◌}
use mathlib.Core.Option.{Option, none, some, none-ne-some, some-injective}
use mathlib.Core.Logic.{◌⊎◌, inl, inr}
use Prim.Native.Nat.{ℕ, zero, suc, ◌<◌, ◌≤◌}
use native.Mathlib.Omega.{arith}
use native.Mathlib.Decide.{dec_lt}
use lib.Dec.{ltb}
use borrow.Author.Tests.{ltb-true, ltb-false}
use Rattle.rules.specs.Table.{bit, Way, faults}
use Rattle.rules.specs.Leaf.{any, leaf_width, is_open}
use Rattle.rules.specs.Tree.{Side, left, right, Place, DTree, leaf, inner, occurs, child, leaf_ways}
use Rattle.rules.specs.Run.{Candidate, from, wider, widest, named, most_named}

-- ---- left and right

-- The first place lies to the left of the second.
unfoldable pub left_of : Place → Place → Bool
left_of [] q = false
left_of (b ∷ p) [] = false
left_of (left ∷ p) (left ∷ q) = left_of p q
left_of (left ∷ p) (right ∷ q) = true
left_of (right ∷ p) (left ∷ q) = false
left_of (right ∷ p) (right ∷ q) = left_of p q

-- No open leaf is wider than w, and none to the left of q is as wide.
abbrev pub Tops : List ℕ → List Way → DTree → Place → ℕ → Type 0
Tops ws vs s q w =
    (p : Place) (us : List Way) → leaf_ways p vs s ≡ some us → is_open ws us ≡ true → (leaf_width ws us ≤ w) × (left_of p q ≡ true → leaf_width ws us < w)

-- No leaf is open.
abbrev pub NoneOpen : List ℕ → List Way → DTree → Type 0
NoneOpen ws vs s = (p : Place) (us : List Way) → leaf_ways p vs s ≡ some us → is_open ws us ≡ true → ⊥

-- A candidate is an open leaf with its width, and the leftmost of the widest.
pub record Leftmost (ws : List ℕ) (vs : List Way) (s : DTree) (x : Candidate) : Type 0 where
  pub there : leaf_ways x.place vs s ≡ some x.ways
  pub opened : is_open ws x.ways ≡ true
  pub width : x.width ≡ leaf_width ws x.ways
  pub tops : Tops ws vs s x.place x.width

-- What a search may answer.
pub data Law (ws : List ℕ) (vs : List Way) (s : DTree) : Option Candidate → Type 0 where
  nothing : NoneOpen ws vs s → Law ws vs s none
  the : (x : Candidate) → Leftmost ws vs s x → Law ws vs s (some x)

-- ---- the rule's leaf obeys the law

abbrev down : Side → Candidate → Candidate
down b x = record { width = x.width; place = b ∷ x.place; ways = x.ways }

module _ (ws : List ℕ) (vs us us' : List Way) (s l r : DTree) (no-root : leaf_ways [] vs s ≡ none)
    (go_left : (p : Place) → leaf_ways (left ∷ p) vs s ≡ leaf_ways p us l) (go_right : (p : Place) → leaf_ways (right ∷ p) vs s ≡ leaf_ways p us' r) where
  none_either : NoneOpen ws us l → NoneOpen ws us' r → NoneOpen ws vs s
  none_either f g [] xs e o = none-ne-some _ (sym no-root ∙ e)
  none_either f g (left ∷ p) xs e o = f p xs (sym (go_left p) ∙ e) o
  none_either f g (right ∷ p) xs e o = g p xs (sym (go_right p) ∙ e) o

  -- The left's, where nothing on the right is wider.
  take_left : (x : Candidate) → Leftmost ws us l x
      → ((p : Place) (xs : List Way) → leaf_ways p us' r ≡ some xs → is_open ws xs ≡ true → leaf_width ws xs ≤ x.width) → Leftmost ws vs s (down left x)
  unfolding left_of
  take_left x k g = record { there = go_left x.place ∙ k.there; opened = k.opened; width = k.width; tops = tops }
    where
      tops : Tops ws vs s (left ∷ x.place) x.width
      tops [] xs e o = absurd (none-ne-some _ (sym no-root ∙ e))
      tops (left ∷ p) xs e o = k.tops p xs (sym (go_left p) ∙ e) o
      tops (right ∷ p) xs e o = (g p xs (sym (go_right p) ∙ e) o, λ b. absurd (true≢false (sym b)))

  -- The right's, where everything on the left is narrower.
  take_right : (x : Candidate) → Leftmost ws us' r x
      → ((p : Place) (xs : List Way) → leaf_ways p us l ≡ some xs → is_open ws xs ≡ true → leaf_width ws xs < x.width) → Leftmost ws vs s (down right x)
  unfolding left_of
  take_right x k g = record { there = go_right x.place ∙ k.there; opened = k.opened; width = k.width; tops = tops }
    where
      tops : Tops ws vs s (right ∷ x.place) x.width
      tops [] xs e o = absurd (none-ne-some _ (sym no-root ∙ e))
      tops (left ∷ p) xs e o = let h = g p xs (sym (go_left p) ∙ e) o in (omega arith, λ b. h)
      tops (right ∷ p) xs e o = k.tops p xs (sym (go_right p) ∙ e) o

  either_law : (o o' : Option Candidate) → Law ws us l o → Law ws us' r o' → Law ws vs s (wider (from left o) (from right o'))
  unfolding wider from
  either_law none none (nothing f) (nothing g) = nothing (none_either f g)
  either_law none (some y) (nothing f) (the y₁ k) = the (down right y) (take_right y k (λ p xs e o. absurd (f p xs e o)))
  either_law (some x) none (the x₁ k) (nothing g) = the (down left x) (take_left x k (λ p xs e o. absurd (g p xs e o)))
  either_law (some x) (some y) (the x₁ k) (the y₁ k') = by (ltb x.width y.width) refl
    where
      lower : {a b c : ℕ} → a ≤ b → b < c → a < c
      lower h g = omega arith

      no-higher : {a b c : ℕ} → a ≤ b → b ≤ c → a ≤ c
      no-higher h g = omega arith

      by : (b : Bool) → ltb x.width y.width ≡ b
          → Law ws vs s (elim b as (λ b. Option Candidate) [ true ↦ some (down right y) | false ↦ some (down left x) ])
      by true q = the (down right y) (take_right y k' (λ p xs h g. lower (k.tops p xs h g).0 (ltb-true x.width y.width q)))
      by false q = the (down left x) (take_left x k (λ p xs h g. no-higher (k'.tops p xs h g).0 (ltb-false x.width y.width q)))

pub widest-law : (ws : List ℕ) (vs : List Way) (s : DTree) → Law ws vs s (widest ws vs s)
unfolding widest leaf_ways left_of
widest-law ws vs leaf = by (is_open ws vs) refl
  where
    only : (p : Place) (us : List Way) → leaf_ways p vs leaf ≡ some us → vs ≡ us
    only [] us e = some-injective vs us e
    only (b ∷ p) us e = absurd (none-ne-some _ e)

    at-root : (p : Place) → left_of p [] ≡ true → ⊥
    at-root [] e = true≢false (sym e)
    at-root (b ∷ p) e = true≢false (sym e)

    by : (b : Bool) → is_open ws vs ≡ b
        → Law ws vs leaf (elim b as (λ b. Option Candidate) [ true ↦ some (record { width = leaf_width ws vs; place = []; ways = vs }) | false ↦ none ])
    by true e =
        the (record { width = leaf_width ws vs; place = []; ways = vs })
        (record { there = refl; opened = e; width = refl; tops = λ p us h o. (rw (← (only p us h)) (omega arith), λ b. absurd (at-root p b)) })
    by false e = nothing (λ p us h o. true≢false (sym o ∙ ap (is_open ws) (sym (only p us h)) ∙ e))
widest-law ws vs (inner k l r) =
    either_law ws vs (child k left vs) (child k right vs) (inner k l r) l r refl (λ p. refl) (λ p. refl)
    (widest ws (child k left vs) l) (widest ws (child k right vs) r)
    (widest-law ws (child k left vs) l) (widest-law ws (child k right vs) r)

-- ---- the law settles the leaf

same-side : (b : Side) (p q : Place) → (p ≡ q) ⊎ ((left_of p q ≡ true) ⊎ (left_of q p ≡ true))
    → (b ∷ p ≡ b ∷ q) ⊎ ((left_of (b ∷ p) (b ∷ q) ≡ true) ⊎ (left_of (b ∷ q) (b ∷ p) ≡ true))
unfolding left_of
same-side b p q (inl e) = inl (ap (λ (r : Place). b ∷ r) e)
same-side left p q (inr h) = inr h
same-side right p q (inr h) = inr h

-- Of two leaves one is to the left of the other, or they are one.
pub leaves-apart : (p q : Place) (vs : List Way) (s : DTree) (us xs : List Way) → leaf_ways p vs s ≡ some us → leaf_ways q vs s ≡ some xs
    → (p ≡ q) ⊎ ((left_of p q ≡ true) ⊎ (left_of q p ≡ true))
unfolding leaf_ways left_of
leaves-apart [] [] vs s us xs e h = inl refl
leaves-apart (b ∷ p) q vs leaf us xs e h = absurd (none-ne-some _ e)
leaves-apart [] (c ∷ q) vs leaf us xs e h = absurd (none-ne-some _ h)
leaves-apart [] (c ∷ q) vs (inner k l r) us xs e h = absurd (none-ne-some _ e)
leaves-apart (b ∷ p) [] vs (inner k l r) us xs e h = absurd (none-ne-some _ h)
leaves-apart (left ∷ p) (left ∷ q) vs (inner k l r) us xs e h = same-side left p q (leaves-apart p q (child k left vs) l us xs e h)
leaves-apart (left ∷ p) (right ∷ q) vs (inner k l r) us xs e h = inr (inl refl)
leaves-apart (right ∷ p) (left ∷ q) vs (inner k l r) us xs e h = inr (inr refl)
leaves-apart (right ∷ p) (right ∷ q) vs (inner k l r) us xs e h = same-side right p q (leaves-apart p q (child k right vs) r us xs e h)

-- A leaf that obeys the law is the one that the rule takes.
pub widest-unique : (ws : List ℕ) (vs : List Way) (s : DTree) (x : Candidate) → Leftmost ws vs s x → widest ws vs s ≡ some x
widest-unique ws vs s x k = by (widest ws vs s) refl (widest-law ws vs s)
  where
    by : (o : Option Candidate) → widest ws vs s ≡ o → Law ws vs s o → widest ws vs s ≡ some x
    by none q (nothing g) = absurd (g x.place x.ways k.there k.opened)
    by (some y) q (the y₁ h) = q ∙ ap (λ (z : Candidate). some z) (meet (leaves-apart x.place y.place vs s x.ways y.ways k.there h.there))
      where
        meet : (x.place ≡ y.place) ⊎ ((left_of x.place y.place ≡ true) ⊎ (left_of y.place x.place ≡ true)) → y ≡ x
        meet (inr (inl b)) =
            let m = (h.tops x.place x.ways k.there k.opened).1 b in
            let n = (k.tops y.place y.ways h.there h.opened).0 in
            absurd (omega (arith, m, n, k.width, h.width))
        meet (inr (inr b)) =
            let m = (k.tops y.place y.ways h.there h.opened).1 b in
            let n = (h.tops x.place x.ways k.there k.opened).0 in
            absurd (omega (arith, m, n, k.width, h.width))
        meet (inl q) =
            let m : y.ways ≡ x.ways = some-injective y.ways x.ways (sym h.there ∙ ap (λ (p : Place). leaf_ways p vs s) (sym q) ∙ k.there) in
            λ i. record { width = (h.width ∙ ap (leaf_width ws) m ∙ sym k.width) i; place = sym q i; ways = m i }

-- Where no leaf is open the rule takes none.
pub widest-none : (ws : List ℕ) (vs : List Way) (s : DTree) → NoneOpen ws vs s → widest ws vs s ≡ none
widest-none ws vs s f = by (widest ws vs s) refl (widest-law ws vs s)
  where
    by : (o : Option Candidate) → widest ws vs s ≡ o → Law ws vs s o → widest ws vs s ≡ none
    by none q h = q
    by (some x) q (the x₁ h) = absurd (f x.place x.ways h.there h.opened)

-- ---- the fault named in most ways

-- A fault that is named occurs.
pub named-occurs : (f : ℕ) (vs : List Way) → 0 < named f vs → occurs f vs ≡ true
unfolding named occurs any
named-occurs f [] h = absurd (omega arith)
named-occurs f (v ∷ vs) h = by (bit f (faults v)) h (λ k. named-occurs f vs k)
  where
    by : (b : Bool) → 0 < (elim b as (λ b. ℕ) [ true ↦ suc (named f vs) | false ↦ named f vs ])
        → (0 < named f vs → any (λ u. bit f (faults u)) vs ≡ true) → b || any (λ u. bit f (faults u)) vs ≡ true
    by true h ih = refl
    by false h ih = ih h

-- A fault that occurs is named.
pub occurs-named : (f : ℕ) (vs : List Way) → occurs f vs ≡ true → 0 < named f vs
unfolding named occurs any
occurs-named f [] h = absurd (true≢false (sym h))
occurs-named f (v ∷ vs) h = by (bit f (faults v)) h (λ k. occurs-named f vs k)
  where
    by : (b : Bool) → b || any (λ u. bit f (faults u)) vs ≡ true → (any (λ u. bit f (faults u)) vs ≡ true → 0 < named f vs)
        → 0 < (elim b as (λ b. ℕ) [ true ↦ suc (named f vs) | false ↦ named f vs ])
    by true h ih = omega arith
    by false h ih = ih h

-- None below n is named in more ways.
pub most-named : (n f : ℕ) (vs : List Way) → f < n → named f vs ≤ named (most_named n vs) vs
unfolding most_named
most-named zero f vs h = absurd (omega arith)
most-named (suc n) f vs h = by (ltb (named (most_named n vs) vs) (named n vs)) refl (dec_lt f n) (λ l. most-named n f vs l)
  where
    same : (f < n → ⊥) → f ≡ n
    same q = omega arith

    by : (b : Bool) → ltb (named (most_named n vs) vs) (named n vs) ≡ b → Dec (f < n) → (f < n → named f vs ≤ named (most_named n vs) vs)
        → named f vs ≤ named (elim b as (λ b. ℕ) [ true ↦ n | false ↦ most_named n vs ]) vs
    by true e (yes l) ih = omega (arith, ih l, ltb-true (named (most_named n vs) vs) (named n vs) e)
    by true e (no l) ih = rw (same l) (omega arith)
    by false e (yes l) ih = ih l
    by false e (no l) ih = rw (same l) (omega (arith, ltb-false (named (most_named n vs) vs) (named n vs) e))

-- And every lower fault is named in fewer.
pub lowest-named : (n f : ℕ) (vs : List Way) → f < most_named n vs → named f vs < named (most_named n vs) vs
unfolding most_named
lowest-named zero f vs h = absurd (omega arith)
lowest-named (suc n) f vs h = by (ltb (named (most_named n vs) vs) (named n vs)) refl h (λ l. lowest-named n f vs l)
  where
    by : (b : Bool) → ltb (named (most_named n vs) vs) (named n vs) ≡ b → f < (elim b as (λ b. ℕ) [ true ↦ n | false ↦ most_named n vs ])
        → (f < most_named n vs → named f vs < named (most_named n vs) vs) → named f vs < named (elim b as (λ b. ℕ) [ true ↦ n | false ↦ most_named n vs ]) vs
    by true e l ih = omega (arith, ltb-true (named (most_named n vs) vs) (named n vs) e, most-named n f vs l)
    by false e l ih = ih l
