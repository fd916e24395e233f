-- The leaves from left to right, where the links are in order: laws say which come below a record and which come after it by the links alone,
-- whatever the depth allowed. Rests on specs/Leaves.antt and specs/Picks.antt.
use mathlib.Core.Path.{◌≡◌, refl, sym, ap, ap₂, ◌∙◌}
use mathlib.Core.List.{List, [], ◌∷◌, ◌++◌, append_assoc, append-nil}
use Prim.Native.Nat.{ℕ, zero, suc, ◌+◌, ◌<◌, ◌≤◌}
use native.Mathlib.Numerals.{add-one}
use native.Mathlib.Omega.{arith}
use native.Mathlib.Decide.{ℕ_discrete}
use lib.Dec.{eqb}
use borrow.Author.Tests.{eq-eqb, ne_eqb}
use Rattle.records.specs.Records.{record_in}
use Rattle.records.specs.declared.Node.{Node}
use Rattle.records.specs.declared.Tree.{Tree}
use Rattle.pick.specs.Picks.{Linked}
use Rattle.std.specs.Prelude.{Some, None}
use Rattle.records.specs.Found.{left_child}
use Rattle.records.proofs.Children.{no_child, a_child}
use Rattle.pick.specs.Leaves.{leaves, beside, after, leaves_at, leaves_after, leaves_from}

-- After the root comes nothing.
after-root : (f used : ℕ) (xs : List Node) → after f used xs 0 ≡ []
unfolding after
after-root zero used xs = refl
after-root (suc f) used xs = refl

module _ {xs : List Node} {used : ℕ} (linked : Linked xs used) where
  -- Children lie behind their parent.
  pub behind : (i : ℕ) → i < used → ((record_in xs i).left ≡ 0 → ⊥) → i < (record_in xs i).left
  behind i h q = let n = linked.inside i h q in omega (arith, linked.up (record_in xs i).left (omega arith) q, linked.backleft i h q)

  -- Any depth that is enough gives the same leaves.
  pub leaves_deep : (f g i : ℕ) → i < used → used ≤ f + i → used ≤ g + i → leaves f xs i ≡ leaves g xs i
  unfolding leaves
  leaves_deep zero g i h a b = absurd (omega arith)
  leaves_deep (suc f) zero i h a b = absurd (omega arith)
  leaves_deep (suc f) (suc g) i h a b = by (leaves_deep f g) (ℕ_discrete (record_in xs i).left 0)
    where
      by : ((j : ℕ) → j < used → used ≤ f + j → used ≤ g + j → leaves f xs j ≡ leaves g xs j) → Dec ((record_in xs i).left ≡ 0)
          → leaves (suc f) xs i ≡ leaves (suc g) xs i
      by ih (yes z) = rw (eq-eqb (record_in xs i).left 0 z, leaves)
      by ih (no q) =
          let n = linked.inside i h q in
          let m = behind i h q in
          rw (ne_eqb (record_in xs i).left 0 q, leaves)
          (ap₂ ◌++◌ (ih (record_in xs i).left (omega arith) (omega arith) (omega arith))
          (ih (suc (record_in xs i).left) (omega arith) (omega arith) (omega arith)))

  -- A leaf stands alone.
  leaf_alone : (i : ℕ) → i < used → (record_in xs i).left ≡ 0 → leaves used xs i ≡ i ∷ []
  unfolding leaves
  leaf_alone i h z = leaves_deep used (suc used) i h (omega arith) (omega arith) ∙ rw (eq-eqb (record_in xs i).left 0 z, leaves)

  -- An inner record has the leaves of its children.
  children_leaves : (i : ℕ) → i < used → ((record_in xs i).left ≡ 0 → ⊥)
      → leaves used xs i ≡ leaves used xs (record_in xs i).left ++ leaves used xs (suc (record_in xs i).left)
  unfolding leaves
  children_leaves i h q = leaves_deep used (suc used) i h (omega arith) (omega arith) ∙ rw (ne_eqb (record_in xs i).left 0 q, leaves)

  -- Any height that is enough gives the same.
  after-high : (f g i : ℕ) → i < used → i < f → i < g → after f used xs i ≡ after g used xs i
  unfolding after
  after-high zero g i h a b = absurd (omega arith)
  after-high (suc f) zero i h a b = absurd (omega arith)
  after-high (suc f) (suc g) i h a b = by (after-high f g) (ℕ_discrete i 0)
    where
      by : ((j : ℕ) → j < used → j < f → j < g → after f used xs j ≡ after g used xs j) → Dec (i ≡ 0) → after (suc f) used xs i ≡ after (suc g) used xs i
      by ih (yes z) = rw (eq-eqb i 0 z, after)
      by ih (no q) =
          let p = linked.up i h q in
          rw (ne_eqb i 0 q, after)
          (ap (λ (r : List ℕ). beside (eqb (record_in xs (record_in xs i).parent).left i) used xs i ++ r)
          (ih (record_in xs i).parent (omega arith) (omega arith) (omega arith)))

  -- To the right of a record that is not the root are its right sibling's leaves, if it is a left child, and what is to the right of its parent.
  after_child : (i : ℕ) → i < used → (i ≡ 0 → ⊥)
      → after used used xs i ≡ beside (eqb (record_in xs (record_in xs i).parent).left i) used xs i ++ after used used xs (record_in xs i).parent
  unfolding after
  after_child i h q = after-high used (suc used) i h h (omega arith) ∙ rw (ne_eqb i 0 q, after)

  -- To the right of a right child, or of its parent.
  after_right : (i : ℕ) → i < used → (i ≡ 0 → ⊥) → ((record_in xs (record_in xs i).parent).left ≡ i → ⊥)
      → after used used xs i ≡ after used used xs (record_in xs i).parent
  after_right i h q n = rw (ne_eqb _ _ n) at (after_child i h q)

  -- To the right of a left child.
  after_left : (i : ℕ) → i < used → (i ≡ 0 → ⊥) → (record_in xs (record_in xs i).parent).left ≡ i
      → after used used xs i ≡ leaves used xs (suc i) ++ after used used xs (record_in xs i).parent
  after_left i h q e = rw (eq-eqb _ _ e) at (after_child i h q)

-- ---- the turns of the loops

module _ {t : Tree} (linked : Linked t.nodes t.used) (i : ℕ) (inside : i < t.used) where
  abbrev x : Node
  x = record_in t.nodes i

  -- An inner record's leaves begin with those of its left child.
  pub down : (x.left ≡ 0 → ⊥) → (x.left < t.used) × (leaves_at t x.left ++ leaves_after t x.left ≡ leaves_at t i ++ leaves_after t i)
  down q =
      let n = linked.inside i inside q in
      let back = linked.backleft i inside q in (
        omega arith,
        ap (λ r. leaves_at t x.left ++ r)
            (after_left linked x.left (omega arith) q (ap (λ j. (record_in t.nodes j).left) back)
            ∙ ap (λ j. leaves_at t (suc x.left) ++ leaves_after t j) back)
            ∙ sym (append_assoc (leaves_at t x.left) (leaves_at t (suc x.left)) (leaves_after t i))
            ∙ ap (λ r. r ++ leaves_after t i) (sym (children_leaves linked i inside q)),
      )

  -- At a leaf the way down ends.
  pub bottom : x.left ≡ 0 → leaves_from t (Some i) ≡ leaves_at t i ++ leaves_after t i
  bottom z = ap (λ r. r ++ leaves_after t i) (sym (leaf_alone linked i inside z))

  module _ (q : i ≡ 0 → ⊥) where
    abbrev above : ℕ
    above = x.parent

    higher : above < i
    higher = linked.up i inside q

    -- To the right of a right child is what is to the right of its parent.
    pub up : ((record_in t.nodes above).left ≡ i → ⊥) → (above < t.used) × (leaves_after t above ≡ leaves_after t i)
    up n = let h = higher in (omega arith, sym (after_right linked i inside q n))

    -- To the right of a left child are the leaves of its right sibling, and then what is to the right of that.
    pub across : (record_in t.nodes above).left ≡ i → (i + 1 < t.used) × (leaves_at t (i + 1) ++ leaves_after t (i + 1) ≡ leaves_after t i)
    across e =
        let h = higher in
        let inner : (record_in t.nodes above).left ≡ 0 → ⊥ = λ z. q (sym e ∙ z) in
        let room : suc i < t.used = rw e at (linked.inside above (omega arith) inner) in
        let back : (record_in t.nodes (suc i)).parent ≡ above = rw e at (linked.backright above (omega arith) inner) in
        let other : (record_in t.nodes (record_in t.nodes (suc i)).parent).left ≡ suc i → ⊥ =
        λ z. omega (arith, e, sym (ap (λ j. (record_in t.nodes j).left) back) ∙ z) in
        rw add-one (
          room,
          ap (λ r. leaves_at t (suc i) ++ r) (after_right linked (suc i) room (λ z. omega (arith, z)) other ∙ ap (leaves_after t) back)
              ∙ sym (after_left linked i inside q e),
        )

-- A record's link down is its left link, if there is one.
module _ {t : Tree} (linked : Linked t.nodes t.used) (i : ℕ) (inside : i < t.used) where
  -- Down to the left child.
  pub down_to : (l : ℕ) → left_child (record_in t.nodes i) ≡ Some l
      → (i < l) × (l < t.used) × (leaves_at t l ++ leaves_after t l ≡ leaves_at t i ++ leaves_after t i)
  down_to l e =
      let (q, same) = a_child (record_in t.nodes i) _ refl l e in
      let d = down linked i inside q in
      rw same (behind linked i inside q, d.0, d.1)

  -- No link down: a leaf.
  pub no_further : left_child (record_in t.nodes i) ≡ None → leaves_from t (Some i) ≡ leaves_at t i ++ leaves_after t i
  no_further e = bottom linked i inside (no_child (record_in t.nodes i) _ refl e)

-- At the root the way up ends.
pub top : (t : Tree) → [] ≡ leaves_after t 0
top t = sym (after-root t.used t.used t.nodes)

-- Below the root are all leaves.
pub all_leaves : (t : Tree) → leaves_at t 0 ++ leaves_after t 0 ≡ leaves_at t 0
all_leaves t = ap (λ r. leaves_at t 0 ++ r) (sym (top t)) ∙ append-nil (leaves_at t 0)
