-- A record's left child, if it has one, is its left link. For the proofs of callers.
-- Rests on the definitions of Found.antt.
use mathlib.Core.Path.{◌≡◌, sym, ◌∙◌}
use Prim.Native.Nat.{ℕ}
use native.Mathlib.Decide.{ℕ_discrete}
use borrow.Author.Tests.{eq-eqb, ne_eqb}
use Rattle.std.specs.Prelude.{Option, Some, None}
use Rattle.records.specs.Found.{left_child}
use Rattle.records.specs.declared.Node.{Node}

-- The code found r, the left child of the record n.
module _ (n : Node) (r : Option ℕ) (is : r ≡ left_child n) where
  -- There is none: the link is 0.
  pub no_child : r ≡ None → n.left ≡ 0
  no_child h = by (ℕ_discrete n.left 0) (sym is ∙ h)
    where
      by : Dec (n.left ≡ 0) → left_child n ≡ None → n.left ≡ 0
      by (yes z) e = z
      by (no q) e = absurd (cc (rw (ne_eqb _ 0 q) at e))

  -- There is one: the link is not 0, and the child is its record.
  pub a_child : (l : ℕ) → r ≡ Some l → (n.left ≡ 0 → ⊥) × (l ≡ n.left)
  a_child l h = by (ℕ_discrete n.left 0) (sym is ∙ h)
    where
      by : Dec (n.left ≡ 0) → left_child n ≡ Some l → (n.left ≡ 0 → ⊥) × (l ≡ n.left)
      by (yes z) e = absurd (cc (rw (eq-eqb _ 0 z) at e))
      by (no q) e = (q, sym (cc (rw (ne_eqb _ 0 q) at e)))
