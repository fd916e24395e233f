-- The leftmost widest open leaf of a tree's records, going by the links, and when the links are in order.
-- Rests on the records; proofs/ shows that a layout's links are in order and that its leftmost widest open leaf is the rules' next.
use Rattle.std.specs.Prelude.{◌≡◌, true, false, Option, Some, None, List, ℕ, zero, suc, ◌<◌, ◌≤◌, eqb}
use Rattle.records.specs.Records.{tree_records, record_in, is_live}
use Rattle.records.specs.Growing.{record_width}
use Rattle.records.specs.Found.{wider}
use Rattle.records.specs.declared.Node.{Node}
use Rattle.records.specs.declared.Found.{Found}

-- ---- the search

-- What the leaf n in record i is to the search: itself, if it is open.
unfoldable pub own_found : ℕ → Node → Option Found
own_found i n = elim (is_live n) as (λ b. Option Found) [ true ↦ Some (record { at = i; width = record_width n }) | false ↦ None ]

-- The wider of two, the left one if they are equally wide.
unfoldable pub wider_of : Option Found → Option Found → Option Found
wider_of None y = y
wider_of (Some x) None = Some x
wider_of (Some x) (Some y) = Some (wider x y)

-- The leftmost widest open leaf at or below record i, at most f records deep.
unfoldable pub pick_from : ℕ → List Node → ℕ → Option Found
pick_from zero xs i = None
pick_from (suc f) xs i =
    elim (eqb (record_in xs i).left 0) as (λ b. Option Found) [
      | true ↦ own_found i (record_in xs i)
      | false ↦ wider_of (pick_from f xs (record_in xs i).left) (pick_from f xs (suc (record_in xs i).left))
    ]

-- That of the whole tree, which is no deeper than it has records.
unfoldable pub pick_of : List Node → Option Found
pick_of xs = pick_from tree_records xs 0

-- ---- the links

-- The links of the records in use are in order: a parent lies before its children, and these stand side by side and point back to it.
pub record Linked (xs : List Node) (used : ℕ) : Type 0 where
  pub some : 0 < used
  pub fits : used ≤ tree_records
  pub up : (i : ℕ) → i < used → (i ≡ 0 → ⊥) → (record_in xs i).parent < i
  pub inside : (i : ℕ) → i < used → ((record_in xs i).left ≡ 0 → ⊥) → suc (record_in xs i).left < used
  pub backleft : (i : ℕ) → i < used → ((record_in xs i).left ≡ 0 → ⊥) → (record_in xs (record_in xs i).left).parent ≡ i
  pub backright : (i : ℕ) → i < used → ((record_in xs i).left ≡ 0 → ⊥) → (record_in xs (suc (record_in xs i).left)).parent ≡ i
