-- At which position the widest open leaf stands, in any list of records (RULES 10).
-- First the search, then the law that it obeys, which speaks of no search. Rests on the records.
use Rattle.std.specs.Prelude.{◌≡◌, Bool, true, false, ◌&&◌, Option, Some, None, List, map, ◌↔◌, ℕ, ◌<◌, ◌≤◌, length, eqb, ltb}
use Rattle.std.specs.List.{enumerate_from, reduce}
use Rattle.records.specs.Records.{record_in, is_live}
use Rattle.records.specs.Growing.{record_width}
use Rattle.records.specs.Found.{wider}
use Rattle.records.specs.declared.Node.{Node}
use Rattle.records.specs.declared.Found.{Found}

-- ---- the search

-- Whether a record counts: it is marked as an open leaf, and its low is below its high.
unfoldable pub counts : Node → Bool
counts x = eqb x.kind 1 && (is_live x && ltb x.low x.high)

-- The width of a record that counts, 0 of any other.
unfoldable pub counted_width : Node → ℕ
counted_width x = elim (counts x) as (λ b. ℕ) [ true ↦ record_width x | false ↦ 0 ]

-- What a record at its position is to the code's search: itself, if it counts.
unfoldable pub counting : ℕ × Node → Option Found
counting p = elim (counts p.1) as (λ b. Option Found) [ true ↦ Some (record { at = p.0; width = record_width p.1 }) | false ↦ None ]

-- A record at its position, with the width that counts.
abbrev pub counted : ℕ × Node → Found
counted p = record { at = p.0; width = counted_width p.1 }

-- The widest of all records, the first if several are equally wide.
abbrev pub widest_found : List Node → Option Found
widest_found xs = reduce wider (map counted (enumerate_from 0 xs))

-- What the page is told of it: its position, if its width is above 0.
abbrev pub told : Option Found → Option ℕ
told None = None
told (Some best) = elim (ltb 0 best.width) as (λ b. Option ℕ) [ true ↦ Some best.at | false ↦ None ]

-- THE SEARCH over all records.
unfoldable pub widest_of : List Node → Option ℕ
widest_of xs = told (widest_found xs)

-- ---- what it finds

-- A record counts: it is marked as an open leaf, and its low is below its high.
pub record Counts (x : Node) : Type 0 where
  pub leaf : x.kind ≡ 1
  pub live : x.live ≡ 1
  pub below : x.low < x.high

-- Record i is the first of the widest: it counts, every record that counts is at most as wide, and every earlier one is narrower.
pub record FirstWidest (xs : List Node) (i : ℕ) : Type 0 where
  pub inside : i < length xs
  pub counted : Counts (record_in xs i)
  pub widest : (j : ℕ) → j < length xs → Counts (record_in xs j) → record_width (record_in xs j) ≤ record_width (record_in xs i)
  pub first : (j : ℕ) → j < i → Counts (record_in xs j) → record_width (record_in xs j) < record_width (record_in xs i)

-- No record counts.
abbrev pub NoneCounts : List Node → Type 0
NoneCounts xs = (j : ℕ) → j < length xs → Counts (record_in xs j) → ⊥

-- THE LAW: told a position exactly if it is the first of the widest, told that there is none exactly if no record counts.
pub record WidestLaw (xs : List Node) (r : Option ℕ) : Type 0 where
  pub found : (i : ℕ) → (r ≡ Some i) ↔ FirstWidest xs i
  pub nothing : (r ≡ None) ↔ NoneCounts xs
