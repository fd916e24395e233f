-- What is handed over of a cue: its body as a part of the sheet's bytes, and its table as arrays of fixed length.
-- Each is defined for every entry, also one that does not come from the bytes. Rests on `rules`, Sheet.
use Rattle.std.specs.Prelude.{◌≡◌, ◌≤◌, Bool, true, false, List, [], ◌∷◌, ℕ, zero, suc, ◌+◌, ◌*◌, length, leb, take}
use Rattle.rules.specs.Sheet.{column, weights_in, body_in}
use Rattle.rules.specs.Table.{Table}
use Rattle.rules.specs.declared.Entry.{Entry}
use Rattle.sheet.specs.declared.table.TableArrays.{TableArrays}

unfoldable pub body_by : Bool → List ℕ → List ℕ
body_by true body = body
body_by false body = []

-- The body of an entry where it lies inside the bytes, otherwise none of them.
unfoldable pub body_or : List ℕ → Entry → List ℕ
body_or bs e = body_by (leb (e.start + 16 * e.ways) (length bs)) (body_in bs e)

-- The first m numbers of a list, 0 for those that it lacks.
unfoldable pub sized : ℕ → List ℕ → List ℕ
sized zero xs = []
sized (suc m) [] = 0 ∷ sized m []
sized (suc m) (x ∷ xs) = x ∷ sized m xs

-- The sheet's weights and the words of an entry's body: at most 64 and 128 of each.
unfoldable pub table_at : List ℕ → Entry → Table
table_at bs e =
    record {
      weights = take 64 (weights_in bs);
      present = take 128 (column 8 16 e.start e.ways bs);
      absent = take 128 (column 8 16 (e.start + 8) e.ways bs);
    }

-- The table that is handed over by value: the weights and the words in use.
abbrev pub as_table : TableArrays → Table
as_table t = record { weights = take t.faults t.weights; present = take t.ways t.present; absent = take t.ways t.absent }

-- The weights of the one are those of the other, to the last number of their arrays.
abbrev pub SameWeights : TableArrays → TableArrays → Type 0
SameWeights t u = (t.faults ≡ u.faults) × (t.weights ≡ u.weights)

-- The ways of the one are those of the other, to the last word of their arrays.
abbrev pub SameWays : TableArrays → TableArrays → Type 0
SameWays t u = (t.ways ≡ u.ways) × (t.present ≡ u.present) × (t.absent ≡ u.absent)

-- A table handed over for an entry: which it is, and that its arrays have zeros behind it, so that they can be told whole.
pub record HandedOver (bs : List ℕ) (e : Entry) (t : TableArrays) : Type 0 where
  pub table : as_table t ≡ table_at bs e
  pub faults : t.faults ≤ 64
  pub ways : t.ways ≤ 128
  pub weights : t.weights ≡ sized 64 (weights_in bs)
  pub present : t.present ≡ sized 128 (column 8 16 e.start e.ways bs)
  pub absent : t.absent ≡ sized 128 (column 8 16 (e.start + 8) e.ways bs)
