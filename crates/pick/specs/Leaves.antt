-- The leaves of a tree's records from left to right, going by the links.
-- Rests on the records alone.
use Rattle.std.specs.Prelude.{Bool, true, false, Option, Some, None, List, [], ◌∷◌, ◌++◌, ℕ, zero, suc, eqb}
use Rattle.records.specs.Records.{record_in}
use Rattle.records.specs.declared.Node.{Node}
use Rattle.records.specs.declared.Tree.{Tree}

-- The records of the leaves at or below record i, from left to right, at most f records deep.
unfoldable pub leaves : ℕ → List Node → ℕ → List ℕ
leaves zero xs i = []
leaves (suc f) xs i =
    elim (eqb (record_in xs i).left 0) as (λ b. List ℕ)
    [ true ↦ i ∷ [] | false ↦ leaves f xs (record_in xs i).left ++ leaves f xs (suc (record_in xs i).left) ]

-- Those of the right sibling come after those of a left child.
abbrev pub beside : Bool → ℕ → List Node → ℕ → List ℕ
beside true used xs i = leaves used xs (suc i)
beside false used xs i = []

-- The records of the leaves to the right of record i, at most f records high.
unfoldable pub after : ℕ → ℕ → List Node → ℕ → List ℕ
after zero used xs i = []
after (suc f) used xs i =
    elim (eqb i 0) as (λ b. List ℕ)
    [ true ↦ [] | false ↦ beside (eqb (record_in xs (record_in xs i).parent).left i) used xs i ++ after f used xs (record_in xs i).parent ]

-- The records of the leaves at or below record i of a tree, which is no deeper than it has records in use.
abbrev pub leaves_at : Tree → ℕ → List ℕ
leaves_at t i = leaves t.used t.nodes i

-- Of those to the right of record i.
abbrev pub leaves_after : Tree → ℕ → List ℕ
leaves_after t i = after t.used t.used t.nodes i

-- From the leaf in record i on, if there is one.
abbrev pub leaves_from : Tree → Option ℕ → List ℕ
leaves_from t None = []
leaves_from t (Some i) = i ∷ leaves_after t i

-- Record i of a tree, with its index.
abbrev pub placed : Tree → ℕ → ℕ × Node
placed t i = (i, record_in t.nodes i)
