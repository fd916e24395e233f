-- The parts of a sheet that stand one behind the other: the entries of the contents, the weights, the words of ways.
-- Rests on `rules`, Sheet, for the number at a position.
use Rattle.std.specs.Prelude.{List, [], ◌∷◌, ℕ, zero, suc, take, drop}
use Rattle.rules.specs.Sheet.{field}
use Rattle.rules.specs.declared.Entry.{Entry}
use Rattle.rules.specs.declared.Words.{Words}

-- n parts of one kind, each of the next so many bytes.
unfoldable pub parts : {A : Type 0} → (List ℕ → A) → ℕ → ℕ → List ℕ → List A
parts first size zero bs = []
parts first size (suc n) bs = first (take size bs) ∷ parts first size n (drop size bs)

-- The weight that bytes begin with.
abbrev pub weight : List ℕ → ℕ
weight bs = field 4 0 bs

-- The entry that bytes begin with, as it is stated.
abbrev pub stated : List ℕ → Entry
stated bs = record { cue = field 2 0 bs; ways = field 2 2 bs; start = field 4 4 bs }

-- The words of the way that bytes begin with.
abbrev pub words : List ℕ → Words
words bs = record { present = field 8 0 bs; absent = field 8 8 bs }

-- The entries that the contents state for n cues.
abbrev pub stated_in : ℕ → List ℕ → List Entry
stated_in n bs = parts stated 8 n (drop 12 bs)

-- The words of n ways, the first at position i.
abbrev pub words_in : ℕ → ℕ → List ℕ → List Words
words_in i n bs = parts words 16 n (drop i bs)
