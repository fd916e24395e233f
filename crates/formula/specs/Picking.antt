-- Picking the ways of a leaf one by one, with one word of the faults already taken (RULES 3.10 to 3.12).
-- Rests on `rules`, Table and Leaf.
use Rattle.std.specs.Prelude.{List, [], ◌∷◌, ℕ}
use Rattle.std.specs.Int.Bits.{bit_or}
use Rattle.rules.specs.Table.{faults}
use Rattle.rules.specs.Leaf.{kept, leaf_low, leaf_high}
use Rattle.rules.specs.declared.Way.{Way}
use Rattle.formula.specs.declared.Picked.{Picked}

-- The faults that ways name, present or absent, as one word.
abbrev pub union : List Way → ℕ
union [] = 0
union (v ∷ vs) = bit_or (faults v) (union vs)

-- The faults that are held after some ways: those that the kept ones among them name.
abbrev pub held : List Way → ℕ
held us = union (kept us)

-- What picking has made of some ways: the faults that are held then, and the two ends of a leaf with these ways.
abbrev pub picked : List ℕ → List Way → Picked
picked ws us = record { held = held us; low = leaf_low ws us; high = leaf_high ws us }
