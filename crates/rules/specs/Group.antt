-- Groups: the connected components of the ways under "shares a fault", followed through any chain (RULES 4.2).
-- The group of the lowest numbered way is found by growing the word of its faults; proofs/Groups.antt shows that this is the component.
use Rattle.std.specs.Prelude.{Bool, true, false, not, List, [], ◌∷◌, ℕ, zero, suc, length, eqb}
use Rattle.std.specs.Bool.{beq}
use Rattle.std.specs.Int.Bits.{bit_and, bit_or}
use Rattle.rules.specs.Table.{Way, faults}

-- The way names one of the faults of the word.
abbrev pub touches : ℕ → Way → Bool
touches m v = not (eqb (bit_and m (faults v)) 0)

-- The word with the faults of a way that it touches.
abbrev pub absorb : ℕ → Way → ℕ
absorb m v = elim (touches m v) as (λ b. ℕ) [ true ↦ bit_or m (faults v) | false ↦ m ]

-- One pass: every way that the word touches adds its faults.
abbrev pub pass : ℕ → List Way → ℕ
pass m [] = m
pass m (v ∷ vs) = pass (absorb m v) vs

-- A number of passes.
abbrev pub passes : ℕ → ℕ → List Way → ℕ
passes zero m vs = m
passes (suc k) m vs = passes k (pass m vs) vs

-- The faults of the group of the lowest numbered way: as many passes as there are ways, which is enough to come to rest.
abbrev pub group_faults : List Way → ℕ
group_faults [] = 0
group_faults (v ∷ vs) = passes (suc (length vs)) (faults v) (v ∷ vs)

-- The ways that the word touches (true), or those that it does not (false).
abbrev pub part : Bool → ℕ → List Way → List Way
part b m [] = []
part b m (v ∷ vs) = elim (beq b (touches m v)) as (λ c. List Way) [ true ↦ v ∷ part b m vs | false ↦ part b m vs ]

-- The group of the lowest numbered way.
abbrev pub group : List Way → List Way
group vs = part true (group_faults vs) vs

-- All other ways.
abbrev pub others : List Way → List Way
others vs = part false (group_faults vs) vs

-- There is a way in the list.
unfoldable pub nonempty : List Way → Bool
nonempty [] = false
nonempty (v ∷ vs) = true

-- The ways fall apart into two groups or more.
unfoldable pub fall_apart : List Way → Bool
fall_apart vs = nonempty (others vs)
