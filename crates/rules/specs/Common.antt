-- The common part: the faults that all ways of a leaf name in the same sense (RULES 4.15), which an independent-and node takes out.
-- proofs/Common.antt shows that it is exactly those, and that what is left of the lowest numbered way is the common part.
use Rattle.std.specs.Prelude.{List, [], ◌∷◌, ℕ}
use Rattle.std.specs.Int.Bits.{bit_and, bit_or}
use Rattle.rules.specs.Table.{Way, faults}
use Rattle.rules.specs.Leaf.{without}

-- What a word has in common with a word of each way.
unfoldable pub meet_from : (Way → ℕ) → ℕ → List Way → ℕ
meet_from g m [] = m
meet_from g m (v ∷ vs) = meet_from g (bit_and m (g v)) vs

-- What the words of all ways have in common; 0 if there is no way.
unfoldable pub meet : (Way → ℕ) → List Way → ℕ
meet g [] = 0
meet g (v ∷ vs) = meet_from g (g v) vs

-- The faults that all ways name present.
abbrev pub all_present : List Way → ℕ
all_present vs = meet (λ v. v.present) vs

-- The faults that all ways name absent.
abbrev pub all_absent : List Way → ℕ
all_absent vs = meet (λ v. v.absent) vs

-- The common part, as a word of faults.
unfoldable pub shared : List Way → ℕ
shared vs = bit_or (all_present vs) (all_absent vs)

-- The lowest numbered way, by itself.
unfoldable pub lowest : List Way → List Way
lowest [] = []
lowest (v ∷ vs) = v ∷ []

-- The faults that the lowest numbered way names besides the common part.
unfoldable pub spare : List Way → ℕ
spare [] = 0
spare (v ∷ vs) = without (shared (v ∷ vs)) (faults v)
