-- A leaf: its remaining ways and its interval (RULES 3).
-- Unlike published d-trees (RULES 12.2): ways are kept in number order, the high end is a plain sum, and every product is rounded.
use Rattle.std.specs.Prelude.{◌≡◌, Bool, true, false, not, ◌&&◌, ◌||◌, List, [], ◌∷◌, ℕ, ◌+◌, ◌-◌, ◌*◌, ◌/◌, min, length, eqb, ltb, leb}
use Rattle.std.specs.Int.Bits.{bit_and, bit_or}
use Rattle.rules.specs.Rounding.{S, flip, over}
use Rattle.rules.specs.declared.Direction.{Direction}
use Rattle.rules.specs.declared.Direction.TheVariants.{Down, Up}
use Rattle.rules.specs.Table.{odd, Way, faults}

-- A test that some way of a list passes.
unfoldable pub any : (Way → Bool) → List Way → Bool
any f [] = false
any f (v ∷ vs) = f v || any f vs

-- The ways of a list whose numbers pass a test.
unfoldable pub select : (ℕ → Bool) → List Way → List Way
select P [] = []
select P (v ∷ vs) = elim (P v.number) as (λ b. List Way) [ true ↦ v ∷ select P vs | false ↦ select P vs ]

-- The number is that of one of the ways.
unfoldable pub has_number : List Way → ℕ → Bool
has_number [] i = false
has_number (v ∷ vs) i = eqb v.number i || has_number vs i

-- The ways of a list whose numbers are those of a set.
abbrev pub of_set : List Way → List Way → List Way
of_set us vs = select (has_number us) vs

-- A fixed fault contradicts the way: fixed present and named absent, or fixed absent and named present.
abbrev pub contradicted : ℕ → ℕ → Way → Bool
contradicted present absent v = not (eqb (bit_or (bit_and v.present absent) (bit_and v.absent present)) 0)

-- A word without the faults of another.
abbrev pub without : ℕ → ℕ → ℕ
without m w = w - bit_and w m

-- A way with some faults dropped.
abbrev pub dropped : ℕ → Way → Way
dropped m v = record { number = v.number; present = without m v.present; absent = without m v.absent }

-- What remains of a set (RULES 3.2): the ways that no fixed fault contradicts, without the fixed faults.
unfoldable pub remaining : ℕ → ℕ → List Way → List Way
remaining present absent [] = []
remaining present absent (v ∷ vs) =
    elim (contradicted present absent v) as (λ b. List Way)
    [ true ↦ remaining present absent vs | false ↦ dropped (bit_or present absent) v ∷ remaining present absent vs ]

-- Ways with some faults left out of each (RULES 4.15).
unfoldable pub drop_all : ℕ → List Way → List Way
drop_all m [] = []
drop_all m (v ∷ vs) = dropped m v ∷ drop_all m vs

-- ---- ways that say nothing new (RULES 3.3, 3.4): they are left out at every leaf, once faults are fixed

-- The ways of a list that pass a test.
unfoldable pub sift : (Way → Bool) → List Way → List Way
sift g [] = []
sift g (v ∷ vs) = elim (g v) as (λ b. List Way) [ true ↦ v ∷ sift g vs | false ↦ sift g vs ]

-- The first way says no more than the second: the second names every fault of the first, in the same sense.
abbrev pub subsumes : Way → Way → Bool
subsumes u v = eqb (without v.present u.present) 0 && eqb (without v.absent u.absent) 0

-- Beside the first way the second says nothing new: the first says no more, and of equal ways it is the lower numbered.
abbrev pub outdoes : Way → Way → Bool
outdoes u v = subsumes u v && (not (subsumes v u) || ltb u.number v.number)

-- Beside some way of the list it says nothing new (RULES 3.3; the standard term is redundant clause).
unfoldable pub redundant : List Way → Way → Bool
redundant vs v = any (λ u. outdoes u v) vs

-- What stays: the redundant ways are left out.
unfoldable pub minimal : List Way → List Way
minimal vs = sift (λ v. not (redundant vs v)) vs

-- Nothing is left to leave out.
abbrev pub Lean : List Way → Type 0
Lean vs = minimal vs ≡ vs

-- One fault of weight w in a way's chance: named present it counts w, named absent S less w, not named it does not count.
abbrev pub step : Direction → ℕ → Bool → Bool → ℕ → ℕ
step d w true absent c = over d (c * w)
step d w false true c = over d (c * (S - w))
step d w false false c = c

-- The faults from the lowest number on, each multiplied in and rounded.
abbrev pub chance_from : Direction → List ℕ → ℕ → ℕ → ℕ → ℕ
chance_from d [] p q c = c
chance_from d (w ∷ ws) p q c = chance_from d ws (p / 2) (q / 2) (step d w (odd p) (odd q) c)

-- A way's low chance (down) or high chance (up).
abbrev pub chance : Direction → List ℕ → Way → ℕ
chance d ws v = chance_from d ws v.present v.absent S

-- Two ways name a common fault, each in either sense.
abbrev pub shares : Way → Way → Bool
shares v u = not (eqb (bit_and (faults v) (faults u)) 0)

-- A way shares a fault with one of a list.
abbrev pub shares_any : Way → List Way → Bool
shares_any v [] = false
shares_any v (u ∷ us) = shares v u || shares_any v us

-- The ways that are kept of a list, in number order, where `before` are the ways kept already.
abbrev pub keep : List Way → List Way → List Way
keep before [] = []
keep before (v ∷ vs) = elim (shares_any v before) as (λ b. List Way) [ true ↦ keep before vs | false ↦ v ∷ keep (v ∷ before) vs ]

-- The kept ways: a maximal set of pairwise independent clauses (RULES 3.10), taken greedily in number order.
abbrev pub kept : List Way → List Way
kept vs = keep [] vs

-- Either of two independent events: S less the product of what is left of S, which is rounded the other way.
abbrev pub either : Direction → ℕ → ℕ → ℕ
either d x y = S - over (flip d) ((S - x) * (S - y))

-- The low chances of ways, taken one after the other as independent events.
abbrev pub either_all : List ℕ → List Way → ℕ → ℕ
either_all ws [] a = a
either_all ws (v ∷ vs) a = either_all ws vs (either Down a (chance Down ws v))

-- Leaf low: the kept ways as independent events, beginning with 0.
abbrev pub leaf_low : List ℕ → List Way → ℕ
leaf_low ws vs = either_all ws (kept vs) 0

-- The sum of the high chances.
abbrev pub chances : List ℕ → List Way → ℕ
chances ws [] = 0
chances ws (v ∷ vs) = chance Up ws v + chances ws vs

-- The high end of a leaf (RULES 3.12): the sum of the high chances, at most S.
abbrev pub leaf_high : List ℕ → List Way → ℕ
leaf_high ws vs = min S (chances ws vs)

-- The low or the high end of a leaf's interval.
abbrev pub leaf_end : Direction → List ℕ → List Way → ℕ
leaf_end Down ws vs = leaf_low ws vs
leaf_end Up ws vs = leaf_high ws vs

-- A leaf's own width.
abbrev pub leaf_width : List ℕ → List Way → ℕ
leaf_width ws vs = leaf_high ws vs - leaf_low ws vs

-- A way that names no fault.
abbrev pub is_empty : Way → Bool
is_empty v = eqb (faults v) 0

-- A leaf is open (RULES 3.13) if at least two ways stay, none is empty, and low is below high; else it is closed.
unfoldable pub is_open : List ℕ → List Way → Bool
is_open ws vs = leb 2 (length vs) && (not (any is_empty vs) && ltb (leaf_low ws vs) (leaf_high ws vs))
