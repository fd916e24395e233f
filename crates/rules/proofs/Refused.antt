-- Which refusals each call tries, in the order of RULES 8.3, and what each says of an input that it is for: worked examples as one list with one claim.
-- The checker computes both from the definitions (RULES 8). Rests on Computing.antt, which names those, and on Paper.antt for the sheet.
use mathlib.Core.Path.{◌≡◌, refl}
use mathlib.Core.Bool.{Bool, true, ◌&&◌}
use mathlib.Core.List.{List, [], ◌∷◌, ◌++◌}
use Prim.Native.Nat.{ℕ}
use lib.ListN.{length, take, drop, replicate}
use lib.Dec.{eqb}
use Rattle.rules.specs.Rounding.{S}
use Rattle.rules.specs.Table.{Table, table}
use Rattle.rules.specs.Tree.{DTree}
use Rattle.rules.specs.Refusals.{Test, number, way_refusals, limit_refusals, table_refusals, table_number}
use Rattle.rules.specs.Calls.{leaf_refusals, hand_refusals, run_refusals}
use Rattle.rules.specs.Sheet.{Lists, little, encode, read_refusals, read_number, lists_refusals, write_refusals, write_number}
use Rattle.rules.specs.declared.Kind.{Kind}
use Rattle.rules.specs.declared.Limits.{Limits}
use Rattle.rules.proofs.Computing.{of-reading, of-writing}
use Rattle.rules.proofs.Paper.{show}

-- ---- the refusals that each call tries, in order (RULES 8.3)

-- The numbers of a list of refusals.
abbrev pub numbers_tried : List Test → List ℕ
numbers_tried [] = []
numbers_tried (x ∷ xs) = number x.refusal ∷ numbers_tried xs

pub reading-concerns : (bs : List ℕ) → numbers_tried (read_refusals bs) ≡ 1 ∷ 2 ∷ 3 ∷ 4 ∷ 5 ∷ 6 ∷ 7 ∷ 8 ∷ 10 ∷ 12 ∷ 13 ∷ 14 ∷ 15 ∷ []
unfolding read_refusals way_refusals limit_refusals
reading-concerns bs = refl

pub opening-concerns : (t : Table) → numbers_tried (table_refusals t) ≡ 9 ∷ 10 ∷ 11 ∷ 12 ∷ 13 ∷ []
unfolding table_refusals way_refusals
opening-concerns t = refl

pub hand-concerns : (t : Table) (bad : Bool) (s : DTree) (bs : List ℕ) (k : Kind)
    → numbers_tried (hand_refusals t bad s bs k) ≡ 9 ∷ 10 ∷ 11 ∷ 12 ∷ 13 ∷ 16 ∷ 17 ∷ 18 ∷ 19 ∷ 20 ∷ []
unfolding hand_refusals leaf_refusals table_refusals way_refusals
hand-concerns t bad s bs k = refl

pub run-concerns : (t : Table) (bad : Bool) (m : Limits) → numbers_tried (run_refusals t bad m) ≡ 3 ∷ 9 ∷ 10 ∷ 11 ∷ 12 ∷ 13 ∷ 14 ∷ 15 ∷ 16 ∷ []
unfolding run_refusals table_refusals way_refusals limit_refusals
run-concerns t bad m = refl

pub writing-concerns : (x : Lists) (space : ℕ) → numbers_tried (write_refusals x space) ≡ 2 ∷ 3 ∷ 5 ∷ 6 ∷ 10 ∷ 12 ∷ 13 ∷ 14 ∷ 15 ∷ 21 ∷ 22 ∷ []
unfolding write_refusals lists_refusals way_refusals limit_refusals
writing-concerns x space = refl

-- ---- worked examples

-- An input with the number that it is to get.
pub data Example : Type 0 where
  opening : List ℕ → List ℕ → List ℕ → ℕ → Example
  reading : List ℕ → ℕ → Example
  writing : Lists → ℕ → ℕ → Example

abbrev right : Example → Bool
right (opening ws ps qs n) = eqb (table_number (table ws ps qs)) n
right (reading bs n) = eqb (read_number bs) n
right (writing x space n) = eqb (write_number x space) n

abbrev all_right : List Example → Bool
all_right [] = true
all_right (x ∷ xs) = right x && all_right xs

-- The sheet of RULES 11.7, with the bytes at position i replaced.
abbrev changed : ℕ → List ℕ → List ℕ
changed i new = take i (encode (show 40)) ++ (new ++ drop (length new) (drop i (encode (show 40))))

-- The lists of that sheet.
abbrev given : Limits → List ℕ → List ℕ → List ℕ → Lists
given m ns ks ps = record { limits = m; weights = 500000000 ∷ 500000000 ∷ 200000000 ∷ []; numbers = ns; counts = ks; present = ps; absent = 0 ∷ 0 ∷ [] }

abbrev usual : Limits
usual = record { allowance = 10000000; budget = 40; mode = 0 }

abbrev in_mode : ℕ → Limits
in_mode k = record { allowance = 10000000; budget = 40; mode = k }

abbrev examples : List Example
examples =
    -- A weight of S, 64 faults and 128 ways are inside the limits; one more is not.
    opening (S ∷ []) (1 ∷ []) (0 ∷ []) 0
    ∷ opening (1000000001 ∷ []) (1 ∷ []) (0 ∷ []) 10
    ∷ opening (replicate 64 1) (9223372036854775808 ∷ []) (0 ∷ []) 0
    ∷ opening (replicate 65 1) [] [] 9
    ∷ opening [] [] [] 9
    ∷ opening (1 ∷ []) (replicate 128 1) (replicate 128 0) 0
    ∷ opening (1 ∷ []) (replicate 129 1) (replicate 129 0) 11
    ∷ opening (1 ∷ []) (1 ∷ []) [] 11
    -- The first listed number wins, each test over the whole input before the next.
    ∷ opening (1000000001 ∷ []) (replicate 129 1) (replicate 129 0) 10
    ∷ opening (1 ∷ 1 ∷ []) (1 ∷ 4 ∷ []) (1 ∷ 0 ∷ []) 12
    ∷ opening (1 ∷ 1 ∷ []) (1 ∷ 2 ∷ []) (0 ∷ 2 ∷ []) 13
    -- The sheet of RULES 11.7, whole, cut short and with single fields changed.
    ∷ reading (encode (show 40)) 0
    ∷ reading (take 11 (encode (show 40))) 1
    ∷ reading (changed 0 (65 ∷ [])) 2
    ∷ reading (changed 2 (25 ∷ [])) 2
    -- The last two bytes of the head, 0 or 1: both count.
    ∷ reading (changed 10 (1 ∷ 0 ∷ [])) 0
    ∷ reading (changed 10 (2 ∷ 0 ∷ [])) 3
    ∷ reading (changed 10 (0 ∷ 1 ∷ [])) 3
    ∷ reading (changed 10 (1 ∷ 1 ∷ [])) 3
    ∷ reading (changed 10 (255 ∷ 255 ∷ [])) 3
    ∷ reading (take 39 (encode (show 40))) 4
    ∷ reading (changed 20 (7 ∷ [])) 5
    ∷ reading (changed 14 (129 ∷ [])) 6
    ∷ reading (changed 24 (71 ∷ [])) 7
    ∷ reading (take 71 (encode (show 40))) 8
    ∷ reading (changed 28 (little 4 1000000001)) 10
    ∷ reading (changed 40 (8 ∷ [])) 12
    ∷ reading (changed 48 (1 ∷ [])) 13
    ∷ reading (changed 4 (little 4 1000000001)) 14
    ∷ reading (encode (show 256)) 15
    -- The writer's own numbers, and a space that is just large enough.
    ∷ writing (given usual (7 ∷ 9 ∷ []) (2 ∷ 0 ∷ []) (3 ∷ 5 ∷ [])) 72 0
    ∷ writing (given usual (7 ∷ 9 ∷ []) (2 ∷ 0 ∷ []) (3 ∷ 5 ∷ [])) 71 22
    ∷ writing (given usual (7 ∷ 9 ∷ []) (1 ∷ 0 ∷ []) (3 ∷ 5 ∷ [])) 72 21
    ∷ writing (given usual (7 ∷ 9 ∷ []) (2 ∷ 0 ∷ []) (3 ∷ 5 ∷ 8 ∷ [])) 72 12
    ∷ writing (given usual [] (2 ∷ []) (3 ∷ [])) 0 2
    -- The mode, 0 or 1, directly after 2: before a cue number of 0.
    ∷ writing (given (in_mode 1) (7 ∷ 9 ∷ []) (2 ∷ 0 ∷ []) (3 ∷ 5 ∷ [])) 72 0
    ∷ writing (given (in_mode 2) (0 ∷ 9 ∷ []) (2 ∷ 0 ∷ []) (3 ∷ 5 ∷ [])) 72 3
    ∷ writing (given (in_mode 2) [] (2 ∷ []) (3 ∷ [])) 0 2
    ∷ writing (given (in_mode 65537) (7 ∷ 9 ∷ []) (2 ∷ 0 ∷ []) (3 ∷ 5 ∷ [])) 72 3
    ∷ []

-- EVERY EXAMPLE GETS ITS NUMBER.
pub refused-by-number : all_right examples ≡ true
unfolding of-reading of-writing
refused-by-number = refl
