-- What the functions of this crate tell of the first line of a text, given by its fields.
-- Rests on `csv_text`, Shapes, and on Scan.antt and Walks.antt.
use Rattle.std.specs.Prelude.{◌≡◌, true, ◌||◌, if◌then◌else◌, List, [], ◌∷◌, ◌++◌, map, take, drop, length, get_or, ℕ, min, ltb, Option, Some, None}
use Rattle.std.specs.Bool.{then_some}
use Rattle.std.specs.Borrow.{Bor}
use Rattle.rules.specs.Sheet.{Cue}
use Rattle.rules.specs.declared.Limits.{Limits}
use Rattle.rules.specs.Text.{decimal_value}
use Rattle.csv_text.specs.Cut.{fields_in}
use Rattle.csv_text.specs.Shapes.{is_mode, is_run, limits_said, is_weights, weights_said, fault_in, is_empty_way, is_names, faults_named, is_row, row_in}
use Rattle.csv_rows.specs.declared.heads.WeightsKept.{WeightsKept}
use Rattle.csv_rows.specs.declared.heads.WeightsSaid.{WeightsSaid}
use Rattle.csv_rows.specs.declared.Named.{Named}
use Rattle.csv_rows.specs.declared.Named.TheVariants.{Near, Far}
use Rattle.csv_rows.specs.declared.Row.{Row}
use Rattle.csv_rows.specs.Scan.{first_line, next_lines}
use Rattle.csv_rows.specs.Walks.{apart, named_in}

-- Fields are read, and they are the last of their record: what they say, and the lines behind them; nothing if they say nothing.
abbrev pub ReadsFields : {A : Type 0} → (List (List ℕ) → Option A) → List (List ℕ) → List ℕ → Option (A × Bor (List ℕ)) → Type 0
ReadsFields says fs lines None = says fs ≡ None
ReadsFields says fs lines (Some r) = (says fs ≡ Some r.0) × (r.1.now ≡ lines)

-- The first line is read.
abbrev pub ReadsLine : {A : Type 0} → (List (List ℕ) → Option A) → List ℕ → Option (A × Bor (List ℕ)) → Type 0
ReadsLine says t r = ReadsFields says (fields_in (first_line t)) (next_lines t) r

-- ---- the limits and the weights

-- The mode, by the fields behind the allowance and the budget.
abbrev pub mode_said : List (List ℕ) → Option ℕ
mode_said fs = then_some (is_mode fs) (decimal_value (get_or fs 0 []))

-- The limits.
abbrev pub run_said : List (List ℕ) → Option Limits
run_said fs = then_some (is_run fs) (limits_said fs)

-- Numbers as a list of smaller ones holds them: every one above m as m.
unfoldable pub cut_all : ℕ → List ℕ → List ℕ
cut_all m xs = map (λ x. min x m) xs

-- The first n weights, cut to 32 bits, and how many there are.
abbrev pub weights_kept : (n : ℕ) → List (List ℕ) → Option (WeightsKept n)
weights_kept n fs =
    then_some (is_weights fs)
    (record { first = record { items = take n (cut_all 4294967295 (weights_said fs)) }; count = length (weights_said fs) })

-- How many weights there are.
abbrev pub weights_counted : List (List ℕ) → Option WeightsSaid
weights_counted fs = then_some (is_weights fs) (record { count = length (weights_said fs) })

-- A list with numbers from its front on, as many as it has room for; behind them it is as it was.
unfoldable pub stored : List ℕ → List ℕ → List ℕ
stored list xs = take (length list) xs ++ drop (length xs) list

-- A list with the weights of the first line, those above m as m, if that is the record of the weights.
abbrev pub Stored : List ℕ → ℕ → List ℕ → List ℕ → Type 0
Stored t m old new =
    is_weights (fields_in (first_line t)) ≡ true → new ≡ stored old (cut_all m (weights_said (fields_in (first_line t))))

-- ---- ways

-- The fields of a way that names faults.
abbrev pub faults_said : List (List ℕ) → Option Named
faults_said fs = then_some (apart fs) (named_in (map fault_in fs))

-- The field of the empty way.
abbrev pub nothing_said : List (List ℕ) → Option Named
nothing_said fs = then_some (is_empty_way fs) (named_in [])

-- The fields of a way of either kind.
abbrev pub way_said : List (List ℕ) → Option Named
way_said fs = then_some (is_names fs) (named_in (faults_named fs))

-- The two words of a way: its faults, unless a word is none of 64 bits and so names a fault that no sheet has.
unfoldable pub named_by : ℕ → ℕ → Named
named_by p q = if ltb 18446744073709551615 p || ltb 18446744073709551615 q then Far else Near (record { present = p; absent = q })

-- The way of a cue by its words, none without words.
unfoldable pub way_by : List ℕ → List ℕ → Option Named
way_by (p ∷ ps) (q ∷ qs) = Some (named_by p q)
way_by ps qs = None

-- A cue of one way or none, as a row.
unfoldable pub row_of : Cue → Row
row_of c = record { cue = c.number; way = way_by c.present c.absent }

-- The record of a way.
abbrev pub row_said : List (List ℕ) → Option Row
row_said fs = then_some (is_row fs) (row_of (row_in fs))
