-- The first field of a text: what the functions that read it tell of it, and of what is left behind it.
-- Rests on Scan.antt and on `csv_text`, Cut and Shapes.
use Rattle.std.specs.Prelude.{◌≡◌, ◌≢◌, ◌⊎◌, List, [], ◌∷◌, ◌++◌, ℕ, Option, Some, None, get_or}
use Rattle.std.specs.Bool.{then_some}
use Rattle.std.specs.Borrow.{Bor}
use Rattle.rules.specs.Sheet.{same_numbers}
use Rattle.rules.specs.Text.{decimal_value}
use Rattle.decimal.specs.Numerals.{is_numeral}
use Rattle.csv_text.specs.Cut.{raw_fields, unquoted, fields_in}
use Rattle.csv_text.specs.declared.Fault.{Fault}
use Rattle.csv_text.specs.Shapes.{signed, unsigned, is_fault, fault_in}
use Rattle.csv_rows.specs.declared.fields.Rest.{Rest}
use Rattle.csv_rows.specs.declared.fields.Signed.{Signed}
use Rattle.csv_rows.specs.declared.fields.Rest.TheVariants.{Fields, Lines}
use Rattle.csv_rows.specs.Scan.{first_line, next_lines}

-- ---- what a field says, if it is one of its kind

-- A number.
abbrev pub numeral_said : List ℕ → Option ℕ
numeral_said f = then_some (is_numeral f) (decimal_value f)

-- A number, perhaps behind a minus.
abbrev pub signed_said : List ℕ → Option Signed
signed_said f = then_some (is_numeral (unsigned f)) (record { value = decimal_value (unsigned f); absent = signed f })

-- A fault.
abbrev pub fault_said : List ℕ → Option Fault
fault_said f = then_some (is_fault f) (fault_in f)

-- A word, which says no more.
abbrev pub word_said : List ℕ → List ℕ → Option (Unit {0})
word_said w f = then_some (same_numbers f w) tt

-- No comma, no quote, no CR.
abbrev pub Plain : List ℕ → Type 0
Plain [] = Unit {0}
Plain (b ∷ f) = (b ≡ 13 → ⊥) × (b ≡ 34 → ⊥) × (b ≡ 44 → ⊥) × Plain f

-- Only of plain bytes something is said.
abbrev pub SaysPlain : {A : Type 0} → (List ℕ → Option A) → Type 0
SaysPlain says = (f : List ℕ) (x : _) → says f ≡ Some x → Plain f

-- ---- bytes at the front of a text

-- The longest front of a text of which something is said, and what is left behind it.
pub record Longest {A : Type 0} (says : List ℕ → Option A) (t : List ℕ) (x : A) (rest : List ℕ) : Type 0 where
  pub front : List ℕ
  pub whole : t ≡ front ++ rest
  pub said : says front ≡ Some x
  pub longest : (b : ℕ) (p s : List ℕ) → rest ≡ b ∷ p ++ s → says (front ++ b ∷ p) ≡ None

-- That is what was read, or of no front anything is said.
abbrev pub Front : {A : Type 0} → (List ℕ → Option A) → List ℕ → Option (A × Bor (List ℕ)) → Type 0
Front says t None = (p s : List ℕ) → t ≡ p ++ s → says p ≡ None
Front says t (Some r) = Longest says t r.0 r.1.now

-- ---- the first field

-- Its bytes, with its quotes.
unfoldable pub first_piece : List ℕ → List ℕ
first_piece t = get_or (raw_fields (first_line t)) 0 []

-- The field itself.
unfoldable pub first_field : List ℕ → List ℕ
first_field t = unquoted (first_piece t)

-- The fields that are left of its record.
abbrev pub fields_left : Rest → List (List ℕ)
fields_left (Fields t) = fields_in (first_line t.now)
fields_left (Lines t) = []

-- The lines behind that record.
abbrev pub lines_left : Rest → List ℕ
lines_left (Fields t) = next_lines t.now
lines_left (Lines t) = t.now

-- The bytes that are left.
abbrev pub bytes_left : Rest → List ℕ
bytes_left (Fields t) = t.now
bytes_left (Lines t) = t.now

-- Further fields are left, or none.
abbrev pub FieldsIf : Rest → Option (Bor (List ℕ)) → Type 0
FieldsIf r None = fields_left r ≡ []
FieldsIf r (Some t) = (fields_left r ≡ fields_in (first_line t.now)) × (lines_left r ≡ next_lines t.now) × (bytes_left r ≡ t.now)

-- None is left, but the lines behind the record; or some is.
abbrev pub LinesIf : Rest → Option (Bor (List ℕ)) → Type 0
LinesIf r None = fields_left r ≢ []
LinesIf r (Some t) = (fields_left r ≡ []) × (lines_left r ≡ t.now)

-- What is left of a text stands in it behind the bytes p and a comma, or behind them and CR LF; or the text ends with them, and no byte is left.
abbrev pub Behind : List ℕ → List ℕ → Rest → Type 0
Behind t p (Fields s) = t ≡ p ++ 44 ∷ s.now
Behind t p (Lines s) = (t ≡ p ++ 13 ∷ 10 ∷ s.now) ⊎ ((t ≡ p) × (s.now ≡ []))

-- What is left behind the first field of a text: which fields and lines, and which bytes of it.
pub record Passed (t : List ℕ) (r : Rest) : Type 0 where
  pub fields : fields_in (first_line t) ≡ first_field t ∷ fields_left r
  pub lines : next_lines t ≡ lines_left r
  pub left : Behind t (first_piece t) r

-- A field ends at the front of a text, or goes on there.
abbrev pub Ended : List ℕ → Option Rest → Type 0
Ended t None = first_piece t ≢ []
Ended t (Some r) = (first_piece t ≡ []) × Passed t r

-- The first field is read: what is said of it, and what is left behind it; nothing if nothing is said of it.
abbrev pub Reads : {A : Type 0} → (List ℕ → Option A) → List ℕ → Option (A × Rest) → Type 0
Reads says t None = says (first_field t) ≡ None
Reads says t (Some r) = (says (first_field t) ≡ Some r.0) × Passed t r.1
