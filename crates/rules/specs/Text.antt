-- The text that the program prints for a list of bytes read as a sheet (RULES 9).
-- Numbers are decimal, one blank stands between fields, a line feed after each line.
use Rattle.std.specs.Prelude.{true, false, List, [], ◌∷◌, ◌++◌, ℕ, zero, suc, ◌+◌, ◌-◌, ◌*◌, ◌/◌, ◌%◌, length, ltb}
use Prim.Native.Char.{code}
use Prim.Native.String.{String}
use Rattle.rules.specs.Table.{Table}
use Rattle.rules.specs.Tree.{leaf, low, high}
use Rattle.rules.specs.Run.{aim_of, picks, verdict, ran}
use Rattle.rules.specs.Sheet.{Cue, Sheet, table_of, decode, read_number}
use Rattle.rules.specs.declared.Limits.{Limits}
use Rattle.rules.specs.declared.Verdict.{Verdict}
use Rattle.rules.specs.declared.Verdict.TheVariants.{Met, Done, Full, Spent}

-- A quoted text as bytes.
unfoldable pub bytes : String → List ℕ
bytes String.[] = []
bytes (String.◌∷◌ c s) = code c ∷ bytes s

-- A number's decimal digits, the highest first; the first argument bounds how many there are.
unfoldable pub digits : ℕ → ℕ → List ℕ
digits zero n = []
digits (suc k) n = elim (ltb n 10) as (λ b. List ℕ) [ true ↦ (48 + n) ∷ [] | false ↦ digits k (n / 10) ++ (48 + n % 10) ∷ [] ]

-- A number in decimal.
unfoldable pub decimal : ℕ → List ℕ
decimal n = digits (suc n) n

-- The number that digits give behind a number already read: the byte 48 is 0, the highest digit comes first.
unfoldable pub value_after : ℕ → List ℕ → ℕ
value_after n [] = n
value_after n (b ∷ bs) = value_after (10 * n + (b - 48)) bs

-- The number that digits give.
unfoldable pub decimal_value : List ℕ → ℕ
decimal_value bs = value_after 0 bs

-- A verdict's word.
unfoldable pub word : Verdict → List ℕ
word Met = bytes "met"
word Done = bytes "done"
word Full = bytes "full"
word Spent = bytes "spent"

-- The line of a cue: number, low, high, refinements made by one run with the head's limits, verdict.
unfoldable pub line : Limits → List ℕ → Cue → List ℕ
line m ws c =
    let t : Table = table_of ws c in
    let made = picks t (aim_of m) m.budget leaf in
    let s = ran t (aim_of m) m.budget leaf in
    decimal c.number
    ++ bytes " "
    ++ decimal (low t s)
    ++ bytes " "
    ++ decimal (high t s)
    ++ bytes " "
    ++ decimal (length made)
    ++ bytes " "
    ++ word (verdict t (aim_of m) m.budget leaf)
    ++ bytes "\n"

-- The lines of the cues, in contents order.
unfoldable pub lines : Limits → List ℕ → List Cue → List ℕ
lines m ws [] = []
lines m ws (c ∷ cs) = line m ws c ++ lines m ws cs

-- The text of an accepted sheet.
unfoldable pub sheet_text : Sheet → List ℕ
sheet_text s = bytes "cue low high steps verdict\n" ++ lines s.limits s.weights s.cues

unfoldable pub text_by : ℕ → Sheet → List ℕ
text_by zero s = sheet_text s
text_by (suc n) s = bytes "refused " ++ decimal (suc n) ++ bytes "\n"

-- What is printed for any list of bytes.
unfoldable pub text : List ℕ → List ℕ
text bs = text_by (read_number bs) (decode bs)
