-- The refusals 1 to 22, but for 16 to 18 and 20, which Calls.antt has: each a test over the whole input, defined once (RULES 8.2).
-- A call's refusals are one ordered list of tests; the first that applies gives the answer and its number.
use Rattle.std.specs.Prelude.{◌≡◌, Bool, true, false, not, ◌&&◌, ◌||◌, List, [], ◌∷◌, ℕ, ◌^◌, length, eqb, ltb, leb, Result, Ok, Err}
use Rattle.std.specs.Int.Bits.{bit_and}
use Rattle.rules.specs.Rounding.{S}
use Rattle.rules.specs.Table.{Way, Table, ways}
use Rattle.rules.specs.Leaf.{any}
use Rattle.rules.specs.declared.Limits.{Limits}
use Rattle.rules.specs.declared.Refusal.{Refusal}

-- The number of a refusal (RULES 8.2).
abbrev pub number : Refusal → ℕ
number Refusal.NoHead = 1
number Refusal.CountsOutside = 2
number Refusal.ModeAbove = 3
number Refusal.TooShort = 4
number Refusal.NotRising = 5
number Refusal.Crowded = 6
number Refusal.Misplaced = 7
number Refusal.WrongLength = 8
number Refusal.FaultsOutside = 9
number Refusal.Overweight = 10
number Refusal.WordsAmiss = 11
number Refusal.NamesBeyond = 12
number Refusal.NamesBoth = 13
number Refusal.AllowanceAbove = 14
number Refusal.BudgetAbove = 15
number Refusal.NotGood = 16
number Refusal.NoLeaf = 17
number Refusal.Closed = 18
number Refusal.Full = 19
number Refusal.Impossible = 20
number Refusal.Disagree = 21
number Refusal.NoRoom = 22
number Refusal.Misread = 23
number Refusal.Unjudged = 24
number Refusal.Beyond = 25

-- A test of a call: the refusal, and whether it applies.
pub record Test : Type 0 where
  pub refusal : Refusal
  pub applies : Bool

abbrev pub test : Refusal → Bool → Test
test r b = record { refusal = r; applies = b }

-- The number of the first refusal that applies, 0 if none does.
unfoldable pub first : List Test → ℕ
first [] = 0
first (x ∷ xs) = elim x.applies as (λ b. ℕ) [ true ↦ number x.refusal | false ↦ first xs ]

-- What a call answers: the first refusal that applies, or what it is called for if none does.
unfoldable pub answered : {A : Type 0} → List Test → A → Result A Refusal
answered [] a = Ok a
answered {A} (x ∷ xs) a = elim x.applies as (λ b. Result A Refusal) [ true ↦ Err x.refusal | false ↦ answered xs a ]

-- ---- tests on numbers and lists, for tables, sheets and the writer alike

-- 2 and 9: a number of faults that is 0 or above 64.
unfoldable pub faults_outside : ℕ → Bool
faults_outside n = eqb n 0 || ltb 64 n

-- 2: a number of cues that is 0 or above 24.
unfoldable pub cues_outside : ℕ → Bool
cues_outside n = eqb n 0 || ltb 24 n

-- Some number of a list is above a limit.
unfoldable pub some_above : ℕ → List ℕ → Bool
some_above limit [] = false
some_above limit (x ∷ xs) = ltb limit x || some_above limit xs

-- Each number of a list is above the one before it, and the first above n.
unfoldable pub rising : ℕ → List ℕ → Bool
rising n [] = true
rising n (x ∷ xs) = ltb n x && rising x xs

-- 5: the first cue number is 0, or some number is not above the one before it.
unfoldable pub not_rising : List ℕ → Bool
not_rising numbers = not (rising 0 numbers)

-- 6: a way count is above 128.
unfoldable pub crowded : List ℕ → Bool
crowded counts = some_above 128 counts

-- 10: a weight is above S.
unfoldable pub overweight : List ℕ → Bool
overweight weights = some_above S weights

-- 11: more than 128 present words, or not as many absent words.
unfoldable pub words_amiss : List ℕ → List ℕ → Bool
words_amiss present absent = ltb 128 (length present) || not (eqb (length present) (length absent))

-- 12: a way names a fault numbered n or above, where n is how many there are.
unfoldable pub names_beyond : ℕ → List Way → Bool
names_beyond n vs = any (λ v. leb (2 ^ n) v.present || leb (2 ^ n) v.absent) vs

-- 13: a way names a fault in both senses.
unfoldable pub names_both : List Way → Bool
names_both vs = any (λ v. not (eqb (bit_and v.present v.absent) 0)) vs

-- 3: the mode is above 1.
unfoldable pub mode_above : Limits → Bool
mode_above m = ltb 1 m.mode

-- 14: the allowance is above S.
unfoldable pub allowance_above : Limits → Bool
allowance_above m = ltb S m.allowance

-- 15: the budget is above 255.
unfoldable pub budget_above : Limits → Bool
budget_above m = ltb 255 m.budget

-- ---- groups of refusals that several calls have in common

-- 12 and 13, each over all ways before the next.
unfoldable pub way_refusals : ℕ → List Way → List Test
way_refusals n vs = test Refusal.NamesBeyond (names_beyond n vs) ∷ test Refusal.NamesBoth (names_both vs) ∷ []

-- 14 and 15.
unfoldable pub limit_refusals : Limits → List Test
limit_refusals m = test Refusal.AllowanceAbove (allowance_above m) ∷ test Refusal.BudgetAbove (budget_above m) ∷ []

-- Opening a table: 9 to 13.
unfoldable pub table_refusals : Table → List Test
table_refusals t =
    test Refusal.FaultsOutside (faults_outside (length t.weights))
    ∷ test Refusal.Overweight (overweight t.weights)
    ∷ test Refusal.WordsAmiss (words_amiss t.present t.absent)
    ∷ way_refusals (length t.weights) (ways t)

-- The number of a table handed over directly.
unfoldable pub table_number : Table → ℕ
table_number t = first (table_refusals t)

-- The table is inside the listed limits.
abbrev pub Accepted : Table → Type 0
Accepted t = table_number t ≡ 0
