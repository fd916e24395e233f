-- Tables, ways, assignments and the exact sum (RULES 2).
-- A table is a formula in disjunctive normal form over independent Boolean variables, the faults; a way is one of its clauses.
use Rattle.std.specs.Prelude.{Bool, true, false, not, ◌&&◌, ◌||◌, List, [], ◌∷◌, ◌++◌, map, ℕ, zero, suc, ◌+◌, ◌-◌, ◌*◌, ◌/◌, ◌%◌, ◌^◌, ◌≤◌, ◌<◌, length, eqb}
use Rattle.std.specs.Int.Bits.{bit_or}
use Rattle.rules.specs.Rounding.{S}
-- A way: its number, and the words of the faults that it names present and absent.
pub use Rattle.rules.specs.declared.Way.{Way}

-- Bit 0 of a word is set.
abbrev pub odd : ℕ → Bool
odd w = eqb (w % 2) 1

-- Bit i of a word: halve it i times.
abbrev pub bit : ℕ → ℕ → Bool
bit zero w = odd w
bit (suc i) w = bit i (w / 2)

-- A table as it is handed over: a weight for each fault, a present and an absent word for each way.
pub record Table : Type 0 where
  pub weights : List ℕ
  pub present : List ℕ
  pub absent : List ℕ

-- The table of three lists.
abbrev pub table : List ℕ → List ℕ → List ℕ → Table
table ws ps qs = record { weights = ws; present = ps; absent = qs }

-- Ways of which only the absent words are given.
unfoldable pub absent_rows : ℕ → List ℕ → List Way
absent_rows i [] = []
absent_rows i (q ∷ qs) = record { number = i; present = 0; absent = q } ∷ absent_rows (suc i) qs

-- The ways that two lists of words give, numbered from i. A word that one of the lists lacks is 0 (RULES 7.16).
unfoldable pub rows : ℕ → List ℕ → List ℕ → List Way
rows i [] qs = absent_rows i qs
rows i (p ∷ ps) [] = record { number = i; present = p; absent = 0 } ∷ rows (suc i) ps []
rows i (p ∷ ps) (q ∷ qs) = record { number = i; present = p; absent = q } ∷ rows (suc i) ps qs

-- The ways of a table, numbered from 0.
unfoldable pub ways : Table → List Way
ways t = rows 0 t.present t.absent

-- The faults that a way names, present or absent, as a word.
abbrev pub faults : Way → ℕ
faults v = bit_or v.present v.absent

-- An assignment, the standard term is valuation, says of each fault, from fault 0 on, whether it is present.
abbrev pub Assignment : Type 0
Assignment = List Bool

-- A fault in state b satisfies what the two words ask of it.
abbrev pub fits : Bool → Bool → Bool → Bool
fits present absent b = (not present || b) && (not absent || not b)

-- Every fault is as the two words ask.
abbrev pub fits_all : ℕ → ℕ → Assignment → Bool
fits_all p q [] = true
fits_all p q (b ∷ a) = fits (odd p) (odd q) b && fits_all (p / 2) (q / 2) a

-- The assignment satisfies the way.
abbrev pub satisfies : Way → Assignment → Bool
satisfies v a = fits_all v.present v.absent a

-- The assignment satisfies at least one of the ways.
abbrev pub happens : List Way → Assignment → Bool
happens [] a = false
happens (v ∷ vs) a = satisfies v a || happens vs a

-- A fault's weight w where it is present; where it is absent, S less w.
abbrev pub weight_of : ℕ → Bool → ℕ
weight_of w true = w
weight_of w false = S - w

-- The product of the weights of an assignment.
abbrev pub product : List ℕ → Assignment → ℕ
product [] a = 1
product (w ∷ ws) [] = 1
product (w ∷ ws) (b ∷ a) = weight_of w b * product ws a

-- All assignments of n faults.
abbrev pub assignments : ℕ → List Assignment
assignments zero = [] ∷ []
assignments (suc n) = map (λ (a : Assignment). true ∷ a) (assignments n) ++ map (λ (a : Assignment). false ∷ a) (assignments n)

-- 1 for true, 0 for false.
abbrev pub indicator : Bool → ℕ
indicator true = 1
indicator false = 0

-- A sum over a list.
abbrev pub sum : {A : Type 0} → (A → ℕ) → List A → ℕ
sum f [] = 0
sum f (x ∷ xs) = f x + sum f xs

-- The sum of the products over all assignments at which F holds.
unfoldable pub weigh : List ℕ → (Assignment → Bool) → ℕ
weigh ws F = sum (λ (a : Assignment). product ws a * indicator (F a)) (assignments (length ws))

-- The exact sum E (RULES 2.8): over all assignments that satisfy at least one way.
abbrev pub exact : List ℕ → List Way → ℕ
exact ws vs = weigh ws (happens vs)

-- The interval [low, high] encloses the exact sum of the ways: low × S^n ≤ S × E ≤ high × S^n.
pub record Encloses (ws : List ℕ) (vs : List Way) (low high : ℕ) : Type 0 where
  pub below : low * S ^ length ws ≤ S * exact ws vs
  pub above : S * exact ws vs ≤ high * S ^ length ws

-- The chance of the ways is no further than the distance from the figure: (figure − distance) × S^n ≤ S × E ≤ (figure + distance) × S^n.
-- The distance stands on the other side of the first, since it may be more than the figure.
pub record Near (ws : List ℕ) (vs : List Way) (figure distance : ℕ) : Type 0 where
  pub below : figure * S ^ length ws ≤ S * exact ws vs + distance * S ^ length ws
  pub above : S * exact ws vs ≤ (figure + distance) * S ^ length ws

-- The number x / d is within the share of the chance p of the ways: (S − share) × p ≤ S × (x / d) ≤ (S + share) × p, where p is S × E / S^n.
-- Written without fractions, both sides times d and S^n.
pub record InShare (ws : List ℕ) (vs : List Way) (share x d : ℕ) : Type 0 where
  pub below : (S - share) * (S * exact ws vs) * d ≤ S * x * S ^ length ws
  pub above : S * x * S ^ length ws ≤ (S + share) * (S * exact ws vs) * d

-- The number x / d stands in the range from (S − share) × high / S to (S + share) × low / S. Written without fractions, both sides times S and d.
pub record InRange (share low high x d : ℕ) : Type 0 where
  pub positive : 0 < d
  pub from : (S - share) * high * d ≤ S * x
  pub to : S * x ≤ (S + share) * low * d

-- Every number of that range, fractions included, is within the share of the chance of the ways, and there is one.
pub record ShareKept (ws : List ℕ) (vs : List Way) (share low high : ℕ) : Type 0 where
  pub every : (x d : ℕ) → InRange share low high x d → InShare ws vs share x d
  pub some_number : (x : ℕ) × (d : ℕ) × InRange share low high x d
