-- The figures of weights from captures (RULES 14.13), D1 to D50: what logs, sums, weights and comparisons tell, as one list with one claim about it.
-- The checker computes all of them from the definitions. They pin what the theorems leave open: which packet is the first that is judged, what is
-- carried over, which refusal comes first. Rests on specs/ alone.
use Rattle.std.proofs.Common.{◌≡◌, ℕ, Bool, true, ◌&&◌, List, [], ◌∷◌, refl}
use Rattle.std.specs.Prelude.{Result}
use Rattle.std.specs.declared.cmp.Ordering.{Ordering}
use Rattle.rules.specs.Refusals
use Rattle.rules.specs.Sheet
use Rattle.rules.specs.Sheet.{same_numbers}
use Rattle.rules.specs.declared.Refusal.{Refusal}
use Rattle.captures.specs.declared.Fraction.{Fraction}
use Rattle.captures.specs.Logs
use Rattle.captures.specs.Fractions
use Rattle.captures.specs.Logs.{logs_in}
use Rattle.captures.specs.Fractions.{fraction, log_answer, logs_answer, total_answer, fractions_in, weight_answer, compare_answer}
use Rattle.captures.specs.Fractions.{number_told, fraction_told, weight_told, order_told}

-- What the checker computes with.
unfoldable of-captures : Unit {0}
unfolding Refusals.answered Sheet.same_numbers Logs.difference Logs.signed Logs.discards Logs.hear Logs.heard_all Logs.logs_in Fractions.unjudged
    Fractions.beyond Fractions.some_beyond Fractions.fraction_refusals Fractions.fraction_answer Fractions.sum_of Fractions.total_refusals
    Fractions.total_answer Fractions.fractions_in Fractions.weight_of Fractions.weight_refusals Fractions.weight_answer
    Fractions.compare_refusals Fractions.compare_answer
of-captures = tt

-- ---- the form of a figure

-- A call: one log; several, by their lengths and their bytes; the sum of fractions, by two lists; a weight; a comparison.
pub data CaptureCall : Type 0 where
  log : List ℕ → CaptureCall
  logs : List ℕ → List ℕ → CaptureCall
  sum : List ℕ → List ℕ → CaptureCall
  weigh : Fraction → CaptureCall
  compare : Fraction → Fraction → CaptureCall

-- The numbers that a fraction's answer tells.
abbrev fraction_numbers : Result Fraction Refusal → List ℕ
fraction_numbers a = number_told a ∷ (fraction_told a).discarded ∷ (fraction_told a).judged ∷ []

-- Those of a weight's.
abbrev weight_numbers : Result ℕ Refusal → List ℕ
weight_numbers a = number_told a ∷ weight_told a ∷ []

-- Those of a comparison's.
abbrev order_numbers : Result Ordering Refusal → List ℕ
order_numbers a = number_told a ∷ order_told a ∷ []

-- Those of a call.
abbrev told : CaptureCall → List ℕ
told (log bs) = fraction_numbers (log_answer bs)
told (logs ns bs) = fraction_numbers (logs_answer (logs_in ns bs))
told (sum ds js) = fraction_numbers (total_answer (fractions_in ds js))
told (weigh x) = weight_numbers (weight_answer x)
told (compare x y) = order_numbers (compare_answer x y)

-- A figure: a call and the numbers that it is to tell.
record Figure : Type 0 where
  call : CaptureCall
  says : List ℕ

-- A fraction that is counted.
abbrev counts : CaptureCall → ℕ → ℕ → Figure
counts c d j = record { call = c; says = 0 ∷ d ∷ j ∷ [] }

-- A log, a list of logs or a sum that is refused: 0 of 0.
abbrev is_beyond : CaptureCall → Figure
is_beyond c = record { call = c; says = 25 ∷ 0 ∷ 0 ∷ [] }

-- A weight or a comparison that is told.
abbrev gives : CaptureCall → ℕ → Figure
gives c n = record { call = c; says = 0 ∷ n ∷ [] }

-- One that is refused: 0.
abbrev refused_by : ℕ → CaptureCall → Figure
refused_by n c = record { call = c; says = n ∷ 0 ∷ [] }

-- Every figure holds.
abbrev all_hold : List Figure → Bool
all_hold [] = true
all_hold (f ∷ fs) = same_numbers (told f.call) f.says && all_hold fs

-- ---- the figures

-- A log of two packets.
abbrev pair : ℕ → ℕ → CaptureCall
pair last new = log (last ∷ new ∷ [])

-- Each is a call with what it is to tell.
abbrev figures : List Figure
figures =
    -- D1 to D4, the four that the rule is told by: from 10 a 10 and a 247 are discarded, a 246 is accepted; from 250 a 3 is accepted.
    counts (pair 10 10) 1 1
    ∷ counts (pair 10 247) 1 1
    ∷ counts (pair 10 246) 0 1
    ∷ counts (pair 250 3) 0 1
    -- D5 to D10: the ends of what is discarded, and of what eight bits are read as.
    ∷ counts (pair 10 9) 1 1
    ∷ counts (pair 10 11) 0 1
    ∷ counts (pair 0 237) 1 1
    ∷ counts (pair 0 236) 0 1
    ∷ counts (pair 0 128) 0 1
    ∷ counts (pair 0 127) 0 1
    -- D11, D12: an accepted number becomes the last, a discarded one does not.
    ∷ counts (log (10 ∷ 247 ∷ 246 ∷ 246 ∷ [])) 2 3
    ∷ counts (log (1 ∷ 2 ∷ 3 ∷ 3 ∷ 2 ∷ 5 ∷ 250 ∷ 251 ∷ [])) 4 7
    -- D13, D14: the first packet is not judged.
    ∷ counts (log (5 ∷ [])) 0 0
    ∷ counts (log []) 0 0
    -- D15 to D18: several logs. The pair of sums is not reduced, and no number is carried over to the next log.
    ∷ counts (logs (2 ∷ 2 ∷ 0 ∷ []) (10 ∷ 10 ∷ 250 ∷ 3 ∷ [])) 1 2
    ∷ counts (logs [] []) 0 0
    ∷ counts (logs (2 ∷ 2 ∷ []) (10 ∷ 10 ∷ 10 ∷ 10 ∷ [])) 2 2
    ∷ counts (logs (1 ∷ 1 ∷ []) (10 ∷ 10 ∷ [])) 0 0
    -- D19 to D28: sums. Each fraction and the total are judged, and a number that one list lacks is 0.
    ∷ is_beyond (sum (1 ∷ 0 ∷ []) (4000000000 ∷ 1 ∷ []))
    ∷ is_beyond (sum (5 ∷ 0 ∷ []) (4 ∷ 10 ∷ []))
    ∷ counts (sum [] []) 0 0
    ∷ counts (sum (0 ∷ []) (0 ∷ [])) 0 0
    ∷ counts (sum (1 ∷ []) (4000000000 ∷ [])) 1 4000000000
    ∷ counts (sum (2 ∷ 1 ∷ []) (4 ∷ 2 ∷ [])) 3 6
    ∷ is_beyond (sum (5 ∷ []) [])
    ∷ counts (sum [] (7 ∷ [])) 0 7
    ∷ is_beyond (sum (18446744073709551615 ∷ 2 ∷ []) (18446744073709551615 ∷ 2 ∷ []))
    ∷ is_beyond (sum (1 ∷ []) (0 ∷ []))
    -- D29 to D39: weights are rounded up, and 24 comes before 25.
    ∷ gives (weigh (fraction 1 3)) 333333334
    ∷ gives (weigh (fraction 2 3)) 666666667
    ∷ gives (weigh (fraction 0 5)) 0
    ∷ gives (weigh (fraction 3 3)) 1000000000
    ∷ gives (weigh (fraction 1 4000000000)) 1
    ∷ gives (weigh (fraction 4000000000 4000000000)) 1000000000
    ∷ gives (weigh (fraction 3999999999 4000000000)) 1000000000
    ∷ refused_by 24 (weigh (fraction 0 0))
    ∷ refused_by 24 (weigh (fraction 1 0))
    ∷ refused_by 25 (weigh (fraction 1 4000000001))
    ∷ refused_by 25 (weigh (fraction 5 4))
    -- D40 to D48: comparisons, 1 less, 2 equal, 3 greater; 24 over both comes before 25 over either.
    ∷ gives (compare (fraction 1 3) (fraction 2 6)) 2
    ∷ gives (compare (fraction 1 3) (fraction 333333333 1000000000)) 3
    ∷ gives (compare (fraction 3999999999 4000000000) (fraction 3999999998 3999999999)) 3
    ∷ gives (compare (fraction 3999999998 3999999999) (fraction 3999999999 4000000000)) 1
    ∷ gives (compare (fraction 0 7) (fraction 0 9)) 2
    ∷ refused_by 24 (compare (fraction 5 4) (fraction 0 0))
    ∷ refused_by 24 (compare (fraction 0 0) (fraction 5 4))
    ∷ refused_by 25 (compare (fraction 5 4) (fraction 1 2))
    ∷ refused_by 25 (compare (fraction 1 2) (fraction 1 4000000001))
    -- D49, D50: a log of which bytes are lacking has those that are there; bytes behind the last log are no log.
    ∷ counts (logs (2 ∷ 9 ∷ 4 ∷ []) (10 ∷ 10 ∷ 7 ∷ 6 ∷ 8 ∷ [])) 2 3
    ∷ counts (logs (2 ∷ []) (10 ∷ 10 ∷ 10 ∷ [])) 1 1
    ∷ []

-- ALL OF THEM HOLD.
pub capture-figures : all_hold figures ≡ true
unfolding of-captures
capture-figures = refl
