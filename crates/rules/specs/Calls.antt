-- The calls on a tree: opening, hand refinement and run, and whole lists of calls (RULES 5, 8).
-- Everything is worked out from the table, the series of refinements made so far and the call's arguments; nothing is read off records.
use Rattle.std.specs.Prelude.{Result, Bool, true, false, not, List, [], ◌∷◌, ◌++◌, ℕ, zero, suc, ◌+◌, length, eqb, ltb}
use Rattle.std.proofs.Math.Option.{Option, none, some}
use Rattle.rules.specs.Table.{Way, Table}
use Rattle.rules.specs.Leaf.{is_open}
use Rattle.rules.specs.Tree.{Side, left, right, Place, DTree, leaf, possible, root_ways, low, high, roomy, Refinement, grow, tree, leaf_ways}
use Rattle.rules.specs.Run.{aim_of, picks, verdict, figure}
use Rattle.rules.specs.Refusals.{Test, test, first, answered, mode_above, table_refusals, limit_refusals}
use Rattle.rules.specs.Answers.{Reply, answer_reply, run_reply}
use Rattle.rules.specs.declared.Kind.{Kind}
use Rattle.rules.specs.declared.Verdict.{Verdict}
use Rattle.rules.specs.declared.Limits.{Limits}
use Rattle.rules.specs.declared.Aim.{Aim}
use Rattle.rules.specs.declared.Figures.{Figures}
use Rattle.rules.specs.declared.Ended.{Ended}
use Rattle.rules.specs.declared.Refusal.{Refusal}

-- ---- a place as it is handed over

-- A step in front of a place.
unfoldable pub step_to : Side → Option Place → Option Place
step_to b none = none
step_to b (some p) = some (b ∷ p)

-- A place from its bytes: 0 is left, 1 is right; any other byte names no place.
unfoldable pub place_of : List ℕ → Option Place
place_of [] = some []
place_of (b ∷ bs) =
    elim (eqb b 0) as (λ x. Option Place)
    [ true ↦ step_to left (place_of bs) | false ↦ elim (eqb b 1) as (λ x. Option Place) [ true ↦ step_to right (place_of bs) | false ↦ none ] ]

-- The byte of a step.
abbrev pub side_byte : Side → ℕ
side_byte left = 0
side_byte right = 1

-- A place as bytes.
unfoldable pub place_bytes : Place → List ℕ
place_bytes [] = []
place_bytes (b ∷ p) = side_byte b ∷ place_bytes p

-- The remaining ways of the leaf that the bytes name, if they name one.
unfoldable pub leaf_named : Table → DTree → List ℕ → Option (List Way)
leaf_named t s bs = elim (place_of bs) as (λ o. Option (List Way)) [ none ↦ none | some p ↦ leaf_ways p (root_ways t) s ]

-- ---- refusals

-- 17: the place has more than 64 steps, or no leaf is there.
unfoldable pub no_leaf : List ℕ → Option (List Way) → Bool
no_leaf bs none = true
no_leaf bs (some vs) = ltb 64 (length bs)

-- A test on the leaf; where there is none, 17 has applied before.
unfoldable pub of_leaf : (List Way → Bool) → Option (List Way) → Bool
of_leaf f none = false
of_leaf f (some vs) = f vs

-- 17 to 20, of the leaf that the bytes name in this tree.
unfoldable pub leaf_refusals : Table → DTree → List ℕ → Kind → Option (List Way) → List Test
leaf_refusals t s bs k o =
    test Refusal.NoLeaf (no_leaf bs o)
    ∷ test Refusal.Closed (of_leaf (λ vs. not (is_open t.weights vs)) o)
    ∷ test Refusal.Full (not (roomy s))
    ∷ test Refusal.Impossible (of_leaf (λ vs. not (possible k vs)) o)
    ∷ []

-- Refining by hand: 9 to 13, then 16 to 20. `bad` says that the tree is not good for this table (16).
unfoldable pub hand_refusals : Table → Bool → DTree → List ℕ → Kind → List Test
hand_refusals t bad s bs k = table_refusals t ++ (test Refusal.NotGood bad ∷ leaf_refusals t s bs k (leaf_named t s bs))

-- A run: 3, then 9 to 16.
unfoldable pub run_refusals : Table → Bool → Limits → List Test
run_refusals t bad m = test Refusal.ModeAbove (mode_above m) ∷ (table_refusals t ++ (limit_refusals m ++ test Refusal.NotGood bad ∷ []))

unfoldable pub hand_number : Table → Bool → DTree → List ℕ → Kind → ℕ
hand_number t bad s bs k = first (hand_refusals t bad s bs k)

unfoldable pub run_number : Table → Bool → Limits → ℕ
run_number t bad m = first (run_refusals t bad m)

-- ---- what an accepted call does

-- The one refinement that a hand refinement names.
unfoldable pub hand_makes : List ℕ → Kind → List Refinement
hand_makes bs k = elim (place_of bs) as (λ o. List Refinement) [ none ↦ [] | some p ↦ record { place = p; kind = k } ∷ [] ]

-- The refinements that a run's rule picks.
unfoldable pub run_makes : Table → DTree → Limits → List Refinement
run_makes t s m = picks t (aim_of m) m.budget s

-- The interval then at the root, and the number of refinements made.
unfoldable pub figures : Table → DTree → List Refinement → Figures
figures t s ns = record { low = low t (grow s ns); high = high t (grow s ns); count = length ns }

-- ---- the answers

-- A run that ended: its verdict, its figures, and the one figure that is shown for them.
abbrev pub ended : Aim → Verdict → Figures → Ended
ended aim v f = record { verdict = v; figures = f; figure = figure aim f.low f.high }

-- An opening: the root leaf alone, count 0.
unfoldable pub open_answer : Table → Result Figures Refusal
open_answer t = answered (table_refusals t) (figures t leaf [])

-- A hand refinement on a tree.
unfoldable pub hand_answer : Table → Bool → DTree → List ℕ → Kind → Result Figures Refusal
hand_answer t bad s bs k = answered (hand_refusals t bad s bs k) (figures t s (hand_makes bs k))

-- A run on a tree.
unfoldable pub run_answer : Table → Bool → DTree → Limits → Result Ended Refusal
run_answer t bad s m = answered (run_refusals t bad m) (ended (aim_of m) (verdict t (aim_of m) m.budget s) (figures t s (run_makes t s m)))

-- What a call makes, by its number: a refused call makes nothing.
unfoldable pub makes_by : ℕ → List Refinement → List Refinement
makes_by zero ns = ns
makes_by (suc n) ns = []

-- ---- lists of calls, by the rules alone

-- A call after the opening, with its arguments.
pub data Call : Type 0 where
  by_hand : List ℕ → Kind → Call
  by_run : Limits → Call

-- What a call hands back.
pub data Outcome : Type 0 where
  handed : Result Figures Refusal → Outcome
  ran : Result Ended Refusal → Outcome

-- As number, interval and count (RULES 8.4, 8.6).
abbrev pub reply : Outcome → Reply
reply (handed a) = answer_reply a
reply (ran a) = run_reply a

-- The number of a call on a tree that this table and some series gave: 16 does not apply.
unfoldable pub call_number : Table → DTree → Call → ℕ
call_number t s (by_hand bs k) = hand_number t false s bs k
call_number t s (by_run m) = run_number t false m

-- What the call hands back.
unfoldable pub outcome : Table → DTree → Call → Outcome
outcome t s (by_hand bs k) = handed (hand_answer t false s bs k)
outcome t s (by_run m) = ran (run_answer t false s m)

-- The refinements that a call would make if it is accepted.
unfoldable pub would_make : Table → DTree → Call → List Refinement
would_make t s (by_hand bs k) = hand_makes bs k
would_make t s (by_run m) = run_makes t s m

-- The refinements that a call adds: none if it is refused.
unfoldable pub makes : Table → DTree → Call → List Refinement
makes t s c = makes_by (call_number t s c) (would_make t s c)

-- The refinements noted along a list of calls, after those noted before.
unfoldable pub noted_from : Table → List Refinement → List Call → List Refinement
noted_from t ns [] = ns
noted_from t ns (c ∷ cs) = noted_from t (ns ++ makes t (tree ns) c) cs

-- The refinements noted along a list of calls after an accepted opening: none at first.
abbrev pub noted : Table → List Call → List Refinement
noted t cs = noted_from t [] cs

-- What the calls of a list hand back.
unfoldable pub outcomes_from : Table → List Refinement → List Call → List Outcome
outcomes_from t ns [] = []
outcomes_from t ns (c ∷ cs) = outcome t (tree ns) c ∷ outcomes_from t (ns ++ makes t (tree ns) c) cs

abbrev pub outcomes : Table → List Call → List Outcome
outcomes t cs = outcomes_from t [] cs

-- The sum of what the calls reported.
unfoldable pub reports : List Outcome → ℕ
reports [] = 0
reports (x ∷ xs) = (reply x).count + reports xs
