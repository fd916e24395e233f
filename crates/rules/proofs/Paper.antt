-- The cases on paper (RULES 11): P1 to P9 as one list with one claim about the list, the runs that RULES 11.6 names, A1 to A10 on ways that
-- say nothing new (RULES 3.4), C1 to C11 on the allowance as a distance (RULES 5.7, 5.16), E1 to E8 on the common part (RULES 4.15, 4.16), F1 to F4
-- on the kept ways (RULES 3.10), G1 to G22 on the allowance as a share (RULES 5.7, 5.17), and the whole sheet of RULES 11.7 with its lines.
-- Each list of cases stands above the claim that settles it.
-- The checker computes all of them from the definitions. Rests on Computing.antt, which names those.
use mathlib.Core.Path.{◌≡◌, refl}
use mathlib.Core.Bool.{Bool, true, false, ◌&&◌, beq}
use mathlib.Core.List.{List, [], ◌∷◌}
use mathlib.Core.Option.{Option, none, some}
use Prim.Native.Nat.{ℕ}
use lib.ListN.{length, drop}
use lib.Dec.{eqb}
use Rattle.rules.specs.Rounding.{S}
use Rattle.rules.specs.Table.{Way, Table, table}
use Rattle.rules.specs.Leaf.{is_open}
use Rattle.rules.specs.Tree.{root_ways, left, right, Place, DTree, leaf, low, high, Refinement, tree, Subtree, subtree, series}
use Rattle.rules.specs.Refusals.{table_number}
use Rattle.rules.specs.Calls.{Call, by_hand, by_run, Outcome, handed, ran, open_answer, run_answer, outcome, noted, outcomes}
use Rattle.rules.specs.Sheet.{Sheet, encode}
use Rattle.rules.specs.Text.{bytes, text}
use Rattle.rules.specs.declared.Limits.{Limits}
use Rattle.std.specs.Prelude.{Result, Ok, Err}
use Rattle.rules.specs.declared.Ended.{Ended}
use Rattle.rules.specs.declared.Figures.{Figures}
use Rattle.rules.specs.declared.Refusal.{Refusal}
use Rattle.rules.specs.declared.Verdict.{Verdict}
use Rattle.rules.specs.declared.Verdict.TheVariants.{Met, Done, Spent}
use Rattle.rules.specs.declared.Kind.{Kind}
use Rattle.rules.specs.declared.Kind.TheVariants.{IndependentOr, IndependentAnd, Shannon}
use Rattle.rules.proofs.Computing.{of-trees, of-refusals, of_calls, of-lists, of-bytes, of-text}

-- ---- P1 to P9

-- A case: a table, its root leaf's interval and whether it is open, and the root's interval after some refinements.
record Case : Type 0 where
  table : Table
  leaf_low : ℕ
  leaf_high : ℕ
  opened : Bool
  made : List Refinement
  after_low : ℕ
  after_high : ℕ

-- A case without refinements.
abbrev plain : Table → ℕ → ℕ → Bool → Case
plain t l h o = record { table = t; leaf_low = l; leaf_high = h; opened = o; made = []; after_low = l; after_high = h }

-- A case of an open root leaf with refinements.
abbrev refined : Table → ℕ → ℕ → List Refinement → ℕ → ℕ → Case
refined t l h ns l' h' = record { table = t; leaf_low = l; leaf_high = h; opened = true; made = ns; after_low = l'; after_high = h' }

abbrev at_root : Kind → Refinement
at_root k = record { place = []; kind = k }

abbrev p4 : Table
p4 = table (500000000 ∷ 500000000 ∷ 200000000 ∷ []) (3 ∷ 5 ∷ []) (0 ∷ 0 ∷ [])

abbrev cases : List Case
cases =
    plain (table (500000000 ∷ []) [] []) 0 0 false
    ∷ plain (table (500000000 ∷ []) (0 ∷ []) (0 ∷ [])) S S false
    ∷ plain (table (333333333 ∷ 333333333 ∷ []) (3 ∷ []) (0 ∷ [])) 111111110 111111111 false
    ∷ refined p4 250000000 350000000 (at_root (Shannon 0) ∷ []) 300000000 350000000
    ∷ refined p4 250000000 350000000 (at_root (Shannon 0) ∷ record { place = left ∷ []; kind = IndependentOr } ∷ []) 300000000 300000000
    ∷ refined (table (500000000 ∷ []) (1 ∷ 0 ∷ []) (0 ∷ 1 ∷ [])) 500000000 S (at_root (Shannon 0) ∷ []) S S
    ∷ refined (table (600000000 ∷ 600000000 ∷ []) (1 ∷ 2 ∷ []) (0 ∷ 0 ∷ [])) 840000000 S (at_root IndependentOr ∷ []) 840000000 840000000
    ∷ refined (table (333333333 ∷ 333333333 ∷ []) (1 ∷ 2 ∷ []) (0 ∷ 0 ∷ [])) 555555555 666666666 (at_root IndependentOr ∷ []) 555555555 555555556
    ∷ plain (table (0 ∷ S ∷ []) (1 ∷ 2 ∷ []) (0 ∷ 0 ∷ [])) S S false
    ∷ []

-- A case holds: the table is accepted, the root leaf is as stated, each refinement is acceptable when made, and the root is as stated then.
abbrev holds : Case → Bool
holds c =
    eqb (table_number c.table) 0
    && (eqb (low c.table leaf) c.leaf_low
    && (eqb (high c.table leaf) c.leaf_high
    && (beq (is_open c.table.weights (root_ways c.table)) c.opened
    && (series c.table c.made
    && (eqb (low c.table (tree c.made)) c.after_low && eqb (high c.table (tree c.made)) c.after_high)))))

abbrev all_hold : List Case → Bool
all_hold [] = true
all_hold (c ∷ cs) = holds c && all_hold cs

-- P1 TO P9 HOLD.
pub on-paper : all_hold cases ≡ true
unfolding of-trees of-refusals
on-paper = refl

-- ---- runs (RULES 11.6): P3 with allowance 0 and with 1, P4 with the printed sheet's limits

abbrev p3 : Table
p3 = table (333333333 ∷ 333333333 ∷ []) (3 ∷ []) (0 ∷ [])

abbrev limits : ℕ → ℕ → Limits
limits a b = record { allowance = a; budget = b; mode = 0 }

-- A run's answer: verdict, low, high, refinements made, figure.
abbrev ended : Verdict → ℕ → ℕ → ℕ → ℕ → Result Ended Refusal
ended v l h n g = Ok (record { verdict = v; figures = record { low = l; high = h; count = n }; figure = g })

-- Each run with the answer that it is to give.
abbrev runs : List (Result Ended Refusal × Result Ended Refusal)
runs =
    (run_answer p3 false leaf (limits 0 255), ended Done 111111110 111111111 0 111111110)
    ∷ (run_answer p3 false leaf (limits 1 255), ended Met 111111110 111111111 0 111111110)
    ∷ (run_answer p3 false leaf (limits 1 256), Err Refusal.BudgetAbove)
    ∷ (run_answer p3 false leaf (limits 1000000001 256), Err Refusal.AllowanceAbove)
    ∷ (run_answer p3 true leaf (limits 1 255), Err Refusal.NotGood)
    ∷ (run_answer p4 false leaf (limits 10000000 40), ended Met 300000000 300000000 2 300000000)
    ∷ (run_answer p4 false leaf (limits 10000000 1), ended Spent 300000000 350000000 1 325000000)
    ∷ []

-- Both of each pair are one.
abbrev AllEqual : {A : Type 0} → List (A × A) → Type 0
AllEqual [] = Unit {0}
AllEqual (x ∷ xs) = (x.0 ≡ x.1) × AllEqual xs

pub runs-on-paper : AllEqual runs
unfolding of_calls
runs-on-paper = (refl, (refl, (refl, (refl, (refl, (refl, (refl, tt)))))))

-- ---- ways that say nothing new: A1 to A10 (RULES 11.3)

-- What is stated of a table, and of a call on its opened tree: the numbers of the ways that stay at the root, what the opening answers, whether the
-- root leaf is open, and what the call hands back.
record Shown : Type 0 where
  staying : List ℕ
  opening : Result Figures Refusal
  opened : Bool
  back : Outcome

abbrev numbers : List Way → List ℕ
numbers [] = []
numbers (v ∷ vs) = v.number ∷ numbers vs

-- By the definitions.
abbrev shown : Table → Call → Shown
shown t c = record { staying = numbers (root_ways t); opening = open_answer t; opened = is_open t.weights (root_ways t); back = outcome t leaf c }

abbrev at : ℕ → ℕ → ℕ → Result Figures Refusal
at l h n = Ok (record { low = l; high = h; count = n })

-- A root leaf that is closed, and the run that finds it so.
abbrev closed_root : List ℕ → ℕ → Shown
closed_root ns x = record { staying = ns; opening = at x x 0; opened = false; back = ran (ended Met x x 0 x) }

-- A root leaf that is open from l to S, and a call that hands this back.
abbrev open_root : List ℕ → ℕ → Outcome → Shown
open_root ns l o = record { staying = ns; opening = at l S 0; opened = true; back = o }

abbrev run : Call
run = by_run (limits 0 255)

-- The root by hand.
abbrev by_hand_at_root : Kind → Call
by_hand_at_root k = by_hand [] k

-- Each table with a call, and what is stated of them.
abbrev redundancies : List (Shown × Shown)
redundancies =
    -- A1: a way that names more than another.
    (shown (table (500000000 ∷ 500000000 ∷ []) (1 ∷ 3 ∷ []) (0 ∷ 0 ∷ [])) run, closed_root (0 ∷ []) 500000000)
    -- A2: equal ways, of which the lowest numbered stays.
    ∷ (shown (table (250000000 ∷ 500000000 ∷ []) (0 ∷ 0 ∷ []) (1 ∷ 1 ∷ [])) run, closed_root (0 ∷ []) 750000000)
    -- A3: one fault in both senses.
    ∷ (shown (table (250000000 ∷ 500000000 ∷ []) (0 ∷ 1 ∷ []) (1 ∷ 0 ∷ [])) run, open_root (0 ∷ 1 ∷ []) 750000000 (ran (ended Met S S 1 S)))
    -- A4: the shorter way comes later.
    ∷ (shown (table (500000000 ∷ 300000000 ∷ []) (3 ∷ 1 ∷ []) (0 ∷ 0 ∷ [])) run, closed_root (1 ∷ []) 500000000)
    -- A5: once fault 1 is fixed present, the third way says nothing new.
    ∷ (
      shown (table (200000000 ∷ 500000000 ∷ 250000000 ∷ []) (0 ∷ 2 ∷ 1 ∷ []) (2 ∷ 4 ∷ 4 ∷ [])) run,
      open_root (0 ∷ 1 ∷ 2 ∷ []) 575000000 (ran (ended Met 875000000 875000000 1 875000000)),
    )
    -- A6: the second way, left out at the root, does not come back as the lower numbered of two equals once fault 0 is fixed.
    ∷ (
      shown (table (500000000 ∷ 750000000 ∷ 250000000 ∷ []) (2 ∷ 5 ∷ 1 ∷ 4 ∷ 1 ∷ []) (0 ∷ 0 ∷ 4 ∷ 0 ∷ 2 ∷ [])) run,
      open_root (0 ∷ 2 ∷ 3 ∷ 4 ∷ []) 843750000 (ran (ended Met 906250000 906250000 4 906250000)),
    )
    -- A7: of equal ways, the lowest numbered stays; the other would take a refinement more.
    ∷ (
      shown (table (750000000 ∷ 500000000 ∷ 200000000 ∷ []) (0 ∷ 2 ∷ 1 ∷ 0 ∷ 4 ∷ []) (1 ∷ 0 ∷ 0 ∷ 1 ∷ 0 ∷ [])) run,
      open_root (0 ∷ 1 ∷ 2 ∷ 4 ∷ []) 700000000 (ran (ended Met S S 2 S)),
    )
    -- A8: the ways fall apart for want of the one left out.
    ∷ (
      shown (table (500000000 ∷ 500000000 ∷ []) (3 ∷ 1 ∷ 2 ∷ []) (0 ∷ 0 ∷ 0 ∷ [])) (by_hand_at_root IndependentOr),
      open_root (1 ∷ 2 ∷ []) 750000000 (handed (at 750000000 750000000 1)),
    )
    -- A9: a fault that only the way left out names does not occur.
    ∷ (
      shown (table (500000000 ∷ 500000000 ∷ 500000000 ∷ []) (1 ∷ 2 ∷ 5 ∷ []) (0 ∷ 0 ∷ 0 ∷ [])) (by_hand_at_root (Shannon 2)),
      open_root (0 ∷ 1 ∷ []) 750000000 (handed (Err Refusal.Impossible)),
    )
    -- A10: an empty way stays alone.
    ∷ (shown (table (500000000 ∷ 500000000 ∷ []) (1 ∷ 0 ∷ []) (0 ∷ 0 ∷ [])) run, closed_root (1 ∷ []) S)
    ∷ []

-- A1 TO A10 HOLD.
pub redundant-on-paper : AllEqual redundancies
unfolding of_calls
redundant-on-paper = (refl, (refl, (refl, (refl, (refl, (refl, (refl, (refl, (refl, (refl, tt))))))))))

-- ---- the allowance is a distance: C1 to C11 (RULES 11.10)

abbrev p8 : Table
p8 = table (333333333 ∷ 333333333 ∷ []) (1 ∷ 2 ∷ []) (0 ∷ 0 ∷ [])

-- Each run on a fresh opening with the answer that it is to give.
abbrev distances : List (Result Ended Refusal × Result Ended Refusal)
distances =
    -- C1, C2: an odd width is not halved away, and the figure is rounded down.
    (run_answer p3 false leaf (limits 0 255), ended Done 111111110 111111111 0 111111110)
    ∷ (run_answer p3 false leaf (limits 1 255), ended Met 111111110 111111111 0 111111110)
    -- C3, C4: a width one above twice the allowance, and one below.
    ∷ (run_answer p8 false leaf (limits 55555555 255), ended Met 555555555 555555556 1 555555555)
    ∷ (run_answer p8 false leaf (limits 55555556 255), ended Met 555555555 666666666 0 611111110)
    -- C5 to C7: the figure is that of the tree after the run.
    ∷ (run_answer p4 false leaf (limits 24999999 255), ended Met 300000000 300000000 2 300000000)
    ∷ (run_answer p4 false leaf (limits 25000000 255), ended Met 300000000 350000000 1 325000000)
    ∷ (run_answer p4 false leaf (limits 50000000 255), ended Met 250000000 350000000 0 300000000)
    -- C8, C9: a figure comes with every verdict.
    ∷ (run_answer p4 false leaf (limits 49999999 0), ended Spent 250000000 350000000 0 300000000)
    ∷ (run_answer p4 false leaf (limits 50000000 0), ended Met 250000000 350000000 0 300000000)
    -- C10, C11: 14 judges the allowance itself, not its double.
    ∷ (run_answer p4 false leaf (limits 1000000000 255), ended Met 250000000 350000000 0 300000000)
    ∷ (run_answer p4 false leaf (limits 1000000001 255), Err Refusal.AllowanceAbove)
    ∷ []

-- C1 TO C11 HOLD.
pub distances-on-paper : AllEqual distances
unfolding of_calls
distances-on-paper = (refl, (refl, (refl, (refl, (refl, (refl, (refl, (refl, (refl, (refl, (refl, tt)))))))))))

-- ---- the common part taken out: E1 to E8 (RULES 11.12)

-- What a node holds: its ways, and the words of the faults fixed present, fixed absent and left out.
record Held : Type 0 where
  ways : List Way
  present : ℕ
  absent : ℕ
  out : ℕ

-- What is stated of a table, of calls on its opened tree, and of some places then: what the opening answers, what each call hands back, what each
-- place holds.
record Worked : Type 0 where
  opening : Result Figures Refusal
  back : List Outcome
  then : List (Option Held)

abbrev held_by : Option Subtree → Option Held
held_by none = none
held_by (some x) = some (record { ways = x.node.ways; present = x.node.present; absent = x.node.absent; out = x.node.out })

abbrev held_at : Table → DTree → List Place → List (Option Held)
held_at t s [] = []
held_at t s (p ∷ ps) = held_by (subtree t p s) ∷ held_at t s ps

-- By the definitions.
abbrev worked : Table → List Call → List Place → Worked
worked t cs ps = record { opening = open_answer t; back = outcomes t cs; then = held_at t (tree (noted t cs)) ps }

-- By the figures, where no place is asked for.
abbrev answers : ℕ → ℕ → List Outcome → Worked
answers l h os = record { opening = at l h 0; back = os; then = [] }

-- The common part taken out at the root.
abbrev take_out : Call
take_out = by_hand_at_root IndependentAnd

abbrev refused_by : Refusal → Outcome
refused_by r = handed (Err r)

abbrev way : ℕ → ℕ → Way
way i present = record { number = i; present = present; absent = 0 }

abbrev quarter : ℕ
quarter = 250000000

abbrev half : ℕ
half = 500000000

abbrev fifth : ℕ
fifth = 200000000

abbrev third : ℕ
third = 333333333

-- Each table with calls and places, and what is stated of them.
abbrev commons : List (Worked × Worked)
commons =
    -- E1: two faults in common. The left child is way 0 without fault 2, the right child has both ways without faults 0 and 1.
    (
      worked (table (half ∷ half ∷ half ∷ half ∷ []) (7 ∷ 11 ∷ []) (0 ∷ 0 ∷ [])) (take_out ∷ []) ((left ∷ []) ∷ (right ∷ []) ∷ []),
      record {
        opening = at 125000000 quarter 0;
        back = handed (at 187500000 quarter 1) ∷ [];
        then =
            some (record { ways = way 0 3 ∷ []; present = 0; absent = 0; out = 4 })
            ∷ some (record { ways = way 0 4 ∷ way 1 8 ∷ []; present = 0; absent = 0; out = 3 })
            ∷ [];
      },
    )
    -- E2: both faults are taken out at once; one at a time takes three refinements.
    ∷ (
      worked (table (fifth ∷ quarter ∷ half ∷ []) (7 ∷ 6 ∷ []) (0 ∷ 1 ∷ [])) (run ∷ []) [],
      answers 25000000 125000000 (ran (ended Met 125000000 125000000 2 125000000) ∷ []),
    )
    -- E3: the common part comes before a fault, which would take one refinement.
    ∷ (worked (table (half ∷ half ∷ []) (3 ∷ 2 ∷ []) (0 ∷ 1 ∷ [])) (run ∷ []) [], answers quarter half (ran (ended Met half half 2 half) ∷ []))
    -- E4: faults that all ways name absent are common too.
    ∷ (worked (table (fifth ∷ half ∷ []) (0 ∷ 1 ∷ []) (3 ∷ 2 ∷ [])) (run ∷ []) [], answers 400000000 half (ran (ended Met half half 2 half) ∷ []))
    -- E5: a fault named in both senses is not.
    ∷ (worked (table (fifth ∷ fifth ∷ []) (0 ∷ 2 ∷ []) (2 ∷ 0 ∷ [])) (run ∷ []) [], answers 800000000 S (ran (ended Met S S 1 S) ∷ []))
    -- E6: the product is rounded down at the low end and up at the high end.
    ∷ (
      worked (table (third ∷ fifth ∷ half ∷ []) (4 ∷ 1 ∷ []) (2 ∷ 2 ∷ [])) (run ∷ []) [],
      answers 400000000 666666667 (ran (ended Done 533333332 533333334 2 533333333) ∷ []),
    )
    -- E7: the left child is closed; in the right child the common fault does not occur, and nothing is common.
    ∷ (
      worked p4 (take_out ∷ by_hand (0 ∷ []) (Shannon 0) ∷ by_hand (1 ∷ []) (Shannon 0) ∷ by_hand (1 ∷ []) IndependentAnd ∷ []) [],
      answers quarter 350000000 (handed (at 300000000 350000000 1) ∷ refused_by Refusal.Closed ∷ refused_by Refusal.Impossible ∷ refused_by Refusal.Impossible ∷ []),
    )
    -- E8: once fault 1 is fixed below, fault 4 stays left out.
    ∷ (
      worked (table (half ∷ half ∷ half ∷ half ∷ half ∷ []) (19 ∷ 22 ∷ 28 ∷ []) (0 ∷ 0 ∷ 0 ∷ [])) (take_out ∷ by_hand (1 ∷ []) (Shannon 1) ∷ [])
          ((right ∷ left ∷ []) ∷ (right ∷ right ∷ []) ∷ []),
      record {
        opening = at 125000000 375000000 0;
        back = handed (at 218750000 375000000 1) ∷ handed (at quarter 312500000 1) ∷ [];
        then =
            some (record { ways = way 0 1 ∷ way 1 4 ∷ []; present = 2; absent = 0; out = 16 })
            ∷ some (record { ways = way 2 12 ∷ []; present = 0; absent = 2; out = 16 })
            ∷ [];
      },
    )
    ∷ []

-- E1 TO E8 HOLD.
pub commons-on-paper : AllEqual commons
unfolding of-lists
commons-on-paper = (refl, (refl, (refl, (refl, (refl, (refl, (refl, (refl, tt))))))))

-- ---- the kept ways: F1 to F4 (RULES 11.14)

-- Each table with a run, and what is stated of them.
abbrev kept_ones : List (Worked × Worked)
kept_ones =
    -- F1: the second way is not kept, so the third may share a fault with it; were its faults taken too, the low end would be 250000000.
    (
      worked (table (half ∷ half ∷ half ∷ half ∷ []) (3 ∷ 6 ∷ 12 ∷ []) (0 ∷ 0 ∷ 0 ∷ [])) (run ∷ []) [],
      answers 437500000 750000000 (ran (ended Met half half 2 half) ∷ []),
    )
    -- F2: the second way names absent what the first names present; were absent faults not tested, the low end would be 437500000.
    ∷ (
      worked (table (half ∷ half ∷ half ∷ []) (3 ∷ 4 ∷ []) (0 ∷ 2 ∷ [])) (run ∷ []) [],
      answers quarter half (ran (ended Met half half 1 half) ∷ []),
    )
    -- F3: the first way names absent what the second names present; were absent faults not taken, the low end would be 437500000.
    ∷ (
      worked (table (half ∷ half ∷ half ∷ []) (1 ∷ 6 ∷ []) (2 ∷ 0 ∷ [])) (run ∷ []) [],
      answers quarter half (ran (ended Met half half 1 half) ∷ []),
    )
    -- F4: as F1, but the way that is not kept names the first way's fault absent; were its faults taken too, the low end would be 500000000.
    ∷ (
      worked (table (half ∷ half ∷ half ∷ []) (2 ∷ 1 ∷ 5 ∷ []) (0 ∷ 2 ∷ 0 ∷ [])) (run ∷ []) [],
      answers 625000000 S (ran (ended Met 750000000 750000000 3 750000000) ∷ []),
    )
    ∷ []

-- F1 TO F4 HOLD.
pub kept-on-paper : AllEqual kept_ones
unfolding of-lists
kept-on-paper = (refl, (refl, (refl, (refl, tt))))

-- ---- the allowance is a share: G1 to G22 (RULES 11.16)

-- The limits of a run by share.
abbrev shares : ℕ → ℕ → Limits
shares e b = record { allowance = e; budget = b; mode = 1 }

-- Two faults of 3 in a million, either of which is enough.
abbrev small : Table
small = table (3000 ∷ 3000 ∷ []) (1 ∷ 2 ∷ []) (0 ∷ 0 ∷ [])

-- Weights of 1: a low end of 0.
abbrev least : Table
least = table (1 ∷ 1 ∷ []) (3 ∷ []) (0 ∷ [])

abbrev least_two : Table
least_two = table (1 ∷ 1 ∷ 1 ∷ []) (3 ∷ 5 ∷ []) (0 ∷ 0 ∷ [])

abbrev nothing : Table
nothing = table [] [] []

-- A run on a fresh opening.
abbrev fresh : Table → Limits → List Outcome
fresh t m = outcomes t (by_run m ∷ [])

abbrev once : Result Ended Refusal → List Outcome
once a = ran a ∷ []

-- Each list of calls after an opening with what its calls are to hand back.
abbrev by_share : List (List Outcome × List Outcome)
by_share =
    -- G1, G2: one below the share at which 5999 and 6000 are near enough, and that share. The figure is 0 in this mode, whatever the verdict.
    (fresh small (shares 83340 255), once (ended Done 5999 6000 1 0))
    ∷ (fresh small (shares 83341 255), once (ended Met 5999 6000 0 0))
    -- G3: the same numbers as a distance.
    ∷ (fresh small (limits 83341 255), once (ended Met 5999 6000 0 5999))
    -- G4 to G7: the share is not doubled, and met is looked for before each refinement.
    ∷ (fresh p4 (shares 76923076 255), once (ended Met 300000000 300000000 2 0))
    ∷ (fresh p4 (shares 76923077 255), once (ended Met 300000000 350000000 1 0))
    ∷ (fresh p4 (shares 166666666 255), once (ended Met 300000000 350000000 1 0))
    ∷ (fresh p4 (shares 166666667 255), once (ended Met 250000000 350000000 0 0))
    -- G8, G9: with a low end of 0 only the share S is met.
    ∷ (fresh least (shares 999999999 255), once (ended Done 0 1 0 0))
    ∷ (fresh least (shares S 255), once (ended Met 0 1 0 0))
    -- G10: a chance of 0 is met at every share.
    ∷ (fresh (table (500000000 ∷ []) [] []) (shares 0 255), once (ended Met 0 0 0 0))
    -- G11, G12: P3.
    ∷ (fresh p3 (shares 4 255), once (ended Done 111111110 111111111 0 0))
    ∷ (fresh p3 (shares 5 255), once (ended Met 111111110 111111111 0 0))
    -- G13, G14: an open leaf with a low end of 0, and no budget.
    ∷ (fresh least_two (shares 999999999 0), once (ended Spent 0 2 0 0))
    ∷ (fresh least_two (shares S 0), once (ended Met 0 2 0 0))
    -- G15: a small and a larger chance.
    ∷ (fresh (table (3 ∷ 1000000 ∷ []) (1 ∷ 2 ∷ []) (0 ∷ 0 ∷ [])) (shares 100000000 255), once (ended Met 1000002 1000003 0 0))
    -- G16, G17: a mode above 1 is refused before all else, and all of its bits are judged.
    ∷ (fresh nothing (record { allowance = 1000000001; budget = 300; mode = 2 }), once (Err Refusal.ModeAbove))
    ∷ (fresh p4 (record { allowance = 0; budget = 255; mode = 256 }), once (Err Refusal.ModeAbove))
    -- G18, G19: in mode 1 all else is refused as in mode 0.
    ∷ (fresh p4 (shares 1000000001 255), once (Err Refusal.AllowanceAbove))
    ∷ (fresh nothing (shares 0 255), once (Err Refusal.FaultsOutside))
    -- G20 to G22: one list may mix modes.
    ∷ (
      outcomes p4 (by_run (limits 0 1) ∷ by_run (shares 76923077 255) ∷ []),
      ran (ended Spent 300000000 350000000 1 325000000) ∷ ran (ended Met 300000000 350000000 0 0) ∷ [],
    )
    ∷ (
      outcomes p4 (by_run (shares 76923077 255) ∷ by_run (limits 0 255) ∷ []),
      ran (ended Met 300000000 350000000 1 0) ∷ ran (ended Met 300000000 300000000 1 300000000) ∷ [],
    )
    ∷ (
      outcomes small
          (by_run (shares 83340 255) ∷ by_run (limits 83340 255) ∷ by_run (shares 83341 255) ∷ by_run (limits 83341 255) ∷ by_run (limits 0 255) ∷ []),
      ran (ended Done 5999 6000 1 0)
          ∷ ran (ended Met 5999 6000 0 5999)
          ∷ ran (ended Met 5999 6000 0 0)
          ∷ ran (ended Met 5999 6000 0 5999)
          ∷ ran (ended Done 5999 6000 0 5999)
          ∷ [],
    )
    ∷ []

-- G1 TO G22 HOLD.
pub shares-on-paper : AllEqual by_share
unfolding of-lists
shares-on-paper =
    let last-eleven : AllEqual (drop 11 by_share) = (refl, (refl, (refl, (refl, (refl, (refl, (refl, (refl, (refl, (refl, (refl, tt))))))))))) in
    (refl, (refl, (refl, (refl, (refl, (refl, (refl, (refl, (refl, (refl, (refl, last-eleven)))))))))))

-- ---- the whole sheet

-- 3 faults, 2 cues, with these limits; cue 7 with the ways of P4, cue 9 with none.
abbrev pub show_with : Limits → Sheet
show_with m =
    record {
      limits = m;
      weights = 500000000 ∷ 500000000 ∷ 200000000 ∷ [];
      cues = record { number = 7; present = 3 ∷ 5 ∷ []; absent = 0 ∷ 0 ∷ [] } ∷ record { number = 9; present = []; absent = [] } ∷ [];
    }

-- With an allowance of a hundredth, a distance.
abbrev pub show : ℕ → Sheet
show budget = show_with (limits 10000000 budget)

-- Its 72 bytes.
pub show-length : length (encode (show 40)) ≡ 72
unfolding of-bytes
show-length = refl

-- WHAT THE PROGRAM PRINTS for them, with budget 40 and with budget 1.
pub sheet-text : text (encode (show 40)) ≡ bytes "cue low high steps verdict\n7 300000000 300000000 2 met\n9 0 0 0 met\n"
unfolding of-text
sheet-text = refl

pub sheet-text-1 : text (encode (show 1)) ≡ bytes "cue low high steps verdict\n7 300000000 350000000 1 spent\n9 0 0 0 met\n"
unfolding of-text
sheet-text-1 = refl

-- And with a share: the least that is met after one refinement, and one billionth less.
pub sheet-text-share : text (encode (show_with (shares 76923077 255))) ≡ bytes "cue low high steps verdict\n7 300000000 350000000 1 met\n9 0 0 0 met\n"
unfolding of-text
sheet-text-share = refl

pub sheet-text-less : text (encode (show_with (shares 76923076 255))) ≡ bytes "cue low high steps verdict\n7 300000000 300000000 2 met\n9 0 0 0 met\n"
unfolding of-text
sheet-text-less = refl
