-- What each call of the library promises: its tree and its answer are the defined ones, and the claims that a reader cares for.
-- Rests on `records`, Library, on `rules`, Calls and Answers, on `rules`, Table, for the exact sum, and on its Leaf and Tree for every place.
use Rattle.std.specs.Prelude.{◌≡◌, false, Result, Some, List, [], ◌∷◌, ◌++◌, ◌↔◌, ℕ, ◌+◌, ◌-◌, ◌*◌, ◌/◌, ◌≤◌}
use Rattle.std.proofs.Math.Option.{none, some}
use Rattle.rules.specs.Rounding.{S}
use Rattle.rules.specs.Table.{Table, ways, Encloses, Near, ShareKept}
use Rattle.rules.specs.Leaf.{minimal}
use Rattle.rules.specs.Refusals.{table_number, Accepted}
use Rattle.rules.specs.Answers.{Reply, refused, answer_reply, run_reply, run_verdict, run_figure}
use Rattle.rules.specs.Tree.{left, right, Place, Subtree, subtree, remains, kind_at, Interval, interval, interval_at, tree, on_path}
use Rattle.rules.specs.Calls.{open_answer, hand_number, run_number, Call, by_hand, by_run, Outcome, handed, ran, reply, place_of}
use Rattle.rules.specs.declared.Way.{Way}
use Rattle.rules.specs.declared.Kind.{Kind}
use Rattle.rules.specs.declared.Limits.{Limits}
use Rattle.rules.specs.declared.Verdict.TheVariants.{Met}
use Rattle.rules.specs.declared.Figures.{Figures}
use Rattle.rules.specs.declared.Ended.{Ended}
use Rattle.rules.specs.declared.Refusal.{Refusal}
use Rattle.records.specs.Records.{record_in, no_nodes, history, tree_count, bad, Good, tree_kind, tree_interval}
use Rattle.records.specs.Library.{open_tree, call_tree, call_outcome}
use Rattle.records.specs.declared.Node.{Node}
use Rattle.records.specs.declared.Tree.{Tree}

-- The record of the root.
abbrev pub root_of : Tree → Node
root_of x = record_in x.nodes 0

-- What a call hands back that leaves the tree and made so many refinements.
abbrev pub root_figures : Tree → ℕ → Figures
root_figures x n = record { low = (root_of x).low; high = (root_of x).high; count = n }

-- The interval of a reply is the one at the root of the tree y; it encloses the exact sum over the table's ways, in order and at most S.
pub record Certain (t : Table) (y : Tree) (r : Reply) : Type 0 where
  pub at-root : tree_interval y [] ≡ some (record { low = r.low; high = r.high })
  pub encloses : Encloses t.weights (ways t) r.low r.high
  pub ordered : r.low ≤ r.high
  pub bounded : r.high ≤ S

-- ---- every place of a tree that a call leaves

-- All ways of its set that remain where x stands. None is left out yet.
abbrev pub all_remaining : Table → Subtree → List Way
all_remaining t x = remains (ways t) x.node x.node.set

-- What the interval i is that the records of the tree y show at place p.
pub record Stored (t : Table) (y : Tree) (p : Place) (i : Interval) : Type 0 where
  -- What the rules have at this place of the tree that the refinements in the records grow.
  pub here : Subtree
  pub there : subtree t p (tree (history y)) ≡ some here
  -- Its remaining ways: those that say nothing new are left out.
  pub ways_are : here.node.ways ≡ minimal (all_remaining t here)
  -- The interval is the rules' interval there, in order and from 0 to S.
  pub by_the_rules : i ≡ interval t.weights here
  pub ordered : i.low ≤ i.high
  pub bounded : i.high ≤ S
  -- It encloses the exact sum over these remaining ways, and the one over all that remain before any is left out.
  pub encloses : Encloses t.weights here.node.ways i.low i.high
  pub over_all : Encloses t.weights (all_remaining t here) i.low i.high

-- EVERY PLACE of the tree y: what is promised of each, not of the root alone.
pub record EveryPlace (t : Table) (y : Tree) : Type 0 where
  -- Some series of accepted refinements from a single root leaf gives the tree, so that 16 does not refuse it.
  pub good : Good t y
  -- Its records show the places that its refinements grow by the rules, and no others: what was done at each, and the interval there.
  pub kinds : (p : Place) → tree_kind y p ≡ kind_at p (tree (history y))
  pub intervals : (p : Place) → tree_interval y p ≡ interval_at t p (tree (history y))
  -- The interval at each place that they show encloses that place's exact sum.
  pub stored : (p : Place) (i : Interval) → tree_interval y p ≡ some i → Stored t y p i

-- ---- an opening

-- AN OPENING of any table.
pub record Opening (t : Table) (x : Tree) (a : Result Figures Refusal) : Type 0 where
  -- The tree and the answer are the defined ones.
  pub tree_is : x ≡ open_tree t
  pub answer_is : a ≡ open_answer t
  -- The number is that of the first of 9 to 13 that applies, 0 if none does.
  pub numbered : (answer_reply a).number ≡ table_number t
  -- Accepted: a certain interval, no refinement made, and what is promised of every place.
  pub accepted : Accepted t → Certain t x (answer_reply a) × ((answer_reply a).count ≡ 0) × EveryPlace t x
  -- Refused: nought to the full billion, count 0, and a tree without nodes.
  pub otherwise : (Accepted t → ⊥) → (answer_reply a ≡ refused (table_number t)) × (x ≡ no_nodes)

-- ---- calls on a tree

-- The number of a call on any tree, 16 judged by the records.
unfoldable pub number_of : Table → Tree → Call → ℕ
number_of t x (by_hand bs k) = hand_number t (bad t x) (tree (history x)) bs k
number_of t x (by_run m) = run_number t (bad t x) m

-- What an accepted call does that is lent x and leaves y, with the reply r.
pub record Worked (t : Table) (x y : Tree) (r : Reply) : Type 0 where
  -- A certain interval, no wider than the one that stood at the root before.
  pub certain : Certain t y r
  pub no_wider : ((root_of x).low ≤ r.low) × (r.high ≤ (root_of x).high)
  -- The count is the refinements after less those before.
  pub counts : tree_count y ≡ tree_count x + r.count
  -- What is promised of every place of the tree left.
  pub places : EveryPlace t y

-- A HAND REFINEMENT OR A RUN on any table and any tree.
pub record Called (t : Table) (x : Tree) (c : Call) (y : Tree) (o : Outcome) : Type 0 where
  -- The tree and what is handed back are the defined ones.
  pub tree_is : y ≡ call_tree t x c
  pub outcome_is : o ≡ call_outcome t x c
  -- The number is that of the first refusal that applies, 0 if none does.
  pub numbered : (reply o).number ≡ number_of t x c
  pub accepted : number_of t x c ≡ 0 → Worked t x y (reply o)
  -- Refused: nought to the full billion, count 0, and the tree as it was.
  pub otherwise : (number_of t x c ≡ 0 → ⊥) → (reply o ≡ refused (number_of t x c)) × (y ≡ x)

-- The records show a leaf at a place: an interval stands there, and nothing was done.
pub record LeafSeen (x : Tree) (p : Place) : Type 0 where
  pub stands : Interval
  pub shown : tree_interval x p ≡ some stands
  pub undone : tree_kind x p ≡ none

-- What an accepted hand refinement changes in the tree that a reader of the records sees.
pub record OneMore (x : Tree) (bs : List ℕ) (k : Kind) (y : Tree) : Type 0 where
  -- At the place named, one inner node of the kind asked for, with its two leaves.
  pub place : Place
  pub named : place_of bs ≡ some place
  pub done : tree_kind y place ≡ some k
  pub inner_more : tree_count y ≡ tree_count x + 1
  pub records_more : y.used ≡ x.used + 2
  pub left_leaf : LeafSeen y (place ++ (left ∷ []))
  pub right_leaf : LeafSeen y (place ++ (right ∷ []))
  -- RULES 4.11: what was done at any other place stays, and so does the interval of every place off the path to it and not below it.
  pub kinds_stay : (q : Place) → (q ≡ place → ⊥) → tree_kind y q ≡ tree_kind x q
  pub intervals_stay : (q : Place) → on_path q place ≡ false → on_path place q ≡ false → tree_interval y q ≡ tree_interval x q

-- A HAND REFINEMENT: a call that makes the one refinement that it names.
pub record Refining (t : Table) (x : Tree) (bs : List ℕ) (k : Kind) (y : Tree) (a : Result Figures Refusal) : Type 0 where
  pub call : Called t x (by_hand bs k) y (handed a)
  pub one_more : number_of t x (by_hand bs k) ≡ 0 → OneMore x bs k y

-- A RUN: a call that makes at most its budget, and hands back a verdict and a figure besides.
pub record Running (t : Table) (x : Tree) (m : Limits) (y : Tree) (a : Result Ended Refusal) : Type 0 where
  pub call : Called t x (by_run m) y (ran a)
  pub in_budget : number_of t x (by_run m) ≡ 0 → (run_reply a).count ≤ m.budget
  -- Accepted, it says met exactly if the root is then, in mode 0, at most twice the allowance wide, and in mode 1, with the allowance e for a share,
  -- if (S − e) × high ≤ (S + e) × low.
  pub met_distance : number_of t x (by_run m) ≡ 0 → m.mode ≡ 0 → (run_verdict a ≡ Some Met) ↔ ((root_of y).high - (root_of y).low ≤ 2 * m.allowance)
  pub met_share : number_of t x (by_run m) ≡ 0 → m.mode ≡ 1
      → (run_verdict a ≡ Some Met) ↔ ((S - m.allowance) * (root_of y).high ≤ (S + m.allowance) * (root_of y).low)
  -- Accepted, whatever the verdict, the figure is, in mode 0, low plus half the width at the root, rounded down, and in mode 1, 0; refused, it is 0.
  pub figure_is : number_of t x (by_run m) ≡ 0 → m.mode ≡ 0 → run_figure a ≡ (root_of y).low + ((root_of y).high - (root_of y).low) / 2
  pub share_figure : number_of t x (by_run m) ≡ 0 → m.mode ≡ 1 → run_figure a ≡ 0
  pub no_figure : (number_of t x (by_run m) ≡ 0 → ⊥) → run_figure a ≡ 0
  -- At met, in mode 0, the exact chance of the table's ways is within the allowance of the figure; in mode 1 every number from (S − e) × high / S
  -- to (S + e) × low / S is within that share of it, and there is one.
  pub near : number_of t x (by_run m) ≡ 0 → m.mode ≡ 0 → run_verdict a ≡ Some Met → Near t.weights (ways t) (run_figure a) m.allowance
  pub in_share : number_of t x (by_run m) ≡ 0 → m.mode ≡ 1 → run_verdict a ≡ Some Met
      → ShareKept t.weights (ways t) m.allowance (root_of y).low (root_of y).high
