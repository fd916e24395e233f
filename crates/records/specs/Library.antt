-- The library's calls on records, as their contracts cite them: the tree and the answer of each, for every input.
-- A list of calls hands each the tree last left. Rests on Records.antt and on the rules' calls.
use Rattle.std.specs.Prelude.{List, [], ◌∷◌, ◌++◌, ℕ, zero, suc}
use Rattle.rules.specs.Table.{Table}
use Rattle.rules.specs.Tree.{Refinement, tree}
use Rattle.rules.specs.Refusals.{table_number}
use Rattle.rules.specs.Calls.{hand_number, run_number, hand_makes, run_makes, hand_answer, run_answer, Call, by_hand, by_run, Outcome, handed, ran}
use Rattle.rules.specs.declared.Kind.{Kind}
use Rattle.rules.specs.declared.Limits.{Limits}
use Rattle.records.specs.Records.{layout, no_nodes, history, bad}
use Rattle.records.specs.declared.Tree.{Tree}

-- The tree of an opening with that number.
unfoldable pub open_by : ℕ → Table → Tree
open_by zero t = layout t []
open_by (suc n) t = no_nodes

-- An opening: the root leaf alone; refused, a tree without nodes.
unfoldable pub open_tree : Table → Tree
open_tree t = open_by (table_number t) t

-- The tree of a call with that number, which makes the refinements ns if it is accepted.
unfoldable pub tree_by : ℕ → Table → Tree → List Refinement → Tree
tree_by zero t x ns = layout t (history x ++ ns)
tree_by (suc n) t x ns = x

-- A hand refinement: one refinement more; refused, the tree as it was.
unfoldable pub hand_tree : Table → Tree → List ℕ → Kind → Tree
hand_tree t x bs k = tree_by (hand_number t (bad t x) (tree (history x)) bs k) t x (hand_makes bs k)

-- A run: the refinements that its rule picks more; refused, the tree as it was.
unfoldable pub run_tree : Table → Tree → Limits → Tree
run_tree t x m = tree_by (run_number t (bad t x) m) t x (run_makes t (tree (history x)) m)

-- ---- lists of calls

-- The tree that a call leaves.
unfoldable pub call_tree : Table → Tree → Call → Tree
call_tree t x (by_hand bs k) = hand_tree t x bs k
call_tree t x (by_run m) = run_tree t x m

-- What it hands back.
unfoldable pub call_outcome : Table → Tree → Call → Outcome
call_outcome t x (by_hand bs k) = handed (hand_answer t (bad t x) (tree (history x)) bs k)
call_outcome t x (by_run m) = ran (run_answer t (bad t x) (tree (history x)) m)

-- The tree after a list of calls.
unfoldable pub tree_after : Table → Tree → List Call → Tree
tree_after t x [] = x
tree_after t x (c ∷ cs) = tree_after t (call_tree t x c) cs

-- What the calls hand back.
unfoldable pub outcomes_after : Table → Tree → List Call → List Outcome
outcomes_after t x [] = []
outcomes_after t x (c ∷ cs) = call_outcome t x c ∷ outcomes_after t (call_tree t x c) cs
