-- What the checker computes with where a claim is settled by computing alone (Paper.antt, Refused.antt, Sheets.antt).
-- A definition is shut unless a line `unfolding` names it; to name one of these is to name all that its own line names.
-- Rests on the specs alone: one name for each part of them.
use Rattle.rules.specs.Table
use Rattle.rules.specs.Leaf
use Rattle.rules.specs.Group
use Rattle.rules.specs.Common
use Rattle.rules.specs.Tree
use Rattle.rules.specs.Run
use Rattle.rules.specs.Refusals
use Rattle.rules.specs.Calls
use Rattle.rules.specs.Sheet
use Rattle.rules.specs.Text

-- The ways of a table, and a test over them.
unfoldable pub of-ways : Unit {0}
unfolding Table.ways Table.rows Table.absent_rows Leaf.any
of-ways = tt

-- A leaf: what remains, what stays of that, groups, the common part, and whether it is open.
unfoldable pub of-leaves : Unit {0}
unfolding of-ways Leaf.remaining Leaf.sift Leaf.redundant Leaf.minimal Leaf.is_open Group.nonempty Group.fall_apart
    Common.meet_from Common.meet Common.shared Common.lowest Common.spare Leaf.drop_all
of-leaves = tt

-- Trees: refinements, and the interval at the root.
unfoldable pub of-trees : Unit {0}
unfolding of-leaves Tree.root_ways Tree.occurs Tree.possible Tree.child Tree.combine Tree.end Tree.low Tree.high
    Tree.refine_at Tree.inners Tree.grow Tree.leaf_ways Tree.acceptable Tree.series_from
of-trees = tt

-- Runs: the pick, a turn, the verdict, the figure.
unfoldable pub of-runs : Unit {0}
unfolding of-trees Run.from Run.wider Run.widest Run.named Run.most_named Run.choice Run.next Run.aim_of Run.narrow Run.turn Run.picks Run.verdict Run.figure
of-runs = tt

-- The tests of the refusals, and a table's number.
unfoldable pub of-refusals : Unit {0}
unfolding of-ways Refusals.first Refusals.faults_outside Refusals.cues_outside Refusals.some_above Refusals.rising Refusals.not_rising
    Refusals.crowded Refusals.overweight Refusals.words_amiss Refusals.names_beyond Refusals.names_both Refusals.mode_above Refusals.allowance_above
    Refusals.budget_above Refusals.way_refusals Refusals.limit_refusals Refusals.table_refusals Refusals.table_number
of-refusals = tt

-- Calls: their numbers and answers.
unfoldable pub of_calls : Unit {0}
unfolding of-runs of-refusals Calls.step_to Calls.place_of Calls.leaf_named Calls.no_leaf Calls.of_leaf Calls.leaf_refusals Calls.hand_refusals Calls.run_refusals
    Calls.hand_number Calls.run_number Calls.hand_makes Calls.run_makes Calls.figures Refusals.answered
    Calls.open_answer Calls.hand_answer Calls.run_answer Calls.outcome
of_calls = tt

-- Lists of calls, and what stands at a place then.
unfoldable pub of-lists : Unit {0}
unfolding of_calls Calls.call_number Calls.would_make Calls.makes_by Calls.makes Calls.noted_from Calls.outcomes_from
    Tree.child_set Tree.child_fixed Tree.child_out Tree.descend Tree.subtree
of-lists = tt

-- A sheet's bytes.
unfoldable pub of-bytes : Unit {0}
unfolding Sheet.little Sheet.head_bytes Sheet.contents_bytes Sheet.weights_bytes Sheet.body_bytes Sheet.bodies_bytes
    Sheet.weights_start Sheet.bodies_start Sheet.encode
of-bytes = tt

-- What reading finds in bytes, and their number.
unfoldable pub of-reading : Unit {0}
unfolding of-refusals of-bytes Sheet.value Sheet.field Sheet.column Sheet.total Sheet.deal Sheet.sheet_of Sheet.starts
    Sheet.lists_in Sheet.decode Sheet.same_numbers Sheet.read_refusals Sheet.read_number
of-reading = tt

-- The lists of a sheet, and the writer's number for lists.
unfoldable pub of-writing : Unit {0}
unfolding of-refusals of-bytes Sheet.numbers_of Sheet.counts_of Sheet.present_of Sheet.absent_of Sheet.lists_of
    Sheet.total Sheet.deal Sheet.sheet_of Sheet.disagree Sheet.lists_refusals Sheet.write_refusals Sheet.write_number
of-writing = tt

-- The printed text.
unfoldable pub of-text : Unit {0}
unfolding of-runs of-reading Text.bytes Text.digits Text.decimal Text.word Text.line Text.lines Text.sheet_text Text.text_by Text.text
of-text = tt
