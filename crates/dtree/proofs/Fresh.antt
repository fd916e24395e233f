-- THE ROOT LEAF ALONE: a tree of it is good and safe, and a run on it answers what the rules say of a run on the root leaf.
-- Rests on Opens.antt for the record, and on `records`, SafeLaws and ByTheRules.
use mathlib.Core.Path.{◌≡◌, refl, sym, ap, subst, ◌∙◌}
use mathlib.Core.Bool.{false}
use mathlib.Core.List.{[]}
use native.Mathlib.Omega.{arith}
use lib.ListN.{replicate}
use Rattle.std.specs.Prelude.{Result, Err}
use Rattle.rules.specs.declared.Direction.TheVariants.{Down, Up}
use Rattle.rules.specs.Table.{Table}
use Rattle.rules.specs.Tree.{leaf, root_ways, end, series_from, grow}
use Rattle.rules.specs.Refusals.{test, mode_above, table_refusals, limit_refusals, table_number, Accepted}
use Rattle.rules.specs.Calls.{run_refusals, run_answer, by_run, Outcome, handed, ran, outcome}
use Rattle.rules.specs.declared.Limits.{Limits}
use Rattle.rules.specs.declared.Ended.{Ended}
use Rattle.rules.specs.declared.Refusal.{Refusal}
use Rattle.rules.proofs.LeafEnds.{leaf-le}
use Rattle.rules.proofs.First.{none-applies}
use Rattle.rules.proofs.Answering.{answered-after, answered-before, answered-later}
use Rattle.records.specs.Records.{tree_records, blank, no_nodes, record_at, layout, left_code, position, above, places, same_place, Good}
use Rattle.records.specs.Library.{call_outcome}
use Rattle.records.specs.declared.Tree.{Tree}
use Rattle.records.proofs.ByTheRules.{call-outcome}
use Rattle.records.specs.Safe.{SafeNode, Safe}
use Rattle.records.proofs.SafeLaws.{safe-blanks, safe-set}
use Rattle.dtree.proofs.Accepting.{judged, of-mode}
use Rattle.dtree.proofs.Opens.{one-layout, root-record}

-- The record of the root leaf is safe.
root-safe : (t : Table) → SafeNode (record_at t [] [])
unfolding end position above places same_place left_code
root-safe t =
    rw (sym (root-record t))
    record {
      parent_inside = omega arith;
      children_inside = omega arith;
      low_le = leaf-le Down t.weights (root_ways t);
      high_le = leaf-le Up t.weights (root_ways t);
      ownlow_le = leaf-le Down t.weights (root_ways t);
      ownhigh_le = leaf-le Up t.weights (root_ways t);
    }

-- So is a tree of it alone.
pub alone-safe : (t : Table) → Safe (layout t []).nodes
unfolding no_nodes
alone-safe t =
    subst (λ (y : Tree). Safe y.nodes) (one-layout t)
    (safe-set (replicate tree_records blank) 0 (record_at t [] []) (safe-blanks tree_records) (root-safe t))

-- No refinement gives it.
pub alone-good : (t : Table) (x : Tree) → x ≡ layout t [] → Good t x
unfolding series_from
alone-good t x e = record { made = []; accepted = refl; is = e }

-- The answer in an outcome; a hand refinement has none.
answer_of : Result Ended Refusal → Outcome → Result Ended Refusal
answer_of d (handed a) = d
answer_of d (ran a) = a

-- What a run hands back on that tree is the rules' answer on the root leaf.
pub ran-afresh : (t : Table) (m : Limits) (x : Tree) (a : Result Ended Refusal) → x ≡ layout t [] → ran a ≡ call_outcome t x (by_run m)
    → a ≡ run_answer t false leaf m
unfolding answer_of outcome series_from grow
ran-afresh t m x a o e = ap (answer_of a) (e ∙ ap (λ (y : Tree). call_outcome t y (by_run m)) o ∙ call-outcome t [] refl (by_run m))

-- ---- what a run on it answers that is refused

module _ (t : Table) (m : Limits) (a : Result Ended Refusal) (r : Refusal) (e : a ≡ Err r) where
  -- By its mode.
  pub mode-refused-afresh : judged (of-mode m) ≡ Err r → a ≡ run_answer t false leaf m
  unfolding run_answer run_refusals
  mode-refused-afresh f = e ∙ sym (answered-before (of-mode m) _ tt _ r f)

  module _ (low : mode_above m ≡ false) where
    -- By its table.
    pub table-refused-afresh : judged (table_refusals t) ≡ Err r → a ≡ run_answer t false leaf m
    unfolding run_answer run_refusals
    table-refused-afresh f =
        e ∙ sym (answered-later (test Refusal.ModeAbove (mode_above m)) _ _ low ∙ answered-before (table_refusals t) _ tt _ r f)

    -- By its limits.
    pub limits-refused-afresh : Accepted t → judged (limit_refusals m) ≡ Err r → a ≡ run_answer t false leaf m
    unfolding run_answer run_refusals table_number
    limits-refused-afresh ok f =
        e
        ∙ sym (
        answered-later (test Refusal.ModeAbove (mode_above m)) _ _ low
        ∙ answered-after (table_refusals t) _ _ (none-applies (table_refusals t) ok)
        ∙ answered-before (limit_refusals m) _ tt _ r f
        )
