-- Every cue of a sheet within the limits is an accepted table, so what the program prints for it is certain.
-- Rests on WithinLimits.antt and Sheets.antt for the sheet, on Accepted.antt, Enclosure.antt, Runs.antt and Aims.antt for the table.
use mathlib.Core.Path.{◌≡◌}
use mathlib.Core.Logic.{◌↔◌}
use mathlib.Core.List.{List}
use Prim.Native.Nat.{ℕ, ◌+◌, ◌-◌, ◌*◌, ◌≤◌}
use lib.ListN.{length}
use Rattle.rules.proofs.Members.{In}
use Rattle.rules.specs.Rounding.{S}
use Rattle.rules.specs.Table.{Table, ways, Encloses, Near, ShareKept}
use Rattle.rules.specs.Tree.{root_ways, DTree, leaf, low, high}
use Rattle.rules.specs.Run.{aim_of, picks, verdict, ran, figure}
use Rattle.rules.specs.Refusals.{Accepted}
use Rattle.rules.specs.Sheet.{AllBelow, Cue, Sheet, table_of, decode, read_number, Within}
use Rattle.rules.specs.declared.Limits.{Limits}
use Rattle.rules.specs.declared.Verdict.TheVariants.{Met}
use Rattle.rules.proofs.Accepted.{inside-accepted}
use Rattle.rules.proofs.Enclosure.{root-encloses, enclosing-order, end-le}
use Rattle.rules.proofs.Runs.{picks-series, picks-budget, verdict-exactly}
use Rattle.rules.proofs.Aims.{aims_distance, aims_share, met_distance, met_share, near-met, share-kept}
use Rattle.rules.proofs.WithinLimits.{cue-inside}
use Rattle.rules.proofs.Sheets.{within_decoded}

-- ---- a cue of a sheet

-- A CUE OF A SHEET within the limits is an accepted table.
pub cue-accepted : (s : Sheet) → Within s → (c : Cue) → In c s.cues → Accepted (table_of s.weights c)
cue-accepted s w c m = inside-accepted (table_of s.weights c) (cue-inside s w c m)

-- So is a cue that reading finds in accepted bytes.
pub read-cue-accepted : (bs : List ℕ) → AllBelow 256 bs → read_number bs ≡ 0 → (c : Cue) → In c (decode bs).cues → Accepted (table_of (decode bs).weights c)
read-cue-accepted bs h accepted = cue-accepted (decode bs) (within_decoded bs h accepted)

-- ---- what is printed for it

-- The tree that one run with these limits leaves.
abbrev pub run_tree : Limits → Table → DTree
run_tree m t = ran t (aim_of m) m.budget leaf

-- What the line of a cue shows is certain: its interval encloses the exact sum over the cue's ways, stands in order and is at most S,
-- and its refinements keep to the budget. By distance it says met exactly if the width is at most twice the allowance, and then the exact chance is within
-- the allowance of the middle of the interval. By share it says met exactly if (S − e) × high ≤ (S + e) × low, and then every number from
-- (S − e) × high / S to (S + e) × low / S is within the share of the exact chance.
pub record LineCertain (m : Limits) (t : Table) : Type 0 where
  pub encloses : Encloses t.weights (ways t) (low t (run_tree m t)) (high t (run_tree m t))
  pub ordered : low t (run_tree m t) ≤ high t (run_tree m t)
  pub bounded : high t (run_tree m t) ≤ S
  pub in_budget : length (picks t (aim_of m) m.budget leaf) ≤ m.budget
  pub met_distance : m.mode ≡ 0 → (verdict t (aim_of m) m.budget leaf ≡ Met) ↔ (high t (run_tree m t) - low t (run_tree m t) ≤ 2 * m.allowance)
  pub near : m.mode ≡ 0 → verdict t (aim_of m) m.budget leaf ≡ Met
      → Near t.weights (ways t) (figure (aim_of m) (low t (run_tree m t)) (high t (run_tree m t))) m.allowance
  pub met_share : m.mode ≡ 1 → (verdict t (aim_of m) m.budget leaf ≡ Met)
      ↔ ((S - m.allowance) * high t (run_tree m t) ≤ (S + m.allowance) * low t (run_tree m t))
  pub in_share : m.mode ≡ 1 → verdict t (aim_of m) m.budget leaf ≡ Met
      → ShareKept t.weights (ways t) m.allowance (low t (run_tree m t)) (high t (run_tree m t))

-- It is so for every accepted table.
pub line-certain : (m : Limits) (t : Table) → Accepted t → LineCertain m t
unfolding high
line-certain m t ok =
    let e = root-encloses t ok (picks t (aim_of m) m.budget leaf) (picks-series t ok (aim_of m) m.budget leaf) in
    let narrow-if = (verdict-exactly t (aim_of m) m.budget leaf).met.0 in
    record {
      encloses = e;
      ordered = enclosing-order t.weights (ways t) _ _ e;
      bounded = end-le t.weights (root_ways t) (run_tree m t);
      in_budget = picks-budget t (aim_of m) m.budget leaf;
      met_distance = λ q. met_distance t (aim_of m) m.allowance (aims_distance m q) m.budget leaf;
      near = λ q v. near-met t.weights (ways t) (aim_of m) m.allowance (aims_distance m q) _ _ e (narrow-if v);
      met_share = λ q. met_share t (aim_of m) m.allowance (aims_share m q) m.budget leaf;
      in_share = λ q v. share-kept t.weights (ways t) (aim_of m) m.allowance (aims_share m q) _ _ e (narrow-if v);
    }

-- WHAT IS PRINTED for accepted bytes is certain, cue by cue.
pub printed-certain : (bs : List ℕ) → AllBelow 256 bs → read_number bs ≡ 0 → (c : Cue) → In c (decode bs).cues
    → LineCertain (decode bs).limits (table_of (decode bs).weights c)
printed-certain bs h accepted c m = line-certain (decode bs).limits (table_of (decode bs).weights c) (read-cue-accepted bs h accepted c m)
