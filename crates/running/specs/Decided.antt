-- What a turn decides on a tree, and the tree that it leaves.
-- Rests on `rules`, Run, on `pick`, Picks, and on `records`, Growing.
use Rattle.std.specs.Prelude.{◌≡◌, true, false, Option, Some, None, ℕ, ◌+◌, eqb}
use Rattle.std.specs.declared.ops.ControlFlow.{ControlFlow}
use Rattle.std.specs.declared.ops.ControlFlow.TheVariants.{Break, Continue}
use Rattle.rules.specs.Table.{Table}
use Rattle.rules.specs.Run.{narrow, choice}
use Rattle.rules.specs.declared.Aim.{Aim}
use Rattle.rules.specs.declared.Verdict.{Verdict}
use Rattle.rules.specs.declared.Verdict.TheVariants.{Met, Done, Full, Spent}
use Rattle.records.specs.Records.{tree_records, record_in, record_ways}
use Rattle.records.specs.Growing.{grown_at}
use Rattle.records.specs.declared.Tree.{Tree}
use Rattle.records.specs.Safe.{Safe}
use Rattle.pick.specs.Picks.{pick_of}
use Rattle.records.specs.declared.Found.{Found}

-- With a leaf found: full, spent, or on.
unfoldable pub with_leaf : ℕ → ℕ → ℕ → ℕ → ControlFlow Verdict ℕ
with_leaf j used made budget =
    elim (eqb used tree_records) as (λ b. ControlFlow Verdict ℕ) [
      | true ↦ Break Full
      | false ↦ elim (eqb made budget) as (λ b. ControlFlow Verdict ℕ) [ true ↦ Break Spent | false ↦ Continue j ]
    ]

-- Where the root is wide: done, or as the leaf found says.
unfoldable pub when_wide : Option Found → ℕ → ℕ → ℕ → ControlFlow Verdict ℕ
when_wide None used made budget = Break Done
when_wide (Some x) used made budget = with_leaf x.at used made budget

-- Met first, by the root's record; otherwise by what the search finds.
unfoldable pub decided : Aim → Tree → ℕ → ℕ → ControlFlow Verdict ℕ
decided aim x made budget =
    elim (narrow aim (record_in x.nodes 0).low (record_in x.nodes 0).high) as (λ b. ControlFlow Verdict ℕ)
    [ true ↦ Break Met | false ↦ when_wide (pick_of x.nodes) x.used made budget ]

-- The tree y is the tree x with the leaf in record j refined as the rule says, and code may follow its records.
pub record ByRule (t : Table) (x : Tree) (j : ℕ) (y : Tree) : Type 0 where
  pub grown : y.nodes ≡ grown_at t x.nodes x.used j (choice t.weights (record_ways t (record_in x.nodes j)))
  pub two_more : y.used ≡ x.used + 2
  pub safe : Safe y.nodes
