-- What a turn decides, on a run's way: to stop is to have made the run, and to go on is to refine the leaf that the rules refine.
-- Rests on Turns.antt and Going.antt.
use mathlib.Core.Path.{◌≡◌, refl, sym, subst}
use mathlib.Core.Bool.{Bool, true, false}
use mathlib.Core.List.{List}
use Prim.Native.Nat.{ℕ}
use native.Mathlib.Decide.{ℕ_discrete}
use lib.ListN.{get_or}
use borrow.Author.Tests.{eq-eqb, ne_eqb}
use Rattle.std.specs.declared.ops.ControlFlow.{ControlFlow}
use Rattle.std.specs.declared.ops.ControlFlow.TheVariants.{Break, Continue}
use Rattle.std.specs.Prelude.{Option, Some, None}
use Rattle.rules.specs.Table.{Table}
use Rattle.rules.specs.Tree.{Refinement}
use Rattle.rules.specs.Run.{aim_of, narrow}
use Rattle.rules.specs.declared.Limits.{Limits}
use Rattle.rules.specs.declared.Aim.{Aim}
use Rattle.rules.specs.declared.Verdict.{Verdict}
use Rattle.rules.specs.declared.Verdict.TheVariants.{Met, Done, Full}
use Rattle.records.specs.Records.{tree_records, blank}
use Rattle.records.specs.declared.Node.{Node}
use Rattle.records.specs.declared.Tree.{Tree}
use Rattle.records.specs.declared.Found.{Found}
use Rattle.pick.specs.Picks.{pick_of}
use Rattle.running.specs.Decided.{with_leaf, when_wide, decided}
use Rattle.running.specs.Ran.{Ran}
use Rattle.running.proofs.Turns.{Goes, is_met, is_done, is-full, goes}
use Rattle.running.proofs.Going.{Going, stopped, spent}

module _ (t : Table) (ns : List Refinement) (m : Limits) (x : Tree) (made : ℕ) (w : Going t ns (aim_of m) m.budget x made) where
  abbrev a : Aim
  a = aim_of m

  abbrev root : Node
  root = get_or x.nodes 0 blank

  abbrev pub Outcome : ControlFlow Verdict ℕ → Type 0
  Outcome (Break v) = Ran t ns m x (record { verdict = v; made = made })
  Outcome (Continue j) = Goes t a x j × (made ≡ m.budget → ⊥)

  module _ (f : Option Found) (p : f ≡ pick_of x.nodes) where
    module _ (wide : narrow a root.low root.high ≡ false) where
      module _ (y : Found) (q : f ≡ Some y) where
        leaf-found : Dec (x.used ≡ tree_records) → Dec (made ≡ m.budget) → Outcome (with_leaf y.at x.used made m.budget)
        unfolding with_leaf
        leaf-found (yes u) d = rw (eq-eqb x.used tree_records u, with_leaf) (stopped t ns m x made w Full (is-full t x w.good a refl wide p y q u))
        leaf-found (no u) (yes e) =
            rw (ne_eqb x.used tree_records u, with_leaf, eq-eqb made m.budget e) (spent t ns m x made w y.at (goes t x w.good a refl wide p y q u) e)
        leaf-found (no u) (no e) = rw (ne_eqb x.used tree_records u, with_leaf, ne_eqb made m.budget e) (goes t x w.good a refl wide p y q u, e)

      wide-root : (g : Option Found) → f ≡ g → Outcome (when_wide g x.used made m.budget)
      unfolding when_wide
      wide-root None q = stopped t ns m x made w Done (is_done t x w.good a refl wide p q)
      wide-root (Some y) q = leaf-found y q (ℕ_discrete x.used tree_records) (ℕ_discrete made m.budget)

  pub means : {r : ControlFlow Verdict ℕ} → r ≡ decided a x made m.budget → Outcome r
  unfolding decided
  means {r} e = subst Outcome (sym e) (by (narrow a root.low root.high) refl)
    where
      by : (b : Bool) → narrow a root.low root.high ≡ b
          → Outcome (elim b as (λ b. ControlFlow Verdict ℕ) [ true ↦ Break Met | false ↦ when_wide (pick_of x.nodes) x.used made m.budget ])
      by true h = stopped t ns m x made w Met (is_met t x w.good a refl h)
      by false h = wide-root (pick_of x.nodes) refl h (pick_of x.nodes) refl
