-- `run_on` meets its contract. The loop: what was made, with what the rules make of the rest of the budget, is the whole run.
-- Rests on Deciding.antt and Going.antt and on the contracts of `decide` and `refine_by_rule`.
use mathlib.Core.Path.{◌≡◌, ap, subst}
use mathlib.Core.List.{List}
use Prim.Native.Nat.{ℕ, ◌≤◌}
use native.Mathlib.Omega.{arith}
use lib.ListN.{length, length-append}
use Rattle.std.specs.declared.ops.ControlFlow.{ControlFlow}
use Rattle.std.specs.declared.ops.ControlFlow.TheVariants.{Break, Continue}
use Rattle.rules.specs.Table.{Table}
use Rattle.rules.specs.Tree.{Refinement}
use Rattle.rules.specs.Run.{aim_of}
use Rattle.rules.specs.declared.Aim.{Aim}
use Rattle.rules.specs.declared.Limits.{Limits}
use Rattle.rules.specs.declared.Verdict.{Verdict}
use Rattle.records.specs.Records.{history}
use Rattle.records.specs.declared.Tree.{Tree}
use Rattle.records.proofs.Positions.{length_places}
use Rattle.records.proofs.InPlace.{few-places}
use Rattle.records.proofs.Live.{lean-at}
use Rattle.records.proofs.SafeTrees.{good_safe}
use Rattle.running.specs.Decided.{decided}
use Rattle.running.specs.Ran.{Ran}
use Rattle.running.proofs.Turns.{Goes, whole, linked}
use Rattle.running.proofs.Going.{Going, start, room, goes_on}
use Rattle.running.proofs.Deciding.{Outcome, means}
use Rattle.running.proofs.run.run_on.Goals as goal

-- A run makes no more refinements than its tree has.
few-made : (t : Table) (ns : List Refinement) (a : Aim) (b : ℕ) (x : Tree) (made : ℕ) → Going t ns a b x made → made ≤ 255
few-made t ns a b x made w =
    omega (
      arith,
      w.many,
      ap length w.split,
      length-append ns w.ps,
      length_places (history x),
      few-places t (history x) (whole t x w.good),
    )

-- What `decide` answered on a run's way, with the tree x and so many refinements made.
module _ (t : Table) (ns : List Refinement) (m : Limits) (x : Tree) (made : ℕ) (w : Going t ns (aim_of m) m.budget x made) where
  module _ (r : ControlFlow Verdict ℕ) (e : r ≡ decided (aim_of m) x made m.budget) where
    -- To stop is to have made the run.
    stops : (v : Verdict) → r ≡ Break v → Ran t ns m x (record { verdict = v; made = made })
    stops v h = subst (Outcome t ns m x made w) h (means t ns m x made w e)

    -- To go on is to refine the leaf in record j, as the rules do, and the budget is not spent.
    goes-there : (j : ℕ) → r ≡ Continue j → Goes t (aim_of m) x j × (made ≡ m.budget → ⊥)
    goes-there j h = subst (Outcome t ns m x made w) h (means t ns m x made w e)

pub loop-verdict-init : goal.loop-verdict-init
loop-verdict-init c = start _ _ _ c.args.tree.now c.requires

pub invariant_of-decide : goal.invariant_of-decide
invariant_of-decide c = record { in_order = linked _ _ c.loop-verdict.invariant.good }

pub returns-in-Break : goal.returns-in-Break
returns-in-Break c = let l = c.loop-verdict in stops _ _ c.args.task.limits _ _ l.invariant _ c.decide.ensures _ c.in-Break.is

pub refine_by_rule-requires : goal.refine_by_rule-requires
refine_by_rule-requires c =
    let m = c.args.task.limits in
    let l = c.loop-verdict in
    let ok = c.args.table.accepted in
    let goes = goes-there _ _ m _ _ l.invariant _ c.decide.ensures _ c.in-Continue.is in
    let space = room _ _ m _ _ l.invariant _ goes.0 ok in
    record {
      safe = good_safe _ ok _ l.invariant.good;
      inside = space.0;
      room = space.1;
      lean = lean-at _ ok _ l.invariant.good _;
    }

pub overflow_add-made : goal.overflow_add-made
overflow_add-made c = omega (arith, few-made _ _ _ _ _ _ c.loop-verdict.invariant)

pub loop-verdict-smaller : goal.loop-verdict-smaller
loop-verdict-smaller c =
    let l = c.loop-verdict in
    let goes = goes-there _ _ c.args.task.limits _ _ l.invariant _ c.decide.ensures _ c.in-Continue.is in
    omega (arith, l.invariant.sum, goes.1)

pub loop-verdict-preserved : goal.loop-verdict-preserved
loop-verdict-preserved c =
    let m = c.args.task.limits in
    let l = c.loop-verdict in
    let goes = goes-there _ _ m _ _ l.invariant _ c.decide.ensures _ c.in-Continue.is in
    let r = c.refine_by_rule.ensures in
    goes_on _ _ m _ _ l.invariant _ goes.0 c.args.table.accepted _ r.grown r.two_more goes.1
